use Rattle.std.proofs.Common.{◌≡◌, ◌∙◌, ℕ, ◌+◌, ◌≤◌, ◌++◌, ◌∷◌, [], List, length, take, drop, sym, ap, subst, arith, append-nil, OnOk}
use Rattle.std.proofs.Math.ListN.{drop_of_length-le}
use Rattle.std.proofs.lemmas.List.{take_all}
use Rattle.std.specs.Prelude.{min, max}
use Rattle.column_order.proofs.Counts.{order_length}
use Rattle.solve_replies.specs.Drawing.{drawn_row}
use Rattle.solve_replies.specs.Generated.{next_state, drawn, run_at, run_of}
use Rattle.solve_replies.proofs.Drawn.{count, listed_row, listed_run}
use Rattle.solve_replies.proofs.draws.DrawnRows.push_next.Goals as goal

-- a list written back to the front of another of its length
written_back : (w xs : List ℕ) (n : ℕ) → length w ≡ length xs → n ≡ length w → take n (w ++ drop (length w) xs) ≡ w
written_back w xs n e len =
    ap (λ ys. take n (w ++ ys)) (drop_of_length-le xs (let l : length xs ≤ length w = omega arith in l)) ∙ ap (take n) (append-nil w) ∙ take_all n w (omega arith)

pub list_run-count-requires-clause-few : goal.list_run-count-requires-clause-few
list_run-count-requires-clause-few c =
    let ready = c.requires.ready in
    omega (arith, ap length c.deref.ensures.value, count c.args.m.now.columns c.args.self.now.order.items c.args.self.now.positions.items [] ready.is_order ready.are, c.requires.few)

pub list_run-count-requires-clause-room : goal.list_run-count-requires-clause-room
list_run-count-requires-clause-room c =
    let ready = c.requires.ready in
    omega (arith, ap length c.deref_mut.ensures.value, ap length c.deref.ensures.value, ready.room, count c.args.m.now.columns c.args.self.now.order.items c.args.self.now.positions.items [] ready.is_order ready.are)

-- what is listed is the run by positions
listed : (ps positions w xs seen : List ℕ) (n count first last : ℕ) → positions ≡ ps → length w ≡ length xs → n ≡ length w → seen ≡ take n (w ++ drop (length w) xs) → take count w ≡ run_at positions first last (length positions) →
    take count seen ≡ run_at ps first last (length ps)
listed ps positions w xs seen n count first last same long whole e run =
    ap (take count) (e ∙ written_back w xs n long whole) ∙ run ∙ ap (λ zs. run_at zs first last (length zs)) same

pub push_row-requires-clause-row : goal.push_row-requires-clause-row
push_row-requires-clause-row c =
    let ready = c.requires.ready in
    let ps = c.args.self.now.positions.items in
    let w : List ℕ = c.list_run-count.new.row in
    let long : length w ≡ length c.args.self.now.row.items = omega (arith, c.list_run-count.auto.row, ap length c.deref_mut.ensures.value) in
    listed_row c.args.m.now.columns c.args.self.now.order.items ps (take c.list_run-count.result c.deref-2.result.now) ready.is_order ready.are (c.min.result + 1) (c.max.result + 1)
    (listed ps c.deref.result.now w c.args.self.now.row.items c.deref-2.result.now c.args.self.now.row.len c.list_run-count.result (c.min.result + 1) (c.max.result + 1) c.deref.ensures.value long
    (omega (arith, long, c.args.self.now.row.ok.0)) c.deref-2.ensures.value c.list_run-count.ensures.run)

pub returns-clause-ok : goal.returns-clause-ok
returns-clause-ok c =
    let ready = c.requires.ready in
    let o = c.args.self.now.order.items in
    let ps = c.args.self.now.positions.items in
    let x = c.args.self.now.draws.state in
    let p = c.below-p.result in
    let q = c.below-q.result in
    let w : List ℕ = c.list_run-count.new.row in
    let long : length w ≡ length c.args.self.now.row.items = omega (arith, c.list_run-count.auto.row, ap length c.deref_mut.ensures.value) in
    let row : List ℕ = take c.list_run-count.result c.deref-2.result.now in
    let run : row ≡ run_at ps (min p q + 1) (max p q + 1) (length ps) =
    listed ps c.deref.result.now w c.args.self.now.row.items c.deref-2.result.now c.args.self.now.row.len c.list_run-count.result (c.min.result + 1) (c.max.result + 1) c.deref.ensures.value long
    (omega (arith, long, c.args.self.now.row.ok.0)) c.deref-2.ensures.value c.list_run-count.ensures.run ∙
    ap (λ k. run_at ps (k + 1) (c.max.result + 1) (length ps)) c.min.ensures ∙ ap (λ k. run_at ps (min p q + 1) (k + 1) (length ps)) c.max.ensures in
    let wide : c.columns-columns.result ≡ length o = c.columns-columns.ensures.columns ∙ sym (order_length c.args.m.now.columns o ready.is_order) in
    let first : p ≡ drawn (length o) (next_state x) = c.below-p.ensures.drawn ∙ ap (λ m. drawn m c.below-p.new.self.state) wide ∙ ap (drawn (length o)) c.below-p.ensures.state in
    let second : q ≡ drawn (length o) (next_state (next_state x)) = c.below-q.ensures.drawn ∙ ap (λ m. drawn m c.below-q.new.self.state) wide ∙
    ap (drawn (length o)) (c.below-q.ensures.state ∙ ap next_state c.below-p.ensures.state) in
    let is : row ≡ drawn_row o x = listed_run c.args.m.now.columns o ps row ready.is_order ready.are p q run ∙ ap (λ k. run_of o k q) first ∙ ap (run_of o (drawn (length o) (next_state x))) second in
    subst (λ r. OnOk c.push_row.result (c.push_row.new.self ≡ record { columns = c.args.m.now.columns; rows = c.args.m.now.rows ++ r ∷ [] })) is c.push_row.ensures.ok

pub below-p-requires : goal.below-p-requires
below-p-requires c = c.columns-columns.ensures.range.0

pub below-q-requires : goal.below-q-requires
below-q-requires c = c.columns-columns.ensures.range.0

pub returns-clause-ready : goal.returns-clause-ready
returns-clause-ready c =
    let ready = c.requires.ready in
    let w : List ℕ = c.list_run-count.new.row in
    let xs = c.args.self.now.row.items in
    let long : length w ≡ length xs = omega (arith, c.list_run-count.auto.row, ap length c.deref_mut.ensures.value) in
    record { is_order = ready.is_order; are = ready.are; room = ap length (written_back w xs c.args.self.now.row.len long (omega (arith, long, c.args.self.now.row.ok.0))) ∙ long ∙ ready.room }
