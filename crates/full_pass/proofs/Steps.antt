-- What the labelling of one node does to the parts.
use Rattle.std.proofs.Common.{Bool, List, Some, arith, cond, eq-eqb, eqb, eqb-true, false, inl, inr, length, refl, subst, sym, true, ℕ, ◌++◌, ◌+◌, ◌-◌, ◌∙◌, ◌∷◌, ◌≡◌, ◌≢◌, ◌≤◌, ◌<◌}
use Rattle.std.proofs.lemmas.Bool.{cases_eq, cases_lt, cases_Bool}
use Rattle.arena_model.specs.declared.Shape.TheVariants.{P, Q}
use Rattle.arena_model.specs.declared.TheConstants.{NODE_BOUND}
use Rattle.pq_arena.specs.declared.node.NodeId.{NodeId}
use Rattle.arena_model.specs.ChildLists.{head_or, last_or, none}
use Rattle.arena_model.specs.Layout.{IsLayout, Layout, children_at, shape_at, times_child}
use Rattle.arena_model.proofs.Lists.{occurs_here, occurs_other, occurs_same}
use Rattle.arena_model.proofs.Slots.{child_at, children_times, few_slots, in_range, used_by}
use Rattle.arena_model.proofs.Paths.{one_parent}
use Rattle.full_pass.specs.declared.added.Added.TheVariants.{First, More, Whole}
use Rattle.full_pass.specs.Answer.{IsFullNode}
use Rattle.full_pass.specs.Passing.{HasPart, InRing, InRun, IsAdded, Labelling, Pass, judged_as, marks, runs, total}
use Rattle.full_pass.proofs.Shapes.{shapes_apart}
use Rattle.full_pass.proofs.Sums.{changed, changed_here, changed_off, total_changed}
use Rattle.full_pass.proofs.Marks.{OneMore, bit, marks_all, marks_le, marks_with, runs_same, runs_with, true_false}
use Rattle.full_pass.proofs.Closing.{close}
use Rattle.column_order.specs.Orders.{occurs}
use Rattle.column_order.proofs.Lists.{occurs-append}

pub apart : (x y : ℕ) (l : ℕ → Bool) → l x ≡ false → l y ≡ true → y ≢ x
apart x y l a b e = true_false (l x) (subst (λ z. l z ≡ true) e b) a

pub stays : (l l' : ℕ → Bool) (x y : ℕ) → OneMore l l' x → l y ≡ true → l' y ≡ true
stays l l' x y h e = h.others y (apart x y l h.before e) ∙ e

-- what waited in front is labelled
labels_more : (f : Layout) (row : List ℕ) (l l' : ℕ → Bool) (h : ℕ → ℕ) (x : ℕ) (waiting : List ℕ) (n : ℕ) → IsLayout f →
    Pass f row l h (x ∷ waiting) n → OneMore l l' x → 1 ≤ times_child f.slots x → Labelling f row l' waiting
labels_more f row l l' h x waiting n layout pass more child =
    let lt : x < length f.slots = in_range f x (pass.labels.used x (occurs_here x waiting)) in
    let off : (y : ℕ) → 1 ≤ occurs waiting y → y ≢ x = (λ y o e.
    let i : 1 ≤ occurs waiting x = subst (λ z. 1 ≤ occurs waiting z) e o in
    let j : occurs (x ∷ waiting) x ≤ 1 = pass.labels.once x in omega (arith, occurs_same x waiting)) in
    let up : (y : ℕ) → 1 ≤ occurs waiting y → 1 ≤ occurs (x ∷ waiting) y = (λ y o. omega arith) in
    record {
      leaves = λ y o. elim (cases_eq y x) [
        | inl e ↦ inl (subst (λ z. l' z ≡ true) (sym e) more.after)
        | inr ne ↦ elim (pass.labels.leaves y o) [
          | inl t ↦ inl (stays l l' x y more t)
          | inr w ↦ inr (subst (λ z. 1 ≤ z) (occurs_other x y waiting ne) w)
        ]
      ];
      filled = λ y t. elim (cases_eq y x) [
        | inl e ↦ subst (λ z. IsFullNode f row z) (sym e) (pass.labels.fill x (occurs_here x waiting))
        | inr ne ↦ pass.labels.filled y (sym (more.others y ne) ∙ t)
      ];
      fill = λ y o. pass.labels.fill y (up y o);
      once = λ y. let j : occurs (x ∷ waiting) y ≤ 1 = pass.labels.once y in omega arith;
      fresh = λ y o. more.others y (off y o) ∙ pass.labels.fresh y (up y o);
      used = λ y o. pass.labels.used y (up y o);
      filled_children = λ m k t o. stays l l' x k more (elim (cases_eq m x) [
        | inl e ↦ pass.labels.fill_children x k (occurs_here x waiting) (subst (λ z. 1 ≤ occurs (children_at f z) k) e o)
        | inr ne ↦ pass.labels.filled_children m k (sym (more.others m ne) ∙ t) o
      ]);
      fill_children = λ m k w o. stays l l' x k more (pass.labels.fill_children m k (up m w) o);
      root = more.others f.root (λ e. let z : times_child f.slots x ≡ 0 = subst (λ y. times_child f.slots y ≡ 0) e layout.root_top in omega arith) ∙ pass.labels.root;
      past = λ y le. more.others y (λ e. let ne : y ≡ x = e in omega arith) ∙ pass.labels.past y le;
    }

-- the number that means none has no label
pub none_unlabelled : (f : Layout) (row : List ℕ) (l : ℕ → Bool) (waiting : List ℕ) → IsLayout f → Labelling f row l waiting → l none ≡ false
none_unlabelled f row l waiting layout labels = labels.past none (let few : length f.slots ≤ NODE_BOUND = few_slots f layout in omega arith)

-- the node above a waiting one is not full
pub record Above (l l' : ℕ → Bool) (x m : ℕ) (waiting : List ℕ) : Type 0 where
  pub not_full : l m ≡ false
  pub not_yet : l' m ≡ false
  pub not_waiting : occurs (x ∷ waiting) m ≡ 0
  pub rest : occurs waiting m ≡ 0

pub above : (f : Layout) (row : List ℕ) (l l' : ℕ → Bool) (h : ℕ → ℕ) (x m : ℕ) (waiting : List ℕ) (n : ℕ) →
    Pass f row l h (x ∷ waiting) n → OneMore l l' x → 1 ≤ occurs (children_at f m) x → Above l l' x m waiting
above f row l l' h x m waiting n pass more o =
    let a : l m ≡ false = elim (cases_Bool (l m)) [
      | inl t ↦ absurd (true_false (l x) (pass.labels.filled_children m x t o) more.before)
      | inr e ↦ e
    ] in
    let b : occurs (x ∷ waiting) m ≡ 0 = elim (cases_lt 0 (occurs (x ∷ waiting) m)) [
      | inl w ↦ absurd (true_false (l x) (pass.labels.fill_children m x w o) more.before)
      | inr w ↦ omega arith
    ] in
    let ne : m ≢ x = (λ e. let i : 1 ≤ occurs (x ∷ waiting) m = subst (λ z. 1 ≤ occurs (x ∷ waiting) z) (sym e) (occurs_here x waiting) in omega arith) in
    record { not_full = a; not_yet = more.others m ne ∙ a; not_waiting = b; rest = sym (occurs_other x m waiting ne) ∙ b }

pub no_child : (f : Layout) (m m' x : ℕ) → IsLayout f → 1 ≤ occurs (children_at f m) x → m' ≢ m → occurs (children_at f m') x ≡ 0
no_child f m m' x h o ne = elim (cases_lt 0 (occurs (children_at f m') x)) [
  | inl w ↦ absurd (ne (one_parent f m' m x h w o))
  | inr w ↦ omega arith
]

-- x, which waited in front, is a child of m, and gets its label
record AtChild (f : Layout) (row : List ℕ) (l l' : ℕ → Bool) (h : ℕ → ℕ) (x m : ℕ) (waiting : List ℕ) (n : ℕ) : Type 0 where
  layout : IsLayout f
  pass : Pass f row l h (x ∷ waiting) n
  more : OneMore l l' x
  child : 1 ≤ occurs (children_at f m) x

child_labels : {f : Layout} {row : List ℕ} {l l' : ℕ → Bool} {h : ℕ → ℕ} {x m : ℕ} {waiting : List ℕ} {n : ℕ} → AtChild f row l l' h x m waiting n → Labelling f row l' waiting
child_labels {f = f} {row = row} {l = l} {l' = l'} {h = h} {x = x} {m = m} {waiting = waiting} {n = n} c =
    labels_more f row l l' h x waiting n c.layout c.pass c.more (let k : occurs (children_at f m) x ≤ times_child f.slots x = children_times f m x in let o : 1 ≤ occurs (children_at f m) x = c.child in omega arith)

-- the children of the other nodes keep theirs
other_marks : {f : Layout} {row : List ℕ} {l l' : ℕ → Bool} {h : ℕ → ℕ} {x m : ℕ} {waiting : List ℕ} {n : ℕ} → AtChild f row l l' h x m waiting n → (y : ℕ) → y ≢ m → marks l' (children_at f y) ≡ marks l (children_at f y)
other_marks {f = f} {l = l} {l' = l'} {x = x} {m = m} c y ne =
    let k : marks l' (children_at f y) ≡ marks l (children_at f y) + occurs (children_at f y) x = marks_with l l' x (children_at f y) c.more in
    let z : occurs (children_at f y) x ≡ 0 = no_child f m y x c.layout c.child ne in omega arith

other_off : {f : Layout} {row : List ℕ} {l l' : ℕ → Bool} {h : ℕ → ℕ} {x m : ℕ} {waiting : List ℕ} {n : ℕ} → AtChild f row l l' h x m waiting n → (y : ℕ) → l' y ≡ false → y ≢ x
other_off {l' = l'} {x = x} c y e q = true_false (l' x) c.more.after (subst (λ z. l' z ≡ false) q e)

-- so the bounds of their parts hold
other_ring : {f : Layout} {row : List ℕ} {l l' : ℕ → Bool} {h : ℕ → ℕ} {x m : ℕ} {waiting : List ℕ} {n : ℕ} → (c : AtChild f row l l' h x m waiting n) → (y : ℕ) → y ≢ m → shape_at f y ≡ Some P → l' y ≡ false →
    occurs waiting y ≡ 0 → 1 ≤ marks l' (children_at f y) → 1 ≤ c.pass.parts y
other_ring {x = x} {waiting = waiting} c y ne sy ny wy my =
    let nx : y ≢ x = other_off c y ny in
    c.pass.p_parts y sy (sym (c.more.others y nx) ∙ ny) (occurs_other x y waiting nx ∙ wy) (subst (λ z. 1 ≤ z) (other_marks c y ne) my)

other_run : {f : Layout} {row : List ℕ} {l l' : ℕ → Bool} {h : ℕ → ℕ} {x m : ℕ} {waiting : List ℕ} {n : ℕ} → (c : AtChild f row l l' h x m waiting n) → (y : ℕ) → y ≢ m → shape_at f y ≡ Some Q → l' y ≡ false →
    occurs waiting y ≡ 0 → runs l' false (children_at f y) ≤ c.pass.parts y
other_run {f = f} {l = l} {l' = l'} {x = x} {m = m} {waiting = waiting} c y ne sy ny wy =
    let nx : y ≢ x = other_off c y ny in
    subst (λ z. z ≤ c.pass.parts y) (sym (runs_same l l' x false (children_at f y) c.more (no_child f m y x c.layout c.child ne)))
    (c.pass.q_parts y sy (sym (c.more.others y nx) ∙ ny) (occurs_other x y waiting nx ∙ wy))

-- a child of a Q-node is labelled
pub pass_run : (f : Layout) (row : List ℕ) (l l' : ℕ → Bool) (h h' : ℕ → ℕ) (x q : ℕ) (us vs waiting : List ℕ) (n : ℕ) → IsLayout f →
    shape_at f q ≡ Some Q → children_at f q ≡ us ++ x ∷ vs → OneMore l l' x → ((y : ℕ) → h' y ≡ h y) → Pass f row l h (x ∷ waiting) n →
    (bit (l (last_or us none)) + bit (l (head_or vs none)) ≤ n) ×
    Pass f row l' h' waiting (n - (bit (l (last_or us none)) + bit (l (head_or vs none)))) × InRun f l' waiting
pass_run f row l l' h h' x q us vs waiting n layout sh is more same pass =
    let c : AtChild f row l l' h x q waiting n = record { layout = layout; pass = pass; more = more; child = child_at f q x us vs is } in
    let up : Above l l' x q waiting = above f row l l' h x q waiting n pass more c.child in
    let all : occurs (us ++ x ∷ vs) x ≤ 1 = subst (λ z. occurs z x ≤ 1) is (let p : occurs (children_at f q) x ≤ times_child f.slots x = children_times f q x in let k : times_child f.slots x ≤ 1 = layout.once x in omega arith) in
    let ou : occurs us x ≡ 0 = omega (arith, occurs-append us (x ∷ vs) x, occurs_same x vs) in
    let ov : occurs vs x ≡ 0 = omega (arith, occurs-append us (x ∷ vs) x, occurs_same x vs) in
    let ln : l none ≡ false = none_unlabelled f row l (x ∷ waiting) layout pass.labels in
    let near : ℕ = bit (l (last_or us none)) + bit (l (head_or vs none)) in
    let r : runs l' false (us ++ x ∷ vs) + near ≡ runs l false (us ++ x ∷ vs) + 1 = subst (λ b. runs l' b (us ++ x ∷ vs) + near ≡ runs l b (us ++ x ∷ vs) + 1) ln (runs_with l l' x none us vs more ln ou ov) in
    let v : ℕ = runs l' false (children_at f q) in
    let r' : v + near ≡ runs l false (children_at f q) + 1 = subst (λ z. runs l' false z + near ≡ runs l false z + 1) (sym is) r in
    let old : runs l false (children_at f q) ≤ pass.parts q = pass.q_parts q sh up.not_full up.not_waiting in
    let t : total (changed pass.parts q v) (length f.slots) + pass.parts q ≡ total pass.parts (length f.slots) + v = total_changed pass.parts q v (length f.slots) (in_range f q (used_by f q Q sh)) in
    let s : length (x ∷ waiting) + total pass.parts (length f.slots) ≤ n = pass.sum in (
      omega arith,
      record {
        labels = child_labels c;
        counts = λ y sy. same y ∙ pass.counts y sy ∙ sym (other_marks c y (shapes_apart f y q sy sh));
        parts = changed pass.parts q v;
        p_parts = λ y sy ny wy my. let ne : y ≢ q = shapes_apart f y q sy sh in subst (λ z. 1 ≤ z) (sym (changed_off pass.parts q v y ne)) (other_ring c y ne sy ny wy my);
        q_parts = λ y sy ny wy. elim (cases_eq y q) [
          | inl e ↦ subst (λ z. runs l' false (children_at f z) ≤ changed pass.parts q v z) (sym e) (subst (λ z. v ≤ z) (sym (changed_here pass.parts q v)) (omega arith))
          | inr ne ↦ subst (λ z. runs l' false (children_at f y) ≤ z) (sym (changed_off pass.parts q v y ne)) (other_run c y ne sy ny wy)
        ];
        sum = omega arith;
      },
      record { q = q; is_q = sh; part = record { not_full = up.not_yet; not_waiting = up.rest; child = x; is_child = c.child; labelled = more.after } },
    )

-- a child of a P-node is labelled
pub pass_ring : (f : Layout) (row : List ℕ) (l l' : ℕ → Bool) (h h' : ℕ → ℕ) (x : ℕ) (node : NodeId) (us vs waiting : List ℕ) (n : ℕ) → IsLayout f →
    shape_at f node.index ≡ Some P → children_at f node.index ≡ us ++ x ∷ vs → OneMore l l' x →
    h' node.index ≡ h node.index + 1 → ((y : ℕ) → y ≢ node.index → h' y ≡ h y) → Pass f row l h (x ∷ waiting) n →
    IsAdded f row l' h' waiting n (judged_as node (h node.index + 1) (length (children_at f node.index)))
pass_ring f row l l' h h' x node us vs waiting n layout sh is more here_hits same pass =
    let was : h p ≡ marks l (children_at f p) = pass.counts p sh in
    let counted : marks l' (children_at f p) ≡ h p + 1 = now in
    let most : marks l' (children_at f p) ≤ length (children_at f p) = marks_le l' (children_at f p) in
    (elim (eqb (h p + 1) 1) as (λ b. eqb (h p + 1) 1 ≡ b →
    IsAdded f row l' h' waiting n (cond b First (cond (eqb (h p + 1) (length (children_at f p))) (Whole node) (More node)))) [
      | true ↦ λ e. let one : h p + 1 ≡ 1 = eqb-true (h p + 1) 1 e in (first, record { p = p; ring = ring; one = omega arith })
      | false ↦ λ e.
          let ne1 : h p + 1 ≢ 1 = ne_of (h p + 1) 1 e in
          let old : 1 ≤ pass.parts p = pass.p_parts p sh up.not_full up.not_waiting (omega arith) in
          (elim (eqb (h p + 1) (length (children_at f p))) as (λ b. eqb (h p + 1) (length (children_at f p)) ≡ b →
          IsAdded f row l' h' waiting n (cond b (Whole node) (More node))) [
            | true ↦ λ e2.
                let eq : h p + 1 ≡ length (children_at f p) = eqb-true (h p + 1) (length (children_at f p)) e2 in
                (some, close f row l' h' p waiting (n - 1) layout (further old) part (λ k o. marks_all l' (children_at f p) k (omega arith) o))
            | false ↦ λ e2.
                let ne2 : h p + 1 ≢ length (children_at f p) = ne_of (h p + 1) (length (children_at f p)) e2 in
                (some, further old, record { ring = ring; two = omega arith; not_all = omega arith })
          ]) refl
    ]) refl
  where
    p : ℕ
    p = node.index

    c : AtChild f row l l' h x p waiting n
    c = record { layout = layout; pass = pass; more = more; child = child_at f p x us vs is }

    up : Above l l' x p waiting
    up = above f row l l' h x p waiting n pass more c.child

    part : HasPart f l' waiting p
    part = record { not_full = up.not_yet; not_waiting = up.rest; child = x; is_child = c.child; labelled = more.after }

    ring : InRing f l' waiting p
    ring = record { is_p = sh; part = part }

    now : marks l' (children_at f p) ≡ h p + 1
    now =
        let k : marks l' (children_at f p) ≡ marks l (children_at f p) + occurs (children_at f p) x = marks_with l l' x (children_at f p) more in
        let was : h p ≡ marks l (children_at f p) = pass.counts p sh in
        let some : 1 ≤ occurs (children_at f p) x = c.child in
        let times : occurs (children_at f p) x ≤ times_child f.slots x = children_times f p x in
        let once : times_child f.slots x ≤ 1 = layout.once x in omega arith

    some : 1 ≤ n
    some = let s : length (x ∷ waiting) + total pass.parts (length f.slots) ≤ n = pass.sum in omega arith

    counts : (y : ℕ) → shape_at f y ≡ Some P → h' y ≡ marks l' (children_at f y)
    counts y sy = elim (cases_eq y p) [
      | inl e ↦ subst (λ z. h' z ≡ marks l' (children_at f z)) (sym e) (here_hits ∙ sym now)
      | inr ne ↦ same y ne ∙ pass.counts y sy ∙ sym (other_marks c y ne)
    ]

    -- p has its first labelled child
    first : Pass f row l' h' waiting n
    first =
        let t : total (changed pass.parts p (pass.parts p + 1)) (length f.slots) + pass.parts p ≡ total pass.parts (length f.slots) + (pass.parts p + 1) = total_changed pass.parts p (pass.parts p + 1) (length f.slots) (in_range f p (used_by f p P sh)) in
        let s : length (x ∷ waiting) + total pass.parts (length f.slots) ≤ n = pass.sum in
        record {
          labels = child_labels c;
          counts = counts;
          parts = changed pass.parts p (pass.parts p + 1);
          p_parts = λ y sy ny wy my. elim (cases_eq y p) [
            | inl q ↦ subst (λ z. 1 ≤ changed pass.parts p (pass.parts p + 1) z) (sym q) (subst (λ z. 1 ≤ z) (sym (changed_here pass.parts p (pass.parts p + 1))) (omega arith))
            | inr ne ↦ subst (λ z. 1 ≤ z) (sym (changed_off pass.parts p (pass.parts p + 1) y ne)) (other_ring c y ne sy ny wy my)
          ];
          q_parts = λ y sy ny wy.
              let ne : y ≢ p = (λ e. shapes_apart f p y sh sy (sym e)) in
              subst (λ z. runs l' false (children_at f y) ≤ z) (sym (changed_off pass.parts p (pass.parts p + 1) y ne)) (other_run c y ne sy ny wy);
          sum = omega arith;
        }

    -- p had one before
    further : 1 ≤ pass.parts p → Pass f row l' h' waiting (n - 1)
    further old =
        let s : length (x ∷ waiting) + total pass.parts (length f.slots) ≤ n = pass.sum in
        record {
          labels = child_labels c;
          counts = counts;
          parts = pass.parts;
          p_parts = λ y sy ny wy my. elim (cases_eq y p) [
            | inl q ↦ subst (λ z. 1 ≤ pass.parts z) (sym q) old
            | inr ne ↦ other_ring c y ne sy ny wy my
          ];
          q_parts = λ y sy ny wy. other_run c y (λ e. shapes_apart f p y sh sy (sym e)) sy ny wy;
          sum = omega arith;
        }

    ne_of : (a b : ℕ) → eqb a b ≡ false → a ≢ b
    ne_of a b e q = true_false (eqb a b) (eq-eqb a b q) e
