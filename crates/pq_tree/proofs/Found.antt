-- What the reading gives has the text that was read.
pub use Rattle.column_order.proofs.Counts.{within, within_one, within_none}
use Rattle.std.proofs.Common.{◌≡◌, ◌∙◌, ◌+◌, ◌-◌, ◌*◌, ◌^◌, ◌<◌, ◌≤◌, ℕ, zero, suc, Bool, true, false, cond, ◌&&◌, eqb, leb, ltb, List, [], ◌∷◌, ◌++◌, length, Option, Some, refl, sym, ap, arith, inl, inr, eq-eqb, subst}
use Rattle.std.specs.Prelude.{option_and_then}
use Rattle.std.proofs.lemmas.Bool.{leb-true, ltb-false, cases_eq, cases_lt, ne_eqb, eqb-true}
use Rattle.std.proofs.lemmas.Option.{none-some, same_Some, option_and_then_some, cond_some}
use Rattle.std.proofs.lemmas.List.{append_assoc, append-nil, length-append}
use Rattle.std.specs.Char.{is_ascii_digit}
use Rattle.std.specs.Fmt.{decimal}
use Rattle.plain_text.proofs.Digits.{and_first, and_second, digit_within, decimal_byte, decimal_next_byte}
use Rattle.plain_text.proofs.NumberLaws.{chosen}
use Rattle.column_order.specs.Orders.{has, occurs, IsOrder}
use Rattle.column_order.proofs.Lists.{occurs-append, has-occurs, occurs_from_has}
use Rattle.pq_tree.specs.Outline.{Outline, leaf, leaves, leaves_of}
use Rattle.pq_tree.specs.Proper.{forest, HasArities, HaveArities, IsProper}
use Rattle.pq_tree.specs.Text.{tree_text, forest_text, spaced_text}
use Rattle.pq_tree.specs.Reading.{State, Begun, used, begun_leaves, settled, settled_at, digit_at, opened_at, spaced_after, closed, closed_in, node_of, least_count, same_shape, step, covers, finished, run, start, tree_of}
use Rattle.pq_tree.specs.declared.parse.Last.{Last}
use Rattle.pq_tree.specs.declared.parse.Last.TheVariants.{Nothing, Number, Child}
use Rattle.pq_tree.proofs.Forests.{count_forest}
use Rattle.pq_tree.proofs.Shown.{leaves_of-append}
use Rattle.pq_tree.proofs.Moves.{closed_used}

-- the texts of children that are each followed by a space
pub before : List Outline → List ℕ
before [] = []
before (t ∷ ts) = tree_text t ++ 32 ∷ before ts

bracket : Bool → ℕ
bracket true = 40
bracket false = 91

-- the bytes behind which a state stands
begun_text : List Begun → List ℕ
begun_text [] = []
begun_text (node ∷ nodes) = begun_text nodes ++ (before node.before ++ bracket node.round ∷ [])

last_text : Last → List Outline → List ℕ
last_text Nothing ts = before ts
last_text (Number n) ts = before ts ++ decimal n
last_text Child ts = forest_text (forest ts)

shown : State → List ℕ
shown s = begun_text s.open_nodes ++ last_text s.last s.children

spaced_before : (ts : List Outline) → spaced_text (forest ts) ++ 32 ∷ [] ≡ 32 ∷ before ts
unfolding before tree_text forest_text spaced_text
spaced_before [] = refl
spaced_before (t ∷ ts) = ap (λ x. 32 ∷ x) (append_assoc (tree_text t) (spaced_text (forest ts)) (32 ∷ []) ∙ ap (λ x. tree_text t ++ x) (spaced_before ts))

texts_before : (ts : List Outline) → 1 ≤ length ts → forest_text (forest ts) ++ 32 ∷ [] ≡ before ts
unfolding before tree_text forest_text spaced_text
texts_before [] l = absurd (omega arith)
texts_before (t ∷ ts) l = append_assoc (tree_text t) (spaced_text (forest ts)) (32 ∷ []) ∙ ap (λ x. tree_text t ++ x) (spaced_before ts)

spaced_last : (ts : List Outline) (t : Outline) → spaced_text (forest (ts ++ t ∷ [])) ≡ 32 ∷ (before ts ++ tree_text t)
unfolding before tree_text forest_text spaced_text
spaced_last [] t = ap (λ x. 32 ∷ x) (append-nil (tree_text t))
spaced_last (u ∷ us) t = ap (λ x. 32 ∷ (tree_text u ++ x)) (spaced_last us t) ∙ ap (λ x. 32 ∷ x) (sym (append_assoc (tree_text u) (32 ∷ before us) (tree_text t)))

texts_last : (ts : List Outline) (t : Outline) → forest_text (forest (ts ++ t ∷ [])) ≡ before ts ++ tree_text t
unfolding before tree_text forest_text spaced_text
texts_last [] t = append-nil (tree_text t)
texts_last (u ∷ us) t = ap (λ x. tree_text u ++ x) (spaced_last us t) ∙ sym (append_assoc (tree_text u) (32 ∷ before us) (tree_text t))

have_counts-append : (ts us : List Outline) → HaveArities (forest ts) → HaveArities (forest us) → HaveArities (forest (ts ++ us))
have_counts-append [] us h k = k
have_counts-append (t ∷ ts) us h k = (h.0, have_counts-append ts us h.1 k)

IsGoodLast : ℕ → Last → List Outline → Type 0
IsGoodLast c Nothing ts = Unit {0}
IsGoodLast c (Number n) ts = (1 ≤ n) × (n ≤ c)
IsGoodLast c Child ts = 1 ≤ length ts

abbrev AreGood : List Begun → Type 0
AreGood [] = Unit {0}
AreGood (node ∷ nodes) = HaveArities (forest node.before) × AreGood nodes

record IsGood (c : ℕ) (s : State) : Type 0 where
  counts : HaveArities (forest s.children)
  outer : AreGood s.open_nodes
  once : (a : ℕ) → occurs (used s) a ≤ within c a
  last : IsGoodLast c s.last s.children

-- from one state to the next by some bytes
record Goes (c : ℕ) (s t : State) (bytes : List ℕ) : Type 0 where
  good : IsGood c t
  text : shown t ≡ shown s ++ bytes

abbrev pub st : Last → List Outline → List Begun → State
st l ts ns = record { last = l; children = ts; open_nodes = ns }

one_at : (n a : ℕ) → occurs (n ∷ []) a ≡ cond {A = ℕ} (eqb n a) 1 0
one_at n a = omega arith

unused : (xs : List ℕ) (n : ℕ) → has xs n ≡ false → occurs xs n ≡ 0
unused xs n h = let e : ltb 0 (occurs xs n) ≡ false = sym (has-occurs xs n) ∙ h in omega (arith, ltb-false 0 (occurs xs n) e)

leaf_once : (c n : ℕ) (xs : List ℕ) → 1 ≤ n → n ≤ c → has xs n ≡ false → ((a : ℕ) → occurs xs a ≤ within c a) → (a : ℕ) → occurs (xs ++ n ∷ []) a ≤ within c a
leaf_once c n xs l h free once a =
    elim (cases_eq n a) [
      | inl e ↦
          let none : occurs xs a ≡ 0 = ap (occurs xs) (sym e) ∙ unused xs n free in
          let one : occurs (n ∷ []) a ≡ 1 = ap (λ b. cond {A = ℕ} b 1 0 + 0) (eq-eqb n a e) in
          let top : within c a ≡ 1 = ap (within c) (sym e) ∙ within_one c n l h in
          omega (arith, occurs-append xs (n ∷ []) a)
      | inr d ↦
          let zero_here : occurs (n ∷ []) a ≡ 0 = ap (λ b. cond {A = ℕ} b 1 0 + 0) (ne_eqb n a d) in
          omega (arith, occurs-append xs (n ∷ []) a, once a)
    ]

-- the same leaves
leaf_used : (ns : List Begun) (ts : List Outline) (n : ℕ) → begun_leaves ns ++ leaves_of (forest (ts ++ leaf n ∷ [])) ≡ (begun_leaves ns ++ leaves_of (forest ts)) ++ n ∷ []
leaf_used ns ts n =
    ap (λ x. begun_leaves ns ++ x) (leaves_of-append ts (leaf n ∷ [])) ∙ sym (append_assoc (begun_leaves ns) (leaves_of (forest ts)) (n ∷ []))

-- a state whose last child is whole, at the same bytes
record Settles (c : ℕ) (s t : State) : Type 0 where
  good : IsGood c t
  text : shown t ≡ shown s
  child : t.last ≡ Child

leaf_text : (ts : List Outline) (n : ℕ) → forest_text (forest (ts ++ leaf n ∷ [])) ≡ before ts ++ decimal n
unfolding tree_text forest_text spaced_text
leaf_text ts n = texts_last ts (leaf n)

settles : (c : ℕ) (l : Last) (ts : List Outline) (ns : List Begun) (t : State) → IsGood c (st l ts ns) → settled_at l (st l ts ns) ≡ Some t → Settles c (st l ts ns) t
unfolding IsGoodLast shown last_text
settles c Nothing ts ns t g h = absurd (none-some _ h)
settles c (Number n) ts ns t g h =
    elim (chosen (has (used (st (Number n) ts ns)) n) _ _ _ h) [
      | inl e ↦ absurd (none-some _ e.1)
      | inr e ↦
          let P : State → Type 0 = Settles c (st (Number n) ts ns) in
          subst P (same_Some _ _ e.1) (record {
            good = record {
              counts = have_counts-append ts (leaf n ∷ []) g.counts (tt, tt);
              outer = g.outer;
              once = λ a. subst (λ xs. occurs xs a ≤ within c a) (sym (leaf_used ns ts n)) (leaf_once c n (used (st (Number n) ts ns)) g.last.0 g.last.1 e.0 g.once a);
              last = omega (arith, length-append ts (leaf n ∷ []));
            };
            text = ap (λ x. begun_text ns ++ x) (leaf_text ts n);
            child = refl;
          })
    ]
settles c Child ts ns t g h = let P : State → Type 0 = Settles c (st Child ts ns) in subst P (same_Some _ _ h) (record { good = g; text = refl; child = refl })

-- each step from a good state to a good state adds its byte

abbrev to : {A : Type 0} (P : A → Type 0) (x y : A) → Some x ≡ Some y → P x → P y
to P x y e h = subst P (same_Some x y e) h

digit_goes : (c b : ℕ) (l : Last) (ts : List Outline) (ns : List Begun) (t : State) → c < 2 ^ 64 → 48 ≤ b → b ≤ 57 → IsGood c (st l ts ns) → digit_at c (b - 48) l (st l ts ns) ≡ Some t → Goes c (st l ts ns) t (b ∷ [])
unfolding IsGoodLast shown last_text
digit_goes c b Nothing ts ns t small lo hi g h =
    let e = cond_some (leb 1 (b - 48) && leb (b - 48) c) _ t h in
    let P : State → Type 0 = λ t. Goes c (st Nothing ts ns) t (b ∷ []) in
    subst P e.1 (record {
      good = record {
        counts = g.counts;
        outer = g.outer;
        once = g.once;
        last = (leb-true 1 (b - 48) (and_first _ _ e.0), leb-true (b - 48) c (and_second _ _ e.0));
      };
      text = ap (λ x. begun_text ns ++ (before ts ++ x)) (decimal_byte b lo hi) ∙ sym (append_assoc (begun_text ns) (before ts) (b ∷ []));
    })
digit_goes c b (Number n) ts ns t small lo hi g h =
    let e = cond_some (leb (n * 10 + (b - 48)) c) _ t h in
    let under : n * 10 + (b - 48) ≤ c = leb-true (n * 10 + (b - 48)) c e.0 in
    let P : State → Type 0 = λ t. Goes c (st (Number n) ts ns) t (b ∷ []) in
    subst P e.1 (record {
      good = record {
        counts = g.counts;
        outer = g.outer;
        once = g.once;
        last = (omega (arith, g.last.0), under);
      };
      text = ap (λ x. begun_text ns ++ (before ts ++ x)) (decimal_next_byte n b g.last.0 lo hi (omega arith))
          ∙ ap (λ x. begun_text ns ++ x) (sym (append_assoc (before ts) (decimal n) (b ∷ [])))
          ∙ sym (append_assoc (begun_text ns) (before ts ++ decimal n) (b ∷ []));
    })
digit_goes c b Child ts ns t small lo hi g h = absurd (none-some _ h)

opens : (c : ℕ) (round : Bool) (l : Last) (ts : List Outline) (ns : List Begun) (t : State) → IsGood c (st l ts ns) → opened_at c round l (st l ts ns) ≡ Some t → Goes c (st l ts ns) t (bracket round ∷ [])
unfolding IsGoodLast shown last_text begun_text before
opens c round Nothing ts ns t g h =
    let e = cond_some (ltb (length ns) c) _ t h in
    let P : State → Type 0 = λ t. Goes c (st Nothing ts ns) t (bracket round ∷ []) in
    subst P e.1 (record {
      good = record {
        counts = tt;
        outer = (g.counts, g.outer);
        once = λ a. subst (λ xs. occurs xs a ≤ within c a) (sym (append-nil (begun_leaves ns ++ leaves_of (forest ts)))) (g.once a);
        last = tt;
      };
      text = append-nil (begun_text ns ++ (before ts ++ bracket round ∷ [])) ∙ sym (append_assoc (begun_text ns) (before ts) (bracket round ∷ []));
    })
opens c round (Number n) ts ns t g h = absurd (none-some _ h)
opens c round Child ts ns t g h = absurd (none-some _ h)

spaces : (c : ℕ) (ts : List Outline) (ns : List Begun) (t : State) → IsGood c (st Child ts ns) → spaced_after (st Child ts ns) ≡ Some t → Goes c (st Child ts ns) t (32 ∷ [])
unfolding IsGoodLast shown last_text
spaces c ts ns t g h =
    let e = cond_some (ltb 0 (length ns)) _ t h in
    let P : State → Type 0 = λ t. Goes c (st Child ts ns) t (32 ∷ []) in
    subst P e.1 (record {
      good = record { counts = g.counts; outer = g.outer; once = g.once; last = tt };
      text = ap (λ x. begun_text ns ++ x) (sym (texts_before ts g.last)) ∙ sym (append_assoc (begun_text ns) (forest_text (forest ts)) (32 ∷ []));
    })

close_byte : Bool → ℕ
close_byte true = 41
close_byte false = 93

node_text : (round : Bool) (ts : List Outline) → tree_text (node_of round ts) ≡ bracket round ∷ (forest_text (forest ts) ++ close_byte round ∷ [])
unfolding tree_text forest_text spaced_text bracket close_byte
node_text true ts = refl
node_text false ts = refl

node_counts : (round : Bool) (ts : List Outline) → least_count round ≤ length ts → HaveArities (forest ts) → HasArities (node_of round ts)
node_counts true ts l h = (omega (arith, count_forest ts), h)
node_counts false ts l h = (omega (arith, count_forest ts), h)

same_is : (a b : Bool) → same_shape a b ≡ true → b ≡ a
same_is true b h = h
same_is false true h = absurd cc
same_is false false h = refl

closes : (c : ℕ) (round : Bool) (ts : List Outline) (ns : List Begun) (t : State) → IsGood c (st Child ts ns) → closed_in round ts ns ≡ Some t → Goes c (st Child ts ns) t (close_byte round ∷ [])
unfolding IsGoodLast shown last_text begun_text
closes c round ts [] t g h = absurd (none-some _ h)
closes c round ts (node ∷ ns) t g h =
    let e = cond_some (same_shape round node.round && leb (least_count round) (length ts)) _ t h in
    let enough = leb-true (least_count round) (length ts) (and_second _ _ e.0) in
    let shape = same_is round node.round (and_first _ _ e.0) in
    let P : State → Type 0 = λ t. Goes c (st Child ts (node ∷ ns)) t (close_byte round ∷ []) in
    let made = node_of round ts in
    subst P e.1 (record {
      good = record {
        counts = have_counts-append node.before (made ∷ []) g.outer.0 (node_counts round ts enough g.counts, tt);
        outer = g.outer.1;
        once = λ a. subst (λ xs. occurs xs a ≤ within c a) (sym (closed_used (begun_leaves ns) node.before ts round)) (g.once a);
        last = omega (arith, length-append node.before (made ∷ []));
      };
      text = ap (λ x. begun_text ns ++ x) (texts_last node.before made ∙ ap (λ x. before node.before ++ x) (node_text round ts))
          ∙ regroup (begun_text ns) (before node.before) (forest_text (forest ts)) (bracket round) (close_byte round)
          ∙ ap (λ b. ((begun_text ns ++ (before node.before ++ bracket b ∷ [])) ++ forest_text (forest ts)) ++ close_byte round ∷ []) (sym shape);
    })
  where
    regroup : (a b d : List ℕ) (x y : ℕ) → a ++ (b ++ x ∷ (d ++ y ∷ [])) ≡ ((a ++ (b ++ x ∷ [])) ++ d) ++ y ∷ []
    regroup a b d x y = sym (rw (append_assoc (a ++ (b ++ x ∷ [])) d (y ∷ []), append_assoc a (b ++ x ∷ []) (d ++ y ∷ []), append_assoc b (x ∷ []) (d ++ y ∷ [])) refl)

-- after the last child has been made whole
through : (c : ℕ) (s : State) (f : State → Option State) (t : State) (bytes : List ℕ) → IsGood c s → option_and_then f (settled s) ≡ Some t
    → ((ts : List Outline) (ns : List Begun) → IsGood c (st Child ts ns) → f (st Child ts ns) ≡ Some t → Goes c (st Child ts ns) t bytes) → Goes c s t bytes
through c s f t bytes g h next =
    option_and_then_some f (settled s) t h (λ x e k.
    let r : Settles c s x = settles c s.last s.children s.open_nodes x g e in
    let child : st Child x.children x.open_nodes ≡ x = ap (λ l. st l x.children x.open_nodes) (sym r.child) in
    let n : Goes c (st Child x.children x.open_nodes) t bytes =
    next x.children x.open_nodes (subst (IsGood c) (sym child) r.good) (ap f child ∙ k) in
    record { good = n.good; text = n.text ∙ ap (λ y. shown y ++ bytes) child ∙ ap (λ y. y ++ bytes) r.text })

goes : (c : ℕ) (s : State) (b : ℕ) (t : State) → c < 2 ^ 64 → IsGood c s → step c s b ≡ Some t → Goes c s t (b ∷ [])
unfolding step bracket close_byte
goes c s b t small g h =
    elim (chosen (is_ascii_digit b) _ _ _ h) [
      | inl e ↦ let w = digit_within b e.0 in digit_goes c b s.last s.children s.open_nodes t small w.0 w.1 g e.1
      | inr e ↦ elim (chosen (eqb b 40) _ _ _ e.1) [
        | inl f ↦ subst (λ x. Goes c s t (x ∷ [])) (sym (eqb-true b 40 f.0)) (opens c true s.last s.children s.open_nodes t g f.1)
        | inr f ↦ elim (chosen (eqb b 91) _ _ _ f.1) [
          | inl i ↦ subst (λ x. Goes c s t (x ∷ [])) (sym (eqb-true b 91 i.0)) (opens c false s.last s.children s.open_nodes t g i.1)
          | inr i ↦ elim (chosen (eqb b 32) _ _ _ i.1) [
            | inl j ↦ subst (λ x. Goes c s t (x ∷ [])) (sym (eqb-true b 32 j.0)) (through c s spaced_after t (32 ∷ []) g j.1 (λ ts ns. spaces c ts ns t))
            | inr j ↦ elim (chosen (eqb b 41) _ _ _ j.1) [
              | inl k ↦ subst (λ x. Goes c s t (x ∷ [])) (sym (eqb-true b 41 k.0)) (through c s (closed true) t (41 ∷ []) g k.1 (λ ts ns. closes c true ts ns t))
              | inr k ↦ elim (chosen (eqb b 93) _ _ _ k.1) [
                | inl m ↦ subst (λ x. Goes c s t (x ∷ [])) (sym (eqb-true b 93 m.0)) (through c s (closed false) t (93 ∷ []) g m.1 (λ ts ns. closes c false ts ns t))
                | inr m ↦ absurd (none-some _ m.1)
              ]
            ]
          ]
        ]
      ]
    ]

covered : (c a : ℕ) (xs : List ℕ) → covers c xs ≡ true → 1 ≤ a → a ≤ c → has xs a ≡ true
covered zero a xs h l k = absurd (omega arith)
covered (suc c) a xs h l k =
    elim (cases_eq a (suc c)) [
      | inl e ↦ ap (has xs) e ∙ and_first _ _ h
      | inr d ↦ covered c a xs (and_second _ _ h) l (omega arith)
    ]

-- each of 1 to c is used, and none twice
ordered : (c : ℕ) (xs : List ℕ) → covers c xs ≡ true → ((a : ℕ) → occurs xs a ≤ within c a) → IsOrder c xs
ordered c xs h once a =
    elim (cases_eq a 0) [
      | inl e ↦ let n : within c a ≡ 0 = within_none c a (inl e) in omega (arith, once a, n)
      | inr d ↦ elim (cases_lt c a) [
        | inl l ↦ let n : within c a ≡ 0 = within_none c a (inr l) in omega (arith, once a, n)
        | inr l ↦
            let n : within c a ≡ 1 = within_one c a (omega arith) l in
            let here : 1 ≤ occurs xs a = occurs_from_has xs a (covered c a xs h (omega arith) l) in
            omega (arith, once a, n)
      ]
    ]

-- the tree is one over 1 to c, and its text is the bytes
pub record IsFound (c : ℕ) (t : Outline) (bytes : List ℕ) : Type 0 where
  pub proper : IsProper c t
  pub text : tree_text t ≡ bytes

finishes : (c : ℕ) (ts : List Outline) (ns : List Begun) (t : Outline) → IsGood c (st Child ts ns) → finished c (st Child ts ns) ≡ Some t → IsFound c t (shown (st Child ts ns))
unfolding IsGoodLast shown last_text begun_text tree_text forest_text spaced_text
finishes c [] ns t g h = absurd (omega (arith, g.last))
finishes c (u ∷ []) [] t g h =
    elim (chosen (covers c (used (st Child (u ∷ []) []))) _ _ _ h) [
      | inl e ↦
          let P : Outline → Type 0 = λ t. IsFound c t (tree_text u ++ []) in
          subst P (same_Some _ _ e.1) (record {
            proper = (g.counts.0, ordered c (leaves u) (subst (λ xs. covers c xs ≡ true) (append-nil (leaves u)) e.0) (λ a. subst (λ xs. occurs xs a ≤ within c a) (append-nil (leaves u)) (g.once a)));
            text = sym (append-nil (tree_text u));
          })
      | inr e ↦ absurd (none-some _ e.1)
    ]
finishes c (u ∷ v ∷ ts) [] t g h =
    elim (chosen (covers c (used (st Child (u ∷ v ∷ ts) []))) _ _ _ h) [ inl e ↦ absurd (none-some _ e.1) | inr e ↦ absurd (none-some _ e.1) ]
finishes c (u ∷ ts) (n ∷ ns) t g h =
    elim (chosen (eqb (suc (length ns)) 0 && covers c (used (st Child (u ∷ ts) (n ∷ ns)))) _ _ _ h) [
      | inl e ↦ absurd (omega (arith, eqb-true (suc (length ns)) 0 (and_first _ _ e.0)))
      | inr e ↦ absurd (none-some _ e.1)
    ]

-- a run from a good state
found_from : (c : ℕ) (s : State) (bytes : List ℕ) (t : Outline) → c < 2 ^ 64 → IsGood c s → run c s bytes ≡ Some t → IsFound c t (shown s ++ bytes)
unfolding run
found_from c s [] t small g h =
    option_and_then_some (finished c) (settled s) t h (λ x e k.
    let r : Settles c s x = settles c s.last s.children s.open_nodes x g e in
    let child : st Child x.children x.open_nodes ≡ x = ap (λ l. st l x.children x.open_nodes) (sym r.child) in
    let f : IsFound c t (shown (st Child x.children x.open_nodes)) =
    finishes c x.children x.open_nodes t (subst (IsGood c) (sym child) r.good) (ap (finished c) child ∙ k) in
    record { proper = f.proper; text = f.text ∙ ap shown child ∙ r.text ∙ sym (append-nil (shown s)) })
found_from c s (b ∷ bytes) t small g h =
    option_and_then_some (λ x. run c x bytes) (step c s b) t h (λ x e k.
    let r : Goes c s x (b ∷ []) = goes c s b x small g e in
    let f : IsFound c t (shown x ++ bytes) = found_from c x bytes t small r.good k in
    record { proper = f.proper; text = f.text ∙ ap (λ y. y ++ bytes) r.text ∙ append_assoc (shown s) (b ∷ []) bytes })

good_start : (c : ℕ) → IsGood c start
unfolding IsGoodLast
good_start c = record { counts = tt; outer = tt; once = λ a. omega arith; last = tt }

-- what the reading gives has the text that was read
pub tree_of_found : (c : ℕ) (bytes : List ℕ) (t : Outline) → c < 2 ^ 64 → tree_of c bytes ≡ Some t → IsFound c t bytes
unfolding tree_of shown last_text begun_text before
tree_of_found c bytes t small h = found_from c start bytes t small (good_start c) h
