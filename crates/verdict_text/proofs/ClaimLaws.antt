-- A yes and a no.
use Rattle.std.proofs.Common.{◌≡◌, ◌∙◌, ◌^◌, ◌<◌, ◌≤◌, ℕ, suc, List, [], ◌∷◌, ◌++◌, length, Some, None, refl, sym, ap, arith, subst, codes}
use Rattle.std.specs.Prelude.{option_and_then, flat_map}
use Rattle.std.proofs.lemmas.List.{append_assoc}
use Rattle.std.proofs.lemmas.Option.{some_pair_parts, option_and_then_some}
use Rattle.plain_text.specs.Words.{word_at}
use Rattle.plain_text.proofs.WordLaws.{word_takes, word_again}
use Rattle.column_order.specs.declared.TheConstants.{COLUMN_BOUND}
use Rattle.row_model.specs.declared.kind.Kind.{Kind}
use Rattle.row_model.specs.declared.kind.Kind.TheVariants.{Matrix, Rows, Table, Circular, Convex, Doubly, Proper, Robinson, Clones}
use Rattle.verdict_text.specs.Verdict.{SideValue, AddedValue, no_added, YesValue, Claim, yes_claim, no_claim}
use Rattle.verdict_text.specs.Text.{side_text, added_text, claim_text, cycle_text}
use Rattle.verdict_text.specs.Grammar.{side_count, AreColumnCounts, AreSides, HasAdded, IsClaim}
use Rattle.verdict_text.specs.Reading.{yes_at, side_at, added_at, as_yes, yes_or_no, claim_at, no_at}
use Rattle.text_parts.proofs.Chains.{after_word, at_word}
use Rattle.verdict_text.proofs.SideLaws.{side_takes, side_again}
use Rattle.verdict_text.proofs.AddedLaws.{added_takes, added_again}
use Rattle.verdict_text.proofs.CycleLaws.{no_takes, no_again}

-- only `doubly` has two sides
two_sides : (kind : Kind) (n : ℕ) → suc (suc n) ≡ side_count kind → (kind ≡ Doubly) × (n ≡ 0)
two_sides Matrix n h = absurd (omega arith)
two_sides Rows n h = absurd (omega arith)
two_sides Table n h = absurd (omega arith)
two_sides Circular n h = absurd (omega arith)
two_sides Convex n h = absurd (omega arith)
two_sides Doubly n h = (refl, omega arith)
two_sides Proper n h = absurd (omega arith)
two_sides Robinson n h = absurd (omega arith)
two_sides Clones n h = absurd (omega arith)

some_side : (kind : Kind) → 0 ≡ side_count kind → ⊥
some_side Matrix h = omega arith
some_side Rows h = omega arith
some_side Table h = omega arith
some_side Circular h = omega arith
some_side Convex h = omega arith
some_side Doubly h = omega arith
some_side Proper h = omega arith
some_side Robinson h = omega arith
some_side Clones h = omega arith

-- the text of a yes after its first line
abbrev pub yes_text : Kind → YesValue → List ℕ
yes_text kind y = flat_map side_text y.sides ++ added_text kind y.added

one_regroup : (kind : Kind) (s : SideValue) (x : AddedValue) (rest : List ℕ) → yes_text kind (record { sides = s ∷ []; added = x }) ++ rest ≡ side_text s ++ (added_text kind x ++ rest)
one_regroup kind s x rest = append_assoc (side_text s ++ []) (added_text kind x) rest ∙ append_assoc (side_text s) [] (added_text kind x ++ rest)

two_regroup : (s t : SideValue) (rest : List ℕ) → yes_text Doubly (record { sides = s ∷ t ∷ []; added = no_added }) ++ rest ≡ side_text s ++ (side_text t ++ rest)
two_regroup s t rest =
    append_assoc (side_text s ++ (side_text t ++ [])) [] rest ∙ append_assoc (side_text s) (side_text t ++ []) rest ∙ ap (λ x. side_text s ++ x) (append_assoc (side_text t) [] rest)

pub record IsYes (kind : Kind) (columns bytes : List ℕ) (y : YesValue) (rest : List ℕ) : Type 0 where
  pub sides : AreSides columns y.sides
  pub added : HasAdded kind columns y.added
  pub front : bytes ≡ yes_text kind y ++ rest

one_takes : (kind : Kind) (c : ℕ) (bytes : List ℕ) (y : YesValue) (rest : List ℕ) → c < 2 ^ 64 → yes_at kind (c ∷ []) bytes ≡ Some (y, rest) → IsYes kind (c ∷ []) bytes y rest
unfolding yes_at
one_takes kind c bytes y rest l h =
    option_and_then_some _ (side_at c bytes) (y, rest) h (λ x e k.
    option_and_then_some _ (added_at kind c x.1) (y, rest) k (λ z f m.
    let s = side_takes c bytes x.0 x.1 l e in
    let a = added_takes kind c x.1 z.0 z.1 f in
    let made : YesValue = record { sides = x.0 ∷ []; added = z.0 } in
    let p = some_pair_parts made y z.1 rest m in
    subst (λ v. IsYes kind (c ∷ []) bytes v rest) p.0 (record {
      sides = (s.good, tt);
      added = a.fits;
      front = s.front ∙ ap (λ w. side_text x.0 ++ w) (a.front ∙ ap (λ w. added_text kind z.0 ++ w) p.1) ∙ sym (one_regroup kind x.0 z.0 rest);
    })))

two_take : (c d : ℕ) (bytes : List ℕ) (y : YesValue) (rest : List ℕ) → c < 2 ^ 64 → d < 2 ^ 64 → yes_at Doubly (c ∷ d ∷ []) bytes ≡ Some (y, rest) → IsYes Doubly (c ∷ d ∷ []) bytes y rest
unfolding yes_at
two_take c d bytes y rest l l' h =
    option_and_then_some _ (side_at c bytes) (y, rest) h (λ x e k.
    option_and_then_some _ (side_at d x.1) (y, rest) k (λ z f m.
    let s = side_takes c bytes x.0 x.1 l e in
    let t = side_takes d x.1 z.0 z.1 l' f in
    let made : YesValue = record { sides = x.0 ∷ z.0 ∷ []; added = no_added } in
    let p = some_pair_parts made y z.1 rest m in
    subst (λ v. IsYes Doubly (c ∷ d ∷ []) bytes v rest) p.0 (record {
      sides = (s.good, (t.good, tt));
      added = (refl, refl, refl);
      front = s.front ∙ ap (λ w. side_text x.0 ++ w) (t.front ∙ ap (λ w. side_text z.0 ++ w) p.1) ∙ sym (two_regroup x.0 z.0 rest);
    })))

pub yes_takes : (kind : Kind) (columns bytes : List ℕ) (y : YesValue) (rest : List ℕ) → AreColumnCounts columns → length columns ≡ side_count kind → yes_at kind columns bytes ≡ Some (y, rest) → IsYes kind columns bytes y rest
yes_takes kind [] bytes y rest h l e = absurd (some_side kind l)
yes_takes kind (c ∷ []) bytes y rest h l e = one_takes kind c bytes y rest (omega (arith, h.0.1)) e
yes_takes kind (c ∷ d ∷ []) bytes y rest h l e =
    let two = two_sides kind 0 l in
    let P : Kind → Type 0 = λ k. yes_at k (c ∷ d ∷ []) bytes ≡ Some (y, rest) → IsYes k (c ∷ d ∷ []) bytes y rest in
    subst P (sym two.0) (λ f. two_take c d bytes y rest (omega (arith, h.0.1)) (omega (arith, h.1.0.1)) f) e
yes_takes kind (c ∷ d ∷ b ∷ columns) bytes y rest h l e = let two = two_sides kind (suc (length columns)) l in absurd (omega (arith, two.1))

one_again : (kind : Kind) (c : ℕ) (sides : List SideValue) (x : AddedValue) (rest : List ℕ) → c ≤ COLUMN_BOUND → AreSides (c ∷ []) sides → HasAdded kind (c ∷ []) x
    → yes_at kind (c ∷ []) (yes_text kind (record { sides = sides; added = x }) ++ rest) ≡ Some (record { sides = sides; added = x }, rest)
unfolding yes_at
one_again kind c [] x rest l h k = absurd h
one_again kind c (s ∷ t ∷ sides) x rest l h k = absurd h.1
one_again kind c (s ∷ []) x rest l h k =
    ap (yes_at kind (c ∷ [])) (one_regroup kind s x rest)
    ∙ ap (option_and_then _) (side_again c s (added_text kind x ++ rest) (omega arith) h.0)
    ∙ ap (option_and_then _) (added_again kind c x rest l k)

two_again : (c d : ℕ) (sides : List SideValue) (x : AddedValue) (rest : List ℕ) → c ≤ COLUMN_BOUND → d ≤ COLUMN_BOUND → AreSides (c ∷ d ∷ []) sides → HasAdded Doubly (c ∷ d ∷ []) x
    → yes_at Doubly (c ∷ d ∷ []) (yes_text Doubly (record { sides = sides; added = x }) ++ rest) ≡ Some (record { sides = sides; added = x }, rest)
unfolding yes_at
two_again c d [] x rest l l' h k = absurd h
two_again c d (s ∷ []) x rest l l' h k = absurd h.1
two_again c d (s ∷ t ∷ u ∷ sides) x rest l l' h k = absurd h.1.1
two_again c d (s ∷ t ∷ []) x rest l l' h k =
    ap (yes_at Doubly (c ∷ d ∷ [])) (two_regroup s t rest)
    ∙ ap (option_and_then _) (side_again c s (side_text t ++ rest) (omega arith) h.0)
    ∙ ap (option_and_then _) (side_again d t rest (omega arith) h.1.0)
    ∙ rw (k.0, k.1, k.2) refl

pub yes_again : (kind : Kind) (columns : List ℕ) (y : YesValue) (rest : List ℕ) → AreColumnCounts columns → length columns ≡ side_count kind → AreSides columns y.sides → HasAdded kind columns y.added
    → yes_at kind columns (yes_text kind y ++ rest) ≡ Some (y, rest)
yes_again kind [] y rest h l s a = absurd (some_side kind l)
yes_again kind (c ∷ []) y rest h l s a = one_again kind c y.sides y.added rest (omega (arith, h.0.1)) s a
yes_again kind (c ∷ d ∷ []) y rest h l s a =
    let two = two_sides kind 0 l in
    let P : Kind → Type 0 = λ k. HasAdded k (c ∷ d ∷ []) y.added → yes_at k (c ∷ d ∷ []) (yes_text k y ++ rest) ≡ Some (y, rest) in
    subst P (sym two.0) (λ b. two_again c d y.sides y.added rest (omega (arith, h.0.1)) (omega (arith, h.1.0.1)) s b) a
yes_again kind (c ∷ d ∷ b ∷ columns) y rest h l s a = let two = two_sides kind (suc (length columns)) l in absurd (omega (arith, two.1))

side_count_low : (kind : Kind) → side_count kind < 2 ^ 64
side_count_low Matrix = omega arith
side_count_low Rows = omega arith
side_count_low Table = omega arith
side_count_low Circular = omega arith
side_count_low Convex = omega arith
side_count_low Doubly = omega arith
side_count_low Proper = omega arith
side_count_low Robinson = omega arith
side_count_low Clones = omega arith

not_yes : (rest : List ℕ) → word_at (codes "answer yes\n") (codes "answer no\n" ++ rest) ≡ None
unfolding word_at
not_yes rest = refl

pub record ClaimIs (kind : Kind) (columns bytes : List ℕ) (claim : Claim) (rest : List ℕ) : Type 0 where
  pub fits : IsClaim kind columns claim
  pub front : bytes ≡ claim_text kind claim ++ rest

pub claim_takes : (kind : Kind) (columns bytes : List ℕ) (claim : Claim) (rest : List ℕ) → AreColumnCounts columns → length columns ≡ side_count kind → claim_at kind columns bytes ≡ Some (claim, rest) → ClaimIs kind columns bytes claim rest
unfolding claim_at
claim_takes kind columns bytes claim rest h l e =
    (elim (word_at (codes "answer yes\n") bytes) as (λ o. word_at (codes "answer yes\n") bytes ≡ o → yes_or_no kind columns o bytes ≡ Some (claim, rest) → ClaimIs kind columns bytes claim rest) [
      | Some r ↦ λ w k.
          option_and_then_some as_yes (yes_at kind columns r) (claim, rest) k (λ x f m.
          let y = yes_takes kind columns r x.0 x.1 h l f in
          let p = some_pair_parts (yes_claim x.0) claim x.1 rest m in
          subst (λ c. ClaimIs kind columns bytes c rest) p.0 (record {
            fits = (y.sides, y.added);
            front = word_takes (codes "answer yes\n") bytes r w ∙ ap (λ z. codes "answer yes\n" ++ z) (y.front ∙ ap (λ z. yes_text kind x.0 ++ z) p.1);
          }))
      | None ↦ λ w k.
          let a = after_word (no_at (side_count kind)) (codes "answer no\n") bytes (claim, rest) k in
          let n = no_takes (side_count kind) a.0 claim rest (side_count_low kind) a.2 in
          subst (λ c. ClaimIs kind columns bytes c rest) (sym n.is) (record {
            fits = (n.from, n.to, n.few, n.each);
            front = a.1 ∙ ap (λ z. codes "answer no\n" ++ z) n.front;
          })
    ]) refl e

pub claim_again : (kind : Kind) (columns : List ℕ) (claim : Claim) (rest : List ℕ) → AreColumnCounts columns → length columns ≡ side_count kind → IsClaim kind columns claim → claim_at kind columns (claim_text kind claim ++ rest) ≡ Some (claim, rest)
unfolding claim_at
claim_again kind columns (yes_claim y) rest h l k =
    ap (λ o. yes_or_no kind columns o (claim_text kind (yes_claim y) ++ rest)) (word_again (codes "answer yes\n") (yes_text kind y ++ rest))
    ∙ ap (option_and_then as_yes) (yes_again kind columns y rest h l k.0 k.1)
claim_again kind columns (no_claim side lines) rest h l k =
    let front : List ℕ = cycle_text side lines ++ rest in
    ap (λ o. yes_or_no kind columns o (codes "answer no\n" ++ front)) (not_yes front)
    ∙ at_word (no_at (side_count kind)) (codes "answer no\n") front
    ∙ no_again (side_count kind) side lines rest (side_count_low kind) k.0 k.1 k.2 k.3
