-- Lists that gain a column, and a row that is parted by the marks of its columns.
use Rattle.std.proofs.Common.{◌≡◌, ◌∙◌, ℕ, ◌+◌, ◌<◌, ◌≤◌, Bool, cond, List, [], ◌∷◌, ◌++◌, length, set, take, replicate, get_or, refl, sym, ap, inl, inr, arith, eq-eqb, append-nil}
use Rattle.std.specs.List.{filter}
use Rattle.std.specs.declared.vec.Vec.{Vec}
use Rattle.std.specs.declared.alloc.Global.{Global}
use Rattle.std.proofs.lemmas.Bool.{cases_eq, ne_eqb}
use Rattle.std.proofs.lemmas.List.{get_or-set_same, get_or-set_other, get_or-map, get_or-replicate, map-set, length-map, length-set, length-replicate, take_more, take_all}
use Rattle.std.proofs.lemmas.List.Elements.{filter-append}
use Rattle.tree_meet.specs.Marks.{lists_of, list_at, is_at, AddsWhere, ArePartsBy}

abbrev items : Vec ℕ Global → List ℕ
items list = list.items

-- the list at an index grew by a column
pub adds_one : (old new : List (Vec ℕ Global)) (at x : ℕ) (v w : Vec ℕ Global) → at < length old → v ≡ get_or old at v → w.items ≡ v.items ++ x ∷ [] →
    new ≡ set old at w → AddsWhere (is_at at) x old new
adds_one old new at x v w l e p s =
    let m : lists_of new ≡ set (lists_of old) at w.items = ap lists_of s ∙ map-set items old at w in
    let was : list_at old at ≡ v.items = get_or-map items old at v [] l ∙ ap items (sym e) in (
      ap (λ (xs : List (Vec ℕ Global)). length xs) s ∙ length-set old at w,
      λ i h. elim (cases_eq at i) [
        | inl q ↦
            let at_length : at < length (lists_of old) = omega (arith, l, length-map old items) in
            let here : list_at new at ≡ list_at old at ++ x ∷ [] =
            ap (λ (ls : List (List ℕ)). get_or ls at []) m ∙ get_or-set_same (lists_of old) at w.items [] at_length ∙ p ∙ ap (λ xs. xs ++ x ∷ []) (sym was) in
            rw (← q, eq-eqb at at refl) here
        | inr n ↦
            rw (ne_eqb at i n)
            (ap (λ (ls : List (List ℕ)). get_or ls i []) m ∙ get_or-set_other (lists_of old) at i w.items [] (λ q. n (sym q)) ∙ sym (append-nil (list_at old i)))
      ],
    )

-- what the list at an index gains, where there is a test
abbrev gain : Bool → ℕ → List ℕ
gain b x = cond b (x ∷ []) []

module _ (test : ℕ → ℕ → Bool) (marks row : List ℕ) (count : ℕ) where
  -- before any column
  pub parts_begin : (lists : List (Vec ℕ Global)) → lists_of lists ≡ replicate count [] → ArePartsBy test marks [] count lists
  parts_begin lists e = (
    sym (length-map lists items) ∙ ap (λ (xs : List (List ℕ)). length xs) e ∙ length-replicate count [],
    λ i h. ap (λ (xs : List (List ℕ)). get_or xs i []) e ∙ get_or-replicate count i [] [] h,
  )

  -- one column more
  pub parts_more : (old new : List (Vec ℕ Global)) (k : ℕ) → k < length row → ArePartsBy test marks (take k row) count old →
      AddsWhere (test (get_or marks (get_or row k 0) 0)) (get_or row k 0) old new → ArePartsBy test marks (take (k + 1) row) count new
  parts_more old new k l p a =
      let x = get_or row k 0 in (
        a.0 ∙ p.0,
        λ i h.
            let q : ℕ → Bool = λ b. test (get_or marks b 0) i in
            let within : i < length old = omega (arith, p.0, h) in
            a.1 i within ∙ ap (λ xs. xs ++ gain (q x) x) (p.1 i h) ∙
            sym (ap (filter q) (take_more row k 0 l) ∙ filter-append q (take k row) (x ∷ [])),
      )

  -- and all of them
  pub parts_end : (lists : List (Vec ℕ Global)) (k : ℕ) → length row ≤ k → ArePartsBy test marks (take k row) count lists → ArePartsBy test marks row count lists
  parts_end lists k l p = rw (take_all k row l) at p
