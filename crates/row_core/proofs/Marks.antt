-- Marks at the rows that lines name.
use Rattle.std.proofs.Common.{◌≡◌, ◌∙◌, ℕ, zero, suc, ◌+◌, ◌-◌, ◌<◌, ◌≤◌, Bool, true, false, cond, List, [], ◌∷◌, ◌++◌, length, take, drop, get_or, set, IsTrue, refl, sym, ap, subst, inl, inr, arith, length-set, get_or-set_same, get_or-set_other}
use Rattle.std.proofs.lemmas.Bool.{cases_eq}
use Rattle.std.proofs.lemmas.List.{append_assoc, append-nil, take_more, drop_more, get_or_default}
use Rattle.column_order.specs.Orders.{has}
use Rattle.column_order.proofs.Lists.{has_head, has_tail}
use Rattle.row_model.specs.declared.graph.Line.{Line}
use Rattle.row_model.specs.declared.graph.Why.{Why}
use Rattle.row_model.specs.declared.graph.Why.TheVariants.{Flip, Row}
use Rattle.row_model.specs.Rows.{Ascends}
use Rattle.row_model.proofs.Ascending.{ascends_lower}
use Rattle.row_core.specs.Blamed.{IsReasonWithin, AreReasonsWithin, IsMarked, AreMarked, with_mark, marked_from}

-- a mark more leaves the marks
still : (marks : List Bool) (i j : ℕ) → j < length marks → IsTrue (get_or marks i false) → IsTrue (get_or (set marks j true) i false)
still marks i j l h =
    elim (cases_eq i j) [
      | inl e ↦ rw e (get_or-set_same marks j true false l)
      | inr n ↦ get_or-set_other marks j i true false n ∙ h
    ]

still_marked : (marks : List Bool) (j : ℕ) (why : Why) → j < length marks → IsMarked marks why → IsMarked (set marks j true) why
still_marked marks j Flip l h = tt
still_marked marks j (Row i) l h = still marks (i - 1) j l h

all_still_marked : (marks : List Bool) (j : ℕ) (lines : List Line) → j < length marks → AreMarked marks lines → AreMarked (set marks j true) lines
all_still_marked marks j [] l h = tt
all_still_marked marks j (line ∷ lines) l h = (still_marked marks j line.why l h.0, all_still_marked marks j lines l h.1)

marked_push : (marks : List Bool) (lines : List Line) (line : Line) → AreMarked marks lines → IsMarked marks line.why → AreMarked marks (lines ++ line ∷ [])
marked_push marks [] line h k = (k, tt)
marked_push marks (l ∷ lines) line h k = (h.0, marked_push marks lines line h.1 k)

pub length-with_mark : (marks : List Bool) (why : Why) → length (with_mark marks why) ≡ length marks
length-with_mark marks Flip = refl
length-with_mark marks (Row i) = length-set marks (i - 1) true

with_line : (marks : List Bool) (lines : List Line) (line : Line) (why : Why) → line.why ≡ why → IsReasonWithin (length marks) why → AreMarked marks lines → AreMarked (with_mark marks why) (lines ++ line ∷ [])
with_line marks lines line Flip e w h = marked_push marks lines line h (subst (IsMarked marks) (sym e) tt)
with_line marks lines line (Row i) e w h =
    let inside : i - 1 < length marks = omega (arith, w.0, w.1) in
    marked_push (set marks (i - 1) true) lines line (all_still_marked marks (i - 1) lines inside h) (subst (IsMarked (set marks (i - 1) true)) (sym e) (get_or-set_same marks (i - 1) true false inside))

-- the reason of a line is within, where those of all lines are
pub reason_at : (n : ℕ) (lines : List Line) (i : ℕ) (d : Line) → i < length lines → AreReasonsWithin n lines → IsReasonWithin n (get_or lines i d).why
reason_at n [] i d l h = absurd (omega arith)
reason_at n (line ∷ lines) zero d l h = h.0
reason_at n (line ∷ lines) (suc i) d l h = reason_at n lines i d (omega arith) h.1

-- one line more
pub marked_more : (marks : List Bool) (lines : List Line) (i : ℕ) (d : Line) → i < length lines → AreReasonsWithin (length marks) lines → AreMarked marks (take i lines) → AreMarked (with_mark marks (get_or lines i d).why) (take (i + 1) lines)
marked_more marks lines i d l w h =
    subst (AreMarked (with_mark marks (get_or lines i d).why)) (sym (take_more lines i d l))
    (with_line marks (take i lines) (get_or lines i d) (get_or lines i d).why refl (reason_at (length marks) lines i d l w) h)

-- the same, where the new marks and their number are known by equations
pub marks_more : (marks new : List Bool) (count : ℕ) (lines : List Line) (i : ℕ) (d : Line) → new ≡ with_mark marks (get_or lines i d).why → i < length lines → length marks ≡ count
    → AreReasonsWithin count lines → AreMarked marks (take i lines) → (length new ≡ count) × AreMarked new (take (i + 1) lines)
marks_more marks new count lines i d e l size w h =
    let within : AreReasonsWithin (length marks) lines = subst (λ n. AreReasonsWithin n lines) (sym size) w in
    (ap length e ∙ length-with_mark marks (get_or lines i d).why ∙ size, subst (λ ms. AreMarked ms (take (i + 1) lines)) (sym e) (marked_more marks lines i d l within h))

-- the rows that are marked so far, and those among the rest
pub marked_from_more : (marks : List Bool) (set rows all : List ℕ) (i d : ℕ) → i < length set → rows ++ marked_from marks i (drop i set) ≡ all
    → (rows ++ cond (get_or marks i false) (get_or set i d ∷ []) []) ++ marked_from marks (i + 1) (drop (i + 1) set) ≡ all
marked_from_more marks set rows all i d l h = pushed (get_or marks i false) ∙ ap (λ xs. rows ++ marked_from marks i xs) (sym (drop_more set i d l)) ∙ h
  where
    pushed : (b : Bool) → (rows ++ cond b (get_or set i d ∷ []) []) ++ marked_from marks (i + 1) (drop (i + 1) set) ≡ rows ++ cond b (get_or set i d ∷ marked_from marks (i + 1) (drop (i + 1) set)) (marked_from marks (i + 1) (drop (i + 1) set))
    pushed true = append_assoc rows (get_or set i d ∷ []) (marked_from marks (i + 1) (drop (i + 1) set))
    pushed false = ap (λ xs. xs ++ marked_from marks (i + 1) (drop (i + 1) set)) (append-nil rows)

pub row_taken : (marks : List Bool) (set rows new all : List ℕ) (i d : ℕ) (e : Bool) → length marks ≡ length set → i < length set → get_or marks i e ≡ true → new ≡ rows ++ get_or set i d ∷ []
    → rows ++ marked_from marks i (drop i set) ≡ all → new ++ marked_from marks (i + 1) (drop (i + 1) set) ≡ all
row_taken marks set rows new all i d e n l t p h =
    let there : get_or marks i false ≡ true = get_or_default marks i false e (omega arith) ∙ t in
    rw (p, ← ap (λ b. rows ++ cond b (get_or set i d ∷ []) []) there) (marked_from_more marks set rows all i d l h)

pub row_passed : (marks : List Bool) (set rows new all : List ℕ) (i : ℕ) (e : Bool) → length marks ≡ length set → i < length set → get_or marks i e ≡ false → new ≡ rows
    → rows ++ marked_from marks i (drop i set) ≡ all → new ++ marked_from marks (i + 1) (drop (i + 1) set) ≡ all
row_passed marks set rows new all i e n l t p h =
    let there : get_or marks i false ≡ false = get_or_default marks i false e (omega arith) ∙ t in
    ap (λ xs. xs ++ marked_from marks (i + 1) (drop (i + 1) set)) (p ∙ sym (append-nil rows) ∙ ap (λ b. rows ++ cond {A = List ℕ} b (get_or set i 0 ∷ []) []) (sym there))
    ∙ marked_from_more marks set rows all i 0 l h

-- the marked numbers ascend
pub ascends_marked : (n low i : ℕ) (marks : List Bool) (set : List ℕ) → Ascends n low set → Ascends n low (marked_from marks i set)
ascends_marked n low i marks [] h = tt
ascends_marked n low i marks (k ∷ set) h =
    let rest : Ascends n k (marked_from marks (i + 1) set) = ascends_marked n k (i + 1) marks set h.2 in
    elim (get_or marks i false) as (λ b. Ascends n low (cond b (k ∷ marked_from marks (i + 1) set) (marked_from marks (i + 1) set))) [
      | true ↦ (h.0, h.1, rest)
      | false ↦ ascends_lower n low k (marked_from marks (i + 1) set) (omega (arith, h.0)) rest
    ]

-- there are no more than all
pub few_marked : (i : ℕ) (marks : List Bool) (set : List ℕ) → length (marked_from marks i set) ≤ length set
few_marked i marks [] = omega arith
few_marked i marks (k ∷ set) =
    elim (get_or marks i false) as (λ b. length (cond b (k ∷ marked_from marks (i + 1) set) (marked_from marks (i + 1) set)) ≤ suc (length set)) [
      | true ↦ omega (arith, few_marked (i + 1) marks set)
      | false ↦ omega (arith, few_marked (i + 1) marks set)
    ]

-- a number whose place is marked is there
pub has_marked : (marks : List Bool) (i j : ℕ) (set : List ℕ) → j < length set → IsTrue (get_or marks (i + j) false) → IsTrue (has (marked_from marks i set) (get_or set j 0))
has_marked marks i j [] l h = absurd (omega arith)
has_marked marks i zero (k ∷ set) l h =
    let e : i + 0 ≡ i = omega arith in
    let here : get_or marks i false ≡ true = ap (λ n. get_or marks n false) (sym e) ∙ h in
    rw here (has_head k (marked_from marks (i + 1) set))
has_marked marks i (suc j) (k ∷ set) l h =
    let e : i + 1 + j ≡ i + suc j = omega arith in
    let later : IsTrue (has (marked_from marks (i + 1) set) (get_or set j 0)) = has_marked marks (i + 1) j set (omega arith) (ap (λ n. get_or marks n false) e ∙ h) in
    elim (get_or marks i false) as (λ b. IsTrue (has (cond b (k ∷ marked_from marks (i + 1) set) (marked_from marks (i + 1) set)) (get_or set j 0))) [
      | true ↦ has_tail k (get_or set j 0) (marked_from marks (i + 1) set) later
      | false ↦ later
    ]

-- at a place that is not marked by a reason within n there is no mark
unmarked : (n : ℕ) (marks : List Bool) (why : Why) (j : ℕ) → IsReasonWithin n why → n ≤ j → get_or marks j false ≡ false → get_or (with_mark marks why) j false ≡ false
unmarked n marks Flip j w l h = h
unmarked n marks (Row i) j w l h = get_or-set_other marks (i - 1) j true false (λ e. absurd (omega (arith, e, w.0, w.1, l))) ∙ h

within_push : (n : ℕ) (lines : List Line) (line : Line) → AreReasonsWithin n (lines ++ line ∷ []) → AreReasonsWithin n lines × IsReasonWithin n line.why
within_push n [] line h = (tt, h.0)
within_push n (l ∷ lines) line h = let rest = within_push n lines line h.1 in ((h.0, rest.0), rest.1)

-- one line more marks no place past its reasons
pub unmarked_more : (marks new : List Bool) (lines : List Line) (i : ℕ) (d : Line) → new ≡ with_mark marks (get_or lines i d).why → i < length lines
    → ((n : ℕ) → AreReasonsWithin n (take i lines) → (j : ℕ) → n ≤ j → get_or marks j false ≡ false)
    → (n : ℕ) → AreReasonsWithin n (take (i + 1) lines) → (j : ℕ) → n ≤ j → get_or new j false ≡ false
unmarked_more marks new lines i d e l before n w j u =
    let parts = within_push n (take i lines) (get_or lines i d) (subst (AreReasonsWithin n) (take_more lines i d l) w) in
    ap (λ ms. get_or ms j false) e ∙ unmarked n marks (get_or lines i d).why j parts.1 u (before n parts.0 j u)

-- the marked numbers ascend, with numbers behind them
pub ascends_marked_front : (n low i : ℕ) (marks : List Bool) (set back : List ℕ) → Ascends n low (set ++ back) → Ascends n low (marked_from marks i set ++ back)
ascends_marked_front n low i marks [] back h = h
ascends_marked_front n low i marks (k ∷ set) back h =
    let rest : Ascends n k (marked_from marks (i + 1) set ++ back) = ascends_marked_front n k (i + 1) marks set back h.2 in
    elim (get_or marks i false) as (λ b. Ascends n low (cond b (k ∷ marked_from marks (i + 1) set) (marked_from marks (i + 1) set) ++ back)) [
      | true ↦ (h.0, h.1, rest)
      | false ↦ ascends_lower n low k (marked_from marks (i + 1) set ++ back) (omega (arith, h.0)) rest
    ]
