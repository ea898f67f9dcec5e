-- An instance of which both sides were solved.
use Rattle.std.proofs.Common.{◌≡◌, ℕ, ◌+◌, ◌≤◌, List, length, Result, Ok, Err, refl, sym, ap, subst, inl, inr, arith}
use Rattle.std.proofs.lemmas.Bool.{cases_eq}
use Rattle.std.specs.Prelude.{IfOk}
use Rattle.instance_model.specs.Instance.{InstanceValue, plain, circular, convex, doubly, proper, robinson, instance_columns, derived_matrix}
use Rattle.row_model.specs.Rows.{RowList}
use Rattle.row_model.specs.declared.graph.Line.{Line}
use Rattle.row_judge.specs.Judges.{IsFirstConflict}
use Rattle.row_judge.specs.declared.Judged.TheVariants.{No}
use Rattle.c1p_solve.specs.Answers.{IsAnswer}
use Rattle.verdict_text.specs.Verdict.{no_claim}
use Rattle.verdict_replies.specs.Verdicts.{IsFirstWithout, IsClaimOf}
use Rattle.solve_replies.specs.Steps.{made_status, taking_steps, taking_steps_to, sides_steps, SolvesMatrixWithin, SolvesWithin}

-- an instance has one side or two
pub two_sides : (i : InstanceValue) → (length (instance_columns i) ≡ 1 → ⊥) → length (instance_columns i) ≡ 2
two_sides (plain kind m) more = absurd (more refl)
two_sides (circular m) more = absurd (more refl)
two_sides (convex graph) more = absurd (more refl)
two_sides (doubly graph) more = refl
two_sides (proper graph) more = absurd (more refl)
two_sides (robinson distances) more = absurd (more refl)

-- the first side has an order, and the second was solved
pub second_solved : (i : InstanceValue) (status s p n : ℕ) → length (instance_columns i) ≡ 2 → SolvesMatrixWithin (derived_matrix i 1) 0 s p → SolvesMatrixWithin (derived_matrix i 2) status p n
    → SolvesWithin i status s n
second_solved i status s p n sides first w =
    let steps : sides_steps i ≡ taking_steps_to i 2 = ap (taking_steps_to i) sides in
    let begun : p ≤ s + taking_steps (derived_matrix i 1) = first.yes refl in
    record {
      yes = λ e. omega (arith, w.yes e, steps, begun);
      side = 2;
      is_side = (omega arith, omega (arith, sides));
      no = w.no;
      most = omega (arith, w.most, steps, begun);
    }

-- what was made of an answer has the status of the answer, or memory was refused
pub made_of_matrix : {A E : Type 0} (status : A → ℕ) (made : Result A E) (m : RowList) (k s n : ℕ) → IfOk made (λ a. status a ≡ k) → SolvesMatrixWithin m k s n → SolvesMatrixWithin m (made_status status made) s n
made_of_matrix status (Ok a) m k s n is w = subst (λ j. SolvesMatrixWithin m j s n) (sym is) w
made_of_matrix status (Err e) m k s n is w = record { yes = λ none. absurd (omega (arith, none)); no = λ none. absurd (omega (arith, none)); most = w.most }

pub made_of_sides : {A E : Type 0} (status : A → ℕ) (made : Result A E) (i : InstanceValue) (k s n : ℕ) → IfOk made (λ a. status a ≡ k) → SolvesWithin i k s n → SolvesWithin i (made_status status made) s n
made_of_sides status (Ok a) i k s n is w = subst (λ j. SolvesWithin i j s n) (sym is) w
made_of_sides status (Err e) i k s n is w = record { yes = λ none. absurd (omega (arith, none)); side = w.side; is_side = w.is_side; no = λ none. absurd (omega (arith, none)); most = w.most }

-- an instance has a first side
some_side : (i : InstanceValue) → 1 ≤ length (instance_columns i)
some_side i = elim (cases_eq (length (instance_columns i)) 1) [ inl e ↦ omega (arith, e) | inr n ↦ omega (arith, two_sides i n) ]

-- the rows of the first side are some of those of all sides
first_rows : (i : InstanceValue) → taking_steps (derived_matrix i 1) ≤ sides_steps i
first_rows (plain kind m) = omega arith
first_rows (circular m) = omega arith
first_rows (convex graph) = omega arith
first_rows (doubly graph) = omega arith
first_rows (proper graph) = omega arith
first_rows (robinson distances) = omega arith

-- the first side has no order, or memory was refused as it was solved
pub first_solved : (i : InstanceValue) (status s n : ℕ) → (status ≡ 0 → ⊥) → SolvesMatrixWithin (derived_matrix i 1) status s n → SolvesWithin i status s n
first_solved i status s n some w =
    record {
      yes = λ none. absurd (some none);
      side = 1;
      is_side = (omega arith, some_side i);
      no = w.no;
      most = omega (arith, w.most, first_rows i);
    }

-- the only side was solved
pub only_solved : (i : InstanceValue) (status s n : ℕ) → length (instance_columns i) ≡ 1 → SolvesMatrixWithin (derived_matrix i 1) status s n → SolvesWithin i status s n
only_solved i status s n one w =
    let steps : sides_steps i ≡ taking_steps_to i 1 = ap (taking_steps_to i) one in
    record {
      yes = λ e. omega (arith, w.yes e, steps);
      side = 1;
      is_side = (omega arith, omega (arith, one));
      no = w.no;
      most = omega (arith, w.most, steps);
    }

-- a cycle of the first side
pub first_no : (i : InstanceValue) (side : ℕ) (lines cycle : List Line) → side ≡ 1 → lines ≡ cycle → IsAnswer (derived_matrix i 1) (No cycle) → IsFirstConflict (derived_matrix i 1) cycle → IsClaimOf i (no_claim side lines)
first_no i side lines cycle is same answer first =
    let without : IsFirstWithout i 1 = record {
      side = (omega arith, some_side i);
      before = λ earlier from to. absurd (omega (arith, from, to));
      none = answer.1;
    } in
    subst (λ k. IsClaimOf i (no_claim k lines)) (sym is) (subst (λ ls. IsClaimOf i (no_claim 1 ls)) (sym same) (without, answer.0, answer.2, first))
