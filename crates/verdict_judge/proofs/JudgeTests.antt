-- All tests of a verdict.
use Rattle.std.proofs.Common.{◌≡◌, ◌∙◌, ℕ, ◌≤◌, List, [], ◌∷◌, length, map, Option, Some, None, Result, Ok, Err, refl, sym, ap, subst}
use Rattle.std.specs.Prelude.{IfOk}
use Rattle.std.specs.List.{AllByRecursion}
use Rattle.row_model.specs.declared.kind.Kind.TheVariants.{Clones}
use Rattle.row_model.specs.declared.graph.Line.{Line}
use Rattle.row_model.specs.declared.lists.Interval.{Interval}
use Rattle.row_model.specs.Rows.{RowList}
use Rattle.graph_model.specs.Graphs.{GraphValue}
use Rattle.proper_interval.specs.Models.{IsProperModel}
use Rattle.verdict_text.specs.Grammar.{IsClaim, IsVerdict}
use Rattle.verdict_text.specs.declared.verdict.Version.{Version}
use Rattle.verdict_text.specs.declared.verdict.Version.TheVariants.{One, Two}
use Rattle.verdict_text.specs.Verdict.{YesValue, Claim, yes_claim, no_claim, VerdictValue}
use Rattle.instance_model.specs.Instance.{InstanceValue, plain, circular, convex, doubly, proper, robinson, instance_kind, instance_columns, IsSideOf, derived_matrix}
use Rattle.verdict_judge.specs.Tests.{numbers, complete_tests, side_tests, sides_tests, added_tests, yes_tests, no_tests, claim_tests, tests}
use Rattle.verdict_judge.specs.YesTests.{PassesOrder, PassesYes}
use Rattle.verdict_judge.specs.Accepted.{PassesClaim, Passes, IsAccepted}
use Rattle.verdict_judge.specs.Found.{Finds}
use Rattle.verdict_judge.specs.declared.outcome.Reason.{Reason}
use Rattle.verdict_judge.specs.declared.outcome.Reason.TheVariants as reason
use Rattle.verdict_judge.proofs.First.{finds_here, finds_next, finds_after, finds_part, finds_same, all_each, all_after, all_apply, all_over, in_part_all}
use Rattle.verdict_judge.proofs.Sides.{first_side}

-- of the tests of a yes one on its sides fails
pub sides_fail : (version : Version) (i : InstanceValue) (value : YesValue) (r : Reason) → Finds (PassesYes i value) (sides_tests version i) (Some r) → Finds (PassesYes i value) (yes_tests version i) (Some r)
sides_fail version i value r f = finds_part (PassesYes i value) (sides_tests version i) (added_tests i) r f

-- each test on its sides is passed, and then come those of what the kind adds
pub added_last_ok : {E : Type 0} (version : Version) (i : InstanceValue) (value : YesValue) (r : Result (Option Reason) E) → AllByRecursion (PassesYes i value) (sides_tests version i) →
    IfOk r (Finds (PassesYes i value) (added_tests i)) → IfOk r (Finds (PassesYes i value) (yes_tests version i))
added_last_ok version i value (Ok o) h f = finds_after (PassesYes i value) (sides_tests version i) (added_tests i) o h f
added_last_ok version i value (Err e) h f = tt

-- what a graph adds fails its test
pub intervals_fail : (i : InstanceValue) (g : GraphValue) (value : YesValue) (intervals : List Interval) → i ≡ proper g → intervals ≡ value.added.intervals → (IsProperModel g intervals → ⊥) →
    Finds (PassesYes i value) (added_tests i) (Some reason.Intervals)
intervals_fail i g value intervals is e f =
    subst (λ j. Finds (PassesYes j value) (added_tests j) (Some reason.Intervals)) (sym is) (finds_here (PassesYes (proper g) value) reason.Intervals [] (λ h. f (subst (IsProperModel g) (sym e) h)))

-- where each test of the sides is passed, the order of the first side is a textbook order
pub first_order : (version : Version) (i : InstanceValue) (value : YesValue) → AllByRecursion (PassesYes i value) (sides_tests version i) → PassesOrder i value 1
first_order version i value h =
    let is = first_side i in
    let first = in_part_all (PassesYes i value) (λ s. side_tests version s (derived_matrix i s)) (length (instance_columns i)) h 1 is.0 is.1 in
    first.0

-- a claim in the grammar is one about the instance's kind and columns
pub claim_on : (i : InstanceValue) (v : VerdictValue) (claim : Claim) → v.kind ≡ instance_kind i → v.columns ≡ instance_columns i → v.claim ≡ claim → IsVerdict v → IsClaim (instance_kind i) (instance_columns i) claim
claim_on i v claim k c e h = subst (λ x. IsClaim x (instance_columns i) claim) k (subst (λ x. IsClaim v.kind x claim) c (subst (IsClaim v.kind v.columns) e h.claim))

-- a no in the grammar is about one of the instance's sides
pub claimed_side : (i : InstanceValue) (v : VerdictValue) (s : ℕ) (lines : List Line) → v.columns ≡ instance_columns i → v.claim ≡ no_claim s lines → IsVerdict v → IsSideOf i s
claimed_side i v s lines c e h =
    let claim : IsClaim v.kind v.columns (no_claim s lines) = subst (IsClaim v.kind v.columns) e h.claim in (
      claim.0,
      subst (λ n. s ≤ n) (sym h.sides ∙ ap (λ xs. length xs) c) claim.1,
    )

module _ (i : InstanceValue) (v : VerdictValue) where
  pub kind_fails : (v.kind ≡ instance_kind i → ⊥) → Finds (Passes i v) (tests i v) (Some reason.Kind)
  kind_fails h = finds_here (Passes i v) reason.Kind _ h

  pub columns_fail : v.kind ≡ instance_kind i → (v.columns ≡ instance_columns i → ⊥) → Finds (Passes i v) (tests i v) (Some reason.Columns)
  columns_fail k h = finds_next (Passes i v) reason.Kind _ (Some reason.Columns) k (finds_here (Passes i v) reason.Columns _ h)

-- the tests of a claim are tests of the verdict
to_verdict : (i : InstanceValue) (v : VerdictValue) (claim : Claim) (r : Reason) → v.claim ≡ claim → PassesClaim i claim r → Passes i v r
to_verdict i v (yes_claim value) reason.Kind e h = absurd h
to_verdict i v (yes_claim value) reason.Columns e h = absurd h
to_verdict i v (no_claim side lines) reason.Kind e h = absurd h
to_verdict i v (no_claim side lines) reason.Columns e h = absurd h
to_verdict i v claim other e h = subst (λ c. PassesClaim i c other) (sym e) h

from_complete : (version : Version) (i : InstanceValue) (v : VerdictValue) (s : ℕ) → AllByRecursion (λ r. Passes i v r → PassesClaim i v.claim r) (complete_tests version s)
from_complete One i v s = tt
from_complete Two i v s = (λ h. h, tt)

from_side : (version : Version) (i : InstanceValue) (v : VerdictValue) (s : ℕ) (m : RowList) → AllByRecursion (λ r. Passes i v r → PassesClaim i v.claim r) (side_tests version s m)
from_side version i v s m =
    let Q : Reason → Type 0 = λ r. Passes i v r → PassesClaim i v.claim r in
    (λ h. h, all_after Q (map (reason.Tree s) (numbers (length m.rows))) (complete_tests version s) (all_each Q (reason.Tree s) (length m.rows) (λ k l u h. h)) (from_complete version i v s))

from_added : (i : InstanceValue) (v : VerdictValue) → AllByRecursion (λ r. Passes i v r → PassesClaim i v.claim r) (added_tests i)
from_added (plain Clones m) v = (λ h. h, (λ h. h, tt))
from_added (plain kind m) v = tt
from_added (circular m) v = tt
from_added (convex g) v = tt
from_added (doubly g) v = tt
from_added (proper g) v = (λ h. h, tt)
from_added (robinson d) v = tt

from_no : (i : InstanceValue) (v : VerdictValue) (n : ℕ) → AllByRecursion (λ r. Passes i v r → PassesClaim i v.claim r) (no_tests n)
from_no i v n =
    let Q : Reason → Type 0 = λ r. Passes i v r → PassesClaim i v.claim r in (
      λ h. h,
      all_after Q (map reason.Pair (numbers n)) _ (all_each Q reason.Pair n (λ k l u h. h))
          (all_after Q (map reason.Repeat (numbers n)) _ (all_each Q reason.Repeat n (λ k l u h. h)) (all_each Q reason.Join n (λ k l u h. h))),
    )

from_verdict : (version : Version) (i : InstanceValue) (v : VerdictValue) (claim : Claim) → AllByRecursion (λ r. Passes i v r → PassesClaim i v.claim r) (claim_tests version i claim)
from_verdict version i v (yes_claim value) =
    let Q : Reason → Type 0 = λ r. Passes i v r → PassesClaim i v.claim r in
    all_after Q (sides_tests version i) (added_tests i)
    (all_over Q (λ s. side_tests version s (derived_matrix i s)) (numbers (length (instance_columns i))) (λ s. from_side version i v s (derived_matrix i s))) (from_added i v)
from_verdict version i v (no_claim side lines) = from_no i v (length lines)

claim_found : (i : InstanceValue) (v : VerdictValue) (o : Option Reason) → v.kind ≡ instance_kind i → v.columns ≡ instance_columns i →
    Finds (PassesClaim i v.claim) (claim_tests v.version i v.claim) o → Finds (Passes i v) (tests i v) o
claim_found i v o k c f =
    finds_next (Passes i v) reason.Kind (reason.Columns ∷ claim_tests v.version i v.claim) o k
    (finds_next (Passes i v) reason.Columns (claim_tests v.version i v.claim) o c
    (finds_same (PassesClaim i v.claim) (Passes i v) (claim_tests v.version i v.claim) o (λ r h. to_verdict i v v.claim r refl h) (from_verdict v.version i v v.claim) f))

pub claim_found_ok : {E : Type 0} (i : InstanceValue) (v : VerdictValue) (claim : Claim) (r : Result (Option Reason) E) → v.kind ≡ instance_kind i → v.columns ≡ instance_columns i →
    v.claim ≡ claim → IfOk r (Finds (PassesClaim i claim) (claim_tests v.version i claim)) → IfOk r (Finds (Passes i v) (tests i v))
claim_found_ok i v claim (Ok o) k c e h = claim_found i v o k c (subst (λ x. Finds (PassesClaim i x) (claim_tests v.version i x) o) (sym e) h)
claim_found_ok i v claim (Err err) k c e h = tt

-- the tests of its claim, of a verdict that is accepted
pub accepted_claim : (i : InstanceValue) (v : VerdictValue) → IsAccepted i v → AllByRecursion (PassesClaim i v.claim) (claim_tests v.version i v.claim)
accepted_claim i v h = all_apply (Passes i v) (PassesClaim i v.claim) (claim_tests v.version i v.claim) (from_verdict v.version i v v.claim) h.1.1

-- a verdict of the instance's kind and columns whose claim passes its tests is accepted
pub claim_accepted : (i : InstanceValue) (v : VerdictValue) (claim : Claim) → v.kind ≡ instance_kind i → v.columns ≡ instance_columns i → v.claim ≡ claim →
    AllByRecursion (PassesClaim i claim) (claim_tests v.version i claim) → IsAccepted i v
claim_accepted i v claim k c e h = claim_found i v None k c (subst (λ x. Finds (PassesClaim i x) (claim_tests v.version i x) None) (sym e) h)
