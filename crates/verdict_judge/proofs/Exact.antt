-- A yes that is true of an instance of any kind but a circular one is accepted.
use Rattle.std.proofs.Common.{ℕ, ◌-◌, List, slice_get, Option, Some, None, subst}
use Rattle.std.specs.Prelude.{◌↔◌, ◌≤◌, length, IsSomeAnd}
use Rattle.row_model.specs.Graph.{row_at}
use Rattle.pq_tree.specs.Outline.{Outline, IsFrontier}
use Rattle.pq_tree.specs.Proper.{IsProper}
use Rattle.tree_theory.specs.Tied.{IsTied}
use Rattle.tree_theory.specs.TiedLaws.{TiedLaw}
use Rattle.tree_theory.specs.ExactLaws.{ExactLaw}
use Rattle.verdict_text.specs.declared.verdict.Version.{Version}
use Rattle.verdict_text.specs.declared.verdict.Version.TheVariants.{One, Two}
use Rattle.verdict_text.specs.Grammar.{IsSide, AreSides, IsVerdict}
use Rattle.verdict_text.specs.Verdict.{SideValue, YesValue, yes_claim, VerdictValue}
use Rattle.instance_model.specs.Instance.{InstanceValue, plain, circular, convex, doubly, proper, robinson, instance_columns, IsSideOf, IsTextbookOrder, derived_matrix, IsWellFormed}
use Rattle.instance_model.specs.Laws.{IsValidFor, DerivedLaw}
use Rattle.verdict_judge.specs.YesTests.{HasSide, AllKeep}
use Rattle.verdict_judge.specs.Truth.{HasEveryOrder, IsTrueSide, IsTrueClaim, IsTrueVerdict}
use Rattle.verdict_judge.specs.Laws.{TrueLaw, IsSolvedSide}
use Rattle.verdict_judge.specs.Accepted.{IsAccepted}
use Rattle.verdict_judge.specs.Exact.{IsLinear, IsYesFor, TrueYesLaw, CompleteLaw}
use Rattle.verdict_judge.proofs.Sides.{side_of}
use Rattle.verdict_judge.proofs.JudgeTests.{claim_on}
use Rattle.verdict_judge.proofs.SideTests.{all_rows}
use Rattle.verdict_judge.proofs.True.{yes_law, every_order, frontier_order, some_both, some_mono}

-- where orders have a first column, the textbook orders are the valid orders of the derived matrix
linear : DerivedLaw → (i : InstanceValue) (s : ℕ) (o : List ℕ) → IsWellFormed i → IsLinear i → IsSideOf i s → IsTextbookOrder i s o ↔ IsValidFor (derived_matrix i s) o
linear derived (plain kind m) s o f l is = derived (plain kind m) s f is o
linear derived (circular m) s o f l is = absurd l
linear derived (convex g) s o f l is = derived (convex g) s f is o
linear derived (doubly g) s o f l is = derived (doubly g) s f is o
linear derived (proper g) s o f l is = derived (proper g) s f is o
linear derived (robinson d) s o f l is = derived (robinson d) s f is o

-- and the frontiers of a tree with every order are them all
all_there : (i : InstanceValue) (s : ℕ) (t : Outline) → IsLinear i → HasEveryOrder i s t → (o : List ℕ) → IsTextbookOrder i s o → IsFrontier t o
all_there (plain kind m) s t l every = every
all_there (circular m) s t l every = absurd l
all_there (convex g) s t l every = every
all_there (doubly g) s t l every = every
all_there (proper g) s t l every = every
all_there (robinson d) s t l every = every

-- a tree that shows orders, and in version 2 has them all, fits the rows
fits : DerivedLaw → ExactLaw → (version : Version) (i : InstanceValue) (s : ℕ) (side : SideValue) → IsWellFormed i → IsLinear i → IsSideOf i s → IsProper (derived_matrix i s).columns side.tree → IsTrueSide version i s side →
    IsSolvedSide version i s side
fits derived exact One i s side f l is fine holds = (holds.0, λ o frontier. ((linear derived i s o f l is).0 (holds.1 o frontier)).kept)
fits derived exact Two i s side f l is fine holds =
    let m = derived_matrix i s in (
      holds.0.0,
      exact m.columns m.rows side.tree fine (λ o. (λ frontier. (linear derived i s o f l is).0 (holds.0.1 o frontier), λ valid. all_there i s side.tree l holds.1 o ((linear derived i s o f l is).1 valid))),
    )

solved : DerivedLaw → ExactLaw → (version : Version) (i : InstanceValue) (value : YesValue) (s : ℕ) → IsWellFormed i → IsLinear i → IsSideOf i s → AreSides (instance_columns i) value.sides → HasSide value s (IsTrueSide version i s) →
    HasSide value s (IsSolvedSide version i s)
solved derived exact version i value s f l is sides holds =
    let side = slice_get value.sides (s - 1) in
    let columns = (derived_matrix i s).columns in
    some_mono side (λ (x : SideValue). IsSide columns x × IsTrueSide version i s x) (IsSolvedSide version i s) (λ x both. fits derived exact version i s x f l is both.0.0 both.1)
    (some_both side (IsSide columns) (IsTrueSide version i s) (side_of i value s is sides) holds)

pub true_yes_law : DerivedLaw → ExactLaw → TrueYesLaw
true_yes_law derived exact i v f l g told holds =
    let sides = (claim_on i v (yes_claim told.value) told.kind told.columns told.claim g).0 in
    let claim = subst (IsTrueClaim v.version i) told.claim holds in
    yes_law i v told.value told.kind told.columns told.claim (λ s is. solved derived exact v.version i told.value s f l is sides (claim.sides s is)) claim.added

-- a tree over the columns of a side that fits the derived rows is tied to them where it has every textbook order
module _ (derived : DerivedLaw) (exact : ExactLaw) (i : InstanceValue) (s : ℕ) (f : IsWellFormed i) (l : IsLinear i) (is : IsSideOf i s) where
  tied_by_orders : (t : Outline) → IsProper (derived_matrix i s).columns t → ((k : ℕ) → 1 ≤ k → k ≤ length (derived_matrix i s).rows → AllKeep t (row_at (derived_matrix i s).rows k)) → HasEveryOrder i s t →
      IsTied (derived_matrix i s).columns (derived_matrix i s).rows t
  tied_by_orders t fine keep every =
      let m = derived_matrix i s in
      exact m.columns m.rows t fine
      (λ o. (
        λ frontier. record { order = frontier_order m.columns t o fine frontier; kept = all_rows o m.rows (λ k low most. keep k low most o frontier) },
        λ valid. all_there i s t l every o ((linear derived i s o f l is).1 valid),
      ))

pub complete_law : DerivedLaw → TiedLaw → ExactLaw → CompleteLaw
complete_law derived tied exact i v s f l g told is keep = go (slice_get told.value.sides (s - 1)) (side_of i told.value s is sides) keep
  where
    sides : AreSides (instance_columns i) told.value.sides
    sides = (claim_on i v (yes_claim told.value) told.kind told.columns told.claim g).0

    go : (o : Option SideValue) → IsSomeAnd o (IsSide (derived_matrix i s).columns) → ((k : ℕ) → 1 ≤ k → k ≤ length (derived_matrix i s).rows → IsSomeAnd o (λ side. AllKeep side.tree (row_at (derived_matrix i s).rows k))) →
        IsSomeAnd o (λ side. IsTied (derived_matrix i s).columns (derived_matrix i s).rows side.tree) ↔ IsSomeAnd o (λ side. HasEveryOrder i s side.tree)
    go None there kept = absurd there
    go (Some side) there kept = (λ ties. every_order derived tied i s side.tree f is there.0 ties, λ every. tied_by_orders derived exact i s f l is side.tree there.0 kept every)

-- what is the case exactly where a verdict is accepted is the case exactly where a yes is true
pub exactly : TrueLaw → TrueYesLaw → (i : InstanceValue) (v : VerdictValue) (C : Type 0) → IsWellFormed i → IsVerdict v → C ↔ IsAccepted i v → IsLinear i → IsYesFor i v → C ↔ IsTrueVerdict i v
exactly is_true is_accepted i v C f g both l told = (λ c. is_true i v f g (both.0 c), λ holds. both.1 (is_accepted i v f l g told holds))
