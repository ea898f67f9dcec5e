-- A verdict that is accepted is true, and what a solver finds is accepted.
use Rattle.std.proofs.Common.{◌≡◌, ◌∙◌, ℕ, ◌-◌, ◌≤◌, List, [], ◌++◌, length, map, slice_get, Option, Some, None, refl, arith}
use Rattle.std.specs.Prelude.{IsSomeAnd, All}
use Rattle.std.specs.List.{AllByRecursion}
use Rattle.column_order.specs.Orders.{IsOrder, Keeps, HasValidOrder}
use Rattle.row_model.specs.declared.kind.Kind.{Kind}
use Rattle.row_model.specs.declared.kind.Kind.TheVariants.{Clones}
use Rattle.clone_map.specs.Places.{ArePlaces}
use Rattle.clone_map.specs.Contigs.{AreContigs}
use Rattle.row_model.specs.declared.graph.Line.{Line}
use Rattle.row_model.specs.Graph.{row_at}
use Rattle.row_model.specs.Rows.{RowList}
use Rattle.row_model.specs.Cycles.{IsOddCycle}
use Rattle.row_model.proofs.Walks.{odd_walk_none}
use Rattle.row_model.proofs.CycleLaws.{odd_walk_from_lines}
use Rattle.pq_tree.specs.Outline.{Outline, IsFrontier}
use Rattle.pq_tree.specs.Proper.{IsProper}
use Rattle.pq_tree.proofs.Frontiers.{frontier_occurs}
use Rattle.tree_theory.specs.Tied.{IsTied}
use Rattle.tree_theory.specs.TiedLaws.{TiedLaw}
use Rattle.verdict_text.specs.declared.verdict.Version.{Version}
use Rattle.verdict_text.specs.declared.verdict.Version.TheVariants.{One, Two}
use Rattle.verdict_text.specs.Grammar.{IsSide, AreSides, IsVerdict}
use Rattle.verdict_text.specs.Verdict.{SideValue, YesValue, Claim, yes_claim, no_claim, VerdictValue}
use Rattle.instance_model.specs.Instance.{InstanceValue, plain, circular, convex, doubly, proper, robinson, instance_kind, instance_columns, IsSideOf, IsTextbookOrder, derived_matrix, IsWellFormed}
use Rattle.instance_model.specs.Laws.{ValidLaw, DerivedLaw, ExistsLaw}
use Rattle.verdict_judge.specs.Tests.{numbers, complete_tests, side_tests, kind_tests, sides_tests, added_tests, yes_tests, no_tests, claim_tests}
use Rattle.verdict_judge.specs.YesTests.{HasSide, AllKeep, PassesYes}
use Rattle.verdict_judge.specs.NoTests.{PassesNo}
use Rattle.verdict_judge.specs.Accepted.{PassesClaim}
use Rattle.verdict_judge.specs.Truth.{ShowsOrders, HasEveryOrder, IsTrueSide, IsTrueAddedTo, IsTrueAdded, IsTrueYes, IsTrueClaim}
use Rattle.verdict_judge.specs.Laws.{TrueLaw, YesLaw, NoLaw, FitsRows, IsSolvedSide}
use Rattle.verdict_judge.specs.declared.outcome.Reason.{Reason}
use Rattle.verdict_judge.specs.declared.outcome.Reason.TheVariants as reason
use Rattle.verdict_judge.proofs.First.{all_each, all_after, each_all, all_parts, all_in_parts, in_part_all}
use Rattle.verdict_judge.proofs.Closed.{joins_close, cycle_joins, cycle_pairs, cycle_repeats}
use Rattle.verdict_judge.proofs.Sides.{first_side, side_of}
use Rattle.verdict_judge.proofs.SideTests.{all_rows}
use Rattle.verdict_judge.proofs.JudgeTests.{claim_on, claimed_side, claim_accepted, accepted_claim}

-- a frontier of a tree over 1 to c is an order of 1 to c
pub frontier_order : (c : ℕ) (t : Outline) (o : List ℕ) → IsProper c t → IsFrontier t o → IsOrder c o
frontier_order c t o h f = λ a. frontier_occurs t o a f ∙ h.1 a

row_kept : (o : List ℕ) (rows : List (List ℕ)) (k : ℕ) → 1 ≤ k → k ≤ length rows → All (Keeps o) rows → Keeps o (row_at rows k)
row_kept o rows k l u h = h (k - 1) [] (omega arith)

-- a side that passes its tests, over the columns of its derived matrix
side_true : ValidLaw → (i : InstanceValue) (s : ℕ) → IsWellFormed i → IsSideOf i s → (side : Option SideValue) → IsSomeAnd side (IsSide (derived_matrix i s).columns) →
    IsSomeAnd side (λ x. IsTextbookOrder i s x.order) → ((k : ℕ) → 1 ≤ k → k ≤ length (derived_matrix i s).rows → IsSomeAnd side (λ x. AllKeep x.tree (row_at (derived_matrix i s).rows k))) →
    IsSomeAnd side (ShowsOrders i s)
side_true valid_textbook i s f is None g o r = g
side_true valid_textbook i s f is (Some side) g o r =
    let m = derived_matrix i s in
    (o, λ q fr. valid_textbook i s q f is (record { order = frontier_order m.columns side.tree q g.0 fr; kept = all_rows q m.rows (λ k l u. r k l u q fr) }))

-- what holds of one value by itself, and what else holds of it
pub some_both : {A : Type 0} (o : Option A) (P Q : A → Type 0) → IsSomeAnd o P → IsSomeAnd o Q → IsSomeAnd o (λ x. P x × Q x)
some_both None P Q h k = h
some_both (Some x) P Q h k = (h, k)

pub some_mono : {A : Type 0} (o : Option A) (P Q : A → Type 0) → ((x : A) → P x → Q x) → IsSomeAnd o P → IsSomeAnd o Q
some_mono None P Q m h = h
some_mono (Some x) P Q m h = m x h

-- a tree that is tied to the rows of the derived matrix has every textbook order
pub every_order : DerivedLaw → TiedLaw → (i : InstanceValue) (s : ℕ) (t : Outline) → IsWellFormed i → IsSideOf i s → IsProper (derived_matrix i s).columns t → IsTied (derived_matrix i s).columns (derived_matrix i s).rows t →
    HasEveryOrder i s t
every_order derived exact (plain kind m) s t f is p tied = λ o v. (exact m.columns m.rows t p.1 tied o).1 ((derived (plain kind m) s f is o).0 v)
every_order derived exact (circular m) s t f is p tied = λ o turned at v. (exact m.columns (derived_matrix (circular m) s).rows t p.1 tied turned).1 (((derived (circular m) s f is).1 o turned at).0 v)
every_order derived exact (convex g) s t f is p tied = λ o v. (exact (derived_matrix (convex g) s).columns (derived_matrix (convex g) s).rows t p.1 tied o).1 ((derived (convex g) s f is o).0 v)
every_order derived exact (doubly g) s t f is p tied = λ o v. (exact (derived_matrix (doubly g) s).columns (derived_matrix (doubly g) s).rows t p.1 tied o).1 ((derived (doubly g) s f is o).0 v)
every_order derived exact (proper g) s t f is p tied = λ o v. (exact (derived_matrix (proper g) s).columns (derived_matrix (proper g) s).rows t p.1 tied o).1 ((derived (proper g) s f is o).0 v)
every_order derived exact (robinson d) s t f is p tied = λ o v. (exact (derived_matrix (robinson d) s).columns (derived_matrix (robinson d) s).rows t p.1 tied o).1 ((derived (robinson d) s f is o).0 v)

-- what the tests of version 2 ask of a side beside those of version 1
complete_side : DerivedLaw → TiedLaw → (version : Version) (i : InstanceValue) (value : YesValue) (s : ℕ) → IsWellFormed i → IsSideOf i s → HasSide value s (IsSide (derived_matrix i s).columns) → HasSide value s (ShowsOrders i s) →
    AllByRecursion (PassesYes i value) (complete_tests version s) → HasSide value s (IsTrueSide version i s)
complete_side derived exact One i value s f is g o h = o
complete_side derived exact Two i value s f is g o h =
    let side = slice_get value.sides (s - 1) in
    let m = derived_matrix i s in
    some_mono side (λ (x : SideValue). (IsSide m.columns x × IsTied m.columns m.rows x.tree) × ShowsOrders i s x) (IsTrueSide Two i s)
    (λ x k. (k.1, every_order derived exact i s x.tree f is k.0.0.0 k.0.1))
    (some_both side (λ (x : SideValue). IsSide m.columns x × IsTied m.columns m.rows x.tree) (ShowsOrders i s) (some_both side (IsSide m.columns) (λ (x : SideValue). IsTied m.columns m.rows x.tree) g h.0) o)

true_side : ValidLaw → DerivedLaw → TiedLaw → (version : Version) (i : InstanceValue) (value : YesValue) (s : ℕ) → IsWellFormed i → IsSideOf i s → AreSides (instance_columns i) value.sides →
    AllByRecursion (PassesYes i value) (side_tests version s (derived_matrix i s)) → HasSide value s (IsTrueSide version i s)
true_side valid_textbook derived exact version i value s f is g h =
    let there = side_of i value s is g in
    let rows = (derived_matrix i s).rows in
    let parts = all_parts (PassesYes i value) (map (reason.Tree s) (numbers (length rows))) (complete_tests version s) h.1 in
    complete_side derived exact version i value s f is there
    (side_true valid_textbook i s f is (slice_get value.sides (s - 1)) there h.0 (each_all (PassesYes i value) (reason.Tree s) (length rows) parts.0)) parts.1

-- what the kind adds, where it passes its tests
clones_true : (kind : Kind) (m : RowList) (value : YesValue) → AllByRecursion (PassesYes (plain kind m) value) (kind_tests kind) → IsSomeAnd (slice_get value.sides 0) (λ _. Unit {0}) →
    IsTrueAdded (plain kind m) value
clones_true Clones m value h e =
    some_both (slice_get value.sides 0) (λ (x : SideValue). ArePlaces x.order m.rows value.added.places) (λ (x : SideValue). AreContigs m.rows x.order value.added.contigs) h.0 h.1.0
clones_true kind m value h e = e

true_added : (i : InstanceValue) (value : YesValue) → AllByRecursion (PassesYes i value) (added_tests i) → IsSomeAnd (slice_get value.sides 0) (λ _. Unit {0}) → IsTrueAdded i value
true_added (plain kind m) value h e = clones_true kind m value h e
true_added (circular m) value h e = tt
true_added (convex g) value h e = tt
true_added (doubly g) value h e = tt
true_added (proper g) value h e = h.0
true_added (robinson d) value h e = tt

solved_clones : (kind : Kind) (m : RowList) (value : YesValue) → IsTrueAdded (plain kind m) value → AllByRecursion (PassesYes (plain kind m) value) (kind_tests kind)
solved_clones Clones m value h = (
  some_mono (slice_get value.sides 0) (IsTrueAddedTo Clones m.rows value) (λ (x : SideValue). ArePlaces x.order m.rows value.added.places) (λ x k. k.0) h,
  (some_mono (slice_get value.sides 0) (IsTrueAddedTo Clones m.rows value) (λ (x : SideValue). AreContigs m.rows x.order value.added.contigs) (λ x k. k.1) h, tt),
)
solved_clones kind m value h = tt

solved_added : (i : InstanceValue) (value : YesValue) → IsTrueAdded i value → AllByRecursion (PassesYes i value) (added_tests i)
solved_added (plain kind m) value h = solved_clones kind m value h
solved_added (circular m) value h = tt
solved_added (convex g) value h = tt
solved_added (doubly g) value h = tt
solved_added (proper g) value h = (h, tt)
solved_added (robinson d) value h = tt

-- a cycle that passes its tests leaves no valid order
true_no : (m : RowList) (lines : List Line) → AllByRecursion (PassesNo m lines) (no_tests (length lines)) → HasValidOrder m.columns m.rows → ⊥
true_no m lines h =
    let P : Reason → Type 0 = PassesNo m lines in
    let n = length lines in
    let later = all_parts P (map reason.Pair (numbers n)) (map reason.Repeat (numbers n) ++ map reason.Join (numbers n)) h.1 in
    let last = all_parts P (map reason.Repeat (numbers n)) (map reason.Join (numbers n)) later.1 in
    odd_walk_none m.columns m.rows
    (odd_walk_from_lines m.columns m.rows lines (record { closed = joins_close m lines (each_all P reason.Join n last.1); odd = h.0.0 }))

-- a yes that passes its tests
true_yes : ValidLaw → DerivedLaw → TiedLaw → (version : Version) (i : InstanceValue) (value : YesValue) → IsWellFormed i → AreSides (instance_columns i) value.sides → AllByRecursion (PassesYes i value) (yes_tests version i) →
    IsTrueYes version i value
true_yes valid_textbook derived exact version i value f g h =
    let P = PassesYes i value in
    let parts = all_parts P (sides_tests version i) (added_tests i) h in
    let sides : (s : ℕ) → IsSideOf i s → HasSide value s (IsTrueSide version i s) =
    λ s is. true_side valid_textbook derived exact version i value s f is g (in_part_all P (λ k. side_tests version k (derived_matrix i k)) (length (instance_columns i)) parts.0 s is.0 is.1) in
    record {
      sides = sides;
      added = true_added i value parts.1 (some_mono (slice_get value.sides 0) (IsTrueSide version i 1) (λ _. Unit {0}) (λ x k. tt) (sides 1 (first_side i)));
    }

-- what is claimed of the instance's kind and columns, and passes its tests
true_claim : ValidLaw → DerivedLaw → ExistsLaw → TiedLaw → (version : Version) (i : InstanceValue) (v : VerdictValue) (claim : Claim) → IsWellFormed i → IsVerdict v → v.kind ≡ instance_kind i → v.columns ≡ instance_columns i → v.claim ≡ claim →
    AllByRecursion (PassesClaim i claim) (claim_tests version i claim) → IsTrueClaim version i claim
true_claim valid_textbook derived exists_textbook exact version i v (yes_claim value) f g k c e h =
    let claim = claim_on i v (yes_claim value) k c e g in
    true_yes valid_textbook derived exact version i value f claim.0 h
true_claim valid_textbook derived exists_textbook exact version i v (no_claim s lines) f g k c e h =
    let is = claimed_side i v s lines c e g in
    λ o textbook. true_no (derived_matrix i s) lines h ((exists_textbook i s f is).0 (o, textbook))

pub true_law : ValidLaw → DerivedLaw → ExistsLaw → TiedLaw → TrueLaw
true_law valid_textbook derived exists_textbook exact i v f g h = true_claim valid_textbook derived exists_textbook exact v.version i v v.claim f g h.0 h.1.0 refl (accepted_claim i v h)

-- each frontier of a tree that fits the rows keeps them
fitting_kept : (version : Version) (m : RowList) (t : Outline) → FitsRows version m t → (o : List ℕ) → IsFrontier t o → All (Keeps o) m.rows
fitting_kept One m t h = h
fitting_kept Two m t h = h.kept

-- a tree that fits the rows passes what version 2 asks
fitting_complete : (version : Version) (i : InstanceValue) (value : YesValue) (s : ℕ) → HasSide value s (IsSolvedSide version i s) → AllByRecursion (PassesYes i value) (complete_tests version s)
fitting_complete One i value s h = tt
fitting_complete Two i value s h =
    let m = derived_matrix i s in
    (some_mono (slice_get value.sides (s - 1)) (IsSolvedSide Two i s) (λ (x : SideValue). IsTied m.columns m.rows x.tree) (λ x k. k.1) h, tt)

-- a side that a solver found passes its tests
solved_side : (version : Version) (i : InstanceValue) (value : YesValue) (s : ℕ) → HasSide value s (IsSolvedSide version i s) → AllByRecursion (PassesYes i value) (side_tests version s (derived_matrix i s))
solved_side version i value s h =
    let o = slice_get value.sides (s - 1) in
    let m = derived_matrix i s in (
      some_mono o (IsSolvedSide version i s) (λ (x : SideValue). IsTextbookOrder i s x.order) (λ x k. k.0) h,
      all_after (PassesYes i value) (map (reason.Tree s) (numbers (length m.rows))) (complete_tests version s)
          (all_each (PassesYes i value) (reason.Tree s) (length m.rows)
          (λ k l u. some_mono o (IsSolvedSide version i s) (λ (x : SideValue). AllKeep x.tree (row_at m.rows k)) (λ x g f fr. row_kept f m.rows k l u (fitting_kept version m x.tree g.1 f fr)) h))
          (fitting_complete version i value s h),
    )

pub yes_law : YesLaw
yes_law i v value k c e h added =
    let P = PassesYes i value in
    claim_accepted i v (yes_claim value) k c e
    (all_after P (sides_tests v.version i) (added_tests i)
    (all_in_parts P (λ s. side_tests v.version s (derived_matrix i s)) (length (instance_columns i)) (λ s l u. solved_side v.version i value s (h s (l, u)))) (solved_added i value added))

-- a cycle passes its tests
solved_no : (m : RowList) (lines : List Line) → IsOddCycle m.columns m.rows lines → AllByRecursion (PassesNo m lines) (no_tests (length lines))
solved_no m lines h =
    let P : Reason → Type 0 = PassesNo m lines in
    let n = length lines in (
      (h.simple.odd, h.simple.long),
      all_after P (map reason.Pair (numbers n)) _ (all_each P reason.Pair n (cycle_pairs m lines h))
          (all_after P (map reason.Repeat (numbers n)) _ (all_each P reason.Repeat n (cycle_repeats m lines h)) (all_each P reason.Join n (cycle_joins m lines h))),
    )

pub no_law : NoLaw
no_law i v s lines k c e h = claim_accepted i v (no_claim s lines) k c e (solved_no (derived_matrix i s) lines h)
