-- The tests of a no, one after another.
use Rattle.std.proofs.Common.{◌≡◌, ◌↔◌, ℕ, ◌+◌, ◌<◌, Bool, List, ◌++◌, length, map, get_or, Option, Some, None, IsTrue, sym, subst}
use Rattle.std.specs.Prelude.{option_map}
use Rattle.row_model.specs.declared.graph.Line.{Line}
use Rattle.row_model.specs.Rows.{RowList}
use Rattle.verdict_judge.specs.Tests.{numbers, no_tests}
use Rattle.row_model.specs.declared.graph.Pair.{Pair}
use Rattle.row_model.specs.Graph.{JoinedBy}
use Rattle.verdict_judge.specs.NoTests.{pair_after, PassesLength, PassesPair, PassesRepeat, PassesJoin, PassesNo}
use Rattle.verdict_judge.specs.Found.{IsLeastFailing, Finds}
use Rattle.verdict_judge.specs.declared.outcome.Reason.{Reason}
use Rattle.verdict_judge.specs.declared.outcome.Reason.TheVariants as reason
use Rattle.verdict_judge.proofs.Lines.{line_has, has_line}
use Rattle.verdict_judge.proofs.First.{finds_here, finds_next, finds_after, finds_part, finds_each}

-- one more line joins its pair to the next, or does not
pub joined_here : (m : RowList) (lines : List Line) (i : ℕ) (d : Line) (next : Pair) (b : Bool) → i < length lines → ((other : Pair) → next ≡ pair_after lines (i + 1) other) →
    IsTrue b ↔ JoinedBy m.columns m.rows (get_or lines i d).pair next (get_or lines i d).why → IsTrue b ↔ PassesJoin m lines (i + 1)
joined_here m lines i d next b l e h =
    let P : Line → Type 0 = λ line. JoinedBy m.columns m.rows line.pair (pair_after lines (i + 1) line.pair) line.why in
    let at = e (get_or lines i d).pair in (
      λ yes. line_has lines i d P l (subst (λ v. JoinedBy m.columns m.rows (get_or lines i d).pair v (get_or lines i d).why) at (h.0 yes)),
      λ joins. h.1 (subst (λ v. JoinedBy m.columns m.rows (get_or lines i d).pair v (get_or lines i d).why) (sym at) (has_line lines i d P l joins)),
    )

module _ (m : RowList) (lines : List Line) where
  -- the number of lines fails
  pub length_fails : (PassesLength lines → ⊥) → Finds (PassesNo m lines) (no_tests (length lines)) (Some (reason.Length (length lines)))
  length_fails h = finds_here (PassesNo m lines) (reason.Length (length lines)) _ h

  -- the pair of a line fails
  pub pair_fails : (c i : ℕ) → c ≡ m.columns → PassesLength lines → IsLeastFailing (PassesPair c lines) (length lines) (Some i) →
      Finds (PassesNo m lines) (no_tests (length lines)) (Some (reason.Pair i))
  pair_fails c i e l h =
      finds_next (PassesNo m lines) (reason.Length (length lines)) _ (Some (reason.Pair i)) l
      (finds_part (PassesNo m lines) (map reason.Pair (numbers (length lines))) _ (reason.Pair i)
      (finds_each (PassesNo m lines) reason.Pair (length lines) (Some i) (subst (λ k. IsLeastFailing (PassesPair k lines) (length lines) (Some i)) e h)))

  -- the tests of the pairs are passed
  after_pairs : (c : ℕ) (o : Option Reason) → c ≡ m.columns → PassesLength lines → IsLeastFailing (PassesPair c lines) (length lines) None →
      Finds (PassesNo m lines) (map reason.Repeat (numbers (length lines)) ++ map reason.Join (numbers (length lines))) o →
      Finds (PassesNo m lines) (no_tests (length lines)) o
  after_pairs c o e l h f =
      finds_next (PassesNo m lines) (reason.Length (length lines)) _ o l
      (finds_after (PassesNo m lines) (map reason.Pair (numbers (length lines))) _ o
      (finds_each (PassesNo m lines) reason.Pair (length lines) None (subst (λ k. IsLeastFailing (PassesPair k lines) (length lines) None) e h)) f)

  -- a pair comes again
  pub repeat_fails : (c i : ℕ) (o : Option ℕ) → c ≡ m.columns → PassesLength lines → IsLeastFailing (PassesPair c lines) (length lines) None → o ≡ Some i →
      IsLeastFailing (PassesRepeat lines) (length lines) o → Finds (PassesNo m lines) (no_tests (length lines)) (Some (reason.Repeat i))
  repeat_fails c i o e l h is r =
      after_pairs c (Some (reason.Repeat i)) e l h
      (finds_part (PassesNo m lines) (map reason.Repeat (numbers (length lines))) _ (reason.Repeat i)
      (finds_each (PassesNo m lines) reason.Repeat (length lines) (Some i) (subst (IsLeastFailing (PassesRepeat lines) (length lines)) is r)))

  -- a line does not join its pair to the next, or each does
  pub joins_tested : (c : ℕ) (o j : Option ℕ) → c ≡ m.columns → PassesLength lines → IsLeastFailing (PassesPair c lines) (length lines) None → o ≡ None →
      IsLeastFailing (PassesRepeat lines) (length lines) o → IsLeastFailing (PassesJoin m lines) (length lines) j →
      Finds (PassesNo m lines) (no_tests (length lines)) (option_map reason.Join j)
  joins_tested c o j e l h is r k =
      after_pairs c (option_map reason.Join j) e l h
      (finds_after (PassesNo m lines) (map reason.Repeat (numbers (length lines))) _ (option_map reason.Join j)
      (finds_each (PassesNo m lines) reason.Repeat (length lines) None (subst (IsLeastFailing (PassesRepeat lines) (length lines)) is r))
      (finds_each (PassesNo m lines) reason.Join (length lines) j k))
