-- What the reducer keeps over a row.
use Rattle.std.proofs.Common.{◌≡◌, ℕ, ◌+◌, ◌*◌, List, length, sym, ap, subst, ◌∙◌, arith}
use Rattle.pq_tree.specs.Proper.{universal, IsProper}
use Rattle.tree_theory.specs.Laws.{KeptLaw}
use Rattle.tree_theory.specs.Reduced.{IsReduced}
use Rattle.tree_theory.specs.Refused.{IsRefused}
use Rattle.tree_theory.specs.declared.reducer.Step.{Step}
use Rattle.tree_theory.specs.declared.reducer.Step.TheVariants.{Taken, Refused}
use Rattle.arena_model.specs.Layout.{Layout, IsLayout}
use Rattle.arena_model.specs.NamedTree.{IsOneTree, outline_at}
use Rattle.row_reduce.specs.Outcome.{IsOutcome}
use Rattle.row_reduce.proofs.Taking.{AtRow, row_kept}

pub row_reduced : (row : List ℕ) (f g : Layout) (step : Step) → IsOutcome row f g step → step ≡ Taken → IsReduced row (outline_at f) (outline_at g)
row_reduced row f g Taken o e = o.0
row_reduced row f g Refused o e = absurd (cc)

pub row_refused : (row : List ℕ) (f g : Layout) (step : Step) → IsOutcome row f g step → step ≡ Refused → IsRefused row (outline_at f) × (g ≡ f)
row_refused row f g Taken o e = absurd (cc)
row_refused row f g Refused o e = o

-- the arena stays one proper tree over the same columns, and has as many nodes
pub record StaysTree (f g : Layout) : Type 0 where
  pub one : IsOneTree g
  pub proper : IsProper g.columns (outline_at g)
  pub columns : g.columns ≡ f.columns
  pub slots : length g.slots ≡ length f.slots

same_slots : (f g : Layout) → IsLayout f → IsLayout g → g.columns ≡ f.columns → length g.slots ≡ length f.slots
same_slots f g h hg e = let a : length f.slots ≡ 2 * f.columns + 4 = h.size in let b : length g.slots ≡ 2 * g.columns + 4 = hg.size in omega arith

pub reducer_kept : {c : ℕ} {before : List (List ℕ)} {row : List ℕ} (f g : Layout) (step : Step) → KeptLaw → AtRow c before row (outline_at f) → IsLayout f → IsLayout g → f.columns ≡ c → IsOneTree f → IsProper f.columns (outline_at f) →
    IsOutcome row f g step → StaysTree f g
reducer_kept f g Taken law s h hg ec one proper o = record {
  one = o.1;
  proper = subst (λ n. IsProper n (outline_at g)) (sym (o.2 ∙ ec)) (row_kept law s (outline_at g) o.0).0;
  columns = o.2;
  slots = same_slots f g h hg o.2;
}
reducer_kept f g Refused law s h hg ec one proper o = record {
  one = subst (λ z. IsOneTree z) (sym o.1) one;
  proper = subst (λ z. IsProper z.columns (outline_at z)) (sym o.1) proper;
  columns = ap (λ z. z.columns) o.1;
  slots = ap (λ z. length z.slots) o.1;
}

pub new_proper : (f : Layout) (c : ℕ) → f.columns ≡ c → outline_at f ≡ universal c → IsProper c (universal c) → IsProper f.columns (outline_at f)
new_proper f c e t p = subst (λ n. IsProper n (outline_at f)) (sym e) (subst (λ z. IsProper c z) (sym t) p)
