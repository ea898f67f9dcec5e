use Rattle.std.proofs.Common.{ℕ, ◌≤◌, inl, inr, sym, subst, arith}
use Rattle.std.proofs.lemmas.Bool.{cases_eq}
use Rattle.arena_model.specs.NamedTree.{outline_at}
use Rattle.pq_tree.specs.Proper.{IsProper, universal}
use Rattle.pq_tree.proofs.Universal.{whole_one, whole_all, universal_many}
use Rattle.arena_tests.proofs.tests.universal.universal_tree.Goals as goal

proper_universal : (c : ℕ) → 1 ≤ c → IsProper c (universal c)
proper_universal c l = elim (cases_eq c 1) [
  | inl e ↦ subst (λ z. IsProper z (universal z)) (sym e) whole_one
  | inr ne ↦ subst (λ t. IsProper c t) (sym (universal_many c (omega arith))) (whole_all c (omega arith))
]

pub to_tree-requires : goal.to_tree-requires
to_tree-requires c =
    subst (λ k. IsProper k (outline_at c.in_ok-arena.arena)) (sym c.in_ok-arena.ensures.columns)
    (subst (λ t. IsProper c.args.c t) (sym c.in_ok-arena.ensures.tree) (proper_universal c.args.c c.requires.from))
