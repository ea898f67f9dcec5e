-- One step after another at the same node.
use Rattle.std.proofs.Common.{◌≡◌, inl, inr, ℕ, cond, Some, sym, ap, ◌∙◌, eq-eqb}
use Rattle.std.proofs.lemmas.Bool.{cases_eq, ne_eqb}
use Rattle.std.specs.Prelude.{if◌then◌else◌, ◌==◌}
use Rattle.arena_model.specs.declared.Shape.TheVariants.{Leaf}
use Rattle.arena_model.specs.ChildLists.{with_replaced}
use Rattle.arena_model.specs.Layout.{Layout, shape_at, children_at, IsLayout}
use Rattle.bubble_pass.specs.Marks.{Marks}
use Rattle.template_model.specs.Treated.{IsOutside, IsTreated}
use Rattle.template_model.proofs.Replaced.{replaced_self}
use Rattle.templates_p.proofs.Remarked.{leaf_before}

module _ (f g h : Layout) (u v w : Marks) (n b : ℕ) (lf : IsLayout f) (lg : IsLayout g) (lh : IsLayout h) (s : IsTreated f g u v n n) (t : IsTreated g h v w n b) where
  outside_still : (m : ℕ) → IsOutside f n m → IsOutside g n m
  outside_still m out = (λ e. out.0 (sym (s.arena.outside m out).0 ∙ e), λ l. s.arena.apart m out l)

  root_same : g.root ≡ f.root
  root_same = s.arena.root ∙ elim (cases_eq f.root n) [
    | inl e ↦ ap (λ c. cond c n f.root) (eq-eqb f.root n e) ∙ sym e
    | inr ne ↦ ap (λ c. cond c n f.root) (ne_eqb f.root n ne)
  ]

  leaf_still : (x c : ℕ) → shape_at f x ≡ Some (Leaf c) → shape_at g x ≡ Some (Leaf c)
  leaf_still x c e = leaf_before g f x c lg lf (sym s.arena.columns) e

  pub composed : IsTreated f h u w n b
  composed = record {
    arena = record {
      columns = t.arena.columns ∙ s.arena.columns;
      one = t.arena.one;
      two = t.arena.two;
      used = t.arena.used;
      root = t.arena.root ∙ ap (λ r. if r == n then b else r) root_same;
      outside = λ m out. let p = t.arena.outside m (outside_still m out) in let q = s.arena.outside m out in
          (p.0 ∙ q.0, p.1 ∙ ap (λ xs. with_replaced xs n b) (q.1 ∙ replaced_self (children_at f m) n));
      apart = λ m out. t.arena.apart m (outside_still m out);
      leaves = λ x c e. let p = s.arena.leaves x c e in let q = t.arena.leaves x c (leaf_still x c e) in (λ l. q.0 (p.0 l), λ l. p.1 (q.1 l));
    };
    marks = record {
      room = t.marks.room ∙ s.marks.room;
      nodes = t.marks.nodes ∙ s.marks.nodes;
      inside = t.marks.inside ∙ s.marks.inside;
      label = t.marks.label ∙ s.marks.label;
      outside = λ m out. t.marks.outside m (outside_still m out) ∙ s.marks.outside m out;
      chains = λ m out r. t.marks.chains m (outside_still m out) (s.marks.chains m out r);
      right = λ row lv r. t.marks.right row (λ x o. let c = lv x o in (c.0, leaf_still x c.0 c.1)) (s.marks.right row lv r);
    };
  }
