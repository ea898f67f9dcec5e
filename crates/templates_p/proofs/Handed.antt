-- The labels and the children once the only child of a node stands in its place.
use Rattle.std.proofs.Common.{◌≡◌, ◌≢◌, ◌⊎◌, inl, inr, ℕ, ◌≤◌, ◌<◌, List, [], ◌∷◌, length, set, Some, refl, sym, ap, subst, ◌∙◌, arith}
use Rattle.std.proofs.lemmas.Bool.{cases_eq}
use Rattle.std.proofs.lemmas.List.{get_or-set_other, get_or-set_same, length-set}
use Rattle.column_order.specs.Orders.{occurs}
use Rattle.arena_model.specs.declared.Shape.TheVariants.{Q}
use Rattle.arena_model.specs.ChildLists.{without}
use Rattle.arena_model.specs.Layout.{Layout, shape_at, children_at, IsLayout}
use Rattle.arena_model.proofs.Lists.{only_one}
use Rattle.arena_model.proofs.Slots.{in_range, used_by}
use Rattle.pq_arena.specs.declared.node.NodeId.{NodeId}
use Rattle.bubble_pass.specs.declared.labels.Label.{Label}
use Rattle.bubble_pass.specs.declared.labels.Label.TheVariants.{Empty}
use Rattle.bubble_pass.specs.Marks.{Marks, label_at, size_of, IsPut}
use Rattle.templates_p.specs.Lines.{IsHandedOn}
use Rattle.templates_p.specs.Parts.{AreAlike, AreMoved}
use Rattle.templates_p.proofs.Rebuilt.{Each, replaced_none}
use Rattle.templates_p.proofs.Remarked.{AreRemarked, IsJudged, exchanged}
use Rattle.templates_p.proofs.Moving.{without_kept}

-- a Q-node has a label
pub labelled_room : (f : Layout) (v : Marks) (h : ℕ) → IsLayout f → shape_at f h ≡ Some Q → size_of v ≡ length f.slots → h < length v.labels
labelled_room f v h lay is_q room = let l : h < length f.slots = in_range f h (used_by f h Q is_q) in let r : size_of v ≡ length f.slots = room in omega arith

-- the label of n was put at h, and no other
module _ (v w : Marks) (n h : ℕ) (old new : NodeId) (put : IsPut v w old new (label_at v n)) (new_is : new.index ≡ h) where
  put_label : h < length v.labels → label_at w h ≡ label_at v n
  put_label l = ap (λ ls. label_at (record w { labels = ls }) h) put.labels
      ∙ subst (λ z. label_at (record w { labels = set v.labels z (label_at v n) }) h ≡ label_at v n) (sym new_is)
      (get_or-set_same v.labels h (label_at v n) Empty l)

  other_label : (m : ℕ) → m ≢ h → label_at w m ≡ label_at v m
  other_label m ne = ap (λ ls. label_at (record w { labels = ls }) m) put.labels
      ∙ get_or-set_other v.labels new.index m (label_at v n) Empty (λ e. ne (e ∙ new_is))

put_alike : (v w : Marks) (old new : NodeId) (l : Label) → IsPut v w old new l → AreAlike v w
put_alike v w old new l put =
    record { room = ap (λ ls. length ls) put.labels ∙ length-set v.labels new.index l; nodes = put.nodes; inside = put.inside; full = put.full; partial = put.partial }

pub put_moved : (v w : Marks) (n h : NodeId) → IsPut v w n h (label_at v n.index) → h.index < length v.labels → AreMoved v w n.index h.index
put_moved v w n h put room = record {
  alike = put_alike v w n h (label_at v n.index) put;
  label = put_label v w n.index h.index n h put refl room;
  labels = λ m p q. other_label v w n.index h.index n h put refl m q;
  old = n;
  new = h;
  old_is = refl;
  new_is = refl;
  chains = put.chains;
}

-- so where n is marked as empty besides
pub moved_emptied : (v w : Marks) (n h : ℕ) → n ≢ h → AreMoved v w n h → AreMoved v (record w { labels = set w.labels n Empty }) n h
moved_emptied v w n h apart p = record {
  alike = record { room = length-set w.labels n Empty ∙ p.alike.room; nodes = p.alike.nodes; inside = p.alike.inside; full = p.alike.full; partial = p.alike.partial };
  label = get_or-set_other w.labels n h Empty Empty (λ z. apart (sym z)) ∙ p.label;
  labels = λ m a b. get_or-set_other w.labels n m Empty Empty a ∙ p.labels m a b;
  old = p.old;
  new = p.new;
  old_is = p.old_is;
  new_is = p.new_is;
  chains = p.chains;
}

-- the marks, where the layout e became g and the nodes ts were written
pub handed_remarked : (e f g : Layout) (v w : Marks) (n h : ℕ) (ts : List ℕ) → IsHandedOn f g v w n h → h < length v.labels → ((m : ℕ) → occurs ts m ≡ 0 → m ≢ h) →
    Each (IsJudged e g v w n h ts) ts → AreRemarked e g v w n h ts
handed_remarked e f g v w n h ts d room apart judged = record {
  alike = put_alike v w d.old d.new (label_at v n) d.put;
  label = put_label v w n h d.old d.new d.put d.new_is room;
  labels = λ m z. other_label v w n h d.old d.new d.put d.new_is m (apart m z);
  chains = exchanged v w n h d.old d.new d.old_is d.new_is d.put.chains;
  judged = judged;
}

-- where only h is left without c, a child is one of the two
pub only_two : (ks : List ℕ) (c h k : ℕ) → without ks c ≡ h ∷ [] → 1 ≤ occurs ks k → (k ≡ h) ⊎ (k ≡ c)
only_two ks c h k e o = elim (cases_eq k c) [
  | inl q ↦ inr q
  | inr ne ↦ inl (only_one k h (subst (λ z. 1 ≤ occurs z k) e (subst (λ z. 1 ≤ z) (sym (without_kept ks c k ne)) o)))
]

-- the children of h stay
pub handed_children : (f g : Layout) (v w : Marks) (n h : ℕ) → IsHandedOn f g v w n h → n ≢ h → occurs (children_at f h) n ≡ 0 → children_at g h ≡ children_at f h
handed_children f g v w n h d ne none = d.children h (λ e. ne (sym e)) ∙ replaced_none (children_at f h) n h none
