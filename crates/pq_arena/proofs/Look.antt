-- What the link of a node is by its place.
use Rattle.std.proofs.Common.{◌≡◌, ◌≢◌, inl, inr, ℕ, List, [], ◌∷◌, ◌++◌, Some, None, refl, sym, ap, subst, ◌∙◌}
use Rattle.arena_model.specs.declared.Shape.{Shape}
use Rattle.arena_model.specs.declared.Shape.TheVariants.{Leaf, P, Q}
use Rattle.pq_arena.specs.declared.node.Link.{Link}
use Rattle.pq_arena.specs.declared.node.Head.{Head}
use Rattle.arena_model.proofs.Lists.{head_or-append, last_or-append}
use Rattle.arena_model.specs.ChildLists.{head_or, last_or, none}
use Rattle.arena_model.specs.Layout.{Layout, shape_at, children_at, IsInUse}
use Rattle.pq_arena.proofs.Between.{chain_split, Ring, ring_turn}
use Rattle.pq_arena.specs.Looks.{node_named, shown_ends, shown_count, ShowsNode}
use Rattle.pq_arena.specs.StandsFor.{EachBetween, IsInRing, IsInRun, IsSeated, head_of, StandsFor}
use Rattle.pq_arena.specs.Wiring.{seat, link, head, kind_shape}
use Rattle.pq_arena.specs.declared.node.NodeView.{NodeView}

pub ring_seat : (ls : List Link) (hs : List Head) (root spare count columns : ℕ) (f : Layout) (p n : ℕ) (us vs : List ℕ) →
    StandsFor ls hs root spare count columns f → shape_at f p ≡ Some P → children_at f p ≡ us ++ n ∷ vs →
    link ls n ≡ seat p (head_or vs (head_or us n)) (last_or us (last_or vs n))
ring_seat ls hs root spare count columns f p n us vs h sh is =
    let ring : Ring (IsInRing ls p) (children_at f p) = subst (λ z. IsSeated ls p z (children_at f p)) sh (h.seats p) in
    let turned : Ring (IsInRing ls p) (n ∷ (vs ++ us)) = ring_turn (IsInRing ls p) us (n ∷ vs) (subst (λ z. Ring (IsInRing ls p) z) is ring) in
    turned.0 ∙ ap (λ z. seat p z (last_or (vs ++ us) n)) (head_or-append vs us n)
    ∙ ap (λ z. seat p (head_or vs (head_or us n)) z) (last_or-append vs us n)

pub run_seat : (ls : List Link) (hs : List Head) (root spare count columns : ℕ) (f : Layout) (q n : ℕ) (us vs : List ℕ) →
    StandsFor ls hs root spare count columns f → shape_at f q ≡ Some Q → children_at f q ≡ us ++ n ∷ vs →
    IsInRun ls q n (last_or us none) (head_or vs none)
run_seat ls hs root spare count columns f q n us vs h sh is =
    let run : EachBetween (IsInRun ls q) none (children_at f q) none = subst (λ z. IsSeated ls q z (children_at f q)) sh (h.seats q) in
    let parts = chain_split (IsInRun ls q) us (n ∷ vs) none none (subst (λ z. EachBetween (IsInRun ls q) none z none) is run) in
    parts.1.0

abbrev pub seen : Shape → Link → Head → NodeView
seen s l h = record {
  shape = s;
  parent = node_named l.parent;
  near = node_named l.near0 ∷ node_named l.near1 ∷ [];
  ends = node_named h.first ∷ node_named h.last ∷ [];
  children = h.count;
}

ends_seen : (s : Shape) (ks : List ℕ) → node_named (head_of s ks).first ∷ node_named (head_of s ks).last ∷ [] ≡ shown_ends s ks
ends_seen (Leaf a) ks = refl
ends_seen P ks = refl
ends_seen Q ks = refl

count_seen : (s : Shape) (ks : List ℕ) → (head_of s ks).count ≡ shown_count s ks
count_seen (Leaf a) ks = refl
count_seen P ks = refl
count_seen Q ks = refl

pub shown : (ls : List Link) (hs : List Head) (root spare count columns : ℕ) (f : Layout) (n : ℕ) (s : Shape) →
    StandsFor ls hs root spare count columns f → kind_shape (head hs n).kind ≡ Some s → ShowsNode f n (seen s (link ls n) (head hs n))
shown ls hs root spare count columns f n s h e =
    let sh : shape_at f n ≡ Some s = sym (h.shapes n) ∙ e in
    let is : head hs n ≡ head_of s (children_at f n) = h.heads_are n s sh in
    record {
      shape_is = sh;
      ends = ap (λ (z : Head). node_named z.first ∷ node_named z.last ∷ []) is ∙ ends_seen s (children_at f n);
      children = ap (λ (z : Head). z.count) is ∙ count_seen s (children_at f n);
      top = λ t. (ap (λ (l : Link). node_named l.parent) (h.tops n t), ap (λ (l : Link). node_named l.near0 ∷ node_named l.near1 ∷ []) (h.tops n t));
      ring = λ p us vs sp ks. let q = ring_seat ls hs root spare count columns f p n us vs h sp ks in
          (ap (λ (l : Link). node_named l.parent) q, ap (λ (l : Link). node_named l.near0 ∷ node_named l.near1 ∷ []) q);
      run = λ q us vs sp ks. elim (run_seat ls hs root spare count columns f q n us vs h sp ks) [
        | inl i ↦ (ap (λ (l : Link). node_named l.parent) i, inl (ap (λ (l : Link). node_named l.near0 ∷ node_named l.near1 ∷ []) i))
        | inr i ↦ (ap (λ (l : Link). node_named l.parent) i, inr (ap (λ (l : Link). node_named l.near0 ∷ node_named l.near1 ∷ []) i))
      ];
    }

pub none_shape : (ls : List Link) (hs : List Head) (root spare count columns : ℕ) (f : Layout) (n : ℕ) →
    StandsFor ls hs root spare count columns f → IsInUse f n → kind_shape (head hs n).kind ≢ None
none_shape ls hs root spare count columns f n h u e = u (sym (h.shapes n) ∙ e)
