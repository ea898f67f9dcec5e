-- Two children, by what a node holds.
use Rattle.std.proofs.Common.{◌≡◌, ◌≢◌, ◌⊎◌, inl, inr, ℕ, ◌≤◌, leb, not, nat_eq, true, false, List, [], ◌∷◌, length, Some, IsTrue, refl, sym, ap, subst, ◌∙◌, arith, eq-eqb, leb-true}
use Rattle.std.proofs.lemmas.Bool.{le-leb, ne_eqb}
use Rattle.column_order.specs.Orders.{occurs}
use Rattle.arena_model.proofs.Lists.{occurs_same, occurs_last}
use Rattle.arena_model.specs.declared.Shape.{Shape}
use Rattle.arena_model.specs.declared.Shape.TheVariants.{P, Q}
use Rattle.arena_model.specs.ChildLists.{head_or, last_or, none}
use Rattle.arena_model.specs.Layout.{Layout, shape_at, children_at}
use Rattle.pq_arena.specs.declared.node.Head.{Head}
use Rattle.pq_arena.specs.declared.node.NodeKind.TheVariants.{Permuted, Directed}
use Rattle.pq_arena.specs.Arities.{HasTwo}
use Rattle.pq_arena.specs.StandsFor.{head_of}
use Rattle.pq_arena.specs.Wiring.{kind_shape}

pub two_of_count : (f : Layout) (n : ℕ) (head : Head) → ((s : Shape) → shape_at f n ≡ Some s → head ≡ head_of s (children_at f n)) → head.kind ≡ Permuted →
    IsTrue (leb 2 head.count) → (shape_at f n ≡ Some P) ⊎ (shape_at f n ≡ Some Q) → 2 ≤ length (children_at f n)
two_of_count f n head is k two (inl p) = subst (λ m. 2 ≤ m) (ap (λ (h : Head). h.count) (is P p)) (leb-true 2 head.count two)
two_of_count f n head is k two (inr q) = absurd (let z : Permuted ≡ Directed = sym k ∙ ap (λ (h : Head). h.kind) (is Q q) in cc)

ends_apart : (ks : List ℕ) → head_or ks none ≢ last_or ks none → 2 ≤ length ks
ends_apart [] ne = absurd (ne refl)
ends_apart (k ∷ []) ne = absurd (ne refl)
ends_apart (k ∷ j ∷ ks) ne = omega arith

differ : (a b : ℕ) → IsTrue (not (nat_eq a b)) → a ≢ b
differ a b t e = let z : false ≡ true = sym (ap not (eq-eqb a b e)) ∙ t in cc

pub two_of_ends : (f : Layout) (n : ℕ) (head : Head) → ((s : Shape) → shape_at f n ≡ Some s → head ≡ head_of s (children_at f n)) → head.kind ≡ Directed →
    IsTrue (not (nat_eq head.first head.last)) → (shape_at f n ≡ Some P) ⊎ (shape_at f n ≡ Some Q) → 2 ≤ length (children_at f n)
two_of_ends f n head is k t (inl p) = absurd (let z : Directed ≡ Permuted = sym k ∙ ap (λ (h : Head). h.kind) (is P p) in cc)
two_of_ends f n head is k t (inr q) =
    ends_apart (children_at f n) (λ e. differ head.first head.last t (ap (λ (h : Head). h.first) (is Q q) ∙ e ∙ sym (ap (λ (h : Head). h.last) (is Q q))))

-- a P-node with two children or more has that count in its head
pub count_of_two : (f : Layout) (n : ℕ) (head : Head) → ((s : Shape) → shape_at f n ≡ Some s → head ≡ head_of s (children_at f n)) → head.kind ≡ Permuted →
    kind_shape head.kind ≡ shape_at f n → HasTwo f n → IsTrue (leb 2 head.count)
count_of_two f n head is k sh two =
    let p : shape_at f n ≡ Some P = sym sh ∙ ap kind_shape k in
    le-leb 2 head.count (subst (λ m. 2 ≤ m) (sym (ap (λ (h : Head). h.count) (is P p))) (two (inl p)))

-- of two nodes or more, each of which stands once, the first is not the last
apart_ends : (ks : List ℕ) → ((x : ℕ) → occurs ks x ≤ 1) → 2 ≤ length ks → head_or ks none ≢ last_or ks none
apart_ends [] once two e = absurd (omega arith)
apart_ends (k ∷ []) once two e = absurd (omega arith)
apart_ends (k ∷ j ∷ ks) once two e =
    let l : 1 ≤ occurs (j ∷ ks) k = subst (λ x. 1 ≤ occurs (j ∷ ks) x) (sym e) (occurs_last ks j) in
    let o : occurs (k ∷ j ∷ ks) k ≤ 1 = once k in
    absurd (omega (arith, occurs_same k (j ∷ ks)))

-- a Q-node with two children or more has two ends in its head
pub ends_of_two : (f : Layout) (n : ℕ) (head : Head) → ((s : Shape) → shape_at f n ≡ Some s → head ≡ head_of s (children_at f n)) → head.kind ≡ Directed →
    kind_shape head.kind ≡ shape_at f n → ((x : ℕ) → occurs (children_at f n) x ≤ 1) → HasTwo f n → IsTrue (not (nat_eq head.first head.last))
ends_of_two f n head is k sh once two =
    let q : shape_at f n ≡ Some Q = sym sh ∙ ap kind_shape k in
    ap not (ne_eqb head.first head.last (λ e. apart_ends (children_at f n) once (two (inr q))
    (sym (ap (λ (h : Head). h.first) (is Q q)) ∙ e ∙ ap (λ (h : Head). h.last) (is Q q))))
