-- The steps of the parser.
use Rattle.std.proofs.Common.{◌≡◌, ◌≢◌, ◌∙◌, ◌+◌, ◌<◌, ◌≤◌, ℕ, zero, suc, Bool, true, false, not, ◌||◌, ◌&&◌, eqb, List, [], ◌∷◌, ◌++◌, length, map, reverse, get_or, set, Some, refl, sym, ap, inl, inr, arith, get_or-set_same, get_or-set_other, eq-eqb}
use Rattle.std.proofs.lemmas.Bool.{cases_eq, ne_eqb, le-leb, and_right}
use Rattle.std.proofs.lemmas.List.{map-append, append_assoc, append-nil, reverse-append, length-map, length-append}
use Rattle.std.proofs.Math.ListN.{length-set}
use Rattle.std.proofs.Math.Bool.{or-true, or-false}
use Rattle.column_order.specs.Orders.{has}
use Rattle.column_order.proofs.Lists.{has-append}
use Rattle.pq_tree.specs.Outline.{Outline, leaf, leaves_of}
use Rattle.pq_tree.specs.Proper.{outline_of, forest}
use Rattle.pq_tree.specs.Reading.{State, used, begun_leaves, settled, settled_at, closed, covers, node_of, least_count, same_shape}
use Rattle.pq_tree.specs.Seen.{seen, begun_of, IsKept, IsMoved}
use Rattle.pq_tree.specs.declared.parse.Last.TheVariants.{Number, Child}
use Rattle.pq_tree.specs.declared.parse.OpenNode.{OpenNode}
use Rattle.pq_tree.specs.declared.parse.Parser.{Parser}
use Rattle.pq_tree.specs.declared.Tree.{Tree, Leaf}
use Rattle.pq_tree.proofs.Shown.{outline_of-Leaf, leaves_of-append}

mark_step : (marks : List Bool) (n j : ℕ) → n < length marks → get_or (set marks n true) j false ≡ (get_or marks j false || (eqb n j || false))
mark_step marks n j h =
    elim (cases_eq n j) [
      | inl e ↦
          ap (λ k. get_or (set marks n true) k false) (sym e) ∙ get_or-set_same marks n true false h
          ∙ sym (ap (λ b. get_or marks j false || (b || false)) (eq-eqb n j e) ∙ or-true (get_or marks j false))
      | inr d ↦
          let other : j ≢ n = λ e. d (sym e) in
          get_or-set_other marks n j true false other
          ∙ sym (ap (λ b. get_or marks j false || (b || false)) (ne_eqb n j d) ∙ or-false (get_or marks j false))
    ]

-- one leaf more
used_more : (before : List ℕ) (ts : List Outline) (n j : ℕ) → has (before ++ leaves_of (forest (ts ++ leaf n ∷ []))) j ≡ (has (before ++ leaves_of (forest ts)) j || (eqb n j || false))
used_more before ts n j =
    ap (λ xs. has (before ++ xs) j) (leaves_of-append ts (leaf n ∷ []))
    ∙ ap (λ xs. has xs j) (sym (append_assoc before (leaves_of (forest ts)) (n ∷ [])))
    ∙ has-append (before ++ leaves_of (forest ts)) (n ∷ []) j

pub settled_number : (s : State) (n : ℕ) → s.last ≡ Number n → has (used s) n ≡ false →
    settled s ≡ Some (record { last = Child; children = s.children ++ leaf n ∷ []; open_nodes = s.open_nodes })
settled_number s n e f = ap (λ l. settled_at l s) e ∙ rw f refl

map_leaf : (ts new : List Tree) (n : ℕ) → new ≡ ts ++ Leaf n ∷ [] → map outline_of new ≡ map outline_of ts ++ leaf n ∷ []
map_leaf ts new n e = rw (e, map-append outline_of ts (Leaf n ∷ []), outline_of-Leaf n) refl

pub moved_number : (a b : Parser) (n : ℕ) → IsKept a → a.last ≡ Number n → get_or a.marks.items n false ≡ false → b.columns ≡ a.columns → b.last ≡ Child
    → b.children.items ≡ a.children.items ++ Leaf n ∷ [] → b.open_nodes ≡ a.open_nodes → b.marks.items ≡ set a.marks.items n true → n < length a.marks.items → IsMoved a b (settled (seen a))
unfolding seen
moved_number a b n k is free same l more nodes marks inside =
    let now : map outline_of b.children.items ≡ map outline_of a.children.items ++ leaf n ∷ [] = map_leaf a.children.items b.children.items n more in
    let unused : has (used (seen a)) n ≡ false = sym (k.marked n (omega (arith, k.long))) ∙ free in
    record {
      kept = record {
        small = omega (arith, k.small);
        long = rw (marks, length-set, same) k.long;
        marked = λ j h.
            ap (λ ms. get_or ms j false) marks ∙ mark_step a.marks.items n j inside ∙ ap (λ v. v || (eqb n j || false)) (k.marked j (rw (← same) h))
            ∙ sym (rw (now, nodes) (used_more (begun_leaves (seen a).open_nodes) (seen a).children n j));
        within = rw l tt;
        few = rw (ap (λ v. length v.items) nodes, same) k.few;
      };
      columns = same;
      seen_is = settled_number (seen a) n is unused ∙ rw (l, now, nodes) refl;
    }

closed_leaves : (round : Bool) (ts : List Outline) → leaves_of (forest (node_of round ts ∷ [])) ≡ leaves_of (forest ts)
closed_leaves true ts = append-nil (leaves_of (forest ts))
closed_leaves false ts = append-nil (leaves_of (forest ts))

-- a node that closes uses what it did
pub closed_used : (before : List ℕ) (us ts : List Outline) (round : Bool) → before ++ leaves_of (forest (us ++ node_of round ts ∷ [])) ≡ (before ++ leaves_of (forest us)) ++ leaves_of (forest ts)
closed_used before us ts round =
    ap (λ xs. before ++ xs) (leaves_of-append us (node_of round ts ∷ []) ∙ ap (λ xs. leaves_of (forest us) ++ xs) (closed_leaves round ts))
    ∙ sym (append_assoc before (leaves_of (forest us)) (leaves_of (forest ts)))

open_more : (nodes rest : List OpenNode) (node : OpenNode) → nodes ≡ rest ++ node ∷ [] → reverse (map begun_of nodes) ≡ begun_of node ∷ reverse (map begun_of rest)
open_more nodes rest node e =
    ap (λ x. reverse (map begun_of x)) e ∙ ap reverse (map-append begun_of rest (node ∷ [])) ∙ reverse-append (map begun_of rest) (begun_of node ∷ [])

pub moved_closed : (a b : Parser) (node : OpenNode) (round : Bool) (rest : List OpenNode) (made : Tree) → IsKept a → b.columns ≡ a.columns → b.last ≡ Child → b.marks ≡ a.marks
    → a.open_nodes.items ≡ rest ++ node ∷ [] → b.open_nodes.items ≡ rest → b.children.items ≡ node.before.items ++ made ∷ []
    → outline_of made ≡ node_of round (map outline_of a.children.items) → same_shape round node.round ≡ true → least_count round ≤ length a.children.items
    → IsMoved a b (closed round (seen a))
unfolding seen begun_of
moved_closed a b node round rest made k same l marks nodes left trees plan shape enough =
    let now : map outline_of b.children.items ≡ map outline_of node.before.items ++ node_of round (map outline_of a.children.items) ∷ [] =
    ap (map outline_of) trees ∙ map-append outline_of node.before.items (made ∷ []) ∙ ap (λ t. map outline_of node.before.items ++ t ∷ []) plan in
    let outer : reverse (map begun_of a.open_nodes.items) ≡ begun_of node ∷ reverse (map begun_of rest) = open_more a.open_nodes.items rest node nodes in
    record {
      kept = record {
        small = omega (arith, k.small);
        long = rw (marks, same) k.long;
        marked = λ j h.
            ap (λ ms. get_or ms.items j false) marks ∙ k.marked j (rw (← same) h)
            ∙ ap (λ xs. has xs j) (ap (λ ns. begun_leaves ns ++ leaves_of (forest (map outline_of a.children.items))) outer
            ∙ sym (rw (now, left) (closed_used (begun_leaves (reverse (map begun_of rest))) (map outline_of node.before.items) (map outline_of a.children.items) round)));
        within = rw l tt;
        few = rw (left, same) (omega (arith, k.few, ap length nodes, length-append rest (node ∷ [])));
      };
      columns = same;
      seen_is = rw (outer, l, now, left, shape, length-map, le-leb (least_count round) (length a.children.items) enough) refl;
    }

pub same_from : (a b : Bool) → b ≡ a → same_shape a b ≡ true
same_from true b e = e
same_from false b e = ap not e

-- a column of 1 to c that is not used
pub uncovered : (c i : ℕ) (xs : List ℕ) → i < c → has xs (i + 1) ≡ false → covers c xs ≡ false
uncovered zero i xs l f = absurd (omega arith)
uncovered (suc c) i xs l f =
    elim (cases_eq i c) [
      | inl e ↦ let g : has xs (suc c) ≡ false = ap (λ k. has xs k) (omega arith) ∙ f in ap (λ b. b && covers c xs) g
      | inr d ↦ and_right (has xs (suc c)) (covers c xs) (uncovered c i xs (omega arith) f)
    ]
