-- One reduction, with any row over the columns.
use Rattle.std.proofs.Common.{◌≡◌, ◌⊎◌, ◌↔◌, ◌∙◌, ◌≤◌, ℕ, true, false, List, [], ◌∷◌, ◌++◌, Option, Some, None, IsTrue, refl, sym, subst, inl, inr, arith}
use Rattle.std.proofs.lemmas.Bool.{both_ways}
use Rattle.column_order.specs.Orders.{has, occurs, IsWithin, HasValidOrder}
use Rattle.column_order.proofs.Lists.{has_head}
use Rattle.row_model.specs.Graph.{HasConflict}
use Rattle.column_order.proofs.Counts.{order_has, order_once}
use Rattle.row_model.proofs.Walks.{conflict_none}
use Rattle.pq_tree.specs.Outline.{Outline, Forest, p_node, tree_and, leaves}
use Rattle.pq_tree.specs.Proper.{IsProper, IsTree}
use Rattle.pq_tree.specs.Forests.{count}
use Rattle.pq_tree.specs.Nodes.{holds, IsPertinentRoot, pertinent_root}
use Rattle.pq_tree.proofs.Frontiers.{leaves_are_frontier}
use Rattle.tree_theory.specs.Tied.{IsTied}
use Rattle.tree_theory.proofs.Bridge.{tied_more}
use Rattle.tree_theory.proofs.Exact.{tied_law}
use Rattle.tree_theory.proofs.Turn.{turned_law}
use Rattle.tree_theory.specs.Templates.{Label, IsP2, IsP4}
use Rattle.tree_theory.specs.Reduced.{AreLabels, IsReduced, no_column, by_template}
use Rattle.tree_theory.specs.Refused.{IsRefused}
use Rattle.tree_theory.proofs.Arities.{made_arities, p2_full, p4_full}
use Rattle.tree_theory.proofs.AtRoot.{Rooted}
use Rattle.tree_theory.proofs.Preserved.{rooted_tied}
use Rattle.tree_theory.specs.Outcomes.{IsRootFound}
use Rattle.tree_theory.proofs.NoOrder.{refused_conflict}
use Rattle.tree_theory.proofs.Finding.{root_decided, replaced_at}
use Rattle.pq_tree.proofs.Turnings.{equivalent_refl}
use Rattle.pq_tree.proofs.Nodes.{holds_from, pertinent_root_is}
use Rattle.pq_tree.proofs.Equivalent.{tree_from_proper}
use Rattle.tree_theory.proofs.Sound.{node_tree, labels_sound, lowest_root_p, made_rooted}
use Rattle.pq_tree.specs.Equivalent.{IsEquivalent}

-- an empty row
empty_tied : (c : ℕ) (rows : List (List ℕ)) (row : List ℕ) (t : Outline) → row ≡ [] → IsProper c t → IsTied c rows t → IsTied c (rows ++ row ∷ []) t
empty_tied c rows row t e w k =
    subst (λ r. IsTied c (rows ++ r ∷ []) t) (sym e)
    (tied_more c rows [] t t w.1 k (λ a h. absurd (both_ways false refl h)) (λ a. refl) (λ R eq b n. b)
    (λ R eq b. (b, λ a d e i j m n. absurd (both_ways false refl i))))

pub row_in : (c : ℕ) (row : List ℕ) (t : Outline) → IsProper c t → IsWithin c row → (a : ℕ) → IsTrue (has row a) → IsTrue (has (leaves t) a)
row_in c row t w within a h = order_has c (leaves t) w.1 a (within a h).0 (within a h).1

pub row_held : (c : ℕ) (row : List ℕ) (t : Outline) → IsProper c t → IsWithin c row → IsTrue (holds row t)
row_held c row t w within = holds_from row t (row_in c row t w within)

turned_kept : (c : ℕ) (rows : List (List ℕ)) (t u : Outline) → IsEquivalent t u → IsProper c t → IsTied c rows t → IsProper c u × IsTied c rows u
turned_kept c rows t u h w k = let same = turned_law c rows t u h in (same.0.0 w, same.1.0 k)

-- A tree reduced by a row is proper and tied to one row more.
pub kept : (c : ℕ) (rows : List (List ℕ)) (row : List ℕ) (t u : Outline) → IsProper c t → IsTied c rows t → IsWithin c row → IsReduced row t u →
    IsProper c u × IsTied c (rows ++ row ∷ []) u
kept c rows row t u w k within (no_column e h) = turned_kept c (rows ++ row ∷ []) t u h w (empty_tied c rows row t e w k)
kept c rows row t u w k within (by_template x y v l m r h) =
    let once : (a : ℕ) → occurs (leaves t) a ≤ 1 = order_once c (leaves t) w.1 in
    let new : Rooted row t v = made_rooted row x y t v w.0 once (l.whole, l.smallest) m r in
    turned_kept c (rows ++ row ∷ []) v u h (made_arities row x y t v w.0 once (l.whole, l.smallest) m r, λ a. new.same a ∙ w.1 a)
    (rooted_tied c rows row t v w.1 k (row_in c row t w within) new)

-- A tree is reduced, or no template fits.
pub decided : (c : ℕ) (row : List ℕ) (t : Outline) → IsProper c t → IsWithin c row → ((u : Outline) × IsReduced row t u) ⊎ IsRefused row t
decided c [] t w within = inl (t, no_column refl (equivalent_refl t))
decided c (d ∷ row) t w within =
    let r : IsPertinentRoot (d ∷ row) t (pertinent_root (d ∷ row) t) = pertinent_root_is (d ∷ row) t (row_held c (d ∷ row) t w within) in
    let k = root_decided (d ∷ row) d (pertinent_root (d ∷ row) t) (has_head d row) (node_tree _ t r.node (tree_from_proper c t w)) (r.whole, r.smallest) in
    at_root_of r k.0 k.1
  where
    at_root_of : {x : Outline} → IsPertinentRoot (d ∷ row) t x → (o : Option Outline) → IsRootFound (d ∷ row) x o → ((u : Outline) × IsReduced (d ∷ row) t u) ⊎ IsRefused (d ∷ row) t
    at_root_of {x = x} r (Some y) h = let v = replaced_at x y t r.node in inl (v.0, by_template x y v.0 r h v.1 (equivalent_refl v.0))
    at_root_of {x = x} r None h = inr (x, r, h)

pub reduce_refused : (c : ℕ) (rows : List (List ℕ)) (row : List ℕ) (t : Outline) → IsProper c t → IsTied c rows t → IsWithin c row → IsRefused row t → HasConflict c (rows ++ row ∷ [])
reduce_refused c rows row t w k within h = refused_conflict c rows row t w k (row_in c row t w within) h

-- A reduced tree exists exactly where the rows with this one have a valid order.
pub exists : (c : ℕ) (rows : List (List ℕ)) (row : List ℕ) (t : Outline) → IsProper c t → IsTied c rows t → IsWithin c row →
    ((u : Outline) × IsReduced row t u) ↔ HasValidOrder c (rows ++ row ∷ [])
exists c rows row t w k within = (
  λ r. let n : IsProper c r.0 × IsTied c (rows ++ row ∷ []) r.0 = kept c rows row t r.0 w k within r.1 in
      (leaves r.0, (tied_law c (rows ++ row ∷ []) r.0 n.0.1 n.1 (leaves r.0)).0 (leaves_are_frontier r.0)),
  λ o. elim (decided c row t w within) [
    | inl r ↦ r
    | inr x ↦ absurd (conflict_none c (rows ++ row ∷ []) (reduce_refused c rows row t w k within x) o)
  ],
)

-- full children at the pertinent root
pub p2_second : (row : List ℕ) (t u : Outline) (ts : Forest) (ps : List Label) → IsTree t → IsPertinentRoot row t (p_node ts) → AreLabels row ts ps → (x : IsP2 true ts ps u) → 2 ≤ count (tree_and x.f x.fs)
p2_second row t u ts ps c r l x =
    let n : IsTree (p_node ts) = node_tree (p_node ts) t r.node c in
    omega (arith, p2_full row ts ps u (labels_sound row ts ps n.0.1 n.1 l) (lowest_root_p row ts (r.whole, r.smallest)) x)

pub p4_one : (row : List ℕ) (t u : Outline) (ts : Forest) (ps : List Label) → IsTree t → IsPertinentRoot row t (p_node ts) → AreLabels row ts ps → (x : IsP4 true ts ps u) → 1 ≤ count x.fs
p4_one row t u ts ps c r l x =
    let n : IsTree (p_node ts) = node_tree (p_node ts) t r.node c in
    p4_full row ts ps u (labels_sound row ts ps n.0.1 n.1 l) (lowest_root_p row ts (r.whole, r.smallest)) x
