-- One turn of the loop that chooses the templates.
use Rattle.std.proofs.Common.{◌≡◌, ℕ, ◌<◌, List, length, slice_index_or, sym, ap, subst, ◌∙◌, arith}
use Rattle.arena_model.specs.Layout.{Layout}
use Rattle.pq_arena.specs.declared.node.NodeId.{NodeId}
use Rattle.pq_arena.specs.RowNodes.{indices}
use Rattle.bubble_pass.specs.Marks.{Marks}
use Rattle.bubble_pass.specs.Pass.{node_in}
use Rattle.template_model.specs.Standing.{IsReady}
use Rattle.row_reduce.proofs.Loops.{indices_long, node_at}

pub items_long : (v : Marks) (xs : List NodeId) → indices xs ≡ v.nodes → length xs ≡ length v.nodes
items_long v xs e = sym (indices_long xs) ∙ ap length e

pub few_items : (v : Marks) (xs : List NodeId) (i : ℕ) → indices xs ≡ v.nodes → i < length xs → i < length v.nodes
few_items v xs i e l = omega (arith, items_long v xs e)

pub item_at : (v : Marks) (xs : List NodeId) (i : ℕ) → indices xs ≡ v.nodes → i < length xs → (slice_index_or xs i (record { index = 0 })).index ≡ node_in v i
item_at v xs i e l = node_at xs v i (record { index = 0 }) e (few_items v xs i e l)

pub item_ready : (f : Layout) (v : Marks) (xs : List NodeId) (i : ℕ) → indices xs ≡ v.nodes → i < length xs → ((j : ℕ) → j < length v.nodes → IsReady f v (node_in v j)) →
    IsReady f v (slice_index_or xs i (record { index = 0 })).index
item_ready f v xs i e l ready = subst (λ z. IsReady f v z) (sym (item_at v xs i e l)) (ready i (few_items v xs i e l))
