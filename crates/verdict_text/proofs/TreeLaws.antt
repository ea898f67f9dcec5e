-- The tree on a line.
use Rattle.std.proofs.Common.{◌≡◌, ◌≢◌, ◌∙◌, ◌≤◌, ℕ, List, take, drop, Some, None, refl, sym, ap, arith, subst}
use Rattle.std.specs.Prelude.{option_and_then}
use Rattle.column_order.specs.declared.TheConstants.{COLUMN_BOUND}
use Rattle.pq_tree.specs.Outline.{Outline}
use Rattle.pq_tree.specs.Proper.{IsProper}
use Rattle.pq_tree.specs.PqTree.{outline, column_count}
use Rattle.pq_tree.specs.Text.{tree_text}
use Rattle.pq_tree.specs.Reading.{tree_of}
use Rattle.pq_tree.specs.declared.PqTree.{PqTree}
use Rattle.pq_tree.proofs.Found.{tree_of_found}
use Rattle.pq_tree.proofs.Again.{tree_of_proper}
use Rattle.verdict_text.specs.Reading.{tree_at, line_len, with_bytes}

pub tree_read : (c : ℕ) (t : PqTree) (bytes : List ℕ) → c ≤ COLUMN_BOUND → column_count t ≡ c → take (line_len bytes) bytes ≡ tree_text (outline t) → tree_at c bytes ≡ Some (outline t, drop (line_len bytes) bytes)
unfolding tree_at
tree_read c t bytes small e text =
    let proper : IsProper c (outline t) = subst (λ k. IsProper k (outline t)) e t.proper in
    ap (option_and_then (with_bytes (drop (line_len bytes) bytes))) (ap (tree_of c) text ∙ tree_of_proper c (outline t) (omega arith) proper)

pub tree_unread : (c : ℕ) (bytes : List ℕ) → c ≤ COLUMN_BOUND → ((t : Outline) → IsProper c t → take (line_len bytes) bytes ≢ tree_text t) → tree_at c bytes ≡ None
unfolding tree_at
tree_unread c bytes small h =
    (elim (tree_of c (take (line_len bytes) bytes)) as (λ o. tree_of c (take (line_len bytes) bytes) ≡ o → option_and_then (with_bytes (drop (line_len bytes) bytes)) o ≡ None) [
      | Some t ↦ λ e. let f = tree_of_found c (take (line_len bytes) bytes) t (omega arith) e in absurd (h t f.proper (sym f.text))
      | None ↦ λ e. refl
    ]) refl
