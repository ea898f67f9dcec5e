-- The rows behind the first.
use Rattle.std.proofs.Common.{◌≡◌, ◌∙◌, ℕ, suc, ◌-◌, ◌<◌, List, [], ◌∷◌, take, drop, get_or, length, ap, sym, subst, arith, length-drop}
use Rattle.std.proofs.lemmas.List.{take_all, get_or-drop}
use Rattle.column_order.specs.Orders.{Keeps}
use Rattle.row_model.specs.Graph.{row_at}
use Rattle.row_model.specs.Rows.{IsRow, RowList}
use Rattle.row_model.proofs.Ascending.{ascends_lower}
use Rattle.others_kept.specs.Others.{numbered, IsValidForOthers}

pub rest_is : (numbers : List ℕ) → take (length numbers - 1) (drop 1 numbers) ≡ drop 1 numbers
rest_is numbers = take_all (length numbers - 1) (drop 1 numbers) (omega (arith, length-drop 1 numbers))

behind : (n : ℕ) (numbers : List ℕ) → IsRow n numbers → IsRow n (drop 1 numbers)
behind n [] h = tt
behind n (k ∷ numbers) h = ascends_lower n 0 k numbers (omega arith) h.2

pub rest_rows : (n : ℕ) (numbers : List ℕ) → IsRow n numbers → IsRow n (take (length numbers - 1) (drop 1 numbers))
rest_rows n numbers h = subst (IsRow n) (sym (rest_is numbers)) (behind n numbers h)

pub rest_kept : (m : RowList) (numbers o : List ℕ) → IsValidForOthers m numbers 0 o → (j : ℕ) → j < length (take (length numbers - 1) (drop 1 numbers))
    → Keeps o (numbered m.rows (take (length numbers - 1) (drop 1 numbers)) j)
rest_kept m numbers o v = subst (λ xs. (j : ℕ) → j < length xs → Keeps o (numbered m.rows xs j)) (sym (rest_is numbers)) kept
  where
    kept : (j : ℕ) → j < length (drop 1 numbers) → Keeps o (numbered m.rows (drop 1 numbers) j)
    kept j l =
        let there : numbered m.rows (drop 1 numbers) j ≡ numbered m.rows numbers (suc j) = ap (row_at m.rows) (get_or-drop 1 numbers j 0 ∙ ap (λ k. get_or numbers k 0) (omega arith)) in
        subst (Keeps o) (sym there) (v.kept (suc j) (omega (arith, l, length-drop 1 numbers)) (λ e. omega (arith, e)))
