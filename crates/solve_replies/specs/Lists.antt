-- The first valid orders of a matrix, and the text that lists them.
use Rattle.std.specs.Prelude.{◌≡◌, ◌⊎◌, ◌↔◌, ℕ, Bool, true, false, List, [], ◌∷◌, ◌++◌, length, flat_map, codes, IsTrue}
use Rattle.std.specs.Fmt.{decimal}
use Rattle.column_order.specs.Orders.{IsValidOrder, HasValidOrder}
use Rattle.row_model.specs.Rows.{RowList}
use Rattle.row_model.specs.declared.kind.Kind.{Kind}
use Rattle.order_list.specs.First.{AreFirst, HasOther}
use Rattle.verdict_text.specs.Text.{kind_line, columns_line}
use Rattle.text_parts.specs.Text.{number_word}
use Rattle.instance_model.specs.Instance.{plain}
use Rattle.verdict_replies.specs.Verdicts.{IsVerdictReply}

-- `order N1 N2` and so on
abbrev pub order_line : List ℕ → List ℕ
order_line order = codes "order" ++ (flat_map number_word order ++ 10 ∷ [])

-- `more yes` or `more no`
abbrev pub more_line : Bool → List ℕ
more_line true = codes "more yes\n"
more_line false = codes "more no\n"

-- the number of orders, and a line for each
abbrev pub orders_text : List (List ℕ) → List ℕ
orders_text orders = codes "orders " ++ (decimal (length orders) ++ (10 ∷ flat_map order_line orders))

-- The whole text: the kind and the number of columns, the orders, and whether there are others.
unfoldable pub list_text : Kind → ℕ → List (List ℕ) → Bool → List ℕ
list_text kind c orders more = codes "pq-list 1\n" ++ (kind_line kind ++ (columns_line (c ∷ []) ++ (orders_text orders ++ (more_line more ++ codes "end\n"))))

-- the text lists the first k valid orders of the matrix, and tells whether there are others
pub record IsListText (kind : Kind) (m : RowList) (k : ℕ) (text : List ℕ) : Type 0 where
  pub orders : List (List ℕ)
  pub more : Bool
  pub first : AreFirst (IsValidOrder m.columns m.rows) k orders
  pub others : IsTrue more ↔ HasOther (IsValidOrder m.columns m.rows) orders
  pub text_is : text ≡ list_text kind m.columns orders more

-- the status and the text tell the first valid orders of a matrix: where it has none, as `solve` does, and else as a
-- list
abbrev pub IsListReply : Kind → RowList → ℕ → ℕ → List ℕ → Type 0
IsListReply kind m k status text =
    ((HasValidOrder m.columns m.rows → ⊥) × (status ≡ 1) × IsVerdictReply (plain kind m) 1 text) ⊎ (HasValidOrder m.columns m.rows × (status ≡ 0) × IsListText kind m k text)
