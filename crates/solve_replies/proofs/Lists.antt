-- The first orders among those of a set are the first of the same set in other words.
use Rattle.std.proofs.Common.{◌≡◌, ◌∙◌, ◌↔◌, ◌+◌, ◌-◌, ℕ, Bool, List, [], ◌∷◌, ◌++◌, take, flat_map, slice_get, Some, IsTrue, codes, sym, ap, inl, inr, append_assoc, append-nil}
use Rattle.std.specs.Fmt.{decimal}
use Rattle.std.proofs.lemmas.Grind.{flat_map-append}
use Rattle.std.proofs.lemmas.List.Elements.{All-weaker}
use Rattle.row_model.proofs.Pushed.{take_next}
use Rattle.row_model.specs.Rows.{RowList}
use Rattle.row_model.specs.declared.kind.Kind.{Kind}
use Rattle.pq_tree.specs.Outline.{IsFrontier}
use Rattle.pq_tree.specs.PqTree.{column_count, outline}
use Rattle.pq_tree.specs.declared.PqTree.{PqTree}
use Rattle.order_list.specs.First.{AreFirst, HasOther}
use Rattle.column_order.specs.Orders.{IsValidOrder}
use Rattle.c1p_solve.specs.Answers.{HasAllOrders}
use Rattle.verdict_text.specs.Text.{kind_line, columns_line}
use Rattle.solve_replies.specs.Lists.{orders_text, more_line, list_text, IsListText}

pub first_same : (S T : List ℕ → Type 0) (k : ℕ) (orders : List (List ℕ)) → ((o : List ℕ) → S o ↔ T o) → AreFirst S k orders → AreFirst T k orders
first_same S T k orders same f =
    record {
      members = All-weaker S T (λ o s. (same o).0 s) orders f.members;
      rising = f.rising;
      first = λ o t. f.first o ((same o).1 t);
      number = elim f.number [ inl e ↦ inl e | inr l ↦ inr (l.0, λ o t. l.1 o ((same o).1 t)) ];
    }

pub others_same : (S T : List ℕ → Type 0) (orders : List (List ℕ)) (more : Bool) → ((o : List ℕ) → S o ↔ T o) → IsTrue more ↔ HasOther S orders → IsTrue more ↔ HasOther T orders
others_same S T orders more same h = (
  λ t. let o = h.0 t in (o.0, (same o.0).0 o.1, o.2),
  λ o. h.1 (o.0, (same o.0).1 o.1, o.2),
)

-- the lines of the orders, one order more
pub orders_next : (f : List ℕ → List ℕ) (orders : List (List ℕ)) (i : ℕ) (o start now next : List ℕ) → slice_get orders (i + 1 - 1) ≡ Some o → now ≡ start ++ flat_map f (take i orders) → next ≡ now ++ f o →
    next ≡ start ++ flat_map f (take (i + 1) orders)
orders_next f orders i o start now next at so is =
    is ∙ ap (λ t. t ++ f o) so ∙ append_assoc start (flat_map f (take i orders)) (f o) ∙
    ap (λ t. start ++ t)
    (ap (λ t. flat_map f (take i orders) ++ t) (sym (append-nil (f o))) ∙ sym (flat_map-append f (take i orders) (o ∷ [])) ∙ ap (flat_map f) (take_next orders i o at))

-- the number of orders, and their lines
pub orders_told : (old t0 t1 t2 t3 lines : List ℕ) (n k : ℕ) → t0 ≡ old ++ codes "orders " → t1 ≡ t0 ++ decimal k → t2 ≡ t1 ++ 10 ∷ [] → t3 ≡ t2 ++ lines → k ≡ n → t3 ≡ old ++ (codes "orders " ++ (decimal n ++ (10 ∷ lines)))
orders_told old t0 t1 t2 t3 lines n k e0 e1 e2 e3 same =
    e3 ∙ ap (λ t. t ++ lines) (e2 ∙ ap (λ t. t ++ 10 ∷ []) (e1 ∙ ap (λ t. t ++ decimal k) e0 ∙ ap (λ j. (old ++ codes "orders ") ++ decimal j) same)) ∙
    append_assoc ((old ++ codes "orders ") ++ decimal n) (10 ∷ []) lines ∙ append_assoc (old ++ codes "orders ") (decimal n) (10 ∷ lines) ∙ append_assoc old (codes "orders ") (decimal n ++ (10 ∷ lines))

regrouped : (s a k l o m : List ℕ) → (((s ++ a) ++ (k ++ l)) ++ o) ++ m ≡ s ++ (a ++ (k ++ (l ++ (o ++ m))))
regrouped s a k l o m = simp append_assoc

-- the text of a list, piece by piece
pub list_told : (kind : Kind) (c : ℕ) (orders : List (List ℕ)) (more : Bool) (t0 t1 t2 t3 t4 : List ℕ) → t1 ≡ t0 ++ codes "pq-list 1\n" → t2 ≡ t1 ++ (kind_line kind ++ columns_line (c ∷ [])) →
    t3 ≡ t2 ++ orders_text orders → t4 ≡ t3 ++ (more_line more ++ codes "end\n") → t4 ≡ t0 ++ list_text kind c orders more
unfolding list_text
list_told kind c orders more t0 t1 t2 t3 t4 e1 e2 e3 e4 =
    e4 ∙
    ap (λ t. t ++ (more_line more ++ codes "end\n")) (e3 ∙ ap (λ t. t ++ orders_text orders) (e2 ∙ ap (λ t. t ++ (kind_line kind ++ columns_line (c ∷ []))) e1)) ∙
    regrouped t0 (codes "pq-list 1\n") (kind_line kind) (columns_line (c ∷ [])) (orders_text orders) (more_line more ++ codes "end\n")

-- a list of the frontiers of the tree of all valid orders
pub frontiers_listed : (kind : Kind) (k : ℕ) (t : PqTree) (orders : List (List ℕ)) (more : Bool) (c : ℕ) (text : List ℕ) → AreFirst (IsFrontier (outline t)) k orders → IsTrue more ↔ HasOther (IsFrontier (outline t)) orders →
    c ≡ column_count t → text ≡ list_text kind c orders more → (m : RowList) → HasAllOrders m t → IsListText kind m k text
frontiers_listed kind k t orders more c text first others columns is m all =
    record {
      orders = orders;
      more = more;
      first = first_same (IsFrontier (outline t)) (IsValidOrder m.columns m.rows) k orders all.orders first;
      others = others_same (IsFrontier (outline t)) (IsValidOrder m.columns m.rows) orders more all.orders others;
      text_is = is ∙ ap (λ n. list_text kind n orders more) (columns ∙ all.columns);
    }
