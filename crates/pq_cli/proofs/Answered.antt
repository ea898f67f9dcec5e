-- What is promised of a reply says what its status answers.
use Rattle.std.proofs.Common.{◌≡◌, ◌↔◌, ◌⊎◌, ℕ, List, [], ◌∷◌, inl, inr, arith}
use Rattle.column_order.specs.Orders.{HasValidOrder}
use Rattle.row_model.specs.Rows.{RowList}
use Rattle.row_model.specs.declared.kind.Kind.{Kind}
use Rattle.instance_model.specs.Instance.{plain, HasTextbookOrder}
use Rattle.tree_meet.specs.Meets.{IsCommon}
use Rattle.command_input.specs.Words.{Command, Solve, Check, Extend, Gen, Meet, ListOrders, UnitModel, CheckUnit, Core, CheckCore}
use Rattle.solve_replies.specs.Models.{HasUnitModel}
use Rattle.pq_cli.specs.Promised.{IsPromised, PromiseLaw}
use Rattle.pq_cli.specs.Answer.{IsAnswer, AnswerLaw}

-- the status is 0 exactly where something is the case, or 1 exactly where it is
zero_where : (status : ℕ) (P : Type 0) → ((status ≡ 0) × P) ⊎ ((status ≡ 1) × (P → ⊥)) → (status ≡ 0) ↔ P
zero_where status P (inl holds) = (λ _. holds.1, λ _. holds.0)
zero_where status P (inr none) = (λ e. absurd (omega (arith, e, none.0)), λ holds. absurd (none.1 holds))

one_where : (status : ℕ) (P : Type 0) → ((status ≡ 0) × (P → ⊥)) ⊎ ((status ≡ 1) × P) → (status ≡ 1) ↔ P
one_where status P (inl none) = (λ e. absurd (omega (arith, e, none.0)), λ holds. absurd (none.1 holds))
one_where status P (inr holds) = (λ _. holds.1, λ _. holds.0)

-- a matrix has a textbook order where it has a valid order
order_of : (kind : Kind) (m : RowList) → HasTextbookOrder (plain kind m) → HasValidOrder m.columns m.rows
order_of kind m has = has 1 (omega arith, omega arith)

textbook_of : (kind : Kind) (m : RowList) → HasValidOrder m.columns m.rows → HasTextbookOrder (plain kind m)
textbook_of kind m order s inside = order

answered : (command : Command) (files : List (List ℕ)) (status : ℕ) (text : List ℕ) → IsPromised command files status text → IsAnswer command files status
answered (Solve kind _) (bytes ∷ []) status text promise =
    (promise.0, promise.1, zero_where status (HasTextbookOrder promise.0) (elim promise.2 [ inl holds ↦ inl (holds.0, holds.1.exists) | inr none ↦ inr (none.0, none.1.none) ]))
answered (Check kind _ _) (bytes ∷ given ∷ []) status text promise = (promise.0, promise.1, promise.2.believes)
answered (Extend kind _ _) (bytes ∷ given ∷ []) status text promise =
    let m = promise.0 in
    (m, promise.2, zero_where status (HasValidOrder m.columns m.rows) (elim promise.4 [ inl holds ↦ inl (holds.0, holds.1) | inr none ↦ inr (none.0, λ order. none.1.none (textbook_of kind m order)) ]))
answered (Core kind _) (bytes ∷ []) status text promise =
    let m = promise.0 in
    (m, promise.1, one_where status (HasValidOrder m.columns m.rows) (elim promise.2 [ inl none ↦ inl (none.0, none.1) | inr holds ↦ inr (holds.0, order_of kind m holds.1.exists) ]))
answered (CheckCore kind _ _) (bytes ∷ given ∷ []) status text promise = (promise.0, promise.1, promise.2.believes)
answered (Gen seed columns rows) [] status text promise = promise.0
answered (Meet c _ _) (first ∷ second ∷ []) status text promise =
    let t = promise.0 in
    let u = promise.1 in
    (t, u, promise.2, promise.3, zero_where status ((o : List ℕ) × IsCommon t u o) (elim promise.4 [ inl holds ↦ inl (holds.0, holds.1.some) | inr none ↦ inr (none.0, λ some. none.1.none some.0 some.1) ]))
answered (ListOrders kind _ count) (bytes ∷ []) status text promise =
    let m = promise.0 in
    (m, promise.1, zero_where status (HasValidOrder m.columns m.rows) (elim promise.2 [ inl holds ↦ inl (holds.0, holds.1) | inr none ↦ inr (none.0, λ order. none.1.none (textbook_of kind m order)) ]))
answered (UnitModel _) (bytes ∷ []) status text promise =
    let g = promise.0 in
    (g, promise.1, zero_where status (HasUnitModel g) (elim promise.2 [ inl holds ↦ inl (holds.0, (holds.1.0.size, holds.1.0.lefts, holds.1.3.1)) | inr none ↦ inr (none.0, none.1) ]))
answered (CheckUnit _ _) (bytes ∷ given ∷ []) status text promise = (promise.0, promise.1, promise.2.believes)
answered command files status text promise = absurd promise

pub answer_law : PromiseLaw → AnswerLaw
answer_law promise command files status text reply = answered command files status text (promise command files status text reply)
