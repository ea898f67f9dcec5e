-- Whether an order is a textbook order, by the derived matrix.
use Rattle.std.proofs.Common.{◌≡◌, ◌↔◌, ℕ, Bool, List, [], length, Result, Ok, Err, refl, sym, subst, arith}
use Rattle.std.specs.Prelude.{IfOk, IsTrue, All}
use Rattle.column_order.specs.Orders.{IsOrder, Keeps}
use Rattle.column_order.proofs.Counts.{order_length}
use Rattle.row_model.specs.Rows.{RowList}
use Rattle.circular_ones.specs.Circular.{IsCircularOrder, IsRotation, IsTurned}
use Rattle.circular_ones.specs.Laws.{RotationLaw, TurnedLaw}
use Rattle.instance_model.specs.Instance.{InstanceValue, plain, circular, convex, doubly, proper, robinson, IsSideOf, IsTextbookOrder, derived_matrix, IsWellFormed}
use Rattle.instance_model.specs.Laws.{IsValidFor, DerivedLaw}
use Rattle.instance_model.specs.Value.{instance_value}
use Rattle.instance_model.specs.declared.instance.Instance.{Instance}
use Rattle.instance_model.specs.declared.instance.Instance.TheVariants as instance

-- what a test finds of an order: whether it is a textbook order of each side with this derived matrix
abbrev pub TellsOrder : InstanceValue → RowList → List ℕ → Bool → Type 0
TellsOrder i m o b = (s : ℕ) → IsSideOf i s → m ≡ derived_matrix i s → IsTrue b ↔ IsTextbookOrder i s o

-- an order that keeps the rows of a matrix is valid for it
kept_valid : (m : RowList) (o : List ℕ) (b : Bool) → IsOrder m.columns o → IsTrue b ↔ All (Keeps o) m.rows → IsTrue b ↔ IsValidFor m o
kept_valid m o b h k = (λ t. record { order = h; kept = k.0 t }, λ v. k.1 v.kept)

-- one test told by another, where both are passed together
told_by : {A B C : Type 0} → A ↔ B → C ↔ B → A ↔ C
told_by h k = (λ a. k.1 (h.0 a), λ c. h.1 (k.0 c))

-- of every kind but circular the textbook orders are those that keep the derived rows
pub kept_order : DerivedLaw → (i : InstanceValue) (m : RowList) (o : List ℕ) (b : Bool) → ((x : RowList) → i ≡ circular x → ⊥) → IsWellFormed i → IsOrder m.columns o → IsTrue b ↔ All (Keeps o) m.rows → TellsOrder i m o b
kept_order derived_exactly i m o b not formed order kept s is e = each i not formed is (subst (λ x. IsTrue b ↔ IsValidFor x o) e (kept_valid m o b order kept))
  where
    each : (j : InstanceValue) → ((x : RowList) → j ≡ circular x → ⊥) → IsWellFormed j → IsSideOf j s → IsTrue b ↔ IsValidFor (derived_matrix j s) o → IsTrue b ↔ IsTextbookOrder j s o
    each (plain kind n) apart f is h = h
    each (circular n) apart f is h = absurd (apart n refl)
    each (convex g) apart f is h = told_by h (derived_exactly (convex g) s f is o)
    each (doubly g) apart f is h = told_by h (derived_exactly (doubly g) s f is o)
    each (proper g) apart f is h = told_by h (derived_exactly (proper g) s f is o)
    each (robinson d) apart f is h = told_by h (derived_exactly (robinson d) s f is o)

-- a rotation of an order is an order: all orders are circular where there are no rows
rotation_order : RotationLaw → (c : ℕ) (o turned : List ℕ) → IsRotation o turned → IsOrder c o → IsOrder c turned
rotation_order circular_turned c o turned r h =
    let circular : IsCircularOrder c [] turned = circular_turned c [] o turned r (record { order = h; together = λ k d l. absurd (omega (arith, l)) }) in
    circular.order

-- of a circular matrix they are those whose rotations that begin with column 1 do
pub turned_order : RotationLaw → TurnedLaw → (m derived : RowList) (o turned : List ℕ) (b : Bool) → IsTurned o turned → IsOrder derived.columns o → IsTrue b ↔ All (Keeps turned) derived.rows → TellsOrder (circular m) derived o b
turned_order circular_turned turned_exactly m derived o turned b t order kept s is e =
    told_by (subst (λ x. IsTrue b ↔ IsValidFor x turned) e (kept_valid derived turned b (rotation_order circular_turned derived.columns o turned t.rotation order) kept)) (turned_exactly m.columns m.rows o turned t)

-- an instance of another variant
not_circular : (i : Instance) → ((x : RowList) → i ≡ instance.Circular x → ⊥) → (x : RowList) → instance_value i ≡ circular x → ⊥
not_circular (instance.Circular y) h x e = h y refl
not_circular (instance.Plain kind m) h x e = absurd (cc)
not_circular (instance.Convex g) h x e = absurd (cc)
not_circular (instance.Doubly g) h x e = absurd (cc)
not_circular (instance.Proper g) h x e = absurd (cc)
not_circular (instance.Robinson d) h x e = absurd (cc)

pub kept_order_ok : {E : Type 0} → DerivedLaw → (i : Instance) (m : RowList) (c : ℕ) (o : List ℕ) (r : Result Bool E) → ((x : RowList) → i ≡ instance.Circular x → ⊥) → IsWellFormed (instance_value i) → c ≡ m.columns → IsOrder c o →
    IfOk r (λ b. IsTrue b ↔ All (Keeps o) m.rows) → IfOk r (TellsOrder (instance_value i) m o)
kept_order_ok derived_exactly i m c o (Ok b) not formed e order kept = kept_order derived_exactly (instance_value i) m o b (not_circular i not) formed (subst (λ n. IsOrder n o) e order) kept
kept_order_ok derived_exactly i m c o (Err x) not formed e order kept = tt

pub turned_order_ok : {E : Type 0} → RotationLaw → TurnedLaw → (i : Instance) (x m : RowList) (c : ℕ) (o turned : List ℕ) (r : Result Bool E) → i ≡ instance.Circular x → IsTurned o turned → c ≡ m.columns → IsOrder c o →
    IfOk r (λ b. IsTrue b ↔ All (Keeps turned) m.rows) → IfOk r (TellsOrder (instance_value i) m o)
turned_order_ok circular_turned turned_exactly i x m c o turned (Ok b) is t e order kept =
    subst (λ j. TellsOrder (instance_value j) m o b) (sym is) (turned_order circular_turned turned_exactly x m o turned b t (subst (λ n. IsOrder n o) e order) kept)
turned_order_ok circular_turned turned_exactly i x m c o turned (Err y) is t e order kept = tt

-- the length of an order is its number of columns
pub own_length : (c : ℕ) (o : List ℕ) → IsOrder c o → IsOrder (length o) o
own_length c o h = subst (λ n. IsOrder n o) (sym (order_length c o h)) h

pub own_rotation : RotationLaw → (c d : ℕ) (o turned : List ℕ) → c ≡ d → IsTurned o turned → IsOrder c o → IsOrder d turned
own_rotation circular_turned c d o turned e t h = rotation_order circular_turned d o turned t.rotation (subst (λ n. IsOrder n o) e h)
