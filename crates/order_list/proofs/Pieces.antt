-- Pieces of one length, cut from a list.
use Rattle.std.proofs.Common.{◌≡◌, ◌∙◌, ◌+◌, ◌*◌, ◌<◌, ◌≤◌, ℕ, zero, suc, Bool, true, false, nat_lt, if◌then◌else◌, List, [], ◌∷◌, ◌++◌, length, take, drop, Some, slice_get, refl, sym, ap, arith}
use Rattle.std.proofs.lemmas.List.{take_all, take-append-le, drop-append-le, length-drop, drop-drop}
use Rattle.std.proofs.Math.Nat.{suc-mul, mul-le-mul_right}
use Rattle.std.proofs.lemmas.Bool.{lt-ltb, le-ltb}
use Rattle.order_list.specs.Listed.{OrderList, cut, added}

pub length-cut : (k n : ℕ) (xs : List ℕ) → length (cut k n xs) ≡ k
length-cut zero n xs = refl
length-cut (suc k) n xs = ap suc (length-cut k n (drop n xs))

pub get_cut : (k n i : ℕ) (xs : List ℕ) → i < k → slice_get (cut k n xs) i ≡ Some (take n (drop (i * n) xs))
get_cut zero n i xs l = absurd (omega arith)
get_cut (suc k) n zero xs l = ap (λ m. Some (take n (drop m xs))) (let e : 0 ≡ 0 * n = omega arith in e)
get_cut (suc k) n (suc i) xs l =
    get_cut k n i (drop n xs) (omega arith) ∙ ap (λ ys. Some (take n ys)) (drop-drop (i * n) n xs ∙ ap (λ m. drop m xs) (let e : n + i * n ≡ suc i * n = omega (arith, suc-mul i n) in e))

-- one piece more
pub cut-push : (k n : ℕ) (xs ys : List ℕ) → length xs ≡ k * n → length ys ≡ n → cut (suc k) n (xs ++ ys) ≡ cut k n xs ++ ys ∷ []
cut-push zero n [] ys e l = ap (λ zs. zs ∷ []) (take_all n ys (omega arith))
cut-push zero n (x ∷ xs) ys e l = absurd (omega arith)
cut-push (suc k) n xs ys e l =
    let long : n ≤ length xs = omega (arith, suc-mul k n) in
    let rest : length (drop n xs) ≡ k * n = omega (arith, suc-mul k n, length-drop n xs) in
    ap (λ zs. zs ∷ cut (suc k) n (drop n (xs ++ ys))) (take-append-le n xs ys long) ∙
    ap (λ zs. take n xs ∷ cut (suc k) n zs) (drop-append-le n xs ys long) ∙
    ap (λ zs. take n xs ∷ zs) (cut-push k n (drop n xs) ys rest l)

-- a piece ends within the list
pub piece_within : (k n i : ℕ) → i < k → i * n + n ≤ k * n
piece_within k n i l =
    let m : suc i * n ≤ k * n = mul-le-mul_right n (let s : suc i ≤ k = omega arith in s) in
    omega (arith, suc-mul i n)

pub start_within : (i n m : ℕ) → i * n + n ≤ m → i * n ≤ m
start_within i n m h = omega arith

-- what contracts see of a list that keeps its orders so
abbrev pub shown : ℕ → ℕ → List ℕ → Bool → OrderList
shown columns count numbers more = record { columns = columns; orders = cut count columns numbers; more = more }

module _ (columns count limit : ℕ) (numbers order : List ℕ) (more : Bool) (l : OrderList) (is : shown columns count numbers more ≡ l) where
  number : length l.orders ≡ count
  number = sym (ap (λ (x : OrderList). length x.orders) is) ∙ length-cut count columns numbers

  -- one order more
  pub added_room : (new : List ℕ) → length numbers ≡ count * columns → length order ≡ l.columns → count < limit → new ≡ numbers ++ order →
      shown columns (count + 1) new more ≡ added limit order l
  added_room new held wide less e =
      let long : length order ≡ columns = wide ∙ sym (ap (λ (x : OrderList). x.columns) is) in
      let room : nat_lt (length l.orders) limit ≡ true = ap (λ n. nat_lt n limit) number ∙ lt-ltb count limit less in
      let next : count + 1 ≡ suc count = omega arith in
      let all : cut (count + 1) columns new ≡ cut count columns numbers ++ order ∷ [] =
      ap (λ k. cut k columns new) next ∙ ap (cut (suc count) columns) e ∙ cut-push count columns numbers order held long in
      ap (λ os. record { columns = columns; orders = os; more = more }) all ∙
      ap (λ (x : OrderList). record x { orders = x.orders ++ order ∷ [] }) is ∙
      sym (ap (λ b. if b then record l { orders = l.orders ++ order ∷ [] } else record l { more = true }) room)

  -- the list is full
  pub added_full : limit ≤ count → shown columns count numbers true ≡ added limit order l
  added_full least =
      let full : nat_lt (length l.orders) limit ≡ false = ap (λ n. nat_lt n limit) number ∙ le-ltb count limit least in
      ap (λ (x : OrderList). record x { more = true }) is ∙
      sym (ap (λ b. if b then record l { orders = l.orders ++ order ∷ [] } else record l { more = true }) full)
