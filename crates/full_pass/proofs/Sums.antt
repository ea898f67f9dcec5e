-- Sums over all nodes, and sums where one is changed.
use Rattle.std.proofs.Common.{ap, arith, cond, eq-eqb, eqb, inl, inr, refl, suc, sym, zero, ℕ, ◌+◌, ◌<◌, ◌∙◌, ◌≡◌, ◌≢◌, ◌≤◌}
use Rattle.std.proofs.lemmas.Bool.{cases_eq, ne_eqb}
use Rattle.full_pass.specs.Passing.{total}

total_same : (g g' : ℕ → ℕ) (n : ℕ) → ((y : ℕ) → y < n → g' y ≡ g y) → total g' n ≡ total g n
total_same g g' zero h = refl
total_same g g' (suc n) h =
    let a : g' n ≡ g n = h n (omega arith) in
    let b : total g' n ≡ total g n = total_same g g' n (λ y l. h y (omega arith)) in
    omega arith

total_with : (g g' : ℕ → ℕ) (m n : ℕ) → m < n → ((y : ℕ) → y ≢ m → g' y ≡ g y) → total g' n + g m ≡ total g n + g' m
total_with g g' m zero l h = absurd (omega arith)
total_with g g' m (suc n) l h = elim (cases_eq n m) [
  | inl e ↦
      let b : total g' n ≡ total g n = total_same g g' n (λ y k. h y (let ne : y ≢ m = omega arith in ne)) in
      let c : g m ≡ g n = ap g (sym e) in let d : g' m ≡ g' n = ap g' (sym e) in
      omega arith
  | inr ne ↦
      let b : total g' n + g m ≡ total g n + g' m = total_with g g' m n (omega arith) h in
      let a : g' n ≡ g n = h n ne in
      omega arith
]

pub total_one : (g : ℕ → ℕ) (m n : ℕ) → m < n → g m ≤ total g n
total_one g m zero l = absurd (omega arith)
total_one g m (suc n) l = elim (cases_eq n m) [
  | inl e ↦ let c : g m ≡ g n = ap g (sym e) in omega arith
  | inr ne ↦ let b : g m ≤ total g n = total_one g m n (omega arith) in omega arith
]

pub total_two : (g : ℕ → ℕ) (m m' n : ℕ) → m ≢ m' → m < n → m' < n → g m + g m' ≤ total g n
total_two g m m' zero d l l' = absurd (omega arith)
total_two g m m' (suc n) d l l' = elim (cases_eq n m) [
  | inl e ↦ let c : g m ≡ g n = ap g (sym e) in
      let b : g m' ≤ total g n = total_one g m' n (omega arith) in omega arith
  | inr ne ↦ elim (cases_eq n m') [
    | inl e ↦ let c : g m' ≡ g n = ap g (sym e) in
        let b : g m ≤ total g n = total_one g m n (omega arith) in omega arith
    | inr ne' ↦ let b : g m + g m' ≤ total g n = total_two g m m' n d (omega arith) (omega arith) in omega arith
  ]
]

pub total_zero : (n : ℕ) → total (λ _. 0) n ≡ 0
total_zero zero = refl
total_zero (suc n) = let b : total (λ _. 0) n ≡ 0 = total_zero n in omega arith

-- g with v at m
abbrev pub changed : (ℕ → ℕ) → ℕ → ℕ → ℕ → ℕ
changed g m v y = cond (eqb y m) v (g y)

pub changed_here : (g : ℕ → ℕ) (m v : ℕ) → changed g m v m ≡ v
changed_here g m v = ap (λ b. cond b v (g m)) (eq-eqb m m refl)

pub changed_off : (g : ℕ → ℕ) (m v y : ℕ) → y ≢ m → changed g m v y ≡ g y
changed_off g m v y ne = ap (λ b. cond b v (g y)) (ne_eqb y m ne)

pub total_changed : (g : ℕ → ℕ) (m v n : ℕ) → m < n → total (changed g m v) n + g m ≡ total g n + v
total_changed g m v n l = total_with g (changed g m v) m n l (changed_off g m v) ∙ ap (λ z. total g n + z) (changed_here g m v)

pub total_three : (g : ℕ → ℕ) (a b c n : ℕ) → a ≢ b → a ≢ c → b ≢ c → a < n → b < n → c < n → g a + (g b + g c) ≤ total g n
total_three g a b c n ab ac bc la lb lc =
    let t : total (changed g a 0) n + g a ≡ total g n + 0 = total_changed g a 0 n la in
    let s : changed g a 0 b + changed g a 0 c ≤ total (changed g a 0) n = total_two (changed g a 0) b c n bc lb lc in
    let eb : changed g a 0 b ≡ g b = changed_off g a 0 b (λ e. ab (sym e)) in
    let ec : changed g a 0 c ≡ g c = changed_off g a 0 c (λ e. ac (sym e)) in
    omega arith

pub total_four : (g : ℕ → ℕ) (a b c d n : ℕ) → (a ≢ b) × (a ≢ c) × (a ≢ d) → b ≢ c → b ≢ d → c ≢ d → a < n → b < n → c < n → d < n →
    g a + (g b + (g c + g d)) ≤ total g n
total_four g a b c d n apart bc bd cd la lb lc ld =
    let t : total (changed g a 0) n + g a ≡ total g n + 0 = total_changed g a 0 n la in
    let s : changed g a 0 b + (changed g a 0 c + changed g a 0 d) ≤ total (changed g a 0) n = total_three (changed g a 0) b c d n bc bd cd lb lc ld in
    let eb : changed g a 0 b ≡ g b = changed_off g a 0 b (λ e. apart.0 (sym e)) in
    let ec : changed g a 0 c ≡ g c = changed_off g a 0 c (λ e. apart.1 (sym e)) in
    let ed : changed g a 0 d ≡ g d = changed_off g a 0 d (λ e. apart.2 (sym e)) in
    omega arith
