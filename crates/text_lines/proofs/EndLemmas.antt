-- Marks in a block of a text, which tell where digits end.
use Rattle.std.proofs.Common.{◌≡◌, ◌≢◌, ◌∙◌, ℕ, ◌+◌, ◌-◌, ◌*◌, ◌/◌, ◌%◌, ◌^◌, ◌<◌, ◌≤◌, true, false, cond, leb, w64, List, length, map, drop, get_or, slice_range, sym, ap, arith, inl, inr, pow-suc}
use Rattle.std.proofs.lemmas.Bool.{cases_eq, cases_lt}
use Rattle.std.proofs.lemmas.Bool.Decides.{nat_tests}
use Rattle.std.proofs.lemmas.Grind.{common_steps}
use Rattle.std.proofs.lemmas.Nat.{div-add-mod', mod-pow-add, pow_pos}
use Rattle.std.proofs.Math.Nat.{mod-lt}
use Rattle.std.proofs.lemmas.Nat.Bits.{bit_at_and, bit_at_cat_low, bit_at_cat_high, bit_at_ones_above, same_from_bits_below, bit_at-zero, bit_at-trailing_zeros}
use Rattle.std.proofs.lemmas.List.{get_or-drop, get_or-map, get_or_past, length-drop, length-map}
use Rattle.std.proofs.lemmas.Simd.{bit_mask_l, length-chunk, get_or-chunk}
use Rattle.std.specs.Char.{is_ascii_digit}
use Rattle.std.specs.Int.{bit_at, trailing_zeros}
use Rattle.std.specs.List.{list_all}
use Rattle.std.specs.Prelude.{bit_and}
use Rattle.std.specs.Simd.Lanes.{chunk, mask_l}
use Rattle.text_lines.specs.DigitEnds.{AreDigitEnds}
use Rattle.text_lines.proofs.DigitWord.{digit_byte, digits_front}

-- the lowest bit of a number
abbrev pub IsLowest : ℕ → ℕ → Type 0
IsLowest n t = (t < 64) × (bit_at n t ≡ 1) × ((i : ℕ) → i < t → bit_at n i ≡ 0)

-- no mark
pub no_ends : (text : List ℕ) (at : ℕ) → AreDigitEnds text at 0 0
no_ends text at = record {
  begun = omega arith;
  ahead = λ k bit. absurd (omega (arith, bit, bit_at-zero k));
  digits = λ i k lt bit none from. absurd (omega (arith, bit, bit_at-zero k));
}

-- the marks of the digits from a place on, and those behind the byte at their end
module _ (text : List ℕ) (at block marks t : ℕ) (ends : AreDigitEnds text at block marks) (lowest : IsLowest marks t) where
  end_room : (at ≤ block + t) × (block + t + 4 ≤ length text)
  end_room = ends.ahead t lowest.1

  ended_digits : list_all is_ascii_digit (slice_range text at (block + t)) ≡ true
  ended_digits = digits_front (drop at text) (block + t - at) (omega (arith, length-drop at text, end_room)) each
    where
      each : (k : ℕ) → k < block + t - at → is_ascii_digit (get_or (drop at text) k 0) ≡ true
      each k lt =
          let i : ℕ = at + k - block in
          let here : block + i ≡ at + k = omega (arith, ends.begun) in
          let digit : is_ascii_digit (get_or text (block + i) 0) ≡ true = ends.digits i t (omega arith) lowest.1 (lowest.2 i (omega arith)) (omega arith) in
          ap is_ascii_digit (get_or-drop at text k 0 ∙ ap (λ n. get_or text n 0) (sym here)) ∙ digit

  ends_behind : (rest : ℕ) → bit_at rest t ≡ 0 → ((k : ℕ) → k ≢ t → bit_at rest k ≡ bit_at marks k) → AreDigitEnds text (block + t + 1) block rest
  ends_behind rest cleared others = record {
    begun = omega arith;
    ahead = λ k bit. let after : t < k = later k bit in (omega arith, (ends.ahead k (marked k bit)).1);
    digits = λ i k lt bit none from.
        ends.digits i k lt (marked k bit) (sym (others i (apart i (omega arith))) ∙ none) (omega (arith, end_room));
  }
    where
      apart : (i : ℕ) → t < i → i ≢ t
      apart i lt same = absurd (omega arith)

      marked : (k : ℕ) → bit_at rest k ≡ 1 → bit_at marks k ≡ 1
      marked k bit = elim (cases_eq k t) [
        | inl same ↦ absurd (omega (arith, cleared, sym bit ∙ ap (bit_at rest) same))
        | inr other ↦ sym (others k other) ∙ bit
      ]

      later : (k : ℕ) → bit_at rest k ≡ 1 → t < k
      later k bit = elim (cases_lt t k) [
        | inl after ↦ after
        | inr upto ↦ elim (cases_eq k t) [
          | inl same ↦ absurd (omega (arith, cleared, sym bit ∙ ap (bit_at rest) same))
          | inr other ↦ absurd (omega (arith, marked k bit, lowest.2 k (omega arith)))
        ]
      ]

-- the same for the lowest mark, where there is one
module _ (text : List ℕ) (at block marks : ℕ) (ends : AreDigitEnds text at block marks) (some : 0 < marks) (fits : marks < 2 ^ 64) where
  abbrev lowest : ℕ
  lowest = trailing_zeros w64 marks

  is_lowest : IsLowest marks lowest
  is_lowest = bit_at-trailing_zeros w64 marks some fits

  pub lowest_room : (at ≤ block + lowest) × (block + lowest + 4 ≤ length text)
  lowest_room = end_room text at block marks lowest ends is_lowest

  pub lowest_digits : list_all is_ascii_digit (slice_range text at (block + lowest)) ≡ true
  lowest_digits = ended_digits text at block marks lowest ends is_lowest

  pub lowest_behind : (rest : ℕ) → bit_at rest lowest ≡ 0 → ((k : ℕ) → k ≢ lowest → bit_at rest k ≡ bit_at marks k) → AreDigitEnds text (block + lowest + 1) block rest
  lowest_behind rest cleared others = ends_behind text at block marks lowest ends is_lowest rest cleared others

-- the marks of a block
module _ (text : List ℕ) (at : ℕ) (room : at + 68 ≤ length text) (bytes : (k : ℕ) → get_or text k 0 < 256) where
  bit_is : (k : ℕ) → k < 64 → bit_at (mask_l (map (λ byte. leb 10 ((byte + 208) % 256)) (chunk at 64 text))) k ≡ cond {A = ℕ} (leb 10 ((get_or text (at + k) 0 + 208) % 256)) 1 0
  bit_is k lt =
      let long : length (chunk at 64 text) ≡ 64 = length-chunk at 64 text (omega arith) in
      bit_mask_l (map (λ byte. leb 10 ((byte + 208) % 256)) (chunk at 64 text)) k
      ∙ ap (λ b. cond {A = ℕ} b 1 0)
      (get_or-map (λ byte. leb 10 ((byte + 208) % 256)) (chunk at 64 text) k 0 false (omega arith)
      ∙ ap (λ byte. leb 10 ((byte + 208) % 256)) (get_or-chunk at 64 text k 0 lt))

  bit_within : (k : ℕ) → bit_at (mask_l (map (λ byte. leb 10 ((byte + 208) % 256)) (chunk at 64 text))) k ≡ 1 → k < 64
  bit_within k bit = elim (cases_lt k 64) [
    | inl less ↦ less
    | inr past ↦
        let long : length (map (λ byte. leb 10 ((byte + 208) % 256)) (chunk at 64 text)) ≡ 64 =
        length-map (chunk at 64 text) (λ byte. leb 10 ((byte + 208) % 256)) ∙ length-chunk at 64 text (omega arith) in
        let none : get_or (map (λ byte. leb 10 ((byte + 208) % 256)) (chunk at 64 text)) k false ≡ false = get_or_past _ k false (omega arith) in
        absurd (omega (arith, bit, bit_mask_l (map (λ byte. leb 10 ((byte + 208) % 256)) (chunk at 64 text)) k, ap (λ b. cond {A = ℕ} b 1 0) none))
  ]

  unmarked : (lane : ℕ) → cond {A = ℕ} (leb 10 lane) 1 0 ≡ 0 → lane ≤ 9
  unmarked lane h = grind (arith, common_steps, nat_tests)

  pub block_ends : (marks : ℕ) → marks ≡ mask_l (map (λ byte. leb 10 ((byte + 208) % 256)) (chunk at 64 text)) → AreDigitEnds text at at marks
  block_ends marks is = rw is record {
    begun = omega arith;
    ahead = λ k bit. (omega arith, omega (arith, bit_within k bit));
    digits = λ i k lt bit none from.
        (digit_byte (get_or text (at + i) 0) (bytes (at + i)) (unmarked ((get_or text (at + i) 0 + 208) % 256) (sym (bit_is i (omega (arith, bit_within k bit))) ∙ none))).0;
  }

-- a number without its lowest bit
module _ (n t : ℕ) (lowest : IsLowest n t) where
  none_below : n % 2 ^ t ≡ 0
  none_below = same_from_bits_below t (n % 2 ^ t) 0 (mod-lt n (pow_pos t)) (pow_pos t) (λ i lt. low i lt ∙ sym (bit_at-zero i))
    where
      low : (i : ℕ) → i < t → bit_at (n % 2 ^ t) i ≡ 0
      low i lt = sym (bit_at_cat_low (n / 2 ^ t) t (n % 2 ^ t) i lt) ∙ ap (λ m. bit_at m i) (div-add-mod' n (2 ^ t)) ∙ lowest.2 i lt

  split : n ≡ n / 2 ^ (1 + t) * 2 ^ (1 + t) + 2 ^ t
  split =
      let part : n % 2 ^ (1 + t) ≡ 2 ^ t = mod-pow-add n 1 t ∙ ap (λ b. b * 2 ^ t + n % 2 ^ t) lowest.1 ∙ omega (arith, none_below) in
      sym (div-add-mod' n (2 ^ (1 + t))) ∙ ap (λ r. n / 2 ^ (1 + t) * 2 ^ (1 + t) + r) part

  less : n - 1 ≡ n / 2 ^ (1 + t) * 2 ^ (1 + t) + (2 ^ t - 1)
  less = omega (arith, split, pow_pos t)

  pub lowest_cleared : bit_at (bit_and n (n - 1)) t ≡ 0
  lowest_cleared =
      let clear : bit_at (n - 1) t ≡ 0 =
      ap (λ m. bit_at m t) less ∙ bit_at_cat_low (n / 2 ^ (1 + t)) (1 + t) (2 ^ t - 1) t (omega arith) ∙ bit_at_ones_above t t (omega arith) in
      omega (arith, bit_at_and n (n - 1) t, clear)

  pub others_kept : (k : ℕ) → k ≢ t → bit_at (bit_and n (n - 1)) k ≡ bit_at n k
  others_kept k other = elim (cases_lt k t) [
    | inl below ↦ omega (arith, bit_at_and n (n - 1) k, lowest.2 k below)
    | inr upto ↦
        let after : 1 + t ≤ k = omega (arith, upto, other) in
        let power : 2 ^ (1 + t) ≡ 2 ^ t * 2 = ap (λ j. 2 ^ j) (omega arith) ∙ pow-suc 2 t in
        let high : bit_at n k ≡ bit_at (n / 2 ^ (1 + t)) (k - (1 + t)) =
        ap (λ m. bit_at m k) split ∙ bit_at_cat_high (n / 2 ^ (1 + t)) (1 + t) (2 ^ t) k (omega (arith, power, pow_pos t)) after in
        let same : bit_at (n - 1) k ≡ bit_at n k =
        ap (λ m. bit_at m k) less ∙ bit_at_cat_high (n / 2 ^ (1 + t)) (1 + t) (2 ^ t - 1) k (omega (arith, power, pow_pos t)) after ∙ sym high in
        omega (arith, bit_at_and n (n - 1) k, same)
  ]
