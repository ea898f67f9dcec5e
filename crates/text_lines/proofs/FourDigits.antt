-- Digits that are read as one word of four bytes.
use Rattle.std.proofs.Common.{◌≡◌, ◌∙◌, ℕ, zero, suc, ◌+◌, ◌-◌, ◌*◌, ◌/◌, ◌%◌, ◌^◌, ◌<◌, ◌≤◌, true, List, [], ◌∷◌, length, map, take, drop, slice_range, refl, ap, arith}
use Rattle.std.proofs.lemmas.Bool.{and_parts}
use Rattle.std.proofs.lemmas.Bool.Decides.{nat_tests}
use Rattle.std.proofs.lemmas.Grind.{common_steps, and_numeral}
use Rattle.std.proofs.lemmas.List.{length-drop}
use Rattle.std.specs.Char.{is_ascii_digit}
use Rattle.std.specs.List.{list_all}
use Rattle.std.specs.Prelude.{bit_and}
use Rattle.std.specs.Simd.Lanes.{chunk, number_l}
use Rattle.text_lines.specs.Words.{number_after}
use Rattle.text_lines.proofs.DigitWord.{lower_parts}

-- the lower half of both parts of 16 bits
lower_bytes_of_two : (a b : ℕ) → a < 65536 → b < 65536 → bit_and (a + 65536 * b) 16711935 ≡ a % 256 + 65536 * (b % 256)
lower_bytes_of_two a b p q =
    let same : a + 65536 * b ≡ b * 2 ^ 16 + a = omega arith in
    ap (λ n. bit_and n 16711935) same ∙ lower_parts 16 255 a b (λ n. and_numeral n 254 refl) (omega arith) p ∙ omega arith

-- four digits, joined to pairs and to the number
pub four_joined : (a b c d word : ℕ) → a ≤ 9 → b ≤ 9 → c ≤ 9 → d ≤ 9 → word ≡ a + 256 * (b + 256 * (c + 256 * d))
    → bit_and (word * 2561 % 4294967296 / 256) 16711935 * 6553601 % 4294967296 / 65536 ≡ ((a * 10 + b) * 10 + c) * 10 + d
four_joined a b c d word p q r s is =
    let low : ℕ = 10 * a + b + 256 * (10 * b + c) in
    let high : ℕ = 10 * c + d in
    let shifted : word * 2561 % 4294967296 / 256 ≡ low + 65536 * high = omega arith in
    let pairs : bit_and (word * 2561 % 4294967296 / 256) 16711935 ≡ (10 * a + b) + 65536 * (10 * c + d) =
    ap (λ n. bit_and n 16711935) shifted ∙ lower_bytes_of_two low high (omega arith) (omega arith) ∙ omega arith in
    omega (arith, pairs)

digit_lane : (byte : ℕ) → is_ascii_digit byte ≡ true → ((byte + 208) % 256 ≡ byte - 48) × (byte - 48 ≤ 9)
digit_lane byte h = (grind (arith, common_steps, nat_tests), grind (arith, common_steps, nat_tests))

-- how a word of four digits is read
abbrev ReadsFour : ℕ → ℕ → Type 0
ReadsFour word value = (a b c d : ℕ) → a ≤ 9 → b ≤ 9 → c ≤ 9 → d ≤ 9 → word ≡ a + 256 * (b + 256 * (c + 256 * d)) → value ≡ ((a * 10 + b) * 10 + c) * 10 + d

-- digits at the front of four bytes, moved to the end of the word
moved_digits : (xs : List ℕ) (len value : ℕ) → 4 ≤ length xs → len ≤ 4 → list_all is_ascii_digit (take len xs) ≡ true
    → ReadsFour (number_l 256 (map (λ byte. (byte + 208) % 256) (take 4 xs)) * 2 ^ (32 - 8 * len) % 2 ^ 64 % 4294967296) value
    → value ≡ number_after 0 (take len xs)
moved_digits (a ∷ b ∷ c ∷ d ∷ xs) zero value long few digits reads = reads 0 0 0 0 (omega arith) (omega arith) (omega arith) (omega arith) (omega arith)
moved_digits (a ∷ b ∷ c ∷ d ∷ xs) (suc zero) value long few digits reads =
    let p1 = and_parts (is_ascii_digit a) _ digits in
    let a1 = digit_lane a p1.0 in
    reads 0 0 0 (a - 48) (omega arith) (omega arith) (omega arith) a1.1 (omega (arith, a1.0)) ∙ omega arith
moved_digits (a ∷ b ∷ c ∷ d ∷ xs) (suc (suc zero)) value long few digits reads =
    let p1 = and_parts (is_ascii_digit a) _ digits in
    let p2 = and_parts (is_ascii_digit b) _ p1.1 in
    let a1 = digit_lane a p1.0 in
    let b1 = digit_lane b p2.0 in
    reads 0 0 (a - 48) (b - 48) (omega arith) (omega arith) a1.1 b1.1 (omega (arith, a1.0, b1.0)) ∙ omega arith
moved_digits (a ∷ b ∷ c ∷ d ∷ xs) (suc (suc (suc zero))) value long few digits reads =
    let p1 = and_parts (is_ascii_digit a) _ digits in
    let p2 = and_parts (is_ascii_digit b) _ p1.1 in
    let p3 = and_parts (is_ascii_digit c) _ p2.1 in
    let a1 = digit_lane a p1.0 in
    let b1 = digit_lane b p2.0 in
    let c1 = digit_lane c p3.0 in
    reads 0 (a - 48) (b - 48) (c - 48) (omega arith) a1.1 b1.1 c1.1 (omega (arith, a1.0, b1.0, c1.0)) ∙ omega arith
moved_digits (a ∷ b ∷ c ∷ d ∷ xs) (suc (suc (suc (suc zero)))) value long few digits reads =
    let p1 = and_parts (is_ascii_digit a) _ digits in
    let p2 = and_parts (is_ascii_digit b) _ p1.1 in
    let p3 = and_parts (is_ascii_digit c) _ p2.1 in
    let p4 = and_parts (is_ascii_digit d) _ p3.1 in
    let a1 = digit_lane a p1.0 in
    let b1 = digit_lane b p2.0 in
    let c1 = digit_lane c p3.0 in
    let d1 = digit_lane d p4.0 in
    reads (a - 48) (b - 48) (c - 48) (d - 48) a1.1 b1.1 c1.1 d1.1 (omega (arith, a1.0, b1.0, c1.0, d1.0)) ∙ omega arith
moved_digits xs (suc (suc (suc (suc (suc n))))) value long few digits reads = absurd (omega arith)
moved_digits [] len value long few digits reads = absurd (omega arith)
moved_digits (a ∷ []) len value long few digits reads = absurd (omega arith)
moved_digits (a ∷ b ∷ []) len value long few digits reads = absurd (omega arith)
moved_digits (a ∷ b ∷ c ∷ []) len value long few digits reads = absurd (omega arith)

-- digits between two places
pub few_read : (text : List ℕ) (at end value : ℕ) → at + 4 ≤ length text → at ≤ end → end ≤ at + 4 → list_all is_ascii_digit (slice_range text at end) ≡ true
    → ReadsFour (number_l 256 (map (λ byte. (byte + 208) % 256) (chunk at 4 text)) * 2 ^ (32 - 8 * (end - at)) % 2 ^ 64 % 4294967296) value
    → value ≡ number_after 0 (slice_range text at end)
few_read text at end value room order few digits reads =
    moved_digits (drop at text) (end - at) value (omega (arith, length-drop at text)) (omega arith) digits reads
