-- Digits that are read as one word of eight bytes.
use Rattle.std.proofs.Common.{◌≡◌, ◌∙◌, ℕ, zero, suc, ◌+◌, ◌-◌, ◌*◌, ◌/◌, ◌%◌, ◌^◌, ◌<◌, ◌≤◌, Bool, true, false, cond, ltb, List, [], ◌∷◌, ◌++◌, length, map, take, drop, get_or, replicate, slice_range, refl, sym, ap, arith, inl, inr}
use Rattle.std.proofs.lemmas.Bool.{and_parts, cases_lt}
use Rattle.std.proofs.lemmas.Bool.Decides.{nat_tests}
use Rattle.std.proofs.lemmas.Grind.{common_steps, and_numeral, pow_more}
use Rattle.std.proofs.lemmas.Nat.{and_block}
use Rattle.std.specs.Char.{is_ascii_digit}
use Rattle.std.specs.List.{list_all}
use Rattle.std.specs.Prelude.{bit_and}
use Rattle.std.specs.Simd.Lanes.{chunk, mask_l, number_l, Each1}
use Rattle.std.specs.Int.{bit_at}
use Rattle.std.proofs.lemmas.Simd.{bit_mask_l, length-chunk, length-replicate}
use Rattle.std.proofs.lemmas.List.{get_or-map, get_or-take, get_or-drop, get_or_past, length-append, length-drop, length-map, length-take-le, map-append, take-append-drop, take-take}
use borrow.Author.Tests.{ltb-true}
use Rattle.text_lines.specs.Words.{number_after}

-- the lower half of each of four parts of 16 bits
lower_bytes : (a b c d : ℕ) → a < 65536 → b < 65536 → c < 65536 → d < 65536
    → bit_and (a + 65536 * (b + 65536 * (c + 65536 * d))) 71777214294589695 ≡ a % 256 + 65536 * (b % 256 + 65536 * (c % 256 + 65536 * (d % 256)))
lower_bytes a b c d p q r s =
    let one : (n : ℕ) → bit_and n 255 ≡ n % 256 = λ n. and_numeral n 254 refl in
    let last : bit_and d 255 ≡ d % 256 = one d in
    let third : bit_and (d * 2 ^ 16 + c) (255 * 2 ^ 16 + 255) ≡ bit_and d 255 * 2 ^ 16 + bit_and c 255 = and_block 16 d 255 c 255 r (omega arith) in
    let second : bit_and ((d * 2 ^ 16 + c) * 2 ^ 16 + b) ((255 * 2 ^ 16 + 255) * 2 ^ 16 + 255) ≡ bit_and (d * 2 ^ 16 + c) (255 * 2 ^ 16 + 255) * 2 ^ 16 + bit_and b 255 =
    and_block 16 (d * 2 ^ 16 + c) (255 * 2 ^ 16 + 255) b 255 q (omega arith) in
    let first : bit_and (((d * 2 ^ 16 + c) * 2 ^ 16 + b) * 2 ^ 16 + a) (((255 * 2 ^ 16 + 255) * 2 ^ 16 + 255) * 2 ^ 16 + 255)
    ≡ bit_and ((d * 2 ^ 16 + c) * 2 ^ 16 + b) ((255 * 2 ^ 16 + 255) * 2 ^ 16 + 255) * 2 ^ 16 + bit_and a 255 =
    and_block 16 ((d * 2 ^ 16 + c) * 2 ^ 16 + b) ((255 * 2 ^ 16 + 255) * 2 ^ 16 + 255) a 255 p (omega arith) in
    let same : a + 65536 * (b + 65536 * (c + 65536 * d)) ≡ ((d * 2 ^ 16 + c) * 2 ^ 16 + b) * 2 ^ 16 + a = omega arith in
    ap (λ n. bit_and n 71777214294589695) same ∙ omega (arith, first, second, third, last, one a, one b, one c)

-- the lower parts of both halves of a word, where a mask keeps the lower part of a number
pub lower_parts : (k m a b : ℕ) → ((n : ℕ) → bit_and n m ≡ n % suc m) → m < 2 ^ k → a < 2 ^ k → bit_and (b * 2 ^ k + a) (m * 2 ^ k + m) ≡ b % suc m * 2 ^ k + a % suc m
lower_parts k m a b low few p = and_block k b m a m p few ∙ rw (low b, low a)

-- the lower half of both parts of 32 bits
lower_halves : (a b : ℕ) → a < 4294967296 → b < 4294967296 → bit_and (a + 4294967296 * b) 281470681808895 ≡ a % 65536 + 4294967296 * (b % 65536)
lower_halves a b p q =
    let same : a + 4294967296 * b ≡ b * 2 ^ 32 + a = omega arith in
    ap (λ n. bit_and n 281470681808895) same ∙ lower_parts 32 65535 a b (λ n. and_numeral n 65534 refl) (omega arith) p ∙ omega arith

abbrev joined_value : ℕ → ℕ
joined_value word =
    let pairs : ℕ = bit_and ((word * 10 % 2 ^ 64 + word / 2 ^ 8) % 2 ^ 64) 71777214294589695 in
    let fours : ℕ = bit_and ((pairs * 100 % 2 ^ 64 + pairs / 2 ^ 16) % 2 ^ 64) 281470681808895 in
    (fours * 10000 % 2 ^ 64 + fours / 2 ^ 32) % 2 ^ 64 % 4294967296

-- four numbers of two digits
pairs_joined : (a b c d pairs : ℕ) → a ≤ 99 → b ≤ 99 → c ≤ 99 → d ≤ 99 → pairs ≡ a + 65536 * (b + 65536 * (c + 65536 * d))
    → (bit_and ((pairs * 100 % 2 ^ 64 + pairs / 2 ^ 16) % 2 ^ 64) 281470681808895 * 10000 % 2 ^ 64 + bit_and ((pairs * 100 % 2 ^ 64 + pairs / 2 ^ 16) % 2 ^ 64) 281470681808895 / 2 ^ 32) % 2 ^ 64 % 4294967296
    ≡ ((a * 100 + b) * 100 + c) * 100 + d
pairs_joined a b c d pairs p q r s is =
    let q1 : ℕ = 100 * a + b + 65536 * (100 * b + c) in
    let q2 : ℕ = 100 * c + d + 65536 * (100 * d) in
    let sums : (pairs * 100 % 2 ^ 64 + pairs / 2 ^ 16) % 2 ^ 64 ≡ q1 + 4294967296 * q2 = omega arith in
    let fours : bit_and ((pairs * 100 % 2 ^ 64 + pairs / 2 ^ 16) % 2 ^ 64) 281470681808895 ≡ (100 * a + b) + 4294967296 * (100 * c + d) =
    ap (λ n. bit_and n 281470681808895) sums ∙ lower_halves q1 q2 (omega arith) (omega arith) ∙ omega arith in
    omega (arith, fours)

-- eight digits, joined to pairs, to fours and to the number
digits_joined : (a b c d e f g h word : ℕ) → a ≤ 9 → b ≤ 9 → c ≤ 9 → d ≤ 9 → e ≤ 9 → f ≤ 9 → g ≤ 9 → h ≤ 9
    → word ≡ a + 256 * (b + 256 * (c + 256 * (d + 256 * (e + 256 * (f + 256 * (g + 256 * h))))))
    → joined_value word ≡ ((((((a * 10 + b) * 10 + c) * 10 + d) * 10 + e) * 10 + f) * 10 + g) * 10 + h
digits_joined a b c d e f g h word p q r s t u v w is =
    let m1 : ℕ = 10 * a + b in
    let m2 : ℕ = 10 * c + d in
    let m3 : ℕ = 10 * e + f in
    let m4 : ℕ = 10 * g + h in
    let r1 : ℕ = m1 + 256 * (10 * b + c) in
    let r2 : ℕ = m2 + 256 * (10 * d + e) in
    let r3 : ℕ = m3 + 256 * (10 * f + g) in
    let r4 : ℕ = m4 + 256 * (10 * h) in
    let sums : (word * 10 % 2 ^ 64 + word / 2 ^ 8) % 2 ^ 64 ≡ r1 + 65536 * (r2 + 65536 * (r3 + 65536 * r4)) = omega arith in
    let pairs : bit_and ((word * 10 % 2 ^ 64 + word / 2 ^ 8) % 2 ^ 64) 71777214294589695 ≡ m1 + 65536 * (m2 + 65536 * (m3 + 65536 * m4)) =
    ap (λ n. bit_and n 71777214294589695) sums
    ∙ lower_bytes r1 r2 r3 r4 (omega arith) (omega arith) (omega arith) (omega arith)
    ∙ omega arith in
    pairs_joined m1 m2 m3 m4 _ (omega arith) (omega arith) (omega arith) (omega arith) pairs ∙ omega arith

digit_small : (b : ℕ) → is_ascii_digit b ≡ true → b - 48 ≤ 9
digit_small b h = grind (arith, common_steps, nat_tests)

pub eight_joined : (bytes : List ℕ) (word : ℕ) → length bytes ≡ 8 → list_all is_ascii_digit bytes ≡ true → word ≡ number_l 256 (map (λ byte. byte - 48) bytes) → joined_value word ≡ number_after 0 bytes
eight_joined (a ∷ b ∷ c ∷ d ∷ e ∷ f ∷ g ∷ h ∷ []) word long digits is =
    let p1 = and_parts (is_ascii_digit a) _ digits in
    let p2 = and_parts (is_ascii_digit b) _ p1.1 in
    let p3 = and_parts (is_ascii_digit c) _ p2.1 in
    let p4 = and_parts (is_ascii_digit d) _ p3.1 in
    let p5 = and_parts (is_ascii_digit e) _ p4.1 in
    let p6 = and_parts (is_ascii_digit f) _ p5.1 in
    let p7 = and_parts (is_ascii_digit g) _ p6.1 in
    let p8 = and_parts (is_ascii_digit h) _ p7.1 in
    digits_joined (a - 48) (b - 48) (c - 48) (d - 48) (e - 48) (f - 48) (g - 48) (h - 48) word
    (digit_small a p1.0) (digit_small b p2.0) (digit_small c p3.0) (digit_small d p4.0) (digit_small e p5.0) (digit_small f p6.0) (digit_small g p7.0) (digit_small h p8.0)
    (omega (arith, is))
    ∙ ap (λ n. ((((((n * 10 + (b - 48)) * 10 + (c - 48)) * 10 + (d - 48)) * 10 + (e - 48)) * 10 + (f - 48)) * 10 + (g - 48)) * 10 + (h - 48)) (omega arith)
eight_joined bytes word long digits is = absurd (omega (arith, long))

pub number_small : (lanes : List ℕ) → length lanes ≡ 8 → Each1 (λ x. x < 256) lanes → number_l 256 lanes < 2 ^ 64
number_small (a ∷ b ∷ c ∷ d ∷ e ∷ f ∷ g ∷ h ∷ []) long each =
    omega (arith, each.0, each.1.0, each.1.1.0, each.1.1.1.0, each.1.1.1.1.0, each.1.1.1.1.1.0, each.1.1.1.1.1.1.0, each.1.1.1.1.1.1.1.0)
number_small lanes long each = absurd (omega (arith, long))

-- the lowest bits of a mask are 1
pub digits_counted : (lanes : List ℕ) (mask count : ℕ) → length lanes ≡ 8 → mask ≡ mask_l (map (λ x. ltb x 10) lanes) → ((i : ℕ) → i < count → bit_at mask i ≡ 1)
    → (k : ℕ) → k < count → get_or lanes k 0 ≤ 9
digits_counted lanes mask count long is set k lt =
    elim (cases_lt k 8) [
      | inl less ↦
          let bit : cond {A = ℕ} (get_or (map (λ x. ltb x 10) lanes) k false) 1 0 ≡ 1 = sym (bit_mask_l (map (λ x. ltb x 10) lanes) k) ∙ ap (λ n. bit_at n k) (sym is) ∙ set k lt in
          let here : get_or (map (λ x. ltb x 10) lanes) k false ≡ ltb (get_or lanes k 0) 10 = get_or-map (λ x. ltb x 10) lanes k 0 false (omega arith) in
          by (get_or lanes k 0) (ap (λ b. cond {A = ℕ} b 1 0) (sym here) ∙ bit)
      | inr past ↦ let none : get_or lanes k 0 ≡ 0 = get_or_past lanes k 0 (omega arith) in omega (arith, none)
    ]
  where
    one : (b : Bool) → cond {A = ℕ} b 1 0 ≡ 1 → b ≡ true
    one true e = refl
    one false e = absurd (omega (arith, e))

    by : (x : ℕ) → cond {A = ℕ} (ltb x 10) 1 0 ≡ 1 → x ≤ 9
    by x e = let less : x < 10 = ltb-true x 10 (one (ltb x 10) e) in omega arith

-- the digits at the front of bytes, and the word of their lanes
abbrev lane : ℕ → ℕ
lane byte = (byte + 208) % 256

pub digit_byte : (byte : ℕ) → byte < 256 → lane byte ≤ 9 → (is_ascii_digit byte ≡ true) × (lane byte ≡ byte - 48)
digit_byte byte small few = (grind (arith, common_steps, nat_tests), omega arith)

pub digits_front : (xs : List ℕ) (n : ℕ) → n ≤ length xs → ((k : ℕ) → k < n → is_ascii_digit (get_or xs k 0) ≡ true) → list_all is_ascii_digit (take n xs) ≡ true
digits_front xs zero le each = refl
digits_front [] (suc n) le each = refl
digits_front (x ∷ xs) (suc n) le each =
    let here : is_ascii_digit x ≡ true = each 0 (omega arith) in
    rw here (digits_front xs n (omega arith) (λ k lt. each (suc k) (omega arith)))

pub lanes_front : (xs : List ℕ) (n : ℕ) → ((k : ℕ) → k < n → lane (get_or xs k 0) ≡ get_or xs k 0 - 48) → map lane (take n xs) ≡ map (λ byte. byte - 48) (take n xs)
lanes_front xs zero each = refl
lanes_front [] (suc n) each = refl
lanes_front (x ∷ xs) (suc n) each =
    ap (λ y. y ∷ map lane (take n xs)) (each 0 (omega arith)) ∙ ap (λ l. (x - 48) ∷ l) (lanes_front xs n (λ k lt. each (suc k) (omega arith)))

number-append : (xs ys : List ℕ) → number_l 256 (xs ++ ys) ≡ number_l 256 xs + 256 ^ length xs * number_l 256 ys
number-append [] ys = omega arith
number-append (x ∷ xs) ys =
    let power : 256 ^ length (x ∷ xs) ≡ 256 ^ length xs * 256 = ap (λ k. 256 ^ k) (omega arith) ∙ pow_more 256 (length xs) in
    let product : 256 ^ length (x ∷ xs) * number_l 256 ys ≡ 256 ^ length xs * 256 * number_l 256 ys = ap (λ p. p * number_l 256 ys) power in
    omega (arith, number-append xs ys, product)

zeros_before : (k : ℕ) (xs : List ℕ) → number_l 256 (replicate k 0 ++ xs) ≡ 256 ^ k * number_l 256 xs
zeros_before zero xs = omega arith
zeros_before (suc k) xs =
    let power : 256 ^ suc k ≡ 256 ^ k * 256 = ap (λ n. 256 ^ n) (omega arith) ∙ pow_more 256 k in
    let product : 256 ^ suc k * number_l 256 xs ≡ 256 ^ k * 256 * number_l 256 xs = ap (λ p. p * number_l 256 xs) power in
    omega (arith, zeros_before k xs, product)

number_below : (xs : List ℕ) → Each1 (λ x. x < 256) xs → number_l 256 xs < 256 ^ length xs
number_below [] each = omega arith
number_below (x ∷ xs) each =
    let power : 256 ^ length (x ∷ xs) ≡ 256 ^ length xs * 256 = ap (λ k. 256 ^ k) (omega arith) ∙ pow_more 256 (length xs) in
    omega (arith, number_below xs each.1, each.0, power)

lanes_small : (xs : List ℕ) → Each1 (λ x. x < 256) (map lane xs)
lanes_small [] = tt
lanes_small (x ∷ xs) = (omega arith, lanes_small xs)

-- a number of so many bytes is moved to the highest bytes of a word
moved_up : (len a b : ℕ) → 1 ≤ len → len ≤ 7 → a < 256 ^ len → (a + 256 ^ len * b) * 2 ^ (64 - 8 * len) % 2 ^ 64 ≡ 256 ^ (8 - len) * a
moved_up zero a b some few small = absurd (omega arith)
moved_up (suc zero) a b some few small = omega (arith, small)
moved_up (suc (suc zero)) a b some few small = omega (arith, small)
moved_up (suc (suc (suc zero))) a b some few small = omega (arith, small)
moved_up (suc (suc (suc (suc zero)))) a b some few small = omega (arith, small)
moved_up (suc (suc (suc (suc (suc zero))))) a b some few small = omega (arith, small)
moved_up (suc (suc (suc (suc (suc (suc zero)))))) a b some few small = omega (arith, small)
moved_up (suc (suc (suc (suc (suc (suc (suc zero))))))) a b some few small = omega (arith, small)
moved_up (suc (suc (suc (suc (suc (suc (suc (suc n)))))))) a b some few small = absurd (omega arith)

zero_digits : (k : ℕ) (bytes : List ℕ) → number_after 0 (replicate k 48 ++ bytes) ≡ number_after 0 bytes
zero_digits zero bytes = refl
zero_digits (suc k) bytes = ap (λ n. number_after n (replicate k 48 ++ bytes)) (omega arith) ∙ zero_digits k bytes

zeros_are_digits : (k : ℕ) (bytes : List ℕ) → list_all is_ascii_digit bytes ≡ true → list_all is_ascii_digit (replicate k 48 ++ bytes) ≡ true
zeros_are_digits zero bytes h = h
zeros_are_digits (suc k) bytes h = zeros_are_digits k bytes h

zeros_less : (k : ℕ) (bytes : List ℕ) → map (λ byte. byte - 48) (replicate k 48 ++ bytes) ≡ replicate k 0 ++ map (λ byte. byte - 48) bytes
zeros_less zero bytes = refl
zeros_less (suc k) bytes = ap (λ l. 0 ∷ l) (zeros_less k bytes)

-- the digits at a place of a text
module _ (text : List ℕ) (at len : ℕ) (room : at + 8 ≤ length text) (some : 1 ≤ len) (few : len ≤ 7)
    (bytes : (k : ℕ) → get_or text k 0 < 256) (counted : (k : ℕ) → k < len → get_or (map (λ byte. (byte + 208) % 256) (chunk at 8 text)) k 0 ≤ 9) where
  xs : List ℕ
  xs = drop at text

  byte_is : (k : ℕ) → k < len → (is_ascii_digit (get_or (drop at text) k 0) ≡ true) × (lane (get_or (drop at text) k 0) ≡ get_or (drop at text) k 0 - 48)
  byte_is k lt =
      let long : length (chunk at 8 text) ≡ 8 = length-chunk at 8 text room in
      let mapped : get_or (map lane (chunk at 8 text)) k 0 ≡ lane (get_or (chunk at 8 text) k 0) = get_or-map lane (chunk at 8 text) k 0 0 (omega arith) in
      let here : get_or (chunk at 8 text) k 0 ≡ get_or (drop at text) k 0 = get_or-take 8 (drop at text) k 0 (omega arith) in
      let small : get_or (drop at text) k 0 < 256 = rw (get_or-drop at text k 0) (bytes (at + k)) in
      let nine : lane (get_or (drop at text) k 0) ≤ 9 = omega (arith, counted k lt, mapped, ap lane here) in
      digit_byte (get_or (drop at text) k 0) small nine

  part : slice_range text at (at + len) ≡ take len (drop at text)
  part = let long : at + len - at ≡ len = omega arith in ap (λ n. take n (drop at text)) long

  front_digits : list_all is_ascii_digit (take len (drop at text)) ≡ true
  front_digits = digits_front (drop at text) len (omega (arith, length-drop at text)) (λ k lt. (byte_is k lt).0)

  pub run_digits : list_all is_ascii_digit (slice_range text at (at + len)) ≡ true
  run_digits = ap (list_all is_ascii_digit) part ∙ front_digits

  front_long : length (take len (drop at text)) ≡ len
  front_long = length-take-le len (drop at text) (omega (arith, length-drop at text))

  word_moved : number_l 256 (map (λ byte. (byte + 208) % 256) (chunk at 8 text)) * 2 ^ (64 - 8 * len) % 2 ^ 64
      ≡ number_l 256 (map (λ byte. byte - 48) (replicate (8 - len) 48 ++ take len (drop at text)))
  word_moved =
      let front : List ℕ = take len (drop at text) in
      let rest : List ℕ = drop len (take 8 (drop at text)) in
      let a : ℕ = number_l 256 (map lane front) in
      let b : ℕ = number_l 256 (map lane rest) in
      let parts : chunk at 8 text ≡ front ++ rest =
      sym (take-append-drop len (take 8 (drop at text))) ∙ ap (λ l. l ++ rest) (take-take len 8 (drop at text) (omega arith)) in
      let long : length (map lane front) ≡ len = length-map front lane ∙ front_long in
      let small : a < 256 ^ len = rw long at (number_below (map lane front) (lanes_small front)) in
      let whole : number_l 256 (map lane (chunk at 8 text)) ≡ a + 256 ^ len * b =
      ap (λ l. number_l 256 (map lane l)) parts
      ∙ ap (number_l 256) (map-append lane front rest)
      ∙ number-append (map lane front) (map lane rest)
      ∙ ap (λ n. a + 256 ^ n * b) long in
      ap (λ n. n * 2 ^ (64 - 8 * len) % 2 ^ 64) whole
      ∙ moved_up len a b some few small
      ∙ ap (λ n. 256 ^ (8 - len) * n) (ap (number_l 256) (lanes_front (drop at text) len (λ k lt. (byte_is k lt).1)))
      ∙ sym (zeros_before (8 - len) (map (λ byte. byte - 48) front))
      ∙ ap (number_l 256) (sym (zeros_less (8 - len) front))

  pub run_value : (value : ℕ)
      → ((bytes : List ℕ) → length bytes ≡ 8 → list_all is_ascii_digit bytes ≡ true
      → number_l 256 (map (λ byte. (byte + 208) % 256) (chunk at 8 text)) * 2 ^ (64 - 8 * len) % 2 ^ 64 ≡ number_l 256 (map (λ byte. byte - 48) bytes) → value ≡ number_after 0 bytes)
      → value ≡ number_after 0 (slice_range text at (at + len))
  run_value value reads =
      let eight : List ℕ = replicate (8 - len) 48 ++ take len (drop at text) in
      let long : length eight ≡ 8 = omega (arith, length-append (replicate (8 - len) 48) (take len (drop at text)), length-replicate {A = ℕ} (8 - len) 48, front_long) in
      reads eight long (zeros_are_digits (8 - len) (take len (drop at text)) front_digits) word_moved
      ∙ zero_digits (8 - len) (take len (drop at text))
      ∙ ap (number_after 0) (sym part)
