-- The places of the ones of a byte.
use Rattle.std.proofs.Common.{◌≡◌, ◌≢◌, ◌∙◌, ℕ, zero, suc, ◌+◌, ◌*◌, ◌/◌, ◌%◌, ◌^◌, ◌<◌, ◌≤◌, Bool, true, false, cond, if◌then◌else◌, eqb, List, [], ◌∷◌, ◌++◌, length, map, take, drop, set, get_or, refl, sym, ap, subst, arith, inl, inr, get_or-set_same, get_or-set_other, ◌||◌, ◌&&◌}
use Rattle.std.proofs.lemmas.Bool.{and_parts, cases_eq, cases_lt}
use Rattle.std.proofs.lemmas.Grind.{pow_more}
use Rattle.std.proofs.lemmas.List.{take-append-le, take-take, take-map, drop-take, take_at, drop_at, take_more_set, take-set-le, length-take-le, length-drop, length-map, append_assoc}
use Rattle.std.proofs.lemmas.Simd.{put_chunk_is, chunk-drop, length-chunk, length-put_chunk}
use Rattle.std.proofs.Math.Nat.{pow-le-pow_right}
use Rattle.std.proofs.Math.Seq.{take-append-add}
use Rattle.std.specs.Simd.Lanes.{chunk, mask_l, put_chunk}
use Rattle.std.specs.List.{list_all}
use Rattle.matrix_read.specs.BitPlaces.{bit_places, ListsOnes}
use Rattle.matrix_read.specs.Dense.{is_digit}
use Rattle.matrix_read.proofs.PlaceLemmas.{places_from}
use Rattle.matrix_read.proofs.DenseLemmas.{ones_from}

-- a number has no bits
pub no_places : (bits place : ℕ) → bit_places bits place 0 ≡ []
unfolding bit_places
no_places zero place = refl
no_places (suc bits) place = no_places bits (place + 1)

pub no_bits : (place n : ℕ) → bit_places 0 place n ≡ []
unfolding bit_places
no_bits place n = refl

-- a small number has few ones
pub few_places : (bits place top n : ℕ) → n < 2 ^ top → length (bit_places bits place n) ≤ top
unfolding bit_places
few_places zero place top n small = omega arith
few_places (suc bits) place zero n small =
    let none : n ≡ 0 = omega arith in
    omega (arith, ap (λ m. length (bit_places (suc bits) place m)) none, ap length (no_places (suc bits) place))
few_places (suc bits) place (suc top) n small =
    let less : n / 2 < 2 ^ top = omega (arith, pow_more 2 top) in
    by (eqb (n % 2) 1) (few_places bits (place + 1) top (n / 2) less)
  where
    by : (odd : Bool) → length (bit_places bits (place + 1) (n / 2)) ≤ top
        → length (if odd then place ∷ bit_places bits (place + 1) (n / 2) else bit_places bits (place + 1) (n / 2)) ≤ suc top
    by true few = omega arith
    by false few = omega arith

-- a higher one has the last place
pub one_place_more : (bits place top n : ℕ) → top < bits → n < 2 ^ top → bit_places bits place (2 ^ top + n) ≡ bit_places bits place n ++ (place + top) ∷ []
unfolding bit_places
one_place_more zero place top n lt small = absurd (omega arith)
one_place_more (suc bits) place zero n lt small =
    let none : n ≡ 0 = omega arith in
    ap (λ m. bit_places (suc bits) place (1 + m)) none
    ∙ ap (λ rest. place ∷ rest) (no_places bits (place + 1))
    ∙ ap (λ p. p ∷ []) (omega arith)
    ∙ ap (λ front. front ++ (place + 0) ∷ []) (sym (no_places (suc bits) place) ∙ ap (bit_places (suc bits) place) (sym none))
one_place_more (suc bits) place (suc top) n lt small =
    let less : n / 2 < 2 ^ top = omega (arith, pow_more 2 top) in
    let odd : (2 ^ (suc top) + n) % 2 ≡ n % 2 = omega (arith, pow_more 2 top) in
    let half : (2 ^ (suc top) + n) / 2 ≡ 2 ^ top + n / 2 = omega (arith, pow_more 2 top) in
    let last : place + 1 + top ≡ place + suc top = omega arith in
    let later : bit_places bits (place + 1) ((2 ^ (suc top) + n) / 2) ≡ bit_places bits (place + 1) (n / 2) ++ (place + suc top) ∷ [] =
    ap (bit_places bits (place + 1)) half ∙ one_place_more bits (place + 1) top (n / 2) (omega arith) less ∙ ap (λ p. bit_places bits (place + 1) (n / 2) ++ p ∷ []) last in
    ap (λ r. if eqb r 1 then place ∷ bit_places bits (place + 1) ((2 ^ (suc top) + n) / 2) else bit_places bits (place + 1) ((2 ^ (suc top) + n) / 2)) odd
    ∙ ap (λ rest. if eqb (n % 2) 1 then place ∷ rest else rest) later
    ∙ by (eqb (n % 2) 1) (bit_places bits (place + 1) (n / 2)) ((place + suc top) ∷ [])
  where
    by : (odd : Bool) (front rest : List ℕ) → (if odd then place ∷ (front ++ rest) else front ++ rest) ≡ (if odd then place ∷ front else front) ++ rest
    by true front rest = refl
    by false front rest = refl

-- places that are counted from another one
pub moved_places : (first bits place n : ℕ) → place + bits + first ≤ 2 ^ 32 → map (λ x. (x + first) % 2 ^ 32) (bit_places bits place n) ≡ bit_places bits (place + first) n
unfolding bit_places
moved_places first zero place n small = refl
moved_places first (suc bits) place n small =
    let next : place + 1 + first ≡ place + first + 1 = omega arith in
    let here : (place + first) % 2 ^ 32 ≡ place + first = omega arith in
    by (eqb (n % 2) 1) (bit_places bits (place + 1) (n / 2)) (bit_places bits (place + first + 1) (n / 2)) here
    (moved_places first bits (place + 1) (n / 2) (omega arith) ∙ ap (λ p. bit_places bits p (n / 2)) next)
  where
    by : (odd : Bool) (rest moved : List ℕ) → (place + first) % 2 ^ 32 ≡ place + first → map (λ x. (x + first) % 2 ^ 32) rest ≡ moved
        → map (λ x. (x + first) % 2 ^ 32) (if odd then place ∷ rest else rest) ≡ (if odd then (place + first) ∷ moved else moved)
    by true rest moved here e = ap (λ x. x ∷ map (λ x. (x + first) % 2 ^ 32) rest) here ∙ ap (λ l. (place + first) ∷ l) e
    by false rest moved here e = e

-- lists with the same front
pub same_front : (xs ys : List ℕ) (n i k : ℕ) → take n xs ≡ take n ys → i + k ≤ n → take k (drop i xs) ≡ take k (drop i ys)
same_front xs ys n i k same le =
    sym (drop-take i k xs) ∙ ap (drop i) (sym (take-take (i + k) n xs le) ∙ ap (take (i + k)) same ∙ take-take (i + k) n ys le) ∙ drop-take i k ys

-- what is stored at a place
pub stored : (xs ys : List ℕ) (i k : ℕ) → i + length ys ≤ length xs → k ≤ length ys → take (i + k) (put_chunk i xs ys) ≡ take i xs ++ take k ys
stored xs ys i k room le =
    let long : length (take i xs) ≡ i = length-take-le i xs (omega arith) in
    ap (take (i + k)) (put_chunk_is i xs ys room)
    ∙ ap (λ n. take (n + k) (take i xs ++ (ys ++ drop (length ys) (drop i xs)))) (sym long)
    ∙ take-append-add (take i xs) (ys ++ drop (length ys) (drop i xs)) k
    ∙ ap (λ l. take i xs ++ l) (take-append-le k ys (drop (length ys) (drop i xs)) le)

-- lanes behind so many columns, of which the first are taken
pub put_lanes : (columns lanes : List ℕ) (count taken first byte : ℕ) → length lanes ≡ 8 → taken ≤ 8 → count + 8 ≤ length columns → first + 8 ≤ 2 ^ 32
    → take taken lanes ≡ bit_places 8 0 byte
    → take (count + taken) (put_chunk count columns (map (λ x. (x + first) % 2 ^ 32) lanes)) ≡ take count columns ++ bit_places 8 first byte
put_lanes columns lanes count taken first byte long few room small are =
    let moved : List ℕ = map (λ x. (x + first) % 2 ^ 32) lanes in
    let same : length moved ≡ 8 = length-map lanes (λ x. (x + first) % 2 ^ 32) ∙ long in
    let all : 0 + first ≡ first = omega arith in
    stored columns moved count taken (omega arith) (omega arith)
    ∙ ap (λ l. take count columns ++ l)
    (take-map (λ x. (x + first) % 2 ^ 32) taken lanes
    ∙ ap (map (λ x. (x + first) % 2 ^ 32)) are
    ∙ moved_places first 8 0 byte (omega arith)
    ∙ ap (λ p. bit_places 8 p byte) all)

-- a byte is listed behind all lower ones: it is a power of 2 and a lower byte
module _ (places counts : List ℕ) (byte low top : ℕ) (long : length places ≡ 2048) (wide : length counts ≡ 256) (fits : byte < 256)
    (is : byte ≡ 2 ^ top + low) (less : low < 2 ^ top) (eight : top < 8) (lower : (b : ℕ) → b < byte → ListsOnes places counts b) where
  before : low < byte
  before = omega (arith, less, is)

  abbrev row : List ℕ
  row = chunk (8 * low) 8 places

  abbrev put : List ℕ
  put = put_chunk (8 * byte) places row

  abbrev new : List ℕ
  new = set put (8 * byte + get_or counts low 0) top

  abbrev more : List ℕ
  more = set counts byte (get_or counts low 0 + 1)

  pub few_there : get_or counts low 0 ≤ top
  few_there =
      let there = lower low before in
      let within : get_or counts low 0 ≤ length (drop (8 * low) places) = omega (arith, there.few, length-drop (8 * low) places, before) in
      omega (arith, length-take-le (get_or counts low 0) (drop (8 * low) places) within, ap length there.are, few_places 8 0 top low less)

  row_long : length row ≡ 8
  row_long = length-chunk (8 * low) 8 places (omega (arith, before))

  front : take (8 * byte) new ≡ take (8 * byte) places
  front =
      let n : ℕ = 8 * byte in
      take-set-le n put (n + get_or counts low 0) top (omega arith)
      ∙ ap (take n) (put_chunk_is n places row (omega (arith, row_long)))
      ∙ take_at (take n places) (row ++ drop (length row) (drop n places)) n (length-take-le n places (omega arith))

  lower_kept : (b : ℕ) → b < byte → ListsOnes new more b
  lower_kept b lt =
      let there = lower b lt in
      let other : b ≢ byte = λ e. omega (arith, e, lt) in
      let kept : get_or more b 0 ≡ get_or counts b 0 = get_or-set_other counts byte b (get_or counts low 0 + 1) 0 other in
      let room : 8 * b + get_or counts b 0 ≤ 8 * byte = omega (arith, there.few, lt) in record {
        few = omega (arith, kept, there.few);
        are = ap (λ n. take n (drop (8 * b) new)) kept ∙ same_front new places (8 * byte) (8 * b) (get_or counts b 0) front room ∙ there.are;
      }

  new_front : take (8 * byte + (get_or counts low 0 + 1)) new ≡ take (8 * byte) places ++ (bit_places 8 0 low ++ top ∷ [])
  new_front =
      let n : ℕ = 8 * byte in
      let k : ℕ = get_or counts low 0 in
      let there = lower low before in
      let sum : n + (k + 1) ≡ n + k + 1 = omega arith in
      ap (λ i. take i new) sum
      ∙ take_more_set put (n + k) top (omega (arith, length-put_chunk n places row, few_there))
      ∙ ap (λ l. l ++ top ∷ []) (stored places row n k (omega (arith, row_long)) (omega (arith, row_long, there.few))
      ∙ ap (λ l. take n places ++ l) (take-take k 8 (drop (8 * low) places) there.few ∙ there.are))
      ∙ append_assoc (take n places) (bit_places 8 0 low) (top ∷ [])

  byte_listed : ListsOnes new more byte
  byte_listed =
      let n : ℕ = 8 * byte in
      let k : ℕ = get_or counts low 0 in
      let set_is : get_or more byte 0 ≡ k + 1 = get_or-set_same counts byte (k + 1) 0 (omega arith) in
      let place : 0 + top ≡ top = omega arith in record {
        few = omega (arith, set_is, few_there);
        are = ap (λ i. take i (drop n new)) set_is
            ∙ sym (drop-take n (k + 1) new)
            ∙ ap (drop n) new_front
            ∙ drop_at (take n places) (bit_places 8 0 low ++ top ∷ []) n (length-take-le n places (omega arith))
            ∙ ap (λ p. bit_places 8 0 low ++ p ∷ []) (sym place)
            ∙ sym (one_place_more 8 0 top low eight less)
            ∙ ap (bit_places 8 0) (sym is);
      }

  pub next_listed : (b : ℕ) → b < byte + 1
      → ListsOnes (set (put_chunk (8 * byte) places (chunk (8 * low) 8 places)) (8 * byte + get_or counts low 0) top) (set counts byte (get_or counts low 0 + 1)) b
  next_listed b lt =
      elim (cases_eq b byte) [
        | inl same ↦ subst (ListsOnes new more) (sym same) byte_listed
        | inr other ↦ lower_kept b (omega (arith, lt, other))
      ]

-- the byte without ones
pub first_listed : (places counts : List ℕ) → get_or counts 0 0 ≡ 0 → ListsOnes places counts 0
first_listed places counts none = record {
  few = omega (arith, none);
  are = ap (λ n. take n (drop (8 * 0) places)) none ∙ sym (no_places 8 0);
}

-- a byte has eight bits
pub top_few : (byte top : ℕ) → byte < 256 → 2 ^ top ≤ byte → top < 8
top_few byte top small le =
    elim (cases_lt top 8) [
      | inl lt ↦ lt
      | inr ge ↦ let much : 2 ^ 8 ≤ 2 ^ top = pow-le-pow_right (omega arith) ge in absurd (omega (arith, much))
    ]

-- the lowest bits and the others
pub places_split : (low high place n m : ℕ) → n < 2 ^ low → bit_places (low + high) place (n + 2 ^ low * m) ≡ bit_places low place n ++ bit_places high (place + low) m
unfolding bit_places
places_split zero high place n m small =
    let all : 0 + high ≡ high = omega arith in
    let here : place ≡ place + 0 = omega arith in
    let rest : n + 1 * m ≡ m = omega (arith, small) in
    ap (λ k. bit_places k place (n + 1 * m)) all ∙ ap (bit_places high place) rest ∙ ap (λ p. bit_places high p m) here
places_split (suc low) high place n m small =
    let all : suc low + high ≡ suc (low + high) = omega arith in
    let less : n / 2 < 2 ^ low = omega (arith, small, pow_more 2 low) in
    let power : 2 ^ suc low ≡ 2 * 2 ^ low = omega (arith, pow_more 2 low) in
    let product : 2 ^ suc low * m ≡ 2 * 2 ^ low * m = ap (λ k. k * m) power in
    let twice : 2 ^ suc low * m ≡ 2 * (2 ^ low * m) = omega (arith, product) in
    let odd : (n + 2 ^ suc low * m) % 2 ≡ n % 2 = omega (arith, twice) in
    let half : (n + 2 ^ suc low * m) / 2 ≡ n / 2 + 2 ^ low * m = omega (arith, twice) in
    let next : place + 1 + low ≡ place + suc low = omega arith in
    ap (λ k. bit_places k place (n + 2 ^ suc low * m)) all
    ∙ by (n + 2 ^ suc low * m) odd
    (ap (bit_places (low + high) (place + 1)) half ∙ places_split low high (place + 1) (n / 2) m less ∙ ap (λ p. bit_places low (place + 1) (n / 2) ++ bit_places high p m) next)
  where
    joined : (one : Bool) (xs ys : List ℕ) → (if one then place ∷ (xs ++ ys) else xs ++ ys) ≡ (if one then place ∷ xs else xs) ++ ys
    joined true xs ys = refl
    joined false xs ys = refl

    by : (whole : ℕ) → whole % 2 ≡ n % 2 → bit_places (low + high) (place + 1) (whole / 2) ≡ bit_places low (place + 1) (n / 2) ++ bit_places high (place + suc low) m
        → (if eqb (whole % 2) 1 then place ∷ bit_places (low + high) (place + 1) (whole / 2) else bit_places (low + high) (place + 1) (whole / 2))
        ≡ (if eqb (n % 2) 1 then place ∷ bit_places low (place + 1) (n / 2) else bit_places low (place + 1) (n / 2)) ++ bit_places high (place + suc low) m
    by whole odd later =
        ap (λ r. if eqb r 1 then place ∷ bit_places (low + high) (place + 1) (whole / 2) else bit_places (low + high) (place + 1) (whole / 2)) odd
        ∙ ap (λ l. if eqb (n % 2) 1 then place ∷ l else l) later
        ∙ joined (eqb (n % 2) 1) (bit_places low (place + 1) (n / 2)) (bit_places high (place + suc low) m)

-- one byte more of a mask
pub byte_put : (front before new : List ℕ) (left less first next mask : ℕ) → left ≡ 8 + less → next ≡ first + 8
    → before ++ bit_places left first mask ≡ front → new ≡ before ++ bit_places 8 first (mask % 256) → new ++ bit_places less next (mask / 256) ≡ front
byte_put front before new left less first next mask more step so_far put =
    let parts : mask % 256 + 2 ^ 8 * (mask / 256) ≡ mask = omega arith in
    let whole : bit_places left first mask ≡ bit_places 8 first (mask % 256) ++ bit_places less next (mask / 256) =
    ap (λ k. bit_places k first mask) more
    ∙ ap (bit_places (8 + less) first) (sym parts)
    ∙ places_split 8 less first (mask % 256) (mask / 256) (omega arith)
    ∙ ap (λ p. bit_places 8 first (mask % 256) ++ bit_places less p (mask / 256)) (sym step) in
    ap (λ l. l ++ bit_places less next (mask / 256)) put
    ∙ append_assoc before (bit_places 8 first (mask % 256)) (bit_places less next (mask / 256))
    ∙ ap (λ l. before ++ l) (sym whole)
    ∙ so_far

-- the bits of a mask
pub masked_places : {T : Type 0} (passes : T → Bool) (xs : List T) (place : ℕ) → bit_places (length xs) place (mask_l (map passes xs)) ≡ places_from passes place xs
unfolding bit_places
masked_places passes [] place = refl
masked_places passes (x ∷ xs) place =
    let m : ℕ = mask_l (map passes xs) in
    by (passes x) m (masked_places passes xs (place + 1))
  where
    by : (one : Bool) (m : ℕ) → bit_places (length xs) (place + 1) m ≡ places_from passes (place + 1) xs
        → (if eqb ((cond one 1 0 + 2 * m) % 2) 1 then place ∷ bit_places (length xs) (place + 1) ((cond one 1 0 + 2 * m) / 2) else bit_places (length xs) (place + 1) ((cond one 1 0 + 2 * m) / 2))
        ≡ (if one then place ∷ places_from passes (place + 1) xs else places_from passes (place + 1) xs)
    by true m e =
        let odd : (1 + 2 * m) % 2 ≡ 1 = omega arith in
        let half : (1 + 2 * m) / 2 ≡ m = omega arith in
        rw (odd, half) (ap (λ l. place ∷ l) e)
    by false m e =
        let even : (0 + 2 * m) % 2 ≡ 0 = omega arith in
        let half : (0 + 2 * m) / 2 ≡ m = omega arith in
        rw (even, half) e

-- items before others
pub places_from-append : {T : Type 0} (passes : T → Bool) (xs ys : List T) (place : ℕ) → places_from passes place (xs ++ ys) ≡ places_from passes place xs ++ places_from passes (place + length xs) ys
places_from-append passes [] ys place = ap (λ p. places_from passes p ys) (omega arith)
places_from-append passes (x ∷ xs) ys place =
    let next : place + 1 + length xs ≡ place + suc (length xs) = omega arith in
    by (passes x) (places_from-append passes xs ys (place + 1) ∙ ap (λ p. places_from passes (place + 1) xs ++ places_from passes p ys) next)
  where
    by : (one : Bool) → places_from passes (place + 1) (xs ++ ys) ≡ places_from passes (place + 1) xs ++ places_from passes (place + suc (length xs)) ys
        → (if one then place ∷ places_from passes (place + 1) (xs ++ ys) else places_from passes (place + 1) (xs ++ ys))
        ≡ (if one then place ∷ places_from passes (place + 1) xs else places_from passes (place + 1) xs) ++ places_from passes (place + suc (length xs)) ys
    by true e = ap (λ l. place ∷ l) e
    by false e = e

-- bits that are 1 in exactly one of two masks
pub one_of_two : {T : Type 0} (p q : T → Bool) (xs : List T) → mask_l (map p xs) + mask_l (map q xs) + 1 ≡ 2 ^ length xs → list_all (λ x. p x || q x) xs ≡ true
one_of_two p q [] e = refl
one_of_two p q (x ∷ xs) e =
    let m : ℕ = mask_l (map p xs) in
    let n : ℕ = mask_l (map q xs) in
    let long : 2 ^ length (x ∷ xs) ≡ 2 ^ (length xs + 1) = ap (λ k. 2 ^ k) (omega arith) in
    by (p x) (q x) m n (omega (arith, e, long, pow_more 2 (length xs))) (one_of_two p q xs)
  where
    by : (a b : Bool) (m n : ℕ) → cond a 1 0 + 2 * m + (cond b 1 0 + 2 * n) + 1 ≡ 2 * 2 ^ length xs → (m + n + 1 ≡ 2 ^ length xs → list_all (λ x. p x || q x) xs ≡ true)
        → ((a || b) && list_all (λ x. p x || q x) xs) ≡ true
    by true true m n e h = absurd (omega (arith, e))
    by false false m n e h = absurd (omega (arith, e))
    by true false m n e h = h (omega (arith, e))
    by false true m n e h = h (omega (arith, e))

-- lists that pass
pub list_all-append : {T : Type 0} (passes : T → Bool) (xs ys : List T) → list_all passes xs ≡ true → list_all passes (xs ++ ys) ≡ list_all passes ys
list_all-append passes [] ys all = refl
list_all-append passes (x ∷ xs) ys all =
    let parts = and_parts (passes x) (list_all passes xs) all in
    rw parts.0 (list_all-append passes xs ys parts.1)

-- a block of a line, and what is behind it
module _ (line : List ℕ) (at : ℕ) (room : at + 64 ≤ length line) where
  block_long : length (chunk at 64 line) ≡ 64
  block_long = length-chunk at 64 line room

  pub digits_behind : list_all is_digit (chunk at 64 line) ≡ true → list_all is_digit (drop (at + 64) line) ≡ list_all is_digit (drop at line)
  digits_behind digits = sym (ap (list_all is_digit) (chunk-drop at 64 line) ∙ list_all-append is_digit (chunk at 64 line) (drop (at + 64) line) digits)

  pub ones_behind : ones_from (at + 1) (drop at line) ≡ bit_places 64 (at + 1) (mask_l (map (λ byte. eqb byte 49) (chunk at 64 line))) ++ ones_from (at + 64 + 1) (drop (at + 64) line)
  ones_behind =
      let one : ℕ → Bool = λ byte. eqb byte 49 in
      let block : List ℕ = chunk at 64 line in
      let next : at + 1 + length block ≡ at + 64 + 1 = omega (arith, block_long) in
      ap (ones_from (at + 1)) (chunk-drop at 64 line)
      ∙ places_from-append one block (drop (at + 64) line) (at + 1)
      ∙ ap (λ p. ones_from (at + 1) block ++ ones_from p (drop (at + 64) line)) next
      ∙ ap (λ l. l ++ ones_from (at + 64 + 1) (drop (at + 64) line)) (sym (masked_places one block (at + 1)) ∙ ap (λ n. bit_places n (at + 1) (mask_l (map one block))) block_long)
