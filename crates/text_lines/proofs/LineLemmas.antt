-- Lines of a text.
use Rattle.std.proofs.Common.{◌≡◌, ℕ, suc, zero, ◌<◌, ◌≤◌, ◌+◌, ◌-◌, List, [], ◌∷◌, length, take, drop, get_or, ap, sym, ◌∙◌, refl, arith, ◌==◌, add-one, Bool, true, false, if◌then◌else◌, map, min, add_assoc, length-drop, slice_range, take-take}
use Rattle.std.proofs.Math.ListN.{drop_of_length-le}
use Rattle.std.proofs.lemmas.Grind.{common_steps}
use Rattle.std.proofs.lemmas.List.{drop-drop, length-take-le}
use Rattle.std.specs.List.{onto_first}
use Rattle.std.specs.Str.Lines.{strip_carriage_return}
use Rattle.text_lines.specs.Lines.{without_return, line_parts, line_len, first_line, lines_of, is_blank, filled_lines}

-- a line that ends with a carriage return is shorter by it
pub length_return_dropped : (line : List ℕ) (n : ℕ) → length line ≡ n + 1 → get_or line n 0 ≡ 13 → length (without_return line) ≡ n
length_return_dropped [] n h e = absurd (omega arith)
length_return_dropped (b ∷ []) zero h e = let is : b ≡ 13 = e in rw is refl
length_return_dropped (b ∷ []) (suc n) h e = absurd (omega arith)
length_return_dropped (b ∷ c ∷ line) zero h e = absurd (omega arith)
length_return_dropped (b ∷ c ∷ line) (suc n) h e = ap suc (length_return_dropped (c ∷ line) n (omega arith) e)

pub length_return_empty : (line : List ℕ) → length line ≡ 0 → length (without_return line) ≡ 0
length_return_empty [] h = refl
length_return_empty (b ∷ line) h = absurd (omega arith)

-- another line keeps its length
pub length_return_none : (line : List ℕ) (n : ℕ) → length line ≡ n + 1 → (get_or line n 0 ≡ 13 → ⊥) → length (without_return line) ≡ n + 1
length_return_none [] n h e = absurd (omega arith)
length_return_none (b ∷ []) zero h e = grind (arith, common_steps)
length_return_none (b ∷ []) (suc n) h e = absurd (omega arith)
length_return_none (b ∷ c ∷ line) zero h e = absurd (omega arith)
length_return_none (b ∷ c ∷ line) (suc n) h e = omega (arith, length_return_none (c ∷ line) n (omega arith) e)

-- a line without a carriage return is a front of the line
pub without_return_is : (line : List ℕ) → take (length (without_return line)) line ≡ without_return line
without_return_is [] = refl
without_return_is (b ∷ []) = elim (b == 13) as (λ v. take (length (if v then [] else b ∷ [])) (b ∷ []) ≡ (if v then [] else b ∷ [])) [ true ↦ refl | false ↦ refl ]
without_return_is (b ∷ c ∷ line) = ap (λ t. b ∷ t) (without_return_is (c ∷ line))

pub length-without_return-le : (line : List ℕ) → length (without_return line) ≤ length line
length-without_return-le [] = omega arith
length-without_return-le (b ∷ []) = elim (b == 13) as (λ v. length (if v then [] else b ∷ []) ≤ 1) [ true ↦ omega arith | false ↦ omega arith ]
length-without_return-le (b ∷ c ∷ line) = omega (arith, length-without_return-le (c ∷ line))

pub line_len-le : (bytes : List ℕ) → line_len bytes ≤ length bytes
line_len-le [] = omega arith
line_len-le (b ∷ bytes) = grind (arith, common_steps, line_len-le bytes)

-- the first part of a text, and the parts after it
pub line_parts_first : (bytes : List ℕ) → 0 < length bytes → line_parts bytes ≡ first_line bytes ∷ line_parts (drop (line_len bytes + 1) bytes)
unfolding line_parts
line_parts_first [] h = absurd (omega arith)
line_parts_first (b ∷ []) h = elim (b == 10) as (λ v. (if v then [] ∷ line_parts [] else onto_first b (line_parts [])) ≡ take (if v then 0 else 1) (b ∷ []) ∷ line_parts (drop ((if v then 0 else 1) + 1) (b ∷ []))) [
  | true ↦ refl
  | false ↦ refl
]
line_parts_first (b ∷ c ∷ bytes) h = elim (b == 10) as (λ v. (if v then [] ∷ line_parts (c ∷ bytes) else onto_first b (line_parts (c ∷ bytes)))
    ≡ take (if v then 0 else suc (line_len (c ∷ bytes))) (b ∷ c ∷ bytes) ∷ line_parts (drop ((if v then 0 else suc (line_len (c ∷ bytes))) + 1) (b ∷ c ∷ bytes))) [
      | true ↦ refl
      | false ↦ ap (onto_first b) (line_parts_first (c ∷ bytes) (omega arith)) ∙ ap (λ k. (b ∷ take (line_len (c ∷ bytes)) (c ∷ bytes)) ∷ line_parts k) (ap (λ n. drop n (b ∷ c ∷ bytes)) (sym (add-one (line_len (c ∷ bytes) + 1)) ∙ omega arith))
    ]

drop_capped : (text : List ℕ) (n : ℕ) → drop n text ≡ drop (min n (length text)) text
drop_capped text n = grind (arith, common_steps, drop_of_length-le {A = ℕ})

pub rest_is : (text : List ℕ) (at next len : ℕ) → next ≡ min (at + len + 1) (length text) → drop (len + 1) (drop at text) ≡ drop next text
rest_is text at next len is = drop-drop (len + 1) at text ∙ ap (λ n. drop n text) (sym (add_assoc at len 1)) ∙ drop_capped text (at + len + 1) ∙ ap (λ n. drop n text) (sym is)

-- a line loses the carriage return at its end, if it has one
pub strip_is : (line : List ℕ) → strip_carriage_return line ≡ without_return line
strip_is [] = refl
strip_is (b ∷ []) = refl
strip_is (b ∷ c ∷ line) =
    let last : length (b ∷ c ∷ line) - 1 ≡ suc (length (c ∷ line) - 1) = omega arith in
    rw last (behind (get_or (c ∷ line) (length (c ∷ line) - 1) 0 == 13)) ∙ ap (λ t. b ∷ t) (strip_is (c ∷ line))
  where
    behind : (t : Bool) → (if t then b ∷ take (length (c ∷ line) - 1) (c ∷ line) else b ∷ c ∷ line) ≡ b ∷ (if t then take (length (c ∷ line) - 1) (c ∷ line) else c ∷ line)
    behind true = refl
    behind false = refl

-- the first line from a place on, and the lines behind it
pub lines_split : (text : List ℕ) (at : ℕ) → at < length text
    → lines_of (drop at text) ≡ without_return (first_line (drop at text)) ∷ lines_of (drop (line_len (drop at text) + 1) (drop at text))
lines_split text at lt =
    ap (map strip_carriage_return) (line_parts_first (drop at text) (omega (arith, length-drop at text)))
    ∙ ap (λ line. line ∷ lines_of (drop (line_len (drop at text) + 1) (drop at text))) (strip_is (first_line (drop at text)))

-- the line at a place, without its carriage return
pub line_text : (text : List ℕ) (at end : ℕ) → end ≡ at + length (without_return (first_line (drop at text))) → slice_range text at end ≡ without_return (first_line (drop at text))
line_text text at end end_is =
    let line = first_line (drop at text) in
    let short : length (without_return line) ≤ line_len (drop at text) = omega (arith, length-without_return-le line, length-take-le (line_len (drop at text)) (drop at text) (line_len-le (drop at text))) in
    let long : end - at ≡ length (without_return line) = omega arith in
    ap (λ n. take n (drop at text)) long
    ∙ sym (take-take (length (without_return line)) (line_len (drop at text)) (drop at text) short)
    ∙ without_return_is line

-- the line that `next_line` finds
module _ (text : List ℕ) (at start end next : ℕ) (le : at ≤ length text) (more : at ≡ length text → true ≡ false) (start_is : start ≡ at)
    (end_is : end ≡ at + length (without_return (first_line (drop at text)))) (next_is : next ≡ min (at + line_len (drop at text) + 1) (length text)) where
  pub place_lt : at < length text
  place_lt = let apart : at ≡ length text → ⊥ = λ e. let t = more e in absurd (cc) in omega arith

  -- the next place lies further
  pub next_gt : at < next
  next_gt = omega (arith, place_lt)

  -- the lines from the place on: it, and those from the next place on
  pub lines_step : lines_of (drop at text) ≡ slice_range text start end ∷ lines_of (drop next text)
  lines_step =
      lines_split text at place_lt
      ∙ ap (λ l. l ∷ lines_of (drop (line_len (drop at text) + 1) (drop at text))) (sym (line_text text at end end_is))
      ∙ ap (λ t. slice_range text at end ∷ lines_of t) (rest_is text at next (line_len (drop at text)) next_is)
      ∙ ap (λ n. slice_range text n end ∷ lines_of (drop next text)) (sym start_is)

pub no_lines : (text : List ℕ) (at : ℕ) → at ≡ length text → lines_of (drop at text) ≡ []
unfolding line_parts
no_lines text at is =
    let le : length text ≤ length text = omega arith in
    rw (is, drop_of_length-le text le) refl

-- the filled lines behind a blank line, and behind another
module _ (number : ℕ) (line : List ℕ) (lines : List (List ℕ)) where
  pub filled_blank : is_blank line ≡ true → filled_lines number (line ∷ lines) ≡ filled_lines (number + 1) lines
  unfolding filled_lines
  filled_blank h = rw h refl

  pub filled_here : is_blank line ≡ false → filled_lines number (line ∷ lines) ≡ record { number = number; text = line } ∷ filled_lines (number + 1) lines
  unfolding filled_lines
  filled_here h = rw h refl

pub filled_none : (number : ℕ) (lines : List (List ℕ)) → lines ≡ [] → filled_lines number lines ≡ []
unfolding filled_lines
filled_none number lines h = rw h refl
