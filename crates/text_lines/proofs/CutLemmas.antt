-- Texts that are cut behind a line feed.
use Rattle.std.proofs.Common.{◌≡◌, ℕ, ◌+◌, ◌<◌, ◌==◌, ◌&&◌, List, [], ◌∷◌, ◌++◌, length, take, drop, map, get_or, refl, sym, ap, ◌∙◌, arith, true, false, Bool, if◌then◌else◌, append_assoc, length-append, take-append-drop}
use Rattle.std.proofs.lemmas.List.{map-append, take_more}
use Rattle.std.specs.List.{onto_first}
use Rattle.std.specs.Str.Lines.{strip_carriage_return}
use Rattle.text_lines.specs.Lines.{line_parts, lines_of, without_mark, unmarked_part}
use Rattle.text_lines.proofs.LineLemmas.{line_parts_first}

-- a byte before the first of some parts
onto_cut : (b : ℕ) (parts later : List (List ℕ)) (part : List ℕ) (others : List (List ℕ)) → parts ≡ part ∷ others → onto_first b (parts ++ later) ≡ onto_first b parts ++ later
onto_cut b parts later part others is = rw is refl

parts_cut : (front rest : List ℕ) → line_parts ((front ++ 10 ∷ []) ++ rest) ≡ line_parts (front ++ 10 ∷ []) ++ line_parts rest
unfolding line_parts
parts_cut [] rest = refl
parts_cut (b ∷ front) rest =
    elim (b == 10) as (λ v. (if v then [] ∷ line_parts ((front ++ 10 ∷ []) ++ rest) else onto_first b (line_parts ((front ++ 10 ∷ []) ++ rest)))
    ≡ (if v then [] ∷ line_parts (front ++ 10 ∷ []) else onto_first b (line_parts (front ++ 10 ∷ []))) ++ line_parts rest) [
      | true ↦ ap (λ parts. [] ∷ parts) (parts_cut front rest)
      | false ↦
          ap (onto_first b) (parts_cut front rest)
          ∙ onto_cut b (line_parts (front ++ 10 ∷ [])) (line_parts rest) _ _ (line_parts_first (front ++ 10 ∷ []) (omega (arith, length-append front (10 ∷ []))))
    ]

lines_cut : (front rest : List ℕ) → lines_of ((front ++ 10 ∷ []) ++ rest) ≡ lines_of (front ++ 10 ∷ []) ++ lines_of rest
lines_cut front rest = ap (map strip_carriage_return) (parts_cut front rest) ∙ map-append strip_carriage_return (line_parts (front ++ 10 ∷ [])) (line_parts rest)

-- a text with a line feed among its first three bytes has no mark
feed_first : (rest : List ℕ) → without_mark (10 ∷ rest) ≡ 10 ∷ rest
feed_first [] = refl
feed_first (a ∷ []) = refl
feed_first (a ∷ b ∷ rest) = refl

feed_second : (a : ℕ) (rest : List ℕ) → without_mark (a ∷ 10 ∷ rest) ≡ a ∷ 10 ∷ rest
feed_second a [] = refl
feed_second a (b ∷ rest) = elim (a == 239) as (λ v. (if (v && (10 == 187)) && (b == 191) then rest else a ∷ 10 ∷ b ∷ rest) ≡ a ∷ 10 ∷ b ∷ rest) [ true ↦ refl | false ↦ refl ]

feed_third : (a b : ℕ) (rest : List ℕ) → without_mark (a ∷ b ∷ 10 ∷ rest) ≡ a ∷ b ∷ 10 ∷ rest
feed_third a b rest = by ((a == 239) && (b == 187))
  where
    by : (v : Bool) → (if v && (10 == 191) then rest else a ∷ b ∷ 10 ∷ rest) ≡ a ∷ b ∷ 10 ∷ rest
    by true = refl
    by false = refl

unmarked_cut : (front rest : List ℕ) → lines_of (without_mark ((front ++ 10 ∷ []) ++ rest)) ≡ lines_of (without_mark (front ++ 10 ∷ [])) ++ lines_of rest
unmarked_cut [] rest = ap lines_of (feed_first rest) ∙ lines_cut [] rest
unmarked_cut (a ∷ []) rest = ap lines_of (feed_second a rest) ∙ lines_cut (a ∷ []) rest
unmarked_cut (a ∷ b ∷ []) rest = ap lines_of (feed_third a b rest) ∙ lines_cut (a ∷ b ∷ []) rest ∙ ap (λ text. lines_of text ++ lines_of rest) (sym (feed_third a b []))
unmarked_cut (a ∷ b ∷ d ∷ front) rest = by (((a == 239) && (b == 187)) && (d == 191))
  where
    by : (v : Bool) → lines_of (if v then (front ++ 10 ∷ []) ++ rest else a ∷ b ∷ d ∷ ((front ++ 10 ∷ []) ++ rest))
        ≡ lines_of (if v then front ++ 10 ∷ [] else a ∷ b ∷ d ∷ (front ++ 10 ∷ [])) ++ lines_of rest
    by true = lines_cut front rest
    by false = lines_cut (a ∷ b ∷ d ∷ front) rest

front_cut : (is_begun : Bool) (front rest : List ℕ) → lines_of (unmarked_part is_begun ((front ++ 10 ∷ []) ++ rest)) ≡ lines_of (unmarked_part is_begun (front ++ 10 ∷ [])) ++ lines_of rest
front_cut true front rest = lines_cut front rest
front_cut false front rest = unmarked_cut front rest

-- the lines up to a line feed, and those behind it
pub cut_at : (is_begun : Bool) (text rest : List ℕ) (last : ℕ) → last < length text → get_or text last 0 ≡ 10
    → lines_of (unmarked_part is_begun (text ++ rest)) ≡ lines_of (unmarked_part is_begun (take (last + 1) text)) ++ lines_of (drop (last + 1) text ++ rest)
cut_at is_begun text rest last lt is =
    let front : take (last + 1) text ≡ take last text ++ 10 ∷ [] = take_more text last 0 lt ∙ ap (λ b. take last text ++ b ∷ []) is in
    let whole : text ++ rest ≡ (take last text ++ 10 ∷ []) ++ (drop (last + 1) text ++ rest) =
    ap (λ t. t ++ rest) (sym (take-append-drop (last + 1) text)) ∙ append_assoc (take (last + 1) text) (drop (last + 1) text) rest ∙ ap (λ t. t ++ (drop (last + 1) text ++ rest)) front in
    ap (λ t. lines_of (unmarked_part is_begun t)) whole
    ∙ front_cut is_begun (take last text) (drop (last + 1) text ++ rest)
    ∙ ap (λ t. lines_of (unmarked_part is_begun t) ++ lines_of (drop (last + 1) text ++ rest)) (sym front)
