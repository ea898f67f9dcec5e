-- Texts that are read piece by piece.
use Rattle.std.proofs.Common.{◌≡◌, ℕ, ◌<◌, ◌+◌, List, [], ◌++◌, take, drop, length, min, sym, ap, ◌∙◌, arith, take-append-drop}
use Rattle.std.proofs.lemmas.List.{length-drop, drop-drop, nil_from_length}

-- what is left of a text is the piece that was copied, and what is left behind it
pub rest_of : (bytes buffer : List ℕ) (at n : ℕ) → take n buffer ≡ take n (drop at bytes) → drop at bytes ≡ take n buffer ++ drop (at + n) bytes
rest_of bytes buffer at n copied =
    sym (take-append-drop n (drop at bytes)) ∙ ap (λ piece. piece ++ drop n (drop at bytes)) (sym copied) ∙ ap (λ rest. take n buffer ++ rest) (drop-drop n at bytes)

-- where there is room and a piece has bytes, an empty copy leaves nothing
pub none_left : (bytes : List ℕ) (at n room piece : ℕ) → n ≡ min (length (drop at bytes)) (min room piece) → 0 < piece → n ≡ 0 → 0 < room → drop (at + n) bytes ≡ []
none_left bytes at n room piece is some zero large =
    nil_from_length (drop (at + n) bytes) (omega (arith, length-drop (at + n) bytes, length-drop at bytes, is, some, zero, large))
