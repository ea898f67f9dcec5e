-- Where the lists between ends begin and end.
use Rattle.std.proofs.Common.{◌≡◌, ℕ, ◌-◌, ◌<◌, ◌≤◌, List, ◌∷◌, length, take, drop, get_or, slice_get, Some}
use Rattle.row_model.specs.Pieces.{pieces_from, AreBoundsFrom}
use Rattle.row_model.proofs.PieceLemmas.{AreBoundsFrom-at, slice_get-pieces_from}

pub start_before : (end : ℕ) (ends : List ℕ) (i : ℕ) → AreBoundsFrom end 0 ends → i < length ends → get_or (0 ∷ ends) i 0 ≤ get_or ends i 0
start_before end ends i h l = (AreBoundsFrom-at end 0 ends i h l).0

pub end_within : (end : ℕ) (ends : List ℕ) (i : ℕ) → AreBoundsFrom end 0 ends → i < length ends → get_or ends i 0 ≤ end
end_within end ends i h l = (AreBoundsFrom-at end 0 ends i h l).1

pub piece_between : (columns ends : List ℕ) (i : ℕ) → i < length ends
    → slice_get (pieces_from columns 0 ends) i ≡ Some (take (get_or ends i 0 - get_or (0 ∷ ends) i 0) (drop (get_or (0 ∷ ends) i 0) columns))
piece_between columns ends i l = slice_get-pieces_from columns 0 ends i l
