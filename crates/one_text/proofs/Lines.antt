-- The lines of a tree and an order stand in the text that tells them.
use Rattle.std.proofs.Common.{◌≡◌, ◌∙◌, ℕ, zero, suc, ◌-◌, List, [], ◌∷◌, ◌++◌, refl, sym, ap, subst, append_assoc}
use Rattle.std.specs.Prelude.{slice_get, IsSomeAnd, flat_map, codes}
use Rattle.std.proofs.lemmas.List.{append-nil}
use Rattle.row_model.specs.declared.kind.Kind.{Kind}
use Rattle.text_parts.specs.Numbered.{numbered}
use Rattle.verdict_text.specs.Text.{kind_line, columns_line, side_text, added_text, claim_text, head_text, verdict_text}
use Rattle.verdict_text.specs.Verdict.{SideValue, Claim, yes_claim, no_claim, VerdictValue}
use Rattle.verdict_judge.specs.YesTests.{HasSide}
use Rattle.pq_cli.specs.Solve.{IsYesAnd}
use Rattle.solve_replies.specs.Sessions.{Outcome, outcome_text, session_text}
use Rattle.commands.specs.Meetings.{meet_head}
use Rattle.one_text.specs.Told.{on_side, at_end, in_meeting}
use Rattle.one_text.specs.Laws.{HasLines, ToldLinesLaw}

-- lines of a text stand in it behind other bytes, and before other bytes
pub behind : (other text lines : List ℕ) → HasLines text lines → HasLines (other ++ text) lines
behind other text lines h = (other ++ h.0, h.1, ap (λ t. other ++ t) h.2 ∙ sym (append_assoc other h.0 (lines ++ h.1)))

pub before : (text lines other : List ℕ) → HasLines text lines → HasLines (text ++ other) lines
before text lines other h = (h.0, h.1 ++ other, ap (λ t. t ++ other) h.2 ∙ append_assoc h.0 (lines ++ h.1) other ∙ ap (λ t. h.0 ++ t) (append_assoc lines h.1 other))

pub first : (lines other : List ℕ) → HasLines (lines ++ other) lines
first lines other = ([], other, refl)

pub itself : (lines : List ℕ) → HasLines lines lines
itself lines = ([], [], sym (append-nil lines))

in_sides : (sides : List SideValue) (k : ℕ) (side : SideValue) → IsSomeAnd (slice_get sides k) (λ told. told ≡ side) → HasLines (flat_map side_text sides) (side_text side)
in_sides [] k side h = absurd h
in_sides (x ∷ xs) zero side h = subst (λ y. HasLines (side_text x ++ flat_map side_text xs) (side_text y)) h (first (side_text x) (flat_map side_text xs))
in_sides (x ∷ xs) (suc k) side h = behind (side_text x) (flat_map side_text xs) (side_text side) (in_sides xs k side h)

in_claim : (kind : Kind) (claim : Claim) (s : ℕ) (side : SideValue) → IsYesAnd claim (λ value. HasSide value s (λ told. told ≡ side)) → HasLines (claim_text kind claim) (side_text side)
in_claim kind (yes_claim value) s side h =
    behind (codes "answer yes\n") (flat_map side_text value.sides ++ added_text kind value.added) (side_text side)
    (before (flat_map side_text value.sides) (side_text side) (added_text kind value.added) (in_sides value.sides (s - 1) side h))
in_claim kind (no_claim other lines) s side h = absurd h

in_verdict : (v : VerdictValue) (s : ℕ) (side : SideValue) → IsYesAnd v.claim (λ value. HasSide value s (λ told. told ≡ side)) → HasLines (verdict_text v) (side_text side)
unfolding verdict_text
in_verdict v s side h =
    behind (head_text v.version v.kind v.columns) (claim_text v.kind v.claim ++ codes "end\n") (side_text side)
    (before (claim_text v.kind v.claim) (side_text side) (codes "end\n") (in_claim v.kind v.claim s side h))

in_session : (kind : Kind) (c : ℕ) (outcomes : List Outcome) (side : SideValue) → HasLines (session_text kind c outcomes side) (side_text side)
unfolding session_text
in_session kind c outcomes side =
    let lines = side_text side in
    let end = lines ++ codes "end\n" in
    let rows = numbered outcome_text 1 outcomes in
    behind (codes "pq-extend 1\n") (kind_line kind ++ (columns_line (c ∷ []) ++ (rows ++ end))) lines
    (behind (kind_line kind) (columns_line (c ∷ []) ++ (rows ++ end)) lines (behind (columns_line (c ∷ [])) (rows ++ end) lines (behind rows end lines (first lines (codes "end\n")))))

in_shared : (head : List ℕ) (side : SideValue) → HasLines (head ++ (codes "answer yes\n" ++ (side_text side ++ codes "end\n"))) (side_text side)
in_shared head side =
    let end = side_text side ++ codes "end\n" in
    behind head (codes "answer yes\n" ++ end) (side_text side) (behind (codes "answer yes\n") end (side_text side) (first (side_text side) (codes "end\n")))

pub lines_law : ToldLinesLaw
lines_law text (on_side s) side h = subst (λ t. HasLines t (side_text side)) (sym h.2) (in_verdict h.0 s side h.3)
lines_law text at_end side h = subst (λ t. HasLines t (side_text side)) (sym h.3) (in_session h.0 h.1 h.2 side)
lines_law text in_meeting side h = subst (λ t. HasLines t (side_text side)) (sym h.3) (in_shared (meet_head h.0 h.1 h.2) side)
