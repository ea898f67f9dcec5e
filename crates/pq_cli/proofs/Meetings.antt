-- What a reply to `meet` tells.
use Rattle.std.proofs.Common.{◌≡◌, ◌∙◌, ℕ, ◌≤◌, List, [], ◌∷◌, sym, subst, inl, inr, arith}
use Rattle.row_model.specs.declared.TheConstants.{MAX_COLUMNS}
use Rattle.row_model.specs.declared.refusal.Read.TheVariants as read
use Rattle.pq_tree.specs.Outline.{Outline}
use Rattle.command_input.specs.Words.{Meet}
use Rattle.pq_cli.specs.Replies.{Replies}
use Rattle.commands.specs.Meetings.{IsMeetingReply}
use Rattle.command_input.specs.TreeFiles.{TreeFileLaw}
use Rattle.pq_cli.specs.Meet.{WriteTrees, MeetStatusLaw, MeetTextLaw}

same_tree : (t u : Outline) → read.Ok t ≡ read.Ok u → t ≡ u
same_tree t u e = cc

-- the reply is one on the trees that the files write
reply_on : TreeFileLaw → (c : ℕ) (name other first second text : List ℕ) (status : ℕ) (t u : Outline) → c ≤ MAX_COLUMNS → WriteTrees c first second t u →
    Replies (Meet c name other) (first ∷ second ∷ []) status text → IsMeetingReply c t u status text
unfolding Replies
reply_on file_law c name other first second text status t u few w reply =
    let one : reply.0 ≡ t = same_tree reply.0 t (sym reply.2 ∙ (file_law c first t few w.short_first).1 w.writes_first) in
    let two : reply.1 ≡ u = same_tree reply.1 u (sym reply.3 ∙ (file_law c second u few w.short_second).1 w.writes_second) in
    subst (λ x. IsMeetingReply c x u status text) one (subst (λ x. IsMeetingReply c reply.0 x status text) two reply.4)

pub status_law : TreeFileLaw → MeetStatusLaw
status_law file_law c name other first second text status t u few w reply =
    let is : IsMeetingReply c t u status text = reply_on file_law c name other first second text status t u few w reply in
    elim is [
      | inl a ↦ (
        (λ e. a.1.some, λ some. a.0),
        (λ e. absurd (omega (arith, a.0, e)), λ none. absurd (none a.1.some.0 a.1.some.1)),
      )
      | inr b ↦ (
        (λ e. absurd (omega (arith, b.0, e)), λ some. absurd (b.1.none some.0 some.1)),
        (λ e. b.1.none, λ none. b.0),
      )
    ]

pub text_law : TreeFileLaw → MeetTextLaw
text_law file_law c name other first second text status t u few w reply =
    let is : IsMeetingReply c t u status text = reply_on file_law c name other first second text status t u few w reply in
    elim is [
      | inl a ↦ (λ e. a.1, λ e. absurd (omega (arith, a.0, e)))
      | inr b ↦ (λ e. absurd (omega (arith, b.0, e)), λ e. b.1)
    ]
