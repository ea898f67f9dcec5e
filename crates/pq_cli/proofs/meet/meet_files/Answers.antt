use Rattle.std.specs.Prelude.{Ok}
use Rattle.std.proofs.Common.{◌≡◌, ℕ, List, [], ◌∷◌, ◌∙◌, refl, sym, ap, subst, arith}
use Rattle.row_model.specs.declared.refusal.Read.{Read}
use Rattle.row_model.specs.declared.refusal.Read.TheVariants as read
use Rattle.pq_tree.specs.Outline.{Outline}
use Rattle.tree_meet.specs.Meets.{joint_matrix}
use Rattle.solve_replies.specs.Steps.{MeetsWithin}
use Rattle.pq_tree.specs.PqTree.{column_count, outline}
use Rattle.command_input.specs.Words.{Meet}
use Rattle.command_input.specs.TreeFiles.{tree_file, ReadsTree, HoldsTree}
use Rattle.commands.specs.Meetings.{IsMeetingReply}
use Rattle.pq_cli.specs.Replies.{refused_at, refused_of_two, Replies}
use Rattle.pq_cli.specs.Stops.{reply_status}
use Rattle.pq_cli.proofs.Frame.{first_stops, second_stops, memory_after_two, reply_after_two}
use Rattle.pq_cli.proofs.Counts.{counts_none, reply_after, memory_status, memory_comes_after, counts_after_two}
use Rattle.pq_cli.proofs.meet.meet_files.Goals as goal

-- the tree that is read
tree_else : Outline → Read Outline → Outline
tree_else d (read.Ok t) = t
tree_else d (read.Refused refusal) = d

pub returns-in_err-one-clause-runs : goal.returns-in_err-one-clause-runs
returns-in_err-one-clause-runs g c =
    let n : ℕ = c.args.columns in
    first_stops g.F.Shelf.content g.F.Shelf.taken g.F.Shelf.faults c.args.files.now c.read_file.new.files (Meet n c.args.first.now c.args.second.now) c.args.first.now
    (c.args.second.now ∷ []) (ReadsTree n) (HoldsTree n) refl c.in_err-one.field-0.0 c.in_err-one.ensures
    (λ refusal held. (omega arith, λ bytes made. ap (refused_at 1) (sym made))) c.from_residual.result c.from_residual.ensures.1

pub returns-in_err-other-clause-runs : goal.returns-in_err-other-clause-runs
returns-in_err-other-clause-runs g c =
    let n : ℕ = c.args.columns in
    second_stops g.F.Shelf.content g.F.Shelf.taken g.F.Shelf.faults c.args.files.now c.read_file.new.files c.read_file-2.new.files (Meet n c.args.first.now c.args.second.now)
    c.args.first.now c.args.second.now (ReadsTree n) (HoldsTree n) c.in_ok-one.one (ReadsTree n) (HoldsTree n) refl c.in_ok-one.ensures
    (λ bytes made. ap (refused_at 1) (sym made)) c.in_err-other.field-0.0 c.in_err-other.ensures
    (λ refusal held. (omega arith, λ bytes given made over. ap (λ x. refused_of_two x (λ _. tree_file n given)) (sym made) ∙ ap (refused_at 2) (sym over)))
    c.from_residual-in_err-other.result c.from_residual-in_err-other.ensures.1

pub returns-in_err-meeting_reply-clause-runs : goal.returns-in_err-meeting_reply-clause-runs
returns-in_err-meeting_reply-clause-runs g c =
    let n : ℕ = c.args.columns in
    memory_after_two g.F.Shelf.content g.F.Shelf.taken g.F.Shelf.faults c.args.files.now c.read_file.new.files c.read_file-2.new.files (Meet n c.args.first.now c.args.second.now)
    c.args.first.now c.args.second.now (ReadsTree n) (HoldsTree n) c.in_ok-one.one (ReadsTree n) (HoldsTree n) refl c.in_ok-one.ensures
    (λ bytes made. ap (refused_at 1) (sym made)) c.in_ok-other.other c.in_ok-other.ensures c.from_residual-in_err-meeting_reply.result c.from_residual-in_err-meeting_reply.ensures.1

pub returns-clause-runs : goal.returns-clause-runs
unfolding Replies
returns-clause-runs g c =
    let n : ℕ = c.args.columns in
    let columns : column_count c.in_ok-one.one ≡ n = c.in_ok-one.ensures.1.holds_of_value in
    reply_after_two g.F.Shelf.content g.F.Shelf.taken g.F.Shelf.faults c.args.files.now c.read_file.new.files c.read_file-2.new.files (Meet n c.args.first.now c.args.second.now)
    c.args.first.now c.args.second.now (ReadsTree n) (HoldsTree n) c.in_ok-one.one (ReadsTree n) (HoldsTree n) refl c.in_ok-one.ensures
    (λ bytes made. ap (refused_at 1) (sym made)) c.in_ok-other.other c.in_ok-other.ensures c.in_ok-meeting_reply.field-0 c.in_ok-meeting_reply.ensures.status
    (λ bytes given made over. (
      outline c.in_ok-one.one,
      outline c.in_ok-other.other,
      sym made,
      sym over,
      subst (λ k. IsMeetingReply k (outline c.in_ok-one.one) (outline c.in_ok-other.other) c.in_ok-meeting_reply.field-0.status c.in_ok-meeting_reply.field-0.text.items) columns c.in_ok-meeting_reply.ensures.reply,
    ))

-- the trees in the files are those that were read
same_tree : (n : ℕ) (read_one told : Outline) (bytes : List ℕ) → read.Ok read_one ≡ tree_file n bytes → tree_file n bytes ≡ read.Ok told → read_one ≡ told
unfolding tree_else
same_tree n read_one told bytes made one = ap (tree_else read_one) (made ∙ one)

joint_of : (n : ℕ) (t u v w : Outline) (bytes given : List ℕ) (k : ℕ) → k ≡ n → read.Ok t ≡ tree_file n bytes → tree_file n bytes ≡ read.Ok v → read.Ok u ≡ tree_file n given → tree_file n given ≡ read.Ok w →
    joint_matrix k t u ≡ joint_matrix n v w
joint_of n t u v w bytes given k columns made one over other =
    ap (λ c. joint_matrix c t u) columns ∙ ap (λ x. joint_matrix n x u) (same_tree n t v bytes made one) ∙ ap (joint_matrix n v) (same_tree n u w given over other)

pub returns-in_err-meeting_reply-clause-steps : goal.returns-in_err-meeting_reply-clause-steps
returns-in_err-meeting_reply-clause-steps g c =
    counts_after_two g.F.Shelf.content g.F.Shelf.taken g.F.Shelf.faults c.args.files.now c.read_file.new.files c.read_file-2.new.files (Meet c.args.columns c.args.first.now c.args.second.now) c.from_residual-in_err-meeting_reply.result
    c.args.first.now c.args.second.now (ReadsTree c.args.columns) (HoldsTree c.args.columns) c.in_ok-one.one (ReadsTree c.args.columns) (HoldsTree c.args.columns) c.in_ok-other.other c.args.steps.now c.meeting_reply.new.steps c.in_ok-one.ensures c.in_ok-other.ensures
    (memory_comes_after c.from_residual-in_err-meeting_reply.result c.from_residual-in_err-meeting_reply.ensures.1)
    (λ bytes given made over. ap (λ x. refused_of_two x (λ _. tree_file c.args.columns given)) (sym made) ∙ ap (refused_at 2) (sym over))
    (λ bytes given made over t u one other.
    let same = joint_of c.args.columns (outline c.in_ok-one.one) (outline c.in_ok-other.other) t u bytes given (column_count c.in_ok-one.one) c.in_ok-one.ensures.1.holds_of_value made one over other in
    subst (λ m. MeetsWithin m (reply_status c.from_residual-in_err-meeting_reply.result) c.args.steps.now c.meeting_reply.new.steps) same (record {
      shared = λ e. absurd (omega (arith, e, memory_status c.from_residual-in_err-meeting_reply.result c.from_residual-in_err-meeting_reply.ensures.1));
      most = c.meeting_reply.ensures.most;
    }))

pub returns-clause-steps : goal.returns-clause-steps
returns-clause-steps g c =
    counts_after_two g.F.Shelf.content g.F.Shelf.taken g.F.Shelf.faults c.args.files.now c.read_file.new.files c.read_file-2.new.files (Meet c.args.columns c.args.first.now c.args.second.now) (Ok c.in_ok-meeting_reply.field-0)
    c.args.first.now c.args.second.now (ReadsTree c.args.columns) (HoldsTree c.args.columns) c.in_ok-one.one (ReadsTree c.args.columns) (HoldsTree c.args.columns) c.in_ok-other.other c.args.steps.now c.meeting_reply.new.steps c.in_ok-one.ensures c.in_ok-other.ensures (reply_after c.in_ok-meeting_reply.field-0.status c.in_ok-meeting_reply.ensures.status)
    (λ bytes given made over. ap (λ x. refused_of_two x (λ _. tree_file c.args.columns given)) (sym made) ∙ ap (refused_at 2) (sym over))
    (λ bytes given made over t u one other.
    let same = joint_of c.args.columns (outline c.in_ok-one.one) (outline c.in_ok-other.other) t u bytes given (column_count c.in_ok-one.one) c.in_ok-one.ensures.1.holds_of_value made one over other in
    subst (λ m. MeetsWithin m c.in_ok-meeting_reply.field-0.status c.args.steps.now c.meeting_reply.new.steps) same (record {
      shared = c.in_ok-meeting_reply.ensures.yes;
      most = c.meeting_reply.ensures.most;
    }))

pub returns-in_err-one-clause-steps : goal.returns-in_err-one-clause-steps
returns-in_err-one-clause-steps g c =
    counts_none g.F.Shelf.taken c.args.files.now c.read_file.new.files (Meet c.args.columns c.args.first.now c.args.second.now) c.from_residual.result _ c.args.steps.now c.from_residual.ensures.1

pub returns-in_err-other-clause-steps : goal.returns-in_err-other-clause-steps
returns-in_err-other-clause-steps g c =
    counts_none g.F.Shelf.taken c.args.files.now c.read_file-2.new.files (Meet c.args.columns c.args.first.now c.args.second.now) c.from_residual-in_err-other.result _ c.args.steps.now c.from_residual-in_err-other.ensures.1

pub meeting_reply-requires : goal.meeting_reply-requires
meeting_reply-requires g c = record {
  same = c.in_ok-other.ensures.1.holds_of_value ∙ sym c.in_ok-one.ensures.1.holds_of_value;
  few = omega (arith, c.requires, c.in_ok-one.ensures.1.holds_of_value);
}
