use Rattle.std.proofs.Common.{◌≡◌, ◌∙◌, ◌≤◌, ◌<◌, length, take, refl, ap, sym, subst, arith}
use Rattle.arena_model.specs.declared.Shape.TheVariants.{P}
use Rattle.arena_model.proofs.Slots.{in_range, used_by}
use Rattle.pq_arena.specs.RowNodes.{column_leaves, indices}
use Rattle.full_pass.specs.Answer.{IsBesideRun, IsBetween, IsGroup}
use Rattle.full_pass.specs.Entries.{AreReady, chain_at, hits}
use Rattle.full_pass.proofs.Ends.{chain_few, child_within}
use Rattle.full_pass.proofs.Frontiers.{kept_outline}
use Rattle.full_pass.proofs.Rooms.{room_kept, open_kept, group_kept, beside_kept, between_kept}
use Rattle.full_pass.proofs.work.FullWork.pass.Goals as goal

pub list-self-inside-requires-clause-room : goal.list-self-inside-requires-clause-room
list-self-inside-requires-clause-room g c =
    let a : hits c.run_both.new.entries c.in-Group.p.index ≤ length c.args.arena.now.slots =
    chain_few c.args.arena.now c.run_both.new.entries c.in-Group.p.index c.layout_law.ensures c.in-Group.ensures.settled.not_all in
    let b : length c.self.inside.entries.tallies.items ≤ length c.self.inside.members.items = c.self.invariant.room in
    let d : length c.self.inside.entries.tallies.items ≡ c.args.self.now.size = ap (λ r. r.size) c.self.view_is in
    omega (arith, c.requires.room)

pub list-self-inside-requires-clause-all : goal.list-self-inside-requires-clause-all
list-self-inside-requires-clause-all g c = λ k o.
    let a : k < length c.args.arena.now.slots =
    child_within c.args.arena.now c.in-Group.p.index k c.layout_law.ensures (c.in-Group.ensures.settled.child k o) in
    subst (λ z. k < z) (sym c.in-Group.ensures.ready.stamped.size) a

pub returns-in-Group-clause-settled : goal.returns-in-Group-clause-settled
returns-in-Group-clause-settled g c =
    subst (λ z. IsGroup c.args.arena.now (column_leaves c.args.row.now) c.in-Group.p.index z) (sym c.list-self-inside.ensures.members) c.in-Group.ensures.settled

pub list-self-inside-requires-in-Beside-clause-room : goal.list-self-inside-requires-in-Beside-clause-room
list-self-inside-requires-in-Beside-clause-room g c =
    let a : hits c.run_both.new.entries c.in-Beside.end.node.index ≤ length c.args.arena.now.slots =
    chain_few c.args.arena.now c.run_both.new.entries c.in-Beside.end.node.index c.layout_law.ensures c.in-Beside.ensures.settled.part.not_all in
    let b : length c.self.inside.entries.tallies.items ≤ length c.self.inside.members.items = c.self.invariant.room in
    let d : length c.self.inside.entries.tallies.items ≡ c.args.self.now.size = ap (λ r. r.size) c.self.view_is in
    omega (arith, c.requires.room)

pub list-self-inside-requires-in-Beside-clause-all : goal.list-self-inside-requires-in-Beside-clause-all
list-self-inside-requires-in-Beside-clause-all g c = λ k o.
    let a : k < length c.args.arena.now.slots =
    child_within c.args.arena.now c.in-Beside.end.node.index k c.layout_law.ensures (c.in-Beside.ensures.settled.part.child k o) in
    subst (λ z. k < z) (sym c.in-Beside.ensures.ready.stamped.size) a

pub returns-in-Beside-clause-settled : goal.returns-in-Beside-clause-settled
returns-in-Beside-clause-settled g c =
    subst (λ z. IsBesideRun c.args.arena.now (column_leaves c.args.row.now) c.in-Beside.end.node.index c.in-Beside.end.beside.index z) (sym c.list-self-inside-in-Beside.ensures.members) c.in-Beside.ensures.settled

pub returns-in-Kept-clause-kept : goal.returns-in-Kept-clause-kept
returns-in-Kept-clause-kept g c = λ e o frontier.
    kept_outline c.args.arena.now c.args.row.now o c.layout_law.ensures c.requires.tree c.requires.row c.in-Kept.ensures.settled frontier

pub list-self-inside-requires-in-Between-clause-room : goal.list-self-inside-requires-in-Between-clause-room
list-self-inside-requires-in-Between-clause-room g c =
    let a : hits c.run_both.new.entries c.in-Between.first.node.index ≤ length c.args.arena.now.slots =
    chain_few c.args.arena.now c.run_both.new.entries c.in-Between.first.node.index c.layout_law.ensures c.in-Between.ensures.settled.part.not_all in
    let b : length c.self.inside.entries.tallies.items ≤ length c.self.inside.members.items = c.self.invariant.room in
    let d : length c.self.inside.entries.tallies.items ≡ c.args.self.now.size = ap (λ r. r.size) c.self.view_is in
    omega (arith, c.requires.room)

pub list-self-inside-requires-in-Between-clause-all : goal.list-self-inside-requires-in-Between-clause-all
list-self-inside-requires-in-Between-clause-all g c = λ k o.
    let a : k < length c.args.arena.now.slots =
    child_within c.args.arena.now c.in-Between.first.node.index k c.layout_law.ensures (c.in-Between.ensures.settled.part.child k o) in
    subst (λ z. k < z) (sym c.in-Between.ensures.ready.stamped.size) a

pub list-self-inside-requires-in-Between-2-clause-room : goal.list-self-inside-requires-in-Between-2-clause-room
list-self-inside-requires-in-Between-2-clause-room g c =
    let a : hits c.run_both.new.entries c.in-Between.second.node.index ≤ length c.args.arena.now.slots =
    chain_few c.args.arena.now c.run_both.new.entries c.in-Between.second.node.index c.layout_law.ensures c.in-Between.ensures.settled.other_part.not_all in
    let b : length c.self.inside.entries.tallies.items ≤ length c.self.inside.others.items = c.self.invariant.other_room in
    let d : length c.self.inside.entries.tallies.items ≡ c.args.self.now.size = ap (λ r. r.size) c.self.view_is in
    omega (arith, c.requires.room)

pub list-self-inside-requires-in-Between-2-clause-all : goal.list-self-inside-requires-in-Between-2-clause-all
list-self-inside-requires-in-Between-2-clause-all g c = λ k o.
    let a : k < length c.args.arena.now.slots =
    child_within c.args.arena.now c.in-Between.second.node.index k c.layout_law.ensures (c.in-Between.ensures.settled.other_part.child k o) in
    subst (λ z. k < z) (sym c.in-Between.ensures.ready.stamped.size) a

pub returns-in-Between-clause-settled : goal.returns-in-Between-clause-settled
returns-in-Between-clause-settled g c =
    subst (λ z. IsBetween c.args.arena.now (column_leaves c.args.row.now) c.in-Between.first.node.index c.in-Between.first.beside.index
    (indices (take c.list-self-inside-in-Between.result c.list-self-inside-in-Between.new.members.items)) c.in-Between.second.node.index c.in-Between.second.beside.index z) (sym c.list-self-inside-in-Between-2.ensures.members)
    (subst (λ z. IsBetween c.args.arena.now (column_leaves c.args.row.now) c.in-Between.first.node.index c.in-Between.first.beside.index z
    c.in-Between.second.node.index c.in-Between.second.beside.index (chain_at c.run_both.new.entries c.in-Between.second.node.index)) (sym c.list-self-inside-in-Between.ensures.members)
    c.in-Between.ensures.settled)

pub run_both-requires : goal.run_both-requires
run_both-requires g c = record {
  tree = c.requires.tree;
  fits = c.requires.row;
  ready = subst (λ n. AreReady c.self.inside.entries n) (ap (λ r. r.size) c.self.view_is ∙ c.requires.room) c.self.invariant.ready;
}

pub returns-in-Open : goal.returns-in-Open
returns-in-Open g c = record {
  room = c.in-Open.ensures.ready.stamped.size ∙ sym c.requires.room;
  settled = tt;
  kept = λ e. absurd (open_kept e);
  steps = c.in-Open.ensures.ticks;
}

pub invariant_of-self : goal.invariant_of-self
invariant_of-self g c =
    room_kept c.self.inside _ (length c.args.arena.now.slots) c.self.invariant c.in-Kept.ensures.ready (ap (λ r. r.size) c.self.view_is ∙ c.requires.room) refl refl c.self.invariant.count c.self.invariant.other_count

pub invariant_of-self-in-Open : goal.invariant_of-self-in-Open
invariant_of-self-in-Open g c =
    room_kept c.self.inside _ (length c.args.arena.now.slots) c.self.invariant c.in-Open.ensures.ready (ap (λ r. r.size) c.self.view_is ∙ c.requires.room) refl refl c.self.invariant.count c.self.invariant.other_count

pub returns-in-Kept-clause-room : goal.returns-in-Kept-clause-room
returns-in-Kept-clause-room g c = c.in-Kept.ensures.ready.stamped.size ∙ sym c.requires.room

pub returns-in-Kept-clause-settled : goal.returns-in-Kept-clause-settled
returns-in-Kept-clause-settled g c = c.in-Kept.ensures.settled

pub returns-in-Kept-clause-steps : goal.returns-in-Kept-clause-steps
returns-in-Kept-clause-steps g c = c.in-Kept.ensures.ticks

pub returns-in-Group-clause-room : goal.returns-in-Group-clause-room
returns-in-Group-clause-room g c = c.in-Group.ensures.ready.stamped.size ∙ sym c.requires.room

pub returns-in-Group-clause-kept : goal.returns-in-Group-clause-kept
returns-in-Group-clause-kept g c = λ e. absurd (group_kept _ e)

pub returns-in-Group-clause-steps : goal.returns-in-Group-clause-steps
returns-in-Group-clause-steps g c = c.in-Group.ensures.ticks

pub returns-in-Beside-clause-room : goal.returns-in-Beside-clause-room
returns-in-Beside-clause-room g c = c.in-Beside.ensures.ready.stamped.size ∙ sym c.requires.room

pub returns-in-Beside-clause-kept : goal.returns-in-Beside-clause-kept
returns-in-Beside-clause-kept g c = λ e. absurd (beside_kept _ e)

pub returns-in-Beside-clause-steps : goal.returns-in-Beside-clause-steps
returns-in-Beside-clause-steps g c = c.in-Beside.ensures.ticks

pub returns-in-Between-clause-room : goal.returns-in-Between-clause-room
returns-in-Between-clause-room g c = c.in-Between.ensures.ready.stamped.size ∙ sym c.requires.room

pub returns-in-Between-clause-kept : goal.returns-in-Between-clause-kept
returns-in-Between-clause-kept g c = λ e. absurd (between_kept _ _ e)

pub returns-in-Between-clause-steps : goal.returns-in-Between-clause-steps
returns-in-Between-clause-steps g c = c.in-Between.ensures.ticks

pub invariant_of-self-in-Group : goal.invariant_of-self-in-Group
invariant_of-self-in-Group g c =
    room_kept c.self.inside _ (length c.args.arena.now.slots) c.self.invariant c.in-Group.ensures.ready (ap (λ r. r.size) c.self.view_is ∙ c.requires.room) c.list-self-inside.ensures.length refl
    (subst (λ n. c.list-self-inside.result ≤ n) (sym c.list-self-inside.ensures.length) c.list-self-inside.ensures.count) c.self.invariant.other_count

pub invariant_of-self-in-Beside : goal.invariant_of-self-in-Beside
invariant_of-self-in-Beside g c =
    room_kept c.self.inside _ (length c.args.arena.now.slots) c.self.invariant c.in-Beside.ensures.ready (ap (λ r. r.size) c.self.view_is ∙ c.requires.room) c.list-self-inside-in-Beside.ensures.length refl
    (subst (λ n. c.list-self-inside-in-Beside.result ≤ n) (sym c.list-self-inside-in-Beside.ensures.length) c.list-self-inside-in-Beside.ensures.count) c.self.invariant.other_count

pub invariant_of-self-in-Between : goal.invariant_of-self-in-Between
invariant_of-self-in-Between g c =
    room_kept c.self.inside _ (length c.args.arena.now.slots) c.self.invariant c.in-Between.ensures.ready (ap (λ r. r.size) c.self.view_is ∙ c.requires.room) c.list-self-inside-in-Between.ensures.length c.list-self-inside-in-Between-2.ensures.length
    (subst (λ n. c.list-self-inside-in-Between.result ≤ n) (sym c.list-self-inside-in-Between.ensures.length) c.list-self-inside-in-Between.ensures.count)
    (subst (λ n. c.list-self-inside-in-Between-2.result ≤ n) (sym c.list-self-inside-in-Between-2.ensures.length) c.list-self-inside-in-Between-2.ensures.count)

pub list-self-inside-requires-clause-p : goal.list-self-inside-requires-clause-p
list-self-inside-requires-clause-p g c =
    subst (λ n. c.in-Group.p.index < n) (sym c.in-Group.ensures.ready.stamped.size) (in_range c.args.arena.now c.in-Group.p.index (used_by c.args.arena.now c.in-Group.p.index P c.in-Group.ensures.settled.is_p))

pub list-self-inside-requires-in-Beside-clause-p : goal.list-self-inside-requires-in-Beside-clause-p
list-self-inside-requires-in-Beside-clause-p g c =
    subst (λ n. c.in-Beside.end.node.index < n) (sym c.in-Beside.ensures.ready.stamped.size) (in_range c.args.arena.now c.in-Beside.end.node.index (used_by c.args.arena.now c.in-Beside.end.node.index P c.in-Beside.ensures.settled.part.is_p))

pub list-self-inside-requires-in-Between-clause-p : goal.list-self-inside-requires-in-Between-clause-p
list-self-inside-requires-in-Between-clause-p g c =
    subst (λ n. c.in-Between.first.node.index < n) (sym c.in-Between.ensures.ready.stamped.size) (in_range c.args.arena.now c.in-Between.first.node.index (used_by c.args.arena.now c.in-Between.first.node.index P c.in-Between.ensures.settled.part.is_p))

pub list-self-inside-requires-in-Between-2-clause-p : goal.list-self-inside-requires-in-Between-2-clause-p
list-self-inside-requires-in-Between-2-clause-p g c =
    subst (λ n. c.in-Between.second.node.index < n) (sym c.in-Between.ensures.ready.stamped.size) (in_range c.args.arena.now c.in-Between.second.node.index (used_by c.args.arena.now c.in-Between.second.node.index P c.in-Between.ensures.settled.other_part.is_p))
