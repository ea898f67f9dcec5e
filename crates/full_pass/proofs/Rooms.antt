-- What the room of a pass keeps after a pass.
use Rattle.std.proofs.Common.{◌≡◌, ◌≤◌, ℕ, length, sym, subst, arith}
use Rattle.pq_arena.specs.declared.node.NodeId.{NodeId}
use Rattle.full_pass.specs.declared.settled.End.{End}
use Rattle.full_pass.specs.declared.settled.Settled.TheVariants.{Kept, Group, Beside, Between, Open}
use Rattle.full_pass.specs.declared.work.FullWork.TheInside.{Inside}
use Rattle.full_pass.specs.Entries.{AreReady}
use Rattle.full_pass.specs.View.{IsFullWorkKept}

pub room_kept : (a b : Inside) (n : ℕ) → IsFullWorkKept a → AreReady b.entries n → length a.entries.tallies.items ≡ n →
    length b.members.items ≡ length a.members.items → length b.others.items ≡ length a.others.items →
    b.count ≤ length b.members.items → b.other_count ≤ length b.others.items → IsFullWorkKept b
room_kept a b n k r e em eo count other_count =
    let size : length b.entries.tallies.items ≡ n = r.stamped.size in
    let room : length a.entries.tallies.items ≤ length a.members.items = k.room in
    let other_room : length a.entries.tallies.items ≤ length a.others.items = k.other_room in
    record { ready = subst (λ m. AreReady b.entries m) (sym size) r; room = omega arith; count = count; other_room = omega arith; other_count = other_count }

pub open_kept : Open ≡ Kept → ⊥
open_kept e = cc

pub group_kept : (p : NodeId) → Group p ≡ Kept → ⊥
group_kept p e = cc

pub beside_kept : (e : End) → Beside e ≡ Kept → ⊥
beside_kept d e = cc

pub between_kept : (d e : End) → Between d e ≡ Kept → ⊥
between_kept d e same = cc
