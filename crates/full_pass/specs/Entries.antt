-- What the entries of a pass say of each node.
use Rattle.std.specs.Prelude.{◌≡◌, ℕ, Bool, cond, List, length, Option, Some, None, slice_index_or}
use Rattle.pq_arena.specs.declared.node.NodeId.{NodeId}
use Rattle.full_pass.specs.declared.tallies.Tally.{Tally}
use Rattle.full_pass.specs.declared.entries.RunEnd.{RunEnd}
use Rattle.full_pass.specs.declared.entries.Entries.{Entries}
use Rattle.full_pass.specs.Tallies.{tally_in, full_in, hits_in, first_in, next_in, mark_in, chained, AreStamped}

-- the label of node x
abbrev pub label : Entries → ℕ → ℕ
label w x = slice_index_or w.labels.items x 0

-- the tally of node x
abbrev pub tally : Entries → ℕ → Tally
tally w x = tally_in w.tallies.items x

-- whether x is labelled full
abbrev pub is_full : Entries → ℕ → Bool
is_full w x = full_in w.labels.items w.stamp x

-- how many children of x are labelled, where x is a P-node
abbrev pub hits : Entries → ℕ → ℕ
hits w x = hits_in w.tallies.items w.stamp x

-- the child of the P-node x that was labelled last
abbrev pub first : Entries → ℕ → ℕ
first w x = first_in w.tallies.items x

-- the child of the same P-node that was labelled before x
abbrev pub next : Entries → ℕ → ℕ
next w x = next_in w.tallies.items x

-- stands for the end of a node that has none
abbrev pub no_end : RunEnd
no_end = record { far = record { index = 0 }; up = None }

-- the other end of the run that x is an end of
abbrev pub far : Entries → ℕ → ℕ
far w x = (slice_index_or w.ends.items x no_end).far.index

-- the node above x, where x showed it
abbrev pub up : Entries → ℕ → Option NodeId
up w x = (slice_index_or w.ends.items x no_end).up

-- 1 for a node that is labelled, else 0
abbrev pub mark_of : Entries → Option NodeId → ℕ
mark_of w near = mark_in (is_full w) near

-- the end that the run of x has at this neighbour
abbrev pub end_at : Entries → Option NodeId → ℕ → ℕ
end_at w None x = x
end_at w (Some n) x = cond (is_full w n.index) (far w n.index) x

-- the first, where both are there
abbrev pub both : Option NodeId → Option NodeId → Option NodeId
both None b = None
both (Some a) None = None
both (Some a) (Some b) = Some a

-- the labelled children of the P-node p, the last that was labelled in front
abbrev pub chain_at : Entries → ℕ → List ℕ
chain_at w p = chained (hits w p) (next w) (first w p)

-- there are labels, tallies and ends for n nodes, and their stamps are of this pass or older
pub record AreReady (w : Entries) (n : ℕ) : Type 0 where
  pub stamped : AreStamped w.labels.items w.tallies.items w.stamp n
  pub ends : length w.ends.items ≡ n

-- the labelled children of each P-node stay
pub record SameTallies (a b : Entries) : Type 0 where
  pub hits_same : (x : ℕ) → hits b x ≡ hits a x
  pub first_same : (x : ℕ) → first b x ≡ first a x
  pub next_same : (x : ℕ) → next b x ≡ next a x
