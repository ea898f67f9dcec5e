use Rattle.std.proofs.Common.{◌+◌, ◌-◌, ◌++◌, take, set, ap, sym, ◌∙◌, arith}
use Rattle.std.proofs.lemmas.List.{length-set}
use Rattle.pq_arena.specs.RowNodes.{indices}
use Rattle.full_pass.specs.Entries.{hits, next, chain_at}
use Rattle.full_pass.specs.Tallies.{chained}
use Rattle.full_pass.proofs.Listing.{listed_here, listed_next}
use Rattle.full_pass.proofs.entries.Entries.list.Goals as goal

pub next_of-x-requires : goal.next_of-x-requires
next_of-x-requires c = c.requires.all c.loop-i.x.index
    (listed_here (chain_at c.args.self.now c.args.p.index) (indices (take c.loop-i.i c.loop-i.members.items)) (hits c.args.self.now c.args.p.index) c.loop-i.i
    (next c.args.self.now) c.loop-i.x.index (omega (arith, c.hits_at-count.ensures, c.loop-i-test.true)) c.loop-i.invariant.split)

pub loop-i-preserved : goal.loop-i-preserved
loop-i-preserved c = record {
  long = length-set c.loop-i.members.items c.loop-i.i c.loop-i.x ∙ c.loop-i.invariant.long;
  split = listed_next (chain_at c.args.self.now c.args.p.index) (hits c.args.self.now c.args.p.index) c.loop-i.i (next c.args.self.now) c.loop-i.members.items c.loop-i.x
      (omega (arith, c.hits_at-count.ensures, c.loop-i-test.true))
      (omega (arith, c.hits_at-count.ensures, c.loop-i-test.true, c.requires.room, c.loop-i.invariant.long))
      c.loop-i.invariant.split ∙
      ap (λ z. indices (take (c.loop-i.i + 1) (set c.loop-i.members.items c.loop-i.i c.loop-i.x)) ++ chained (hits c.args.self.now c.args.p.index - (c.loop-i.i + 1)) (next c.args.self.now) z)
      (sym c.next_of-x.ensures);
}
