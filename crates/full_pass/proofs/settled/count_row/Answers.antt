use Rattle.std.proofs.Common.{◌≡◌, ◌∙◌, ℕ, List, ◌++◌, take, drop, length, sym, subst, arith}
use Rattle.std.proofs.lemmas.List.{take-append-le, take_all}
use Rattle.pq_arena.specs.RowNodes.{column_leaves}
use Rattle.full_pass.specs.declared.tallies.Tally.{Tally}
use Rattle.full_pass.specs.Entries.{AreReady}
use Rattle.full_pass.specs.Passing.{IsCounted}
use Rattle.full_pass.specs.Tallies.{AreStamped}
use Rattle.full_pass.proofs.settled.count_row.Goals as goal

-- a vector that was written from its first entry to its last
written : {A : Type 0} (k : ℕ) (new old : List A) → k ≡ length new → take k (new ++ drop (length new) old) ≡ new
written k new old e = take-append-le k new (drop (length new) old) (omega arith) ∙ take_all k new (omega arith)

both : (P : List ℕ → List Tally → Type 0) (k m : ℕ) (ls ls0 : List ℕ) (ts ts0 : List Tally) → k ≡ length ls → m ≡ length ts → P ls ts →
    P (take k (ls ++ drop (length ls) ls0)) (take m (ts ++ drop (length ts) ts0))
both P k m ls ls0 ts ts0 ek em p =
    subst (λ z. P (take k (ls ++ drop (length ls) ls0)) z) (sym (written m ts ts0 em)) (subst (λ z. P z ts) (sym (written k ls ls0 ek)) p)

pub begin-requires : goal.begin-requires
begin-requires g c = subst (λ n. AreReady c.args.entries.now n) (sym c.requires.ready.stamped.size) c.requires.ready

pub count-requires : goal.count-requires
count-requires g c =
    let r = c.begin.ensures.ready (length c.args.arena.now.slots) c.requires.ready in
    rw (c.deref_mut.ensures.value, c.deref_mut-2.ensures.value)
    (record { tree = c.requires.tree; row = c.requires.fits; ready = r.stamped; full = c.begin.ensures.full; hits = c.begin.ensures.hits })

pub returns : goal.returns
returns g c =
    let r = c.begin.ensures.ready (length c.args.arena.now.slots) c.requires.ready in
    let labels : c.begin.new.self.labels.len ≡ length c.count.new.labels = omega (arith, c.begin.new.self.labels.ok.0, r.stamped.labels_size, c.count.ensures.ready.labels_size) in
    let tallies : c.begin.new.self.tallies.len ≡ length c.count.new.tallies = omega (arith, c.begin.new.self.tallies.ok.0, r.stamped.size, c.count.ensures.ready.size) in
    record {
      ready = record {
        stamped = both (λ l t. AreStamped l t c.begin.new.self.stamp (length c.args.arena.now.slots)) c.begin.new.self.labels.len c.begin.new.self.tallies.len
            c.count.new.labels c.begin.new.self.labels.items c.count.new.tallies c.begin.new.self.tallies.items labels tallies c.count.ensures.ready;
        ends = r.ends;
      };
      counted = both (λ l t. IsCounted c.args.arena.now (column_leaves c.args.row.now) l t c.begin.new.self.stamp c.count.result) c.begin.new.self.labels.len c.begin.new.self.tallies.len
          c.count.new.labels c.begin.new.self.labels.items c.count.new.tallies c.begin.new.self.tallies.items labels tallies c.count.ensures.counted;
      ticks = c.count.ensures.ticks;
    }
