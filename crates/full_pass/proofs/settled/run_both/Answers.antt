use Rattle.std.proofs.Common.{ℕ, ◌+◌, ◌*◌, ◌≤◌, arith}
use Rattle.full_pass.proofs.settled.run_both.Goals as goal

-- two passes of at most 4 looks for each column each
within : (s a b n : ℕ) → a ≤ s + 4 * n → b ≤ a + 4 * n → b ≤ s + 8 * n
within s a b n one two = omega arith

few : (s a n : ℕ) → a ≤ s + 4 * n → a ≤ s + 8 * n
few s a n one = omega arith

searched : (s a b n : ℕ) → a ≤ s + 4 * n → b ≤ a + 2 * n → b ≤ s + 8 * n
searched s a b n one two = omega arith

pub find_beside-requires : goal.find_beside-requires
find_beside-requires g c = record {
  tree = c.requires.tree;
  row = c.requires.fits;
  two = rw (c.deref.ensures.value, c.deref-in-TwoParts.ensures.value) c.in-TwoParts.ensures.counted;
}

pub find_between-requires : goal.find_between-requires
find_between-requires g c = record {
  tree = c.requires.tree;
  row = c.requires.fits;
  three = rw (c.deref-in-ThreeParts.ensures.value, c.deref-in-ThreeParts-2.ensures.value) c.in-ThreeParts.ensures.counted;
}

pub run-settled-requires : goal.run-settled-requires
run-settled-requires g c = record { tree = c.requires.tree; fits = c.requires.fits; ready = c.in-MayFill.ensures.ready }

pub returns-in-Answered : goal.returns-in-Answered
returns-in-Answered g c = record { ready = c.in-Answered.ensures.ready; settled = c.in-Answered.ensures.counted; ticks = few _ _ _ c.in-Answered.ensures.ticks }

pub returns-in-Open : goal.returns-in-Open
returns-in-Open g c = record { ready = c.in-Open.ensures.ready; settled = tt; ticks = few _ _ _ c.in-Open.ensures.ticks }

pub returns-in-TwoParts : goal.returns-in-TwoParts
returns-in-TwoParts g c = record {
  ready = c.in-TwoParts.ensures.ready;
  settled = rw (← c.deref-in-TwoParts.ensures.value) c.find_beside.ensures.settled;
  ticks = searched _ _ _ _ c.in-TwoParts.ensures.ticks c.find_beside.ensures.ticks;
}

pub returns-in-ThreeParts : goal.returns-in-ThreeParts
returns-in-ThreeParts g c = record {
  ready = c.in-ThreeParts.ensures.ready;
  settled = rw (← c.deref-in-ThreeParts-2.ensures.value) c.find_between.ensures.settled;
  ticks = searched _ _ _ _ c.in-ThreeParts.ensures.ticks c.find_between.ensures.ticks;
}

pub returns-then-not-is_next : goal.returns-then-not-is_next
returns-then-not-is_next g c = record { ready = c.in-MayFill.ensures.ready; settled = tt; ticks = few _ _ _ c.in-MayFill.ensures.ticks }

pub returns-else-not-is_next : goal.returns-else-not-is_next
returns-else-not-is_next g c = record {
  ready = c.run-settled.ensures.ready;
  settled = c.run-settled.ensures.settled;
  ticks = within _ _ _ _ c.in-MayFill.ensures.ticks c.run-settled.ensures.ticks;
}
