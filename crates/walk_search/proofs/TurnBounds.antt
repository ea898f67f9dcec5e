-- The steps of a turn of the search, as numbers alone.
use Rattle.std.proofs.Common.{◌≡◌, ℕ, ◌+◌, ◌*◌, ◌≤◌, arith}

-- one turn more, of so many pairs
pub one_more : (turn columns : ℕ) → (turn + 1) * columns ≡ turn * columns + columns
one_more turn columns = grind arith

module _ (begun turn columns marked held steps ticked : ℕ) where
  -- after a turn in which no tree is tried
  pub idle_ticks : (part more : ℕ) → steps ≤ begun + turn + (columns + part) + marked + held → ticked ≡ steps + 1 → part ≤ more → ticked ≤ begun + (turn + 1) + (columns + more) + marked + held
  idle_ticks part more before tick grows = omega (arith, before, tick, grows)

  pub idle_square : steps ≤ begun + turn + turn * columns + marked + held → ticked ≡ steps + 1 → ticked ≤ begun + (turn + 1) + (turn + 1) * columns + marked + held
  idle_square before tick = omega (arith, before, tick, one_more turn columns)

  -- after one in which trees were grown
  pub grown_ticks : (part later kept after : ℕ) → steps + columns ≤ begun + turn + part + marked + held → ticked ≡ steps + 1 → after + marked + held ≤ ticked + columns + later + kept → after ≤ begun + (turn + 1) + part + later + kept
  grown_ticks part later kept after tried tick spent = omega (arith, tried, tick, spent)

  pub grown_square : (later kept after : ℕ) → steps ≤ begun + turn + turn * columns + marked + held → ticked ≡ steps + 1 → after + marked + held ≤ ticked + columns + later + kept → after ≤ begun + (turn + 1) + (turn + 1) * columns + later + kept
  grown_square later kept after before tick spent = omega (arith, before, tick, spent, one_more turn columns)

  -- within all turns
  pub all_ticks : (part whole later most after : ℕ) → steps + columns ≤ begun + turn + (columns + part) + marked + held → ticked ≡ steps + 1 → after + marked + held ≤ ticked + columns + later + most → part ≤ whole → turn ≤ columns → after ≤ begun + (columns + 1) + (columns + whole) + later + most
  all_ticks part whole later most after tried tick spent less turns = omega (arith, tried, tick, spent, less, turns)

  pub all_square : (later most after : ℕ) → steps ≤ begun + turn + turn * columns + marked + held → ticked ≡ steps + 1 → after + marked + held ≤ ticked + columns + later + most → turn ≤ columns → turn * columns ≤ columns * columns → after ≤ begun + (columns + 1) + (columns * columns + columns) + later + most
  all_square later most after before tick spent turns few = omega (arith, before, tick, spent, turns, few)

-- behind the last turn
module _ (begun turn columns marked held steps : ℕ) where
  pub end_ticks : (part whole most : ℕ) → steps ≤ begun + turn + (columns + part) + marked + held → held ≤ most → part ≤ whole → turn ≤ columns + 1 → steps ≤ begun + (columns + 1) + (columns + whole) + marked + most
  end_ticks part whole most before more less turns = omega (arith, before, more, less, turns)

  pub end_square : (most : ℕ) → steps ≤ begun + turn + turn * columns + marked + held → held ≤ most → turn * columns ≤ (columns + 1) * columns → turn ≤ columns + 1 → steps ≤ begun + (columns + 1) + (columns * columns + columns) + marked + most
  end_square most before more few turns = omega (arith, before, more, few, turns, one_more columns columns)
