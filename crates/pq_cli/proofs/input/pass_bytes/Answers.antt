use Rattle.std.proofs.Common.{[], false, inl, inr, refl, arith}
use Rattle.pq_cli.proofs.Takings.{took, nothing_fits, part_taken, part_read, handed_through, chosen_and_read, choice_fails, choice_faults, choice_lacks, choice_stands, read_faults, read_stands}
use Rattle.pq_cli.proofs.input.pass_bytes.Goals as goal

pub returns-in-Err-Failed : goal.returns-in-Err-Failed
returns-in-Err-Failed g c =
    let chosen = c.in-Err-Failed.ensures in
    record {
      made = (took c.args.name.now [] false, record { asks = inl (choice_fails _ _ _ _ c.in-Err-Failed.field-0-is chosen.asked); named = refl; told = nothing_fits _ _; whole = tt });
      shelf = record { unchanged = chosen.content; later = chosen.cause.later; fault = λ e. choice_faults _ _ _ c.in-Err-Failed.field-0-is chosen.cause.failed; nowhere_else = λ d. refl };
      stop = tt;
    }

pub returns-in-Err-NoMemory : goal.returns-in-Err-NoMemory
returns-in-Err-NoMemory g c =
    let chosen = c.in-Err-NoMemory.ensures in
    record {
      made = (took c.args.name.now [] false, record { asks = inr (choice_lacks _ _ _ _ c.in-Err-NoMemory.field-0-is chosen.asked, refl); named = refl; told = nothing_fits _ _; whole = tt });
      shelf = record { unchanged = chosen.content; later = chosen.cause.later; fault = λ e. absurd (omega arith); nowhere_else = λ d. absurd (d (choice_stands _ _ _ c.in-Err-NoMemory.field-0-is chosen.told)) };
      stop = tt;
    }

pub returns-in-Err-Fault : goal.returns-in-Err-Fault
returns-in-Err-Fault g c =
    let chosen = c.in-Ok.ensures in
    let read = c.in-Err-Fault.ensures in
    record {
      made = part_read g.F.Shelf.content g.F.Shelf.taken g.F.Shelf.faults g.F.Shelf.left c.args.files.now c.choose.new.self c.read_through.new.shelf c.args.name.now read.taken.0 read.taken.1 _ _ chosen.asked chosen.left read.taken.2;
      shelf = chosen_and_read g.F.Shelf.content g.F.Shelf.faults c.args.files.now c.choose.new.self c.read_through.new.shelf 4 chosen.content chosen.told read.content read.cause.later (λ e. read_faults _ _ _ c.in-Err-Fault.field-0-is read.cause.failed) (λ d. refl);
      stop = tt;
    }

pub returns-in-Err-NoMemory-read_through : goal.returns-in-Err-NoMemory-read_through
returns-in-Err-NoMemory-read_through g c =
    let chosen = c.in-Ok.ensures in
    let read = c.in-Err-NoMemory-read_through.ensures in
    record {
      made = part_read g.F.Shelf.content g.F.Shelf.taken g.F.Shelf.faults g.F.Shelf.left c.args.files.now c.choose.new.self c.read_through.new.shelf c.args.name.now read.taken.0 read.taken.1 _ _ chosen.asked chosen.left read.taken.2;
      shelf = chosen_and_read g.F.Shelf.content g.F.Shelf.faults c.args.files.now c.choose.new.self c.read_through.new.shelf 6 chosen.content chosen.told read.content read.cause.later (λ e. absurd (omega arith)) (λ d. absurd (d (read_stands _ _ _ c.in-Err-NoMemory-read_through.field-0-is read.told)));
      stop = tt;
    }

pub returns : goal.returns
returns g c =
    let chosen = c.in-Ok.ensures in
    let read = c.in-Ok-read_through.ensures in
    let handed = read.taken in
    let part = part_taken (g.F.Shelf.content c.args.files.now c.args.name.now) (g.F.Shelf.left c.choose.new.self) (g.F.Shelf.left c.read_through.new.shelf) (g.F.Shelf.taken c.args.files.now)
    (g.F.Shelf.taken c.choose.new.self) (g.F.Shelf.taken c.read_through.new.shelf) c.args.name.now handed.0 handed.1 chosen.asked chosen.left handed.2 in
    record {
      made = (
        took c.args.name.now handed.0 handed.1,
        record { asks = inl part.0; named = refl; told = part.1; whole = handed_through _ _ _ _ _ _ handed.3 },
      );
      shelf = chosen_and_read g.F.Shelf.content g.F.Shelf.faults c.args.files.now c.choose.new.self c.read_through.new.shelf 0 chosen.content chosen.told read.content read.cause.later (λ e. absurd (omega arith)) (λ d. absurd (d read.told));
      stop = tt;
    }

pub read_through-requires : goal.read_through-requires
read_through-requires g c = record { limit = c.requires; chosen = c.in-Ok.ensures.chosen }
