use Rattle.std.proofs.Common.{arith, rules}
use Rattle.text_lines.proofs.EndLemmas.{lowest_room, lowest_digits, lowest_behind}
use Rattle.text_lines.proofs.digit_ends.marked_digits.Goals as goal

pub overflow_add-end : goal.overflow_add-end
overflow_add-end c = omega (arith, lowest_room c.args.text.now c.args.at c.args.ends.block c.args.ends.marks c.requires.ends (omega arith) (search rules))

pub overflow_sub-end : goal.overflow_sub-end
overflow_sub-end c = (lowest_room c.args.text.now c.args.at c.args.ends.block c.args.ends.marks c.requires.ends (omega arith) (search rules)).0

pub few_digits-requires : goal.few_digits-requires
few_digits-requires c =
    let room = lowest_room c.args.text.now c.args.at c.args.ends.block c.args.ends.marks c.requires.ends (omega arith) (search rules) in
    record {
      room = omega (arith, room);
      few = (room.0, omega arith);
      digits = lowest_digits c.args.text.now c.args.at c.args.ends.block c.args.ends.marks c.requires.ends (omega arith) (search rules);
    }

pub returns-then-end-at-le-FOUR : goal.returns-then-end-at-le-FOUR
returns-then-end-at-le-FOUR c =
    let ends = c.args.ends in
    let room = lowest_room c.args.text.now c.args.at ends.block ends.marks c.requires.ends (omega arith) (search rules) in
    record {
      range = (room.0, omega (arith, room));
      digits = lowest_digits c.args.text.now c.args.at ends.block ends.marks c.requires.ends (omega arith) (search rules);
      value = c.few_digits.ensures;
      ends =
          lowest_behind c.args.text.now c.args.at ends.block ends.marks c.requires.ends (omega arith) (search rules)
          c.without_lowest.result c.without_lowest.ensures.lowest c.without_lowest.ensures.others;
    }
