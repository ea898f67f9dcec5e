use Rattle.std.proofs.Common.{refl, ◌∙◌, List, ◌++◌, ap}
use Rattle.std.specs.Prelude.{codes}
use Rattle.pq_tree.specs.PqTree.{column_count, outline}
use Rattle.row_model.specs.declared.graph.Line.{Line}
use Rattle.text_parts.specs.Text.{counted_cycle}
use Rattle.commands.specs.Meetings.{meet_head}
use Rattle.commands.proofs.Parts.{four_parts}
use Rattle.commands.proofs.meeting.apart_reply.Goals as goal

pub returns : goal.returns
returns c =
    let lines : List Line = c.args.cycle.now in (
      refl,
      record {
        none = c.requires.none;
        lines = lines;
        cycle = c.requires.cycle;
        short = c.requires.short;
        text_is =
            four_parts c.new-text.result.items c.print_head.new.text.items c.extend_from_slice.new.self.items c.print_cycle.new.text.items c.extend_from_slice-2.new.self.items
            (meet_head (column_count c.args.first.now) (outline c.args.first.now) (outline c.args.second.now)) (codes "answer no\n") (counted_cycle lines) (codes "end\n")
            c.new-text.ensures.items c.in_ok-print_head.ensures c.in_ok-extend_from_slice.ensures.items
            (c.in_ok-print_cycle.ensures.ok ∙ ap (λ (l : List Line). c.extend_from_slice.new.self.items ++ counted_cycle l) c.lines.ensures.lines)
            c.in_ok-extend_from_slice-2.ensures.items;
      },
    )
