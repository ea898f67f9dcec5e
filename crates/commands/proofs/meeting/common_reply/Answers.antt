use Rattle.std.proofs.Common.{refl, ◌∙◌, ℕ, List, ◌++◌, ap, subst}
use Rattle.std.specs.Prelude.{codes}
use Rattle.pq_tree.specs.Proper.{IsProper}
use Rattle.pq_tree.specs.PqTree.{column_count, outline}
use Rattle.verdict_text.specs.Verdict.{SideValue}
use Rattle.commands.specs.Meetings.{meet_head}
use Rattle.verdict_text.specs.Text.{side_text}
use Rattle.commands.proofs.Parts.{four_parts}
use Rattle.commands.proofs.meeting.common_reply.Goals as goal

pub returns : goal.returns
returns c =
    let side : SideValue = record { tree = outline c.args.tree.now; order = c.in_ok-order.order.items } in (
      refl,
      record {
        some = c.requires.some;
        side = side;
        shows = record {
          proper = subst (λ n. IsProper n (outline c.args.tree.now)) c.requires.common.columns c.args.tree.now.proper;
          canonical = c.requires.common.canonical;
          common = c.requires.common.common;
          order = c.in_ok-order.ensures.leaves;
        };
        text_is =
            four_parts c.in_ok-text.text.items c.print_head.new.text.items c.extend_from_slice.new.self.items c.print_side.new.text.items c.extend_from_slice-2.new.self.items
            (meet_head (column_count c.args.first.now) (outline c.args.first.now) (outline c.args.second.now)) (codes "answer yes\n") (side_text side) (codes "end\n")
            c.in_ok-text.ensures.items c.in_ok-print_head.ensures c.in_ok-extend_from_slice.ensures.items
            (c.in_ok-print_side.ensures.ok ∙ ap (λ (o : List ℕ). c.extend_from_slice.new.self.items ++ side_text (record { tree = outline c.args.tree.now; order = o })) c.deref.ensures.value)
            c.in_ok-extend_from_slice-2.ensures.items;
      },
    )
