-- What a reply to `meet` tells of the orders that two trees share.
use Rattle.std.proofs.Common.{◌↔◌, ℕ, List, refl, sym, subst}
use Rattle.column_order.specs.Orders.{IsValidOrder}
use Rattle.row_model.specs.Rows.{RowList}
use Rattle.pq_tree.specs.Outline.{IsFrontier}
use Rattle.tree_meet.specs.Meets.{IsCommon, joint_rows}
use Rattle.tree_meet.specs.Laws.{CommonRowsLaw}
use Rattle.verdict_text.specs.Verdict.{SideValue}
use Rattle.commands.specs.Meetings.{ShowsCommon, TellsCommon}
use Rattle.pq_cli.specs.Meet.{MeetTextLaw}
use Rattle.one_text.specs.Told.{in_meeting, MeetsIn, TellsAt}
use Rattle.verdict_replies.specs.Verdicts.{ShowsAllOrders}
use Rattle.one_text.proofs.Sides.{Shown}

-- the orders that two trees share are those of their rows
shares : CommonRowsLaw → (text : List ℕ) (m : RowList) (h : MeetsIn text m) (side : SideValue) → ShowsCommon h.columns h.one h.two side
    → ShowsAllOrders (record { columns = h.columns; rows = joint_rows h.columns h.one h.two }) side
shares common text m h side shows =
    let rows : (o : List ℕ) → IsCommon h.one h.two o ↔ IsValidOrder h.columns (joint_rows h.columns h.one h.two) o =
    common h.columns h.one h.two h.written.writes_first.proper h.written.writes_second.proper in
    let orders : (o : List ℕ) → IsFrontier side.tree o ↔ IsValidOrder h.columns (joint_rows h.columns h.one h.two) o =
    λ o. (λ f. (rows o).0 ((shows.common o).0 f), λ v. (shows.common o).1 ((rows o).1 v)) in
    record {
      proper = shows.proper;
      canonical = shows.canonical;
      orders = orders;
      leaves = shows.order;
    }

pub met : CommonRowsLaw → MeetTextLaw → (text : List ℕ) (m : RowList) → MeetsIn text m → Shown m (TellsAt text in_meeting)
met common text_law text m h =
    let told : TellsCommon h.columns h.one h.two text = (text_law h.columns h.name h.other h.first h.second text 0 h.one h.two h.few h.written h.reply).0 refl in
    record {
      side = told.side;
      shows = subst (λ k. ShowsAllOrders k told.side) (sym h.matrix_is) (shares common text m h told.side told.shows);
      tells = (h.columns, h.one, h.two, told.text_is);
    }
