-- Two replies of one command to the same bytes.
use Rattle.std.proofs.Common.{◌≡◌, ◌∙◌, ◌⊎◌, ◌↔◌, inl, inr, ℕ, Bool, true, false, List, [], ◌∷◌, ◌++◌, codes, refl, sym, ap, subst, IsTrue, Option, Some, None}
use Rattle.std.specs.Prelude.{slice_get, IsSomeAnd}
use Rattle.std.proofs.lemmas.Bool.{false≢true}
use Rattle.column_order.specs.Orders.{IsValidOrder, HasValidOrder}
use Rattle.row_model.specs.Rows.{RowList}
use Rattle.row_model.specs.declared.kind.Kind.{Kind}
use Rattle.row_model.specs.declared.kind.Kind.TheVariants.{Proper}
use Rattle.row_model.specs.declared.refusal.Read.{Read}
use Rattle.row_model.specs.declared.refusal.Read.TheVariants as read
use Rattle.graph_model.specs.Graphs.{GraphValue}
use Rattle.clone_map.specs.Laws.{PlacesLaw, ContigsLaw}
use Rattle.proper_interval.specs.Laws.{OneListLaw}
use Rattle.tree_theory.specs.CanonicalLaws.{CanonicalTreeLaw}
use Rattle.pq_tree.specs.Outline.{Outline, leaves}
use Rattle.order_list.specs.First.{HasOther}
use Rattle.order_list.specs.Laws.{FirstOrdersLaw}
use Rattle.unit_model.specs.Laws.{OneUnitLaw, OneRuleLaw}
use Rattle.unit_model.specs.Text.{unit_text}
use Rattle.core_text.specs.Laws.{OneCoreLaw}
use Rattle.core_text.specs.Texts.{core_text, entries, entry_text}
use Rattle.text_parts.specs.Text.{kind_word, number_word, counted_text, counted_cycle}
use Rattle.matrix_read.specs.Sparse.{further}
use Rattle.instance_model.specs.Instance.{InstanceValue, plain, proper, derived_matrix, IsWellFormed}
use Rattle.instance_model.specs.Laws.{ValidLaw}
use Rattle.verdict_text.specs.Text.{side_text}
use Rattle.verdict_text.specs.Verdict.{SideValue, YesValue, Claim, yes_claim, no_claim}
use Rattle.command_input.specs.Words.{Solve, Check, Extend, Gen, Meet, ListOrders, UnitModel, CheckUnit, Core, CheckCore}
use Rattle.command_input.specs.Instances.{instance_of, InstanceLaw}
use Rattle.verdict_replies.specs.Verdicts.{ShowsAllOrders, IsClaimOf, IsVerdictReply, ShownOrderLaw}
use Rattle.verdict_replies.specs.Cores.{IsCoreText}
use Rattle.commands.specs.Meetings.{meet_head, TellsCommon, TellsApart, IsMeetingReply}
use Rattle.solve_replies.specs.Sessions.{IsSessionText, IsExtensionReply}
use Rattle.commands.specs.Judgements.{IsJudgementReply}
use Rattle.commands.specs.CoreJudgements.{IsCoreJudgementReply}
use Rattle.commands.specs.Findings.{IsFindingReply}
use Rattle.command_input.specs.TreeFiles.{tree_file}
use Rattle.solve_replies.specs.Cores.{IsCoreReply}
use Rattle.solve_replies.specs.Lists.{list_text, IsListText, IsListReply}
use Rattle.solve_replies.specs.Models.{TellsModel, TellsByClaim, IsModelReply}
use Rattle.solve_replies.specs.Summaries.{summary_text, IsSummary}
use Rattle.solve_replies.specs.Generated.{generated}
use Rattle.pq_cli.specs.Replies.{Replies}
use Rattle.one_text.specs.Laws.{HasLines}
use Rattle.one_text.specs.One.{TellsCycle, AreOneReply, OneReplyLaw}
use Rattle.one_text.proofs.Lines.{behind, before, itself}
use Rattle.one_text.proofs.Sides.{same_read}
use Rattle.one_text.proofs.Textbook.{OneVerdictLaw}
use Rattle.one_text.proofs.OneSolution.{first_side, no_tells, one_yes, apart, one_verdict_reply}
use Rattle.one_text.proofs.OneJudgement.{one_judgement_reply, one_core_reply, one_finding_reply}
use Rattle.one_text.proofs.OneSession.{one_session}

-- a file has one reading
abbrev value_or : {A : Type 0} → A → Read A → A
value_or other (read.Ok value) = value
value_or other (read.Refused refusal) = other

one_value : {A : Type 0} (r : Read A) (a b : A) → r ≡ read.Ok a → r ≡ read.Ok b → b ≡ a
one_value r a b here there = ap (value_or a) (sym there ∙ here)

one_matrix : (kind : Kind) (bytes : List ℕ) (m n : RowList) → instance_of kind bytes ≡ read.Ok (plain kind m) → instance_of kind bytes ≡ read.Ok (plain kind n) → n ≡ m
one_matrix kind bytes m n here there = ap (λ i. derived_matrix i 1) (same_read kind bytes (plain kind m) (plain kind n) here there)

abbrev graph_of : GraphValue → InstanceValue → GraphValue
graph_of other (proper g) = g
graph_of other i = other

one_graph : (bytes : List ℕ) (g h : GraphValue) → instance_of Proper bytes ≡ read.Ok (proper g) → instance_of Proper bytes ≡ read.Ok (proper h) → h ≡ g
one_graph bytes g h here there = ap (graph_of g) (same_read Proper bytes (proper g) (proper h) here there)

-- the text of a core tells the lines of its cycle
core_tells : (kind : Kind) (m : RowList) (text : List ℕ) → IsCoreText kind m text → TellsCycle text
unfolding core_text
core_tells kind m text told =
    let t = told.parts in
    let cycle = counted_cycle t.lines in
    let all = counted_text entry_text (entries t) in
    let end = cycle ++ codes "end\n" in (
      t.lines,
      subst (λ x. HasLines x cycle) (sym told.text_is)
          (behind (codes "pq-core 1\nkind ") (kind_word kind ++ (codes "\ncolumns" ++ (number_word m.columns ++ (codes "\ncore " ++ (all ++ end))))) cycle
          (behind (kind_word kind) (codes "\ncolumns" ++ (number_word m.columns ++ (codes "\ncore " ++ (all ++ end)))) cycle
          (behind (codes "\ncolumns") (number_word m.columns ++ (codes "\ncore " ++ (all ++ end))) cycle
          (behind (number_word m.columns) (codes "\ncore " ++ (all ++ end)) cycle (behind (codes "\ncore ") (all ++ end) cycle (behind all end cycle (before cycle cycle (codes "end\n") (itself cycle)))))))),
    )

module _ (one_tree : CanonicalTreeLaw) (places : PlacesLaw) (contigs : ContigsLaw) (intervals : OneListLaw) (valid : ValidLaw) (shown : ShownOrderLaw) (instance_read : InstanceLaw) where
  solved : (kind : Kind) (bytes : List ℕ) (i : InstanceValue) (status other : ℕ) (text others : List ℕ) → instance_of kind bytes ≡ read.Ok i → IsVerdictReply i status text → IsVerdictReply i other others → AreOneReply status text other others
  solved kind bytes i status other text others is = one_verdict_reply one_tree places contigs intervals valid shown i status other text others (instance_read kind bytes i is).formed (first_side i)

  -- replies that go by whether the matrix has a valid order
  module _ (kind : Kind) (bytes : List ℕ) (m : RowList) (is : instance_of kind bytes ≡ read.Ok (plain kind m)) where
    pub by_order : (found none : ℕ) (Told Other : List ℕ → Type 0) (status other : ℕ) (text others : List ℕ)
        → ((x y : List ℕ) → Told x → Told y → (x ≡ y) ⊎ (TellsCycle x × TellsCycle y)) → ((x y : List ℕ) → Other x → Other y → (x ≡ y) ⊎ (TellsCycle x × TellsCycle y))
        → ((HasValidOrder m.columns m.rows → ⊥) × (status ≡ none) × Other text) ⊎ (HasValidOrder m.columns m.rows × (status ≡ found) × Told text)
        → ((HasValidOrder m.columns m.rows → ⊥) × (other ≡ none) × Other others) ⊎ (HasValidOrder m.columns m.rows × (other ≡ found) × Told others)
        → AreOneReply status text other others
    by_order found none Told Other status other text others one_told one_other (inl here) (inl there) = (here.1 ∙ sym there.1, one_other text others here.2 there.2)
    by_order found none Told Other status other text others one_told one_other (inl here) (inr there) = absurd (here.0 there.0)
    by_order found none Told Other status other text others one_told one_other (inr here) (inl there) = absurd (there.0 here.0)
    by_order found none Told Other status other text others one_told one_other (inr here) (inr there) = (here.1 ∙ sym there.1, one_told text others here.2 there.2)

    -- replies of `solve` on the matrix with one status
    pub as_solved : (status : ℕ) (x y : List ℕ) → IsVerdictReply (plain kind m) status x → IsVerdictReply (plain kind m) status y → (x ≡ y) ⊎ (TellsCycle x × TellsCycle y)
    as_solved status x y here there = (solved kind bytes (plain kind m) status status x y is here there).1

  same_bool : (a b : Bool) (P : Type 0) → IsTrue a ↔ P → IsTrue b ↔ P → a ≡ b
  same_bool true true P here there = refl
  same_bool true false P here there = absurd (false≢true (there.1 (here.0 refl)))
  same_bool false true P here there = absurd (false≢true (here.1 (there.0 refl)))
  same_bool false false P here there = refl

  one_list_text : FirstOrdersLaw → (kind : Kind) (m : RowList) (k : ℕ) (x y : List ℕ) → IsListText kind m k x → IsListText kind m k y → x ≡ y
  one_list_text firsts kind m k x y here there =
      let orders = firsts m.columns m.rows k here.orders there.orders here.first there.first in
      let more = same_bool here.more there.more (HasOther (IsValidOrder m.columns m.rows) there.orders) (subst (λ os. IsTrue here.more ↔ HasOther (IsValidOrder m.columns m.rows) os) orders here.others) there.others in
      here.text_is ∙ ap (λ os. list_text kind m.columns os here.more) orders ∙ ap (list_text kind m.columns there.orders) more ∙ sym there.text_is

  one_common : (c : ℕ) (t u : Outline) (x y : List ℕ) → TellsCommon c t u x → TellsCommon c t u y → x ≡ y
  one_common c t u x y here there =
      let a = here.shows in
      let b = there.shows in
      let tree : here.side.tree ≡ there.side.tree = one_tree c here.side.tree there.side.tree (a.proper, a.canonical) (b.proper, b.canonical) (λ o. (λ f. (b.common o).1 ((a.common o).0 f), λ f. (a.common o).1 ((b.common o).0 f))) in
      let side : here.side ≡ there.side = ap (λ o. record { tree = here.side.tree; order = o }) a.order ∙ ap (λ s. record { tree = s; order = leaves s }) tree ∙ ap (λ o. record { tree = there.side.tree; order = o }) (sym b.order) in
      here.text_is ∙ ap (λ s. meet_head c t u ++ (codes "answer yes\n" ++ (side_text s ++ codes "end\n"))) side ∙ sym there.text_is

  apart_tells : (c : ℕ) (t u : Outline) (x : List ℕ) → TellsApart c t u x → TellsCycle x
  apart_tells c t u x told =
      let cycle = counted_cycle told.lines in
      let end = cycle ++ codes "end\n" in (
        told.lines,
        subst (λ y. HasLines y cycle) (sym told.text_is)
            (behind (meet_head c t u) (codes "answer no\n" ++ end) cycle (behind (codes "answer no\n") end cycle (before cycle cycle (codes "end\n") (itself cycle)))),
      )

  one_meeting : (c : ℕ) (t u : Outline) (status other : ℕ) (text others : List ℕ) → IsMeetingReply c t u status text → IsMeetingReply c t u other others → AreOneReply status text other others
  one_meeting c t u status other text others (inl here) (inl there) = (here.0 ∙ sym there.0, inl (one_common c t u text others here.1 there.1))
  one_meeting c t u status other text others (inl here) (inr there) = absurd (there.1.none here.1.some.0 here.1.some.1)
  one_meeting c t u status other text others (inr here) (inl there) = absurd (here.1.none there.1.some.0 there.1.some.1)
  one_meeting c t u status other text others (inr here) (inr there) = (here.0 ∙ sym there.0, inr (apart_tells c t u text here.1, apart_tells c t u others there.1))

  one_summary : (seed c rows : ℕ) (x y : List ℕ) → IsSummary seed c rows x → IsSummary seed c rows y → x ≡ y
  one_summary seed c rows x y here there =
      let m = generated seed c rows in
      let a = here.shows in
      let b = there.shows in
      let tree : here.tree ≡ there.tree = one_tree m.columns here.tree there.tree (a.proper, a.canonical) (b.proper, b.canonical) (λ o. (λ f. (b.orders o).1 ((a.orders o).0 f), λ f. (a.orders o).1 ((b.orders o).0 f))) in
      here.text_is ∙ ap (summary_text m) tree ∙ sym there.text_is

  -- the unit model that an order gives
  module _ (rule : OneRuleLaw) (g : GraphValue) (formed : IsWellFormed (proper g)) where
    one_model : (order x y : List ℕ) → IsValidOrder (derived_matrix (proper g) 1).columns (derived_matrix (proper g) 1).rows order → TellsModel g order x → TellsModel g order y → x ≡ y
    one_model order x y is here there =
        let t = here.0 in
        let u = there.0 in
        let a = here.1 in
        let b = there.1 in
        let lefts = rule g order t.lefts u.lefts formed (valid (proper g) 1 order formed (first_side (proper g)) is) a.rule b.rule in
        let same : t ≡ u = ap (λ n. record { vertices = n; size = t.size; lefts = t.lefts }) (a.vertices ∙ sym b.vertices) ∙ ap (λ n. record { vertices = u.vertices; size = n; lefts = t.lefts }) (a.size ∙ sym b.size) ∙
        ap (λ l. record { vertices = u.vertices; size = u.size; lefts = l }) lefts in
        here.2 ∙ ap unit_text same ∙ sym there.2

    at_side : (o : Option SideValue) (x y : List ℕ) → IsSomeAnd o (ShowsAllOrders (derived_matrix (proper g) 1)) → IsSomeAnd o (λ side. TellsModel g side.order x) → IsSomeAnd o (λ side. TellsModel g side.order y) → x ≡ y
    at_side None x y shows here there = absurd shows
    at_side (Some side) x y shows here there = one_model side.order x y (shown (derived_matrix (proper g) 1) side shows) here there

    one_unit : (status other : ℕ) (text others : List ℕ) → IsModelReply g status text → IsModelReply g other others → AreOneReply status text other others
    one_unit status other text others here there = go here.verdict.claim there.verdict.claim refl refl here.holds.claim there.holds.claim here.tells there.tells
      where
        go : (c d : Claim) → here.verdict.claim ≡ c → there.verdict.claim ≡ d → IsClaimOf (proper g) c → IsClaimOf (proper g) d → TellsByClaim g here.verdict c status text → TellsByClaim g there.verdict d other others → AreOneReply status text other others
        go (yes_claim v) (yes_claim w) is is_too one two told told_too =
            let same = one_yes one_tree places contigs intervals valid shown (proper g) v w formed (first_side (proper g)) one two in
            (told.0 ∙ sym told_too.0, inl (at_side (slice_get v.sides 0) text others (one.0.each 1 (first_side (proper g))) told.1 (subst (λ (z : YesValue). IsSomeAnd (slice_get z.sides 0) (λ side. TellsModel g side.order others)) (sym same) told_too.1)))
        go (yes_claim v) (no_claim s lines) is is_too one two told told_too = absurd (apart one_tree places contigs intervals valid shown (proper g) v s lines one two)
        go (no_claim s lines) (yes_claim v) is is_too one two told told_too = absurd (apart one_tree places contigs intervals valid shown (proper g) v s lines two one)
        go (no_claim s lines) (no_claim t cycle) is is_too one two told told_too =
            (told.0 ∙ sym told_too.0, inr (subst TellsCycle (sym told.1) (no_tells here.verdict s lines is), subst TellsCycle (sym told_too.1) (no_tells there.verdict t cycle is_too)))

  module _ (one_text : OneVerdictLaw) (one_core : OneCoreLaw) (one_unit_text : OneUnitLaw) (rule : OneRuleLaw) (firsts : FirstOrdersLaw) where
    pub one_reply : OneReplyLaw
    unfolding Replies
    one_reply (Solve kind _) (bytes ∷ []) status other text others here there =
        let same = same_read kind bytes here.0 there.0 here.1 there.1 in
        solved kind bytes here.0 status other text others here.1 here.2 (subst (λ i. IsVerdictReply i other others) same there.2)
    one_reply (Check kind _ _) (bytes ∷ verdict ∷ []) status other text others here there =
        let same = same_read kind bytes here.0 there.0 here.1 there.1 in
        one_judgement_reply one_text here.0 verdict status other text others here.2 (subst (λ i. IsJudgementReply i verdict other others) same there.2)
    one_reply (Extend kind _ _) (bytes ∷ given ∷ []) status other text others here there =
        let base = one_matrix kind bytes here.0 there.0 here.2 there.2 in
        let more = one_value (further here.0.columns given) here.1 there.1 here.3 (subst (λ (m : RowList). further m.columns given ≡ read.Ok there.1) base there.3) in
        let moved = subst (λ (n : RowList). IsExtensionReply kind here.0 n.rows other others) more (subst (λ m. IsExtensionReply kind m there.1.rows other others) base there.4) in
        by_order kind bytes here.0 here.2 0 1 (IsSessionText kind here.0 here.1.rows) (IsVerdictReply (plain kind here.0) 1) status other text others
        (one_session one_tree kind here.0 here.1.rows) (as_solved kind bytes here.0 here.2 1) here.4 moved
    one_reply (Core kind _) (bytes ∷ []) status other text others here there =
        let same = one_matrix kind bytes here.0 there.0 here.1 there.1 in
        by_order kind bytes here.0 here.1 1 0 (IsVerdictReply (plain kind here.0) 0) (IsCoreText kind here.0) status other text others
        (as_solved kind bytes here.0 here.1 0) (λ x y a b. inr (core_tells kind here.0 x a, core_tells kind here.0 y b)) here.2 (subst (λ m. IsCoreReply kind m other others) same there.2)
    one_reply (CheckCore kind _ _) (bytes ∷ given ∷ []) status other text others here there =
        let same = one_matrix kind bytes here.0 there.0 here.1 there.1 in
        one_core_reply one_core kind here.0 given status other text others here.2 (subst (λ m. IsCoreJudgementReply kind m given other others) same there.2)
    one_reply (Gen seed columns rows) [] status other text others here there = (here.0 ∙ sym there.0, inl (one_summary seed columns rows text others here.1 there.1))
    one_reply (Meet c _ _) (first ∷ second ∷ []) status other text others here there =
        let t = one_value (tree_file c first) here.0 there.0 here.2 there.2 in
        let u = one_value (tree_file c second) here.1 there.1 here.3 there.3 in
        one_meeting c here.0 here.1 status other text others here.4 (subst (λ v. IsMeetingReply c here.0 v other others) u (subst (λ v. IsMeetingReply c v there.1 other others) t there.4))
    one_reply (ListOrders kind _ count) (bytes ∷ []) status other text others here there =
        let same = one_matrix kind bytes here.0 there.0 here.1 there.1 in
        by_order kind bytes here.0 here.1 0 1 (IsListText kind here.0 count) (IsVerdictReply (plain kind here.0) 1) status other text others
        (λ x y a b. inl (one_list_text firsts kind here.0 count x y a b)) (as_solved kind bytes here.0 here.1 1) here.2 (subst (λ m. IsListReply kind m count other others) same there.2)
    one_reply (UnitModel _) (bytes ∷ []) status other text others here there =
        let same = one_graph bytes here.0 there.0 here.1 there.1 in
        one_unit rule here.0 (instance_read Proper bytes (proper here.0) here.1).formed status other text others here.2 (subst (λ g. IsModelReply g other others) same there.2)
    one_reply (CheckUnit _ _) (bytes ∷ unit ∷ []) status other text others here there =
        let same = one_graph bytes here.0 there.0 here.1 there.1 in
        one_finding_reply one_unit_text here.0 unit status other text others here.2 (subst (λ g. IsFindingReply g unit other others) same there.2)
    one_reply command files status other text others here there = absurd here
