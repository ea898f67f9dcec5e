-- Further rows that are taken in turn.
use Rattle.std.proofs.Common.{◌≡◌, ◌∙◌, ℕ, ◌+◌, ◌≤◌, List, [], ◌∷◌, ◌++◌, length, codes, refl, sym, ap, subst, append_assoc, arith}
use Rattle.std.proofs.lemmas.List.{append-nil, length-append}
use Rattle.row_model.specs.Rows.{RowList}
use Rattle.row_model.specs.declared.kind.Kind.{Kind}
use Rattle.pq_tree.specs.Outline.{Outline, leaves}
use Rattle.solve_replies.specs.MetNodes.{IsTreeNow}
use Rattle.pq_tree.specs.PqTree.{outline}
use Rattle.pq_tree.specs.Proper.{IsProper}
use Rattle.pq_tree.specs.declared.PqTree.{PqTree}
use Rattle.c1p_solve.specs.Answers.{HasAllOrders}
use Rattle.text_parts.specs.Numbered.{numbered}
use Rattle.text_parts.proofs.PrintLaws.{numbered-append}
use Rattle.verdict_text.specs.Text.{kind_line, columns_line, side_text}
use Rattle.verdict_replies.specs.Verdicts.{ShowsAllOrders}
use Rattle.solve_replies.specs.Sessions.{IsSessionText, Outcome, accepted, refused, IsOutcome, matrix_after, refusals_after, AreOutcomes, matrix_at_end, outcome_text, session_text}
use Rattle.solve_replies.proofs.MetNodes.{met_after, all_met}
use Rattle.solve_replies.specs.Taking.{refusals_at_end, HasTakenOne, HasTaken, HasEnded}

-- a tree of all orders, with its leaves
pub shows_all : (m : RowList) (t : PqTree) (order : List ℕ) → HasAllOrders m t → order ≡ leaves (outline t) → ShowsAllOrders m (record { tree = outline t; order = order })
shows_all m t order all is =
    record { proper = subst (λ c. IsProper c (outline t)) all.columns t.proper; canonical = all.canonical; orders = all.orders; leaves = is }

-- one more row
more_outcomes : (m : RowList) (refusals : ℕ) (done : List (List ℕ)) (outcomes : List Outcome) (row : List ℕ) (outcome : Outcome) → AreOutcomes m refusals done outcomes
    → IsOutcome (matrix_at_end m done outcomes) (refusals_at_end refusals outcomes) row outcome → AreOutcomes m refusals (done ++ row ∷ []) (outcomes ++ outcome ∷ [])
more_outcomes m refusals [] [] row outcome all one = (one, tt)
more_outcomes m refusals [] (o ∷ os) row outcome all one = absurd all
more_outcomes m refusals (r ∷ done) [] row outcome all one = absurd all
more_outcomes m refusals (r ∷ done) (o ∷ os) row outcome all one = (all.0, more_outcomes (matrix_after m r o) (refusals_after refusals o) done os row outcome all.1 one)

more_rows : (m : RowList) (refusals : ℕ) (done : List (List ℕ)) (outcomes : List Outcome) (row : List ℕ) (outcome : Outcome) → AreOutcomes m refusals done outcomes
    → matrix_at_end m (done ++ row ∷ []) (outcomes ++ outcome ∷ []) ≡ matrix_after (matrix_at_end m done outcomes) row outcome
more_rows m refusals [] [] row outcome all = refl
more_rows m refusals [] (o ∷ os) row outcome all = absurd all
more_rows m refusals (r ∷ done) [] row outcome all = absurd all
more_rows m refusals (r ∷ done) (o ∷ os) row outcome all = more_rows (matrix_after m r o) (refusals_after refusals o) done os row outcome all.1

more_refusals : (refusals : ℕ) (outcomes : List Outcome) (outcome : Outcome) → refusals_at_end refusals (outcomes ++ outcome ∷ []) ≡ refusals_after (refusals_at_end refusals outcomes) outcome
more_refusals refusals [] outcome = refl
more_refusals refusals (o ∷ os) outcome = more_refusals (refusals_after refusals o) os outcome

pub same_count : (m : RowList) (refusals : ℕ) (done : List (List ℕ)) (outcomes : List Outcome) → AreOutcomes m refusals done outcomes → length outcomes ≡ length done
same_count m refusals [] [] all = refl
same_count m refusals [] (o ∷ os) all = absurd all
same_count m refusals (r ∷ done) [] all = absurd all
same_count m refusals (r ∷ done) (o ∷ os) all = omega (arith, same_count (matrix_after m r o) (refusals_after refusals o) done os all.1)

pub taken_none : (m : RowList) (text : List ℕ) → HasTaken m [] m 0 0 text text
taken_none m text = record { outcomes = []; in_turn = tt; matrix_is = refl; count_is = refl; are_met = refl; text_is = sym (append-nil text) }

pub taken_more : (m : RowList) (done : List (List ℕ)) (now : RowList) (refusals met : ℕ) (t : Outline) (old text : List ℕ) (i : ℕ) (row : List ℕ) (after : RowList) (count : ℕ) (new : List ℕ)
    → HasTaken m done now refusals met old text → i ≡ length done + 1 → (one : HasTakenOne now refusals i row after count text new) → (count ≡ refusals + 1 → IsTreeNow now t)
    → HasTaken m (done ++ row ∷ []) after count (met_after met row t one.outcome) old new
taken_more m done now refusals met t old text i row after count new all at one tree =
    let outcomes = all.outcomes in
    let o = one.outcome in
    let holds : IsOutcome (matrix_at_end m done outcomes) (refusals_at_end 0 outcomes) row o = subst (λ n. IsOutcome (matrix_at_end m done outcomes) n row o) all.count_is (subst (λ k. IsOutcome k refusals row o) all.matrix_is one.holds) in
    let number : i ≡ 1 + length outcomes = omega (arith, at, same_count m 0 done outcomes all.in_turn) in
    record {
      outcomes = outcomes ++ o ∷ [];
      in_turn = more_outcomes m 0 done outcomes row o all.in_turn holds;
      matrix_is = one.matrix_is ∙ ap (λ k. matrix_after k row o) all.matrix_is ∙ sym (more_rows m 0 done outcomes row o all.in_turn);
      count_is = one.count_is ∙ ap (λ n. refusals_after n o) all.count_is ∙ sym (more_refusals 0 outcomes o);
      are_met = all_met m 0 done outcomes row o t met refusals all.in_turn (λ e. subst (λ (k : RowList). IsTreeNow k t) all.matrix_is (tree (one.count_is ∙ e))) all.are_met;
      text_is = one.text_is ∙ ap (λ t. t ++ outcome_text i o) all.text_is ∙ append_assoc old (numbered outcome_text 1 outcomes) (outcome_text i o)
          ∙ ap (λ t. old ++ t) (ap (λ n. numbered outcome_text 1 outcomes ++ outcome_text n o) number ∙ sym (numbered-append outcome_text 1 outcomes o));
    }

-- what one more row changes
after_columns : (m : RowList) (row : List ℕ) (o : Outcome) → (matrix_after m row o).columns ≡ m.columns
after_columns m row accepted = refl
after_columns m row (refused cycle) = refl

after_rows : (m : RowList) (row : List ℕ) (o : Outcome) → length (matrix_after m row o).rows ≤ length m.rows + 1
after_rows m row accepted = omega (arith, length-append m.rows (row ∷ []))
after_rows m row (refused cycle) = omega arith

after_count : (refusals : ℕ) (o : Outcome) → refusals_after refusals o ≤ refusals + 1
after_count refusals accepted = omega arith
after_count refusals (refused cycle) = omega arith

-- where a session stands after some of its further rows: its columns, and how many rows it has and has refused at most
pub record IsOnTheWay (m now : RowList) (refusals taken : ℕ) : Type 0 where
  pub columns : now.columns ≡ m.columns
  pub rows : length now.rows ≤ length m.rows + taken
  pub few : refusals ≤ taken

pub on_the_way : (m now after : RowList) (refusals taken i : ℕ) (row : List ℕ) (count : ℕ) (old new : List ℕ) → IsOnTheWay m now refusals taken → HasTakenOne now refusals i row after count old new
    → IsOnTheWay m after count (taken + 1)
on_the_way m now after refusals taken i row count old new way one =
    record {
      columns = ap (λ (k : RowList). k.columns) one.matrix_is ∙ after_columns now row one.outcome ∙ way.columns;
      rows = omega (arith, ap (λ (k : RowList). length k.rows) one.matrix_is, after_rows now row one.outcome, way.rows);
      few = omega (arith, one.count_is, after_count refusals one.outcome, way.few);
    }

-- a session's text, piece by piece
pieces : (start kind columns outcomes rest t0 t1 t2 t3 : List ℕ) → t0 ≡ [] → t1 ≡ t0 ++ (start ++ (kind ++ columns)) → t2 ≡ t1 ++ outcomes → t3 ≡ t2 ++ rest
    → t3 ≡ start ++ (kind ++ (columns ++ (outcomes ++ rest)))
pieces start kind columns outcomes rest t0 t1 t2 t3 e f g h =
    h ∙ ap (λ t. t ++ rest) (g ∙ ap (λ t. t ++ outcomes) (f ∙ ap (λ t. t ++ (start ++ (kind ++ columns))) e)) ∙ simp append_assoc

pub session_told : (kind : Kind) (c : ℕ) (m : RowList) (further : List (List ℕ)) (after : RowList) (count met : ℕ) (t0 t1 t2 t3 : List ℕ) → t0 ≡ [] → c ≡ m.columns
    → t1 ≡ t0 ++ (codes "pq-extend 1\n" ++ (kind_line kind ++ columns_line (c ∷ []))) → HasTaken m further after count met t1 t2 → HasEnded after t2 t3 → IsSessionText kind m further t3
unfolding session_text
session_told kind c m further after count met t0 t1 t2 t3 e is f all ended =
    record {
      outcomes = all.outcomes;
      side = ended.side;
      in_turn = all.in_turn;
      shows = subst (λ k. ShowsAllOrders k ended.side) all.matrix_is ended.shows;
      text_is = pieces (codes "pq-extend 1\n") (kind_line kind) (columns_line (c ∷ [])) (numbered outcome_text 1 all.outcomes) (side_text ended.side ++ codes "end\n") t0 t1 t2 t3 e f all.text_is ended.text_is
          ∙ ap (λ n. codes "pq-extend 1\n" ++ (kind_line kind ++ (columns_line (n ∷ []) ++ (numbered outcome_text 1 all.outcomes ++ (side_text ended.side ++ codes "end\n"))))) is;
    }
