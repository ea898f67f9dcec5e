-- What further rows cost adds up.
use Rattle.std.proofs.Common.{◌≡◌, ℕ, ◌+◌, ◌*◌, ◌<◌, ◌≤◌, min, Bool, true, false, nat_lt, if◌then◌else◌, List, [], ◌∷◌, ◌++◌, length, sum_by, refl, sym, subst, arith, inl, inr, Result, Ok, Err, IfOk}
use Rattle.std.specs.Prelude.{IsErrAnd}
use Rattle.std.proofs.Math.Nat.{min-eq_left, min-eq_right, mul-le-mul_left, mul-le-mul_right, mul-suc, suc-mul}
use Rattle.std.proofs.lemmas.Bool.{cases_lt, ltb-true}
use Rattle.std.proofs.lemmas.List.{length-append}
use Rattle.std.proofs.lemmas.List.Sums.{sum_by-append, sum_by_push}
use Rattle.column_order.specs.Orders.{HasValidOrder}
use Rattle.row_model.specs.Rows.{RowList}
use Rattle.pq_tree.specs.Outline.{Outline}
use Rattle.pq_tree.specs.Amortised.{nodes_met, weight}
use Rattle.verdict_replies.specs.declared.reply.Reply.{Reply}
use Rattle.c1p_solve.specs.Sessions.{SessionValue, with_row}
use Rattle.c1p_solve.specs.Totals.{search_steps, answer_steps}
use Rattle.c1p_solve.specs.SessionTotals.{row_steps, refusal_steps}
use Rattle.solve_replies.specs.Sessions.{Outcome, accepted, refused, matrix_after, refusals_after, AreOutcomes, matrix_at_end}
use Rattle.solve_replies.specs.MetNodes.{AreMet}
use Rattle.solve_replies.proofs.MetNodes.{met_after}
use Rattle.solve_replies.specs.Taking.{refusals_at_end}
use Rattle.solve_replies.specs.Steps.{made_status, taking_steps}
use Rattle.solve_replies.specs.Charges.{further_search, refused_steps, further_steps, IsOneCharged, one_steps, ExtendsWithin}

-- After the first rows of some further ones: the steps so far, with 256 for each unit of the weight v that the tree has now, of w at the
-- start. Of so many refusals some were explained by a search. The refused rows met so many nodes, with one more for each.
pub record IsCharged (m : RowList) (further done : List (List ℕ)) (now : RowList) (refusals met w v s n : ℕ) : Type 0 where
  pub explained : ℕ
  pub few : explained ≤ 16
  pub each : explained ≤ refusals
  pub within : refusals ≤ length done
  pub columns : now.columns ≡ m.columns
  pub rows : length now.rows ≤ length m.rows + length done
  pub ones : sum_by length now.rows ≤ sum_by length m.rows + sum_by length done
  pub paid : n + 256 * v + taking_steps m ≤ s + 256 * w + taking_steps now + 512 * m.columns * refusals + explained * further_search m further
  pub exact : n + 256 * v + taking_steps m ≤ s + 256 * w + taking_steps now + 256 * met + explained * further_search m further

-- what is within two bounds is within the smaller
within_both : (x a b : ℕ) → x ≤ a → x ≤ b → x ≤ min a b
within_both x a b l h = elim (cases_lt a b) [ inl below ↦ omega (arith, l, min-eq_left {n = a} {m = b} (omega (arith, below))) | inr above ↦ omega (arith, h, min-eq_right {n = b} {m = a} above) ]

-- no refused row is explained but one of the first
module _ (m : RowList) (further : List (List ℕ)) (e k : ℕ) where
  searches_few : e ≤ k → e ≤ 16 → e * further_search m further ≤ min k 16 * further_search m further
  searches_few each few = mul-le-mul_right (further_search m further) (within_both e k 16 each few)

-- the rows of a search are some of all
search_within : (m : RowList) (further done now_rows : List (List ℕ)) (row : List ℕ) → sum_by length done + length row ≤ sum_by length further
    → sum_by length now_rows ≤ sum_by length m.rows + sum_by length done → search_steps m.columns (now_rows ++ row ∷ []) ≤ further_search m further
search_within m further done now_rows row room ones =
    let all : sum_by length (now_rows ++ row ∷ []) + 1 ≤ sum_by length (m.rows ++ further) + 1 = omega (arith, room, ones, sum_by_push length now_rows row, sum_by-append length m.rows further) in
    mul-le-mul_left (8 * m.columns) all

-- one further row
module _ (m : RowList) (further done : List (List ℕ)) (now after : RowList) (row : List ℕ) (refusals met w s n : ℕ) (t u : Outline)
    (room : sum_by length done + length row ≤ sum_by length further) (so : IsCharged m further done now refusals met w (weight t) s n) where
  search : search_steps m.columns (now.rows ++ row ∷ []) ≤ further_search m further
  search = search_within m further done now.rows row room so.ones

  refused_by : (b : Bool) (p : ℕ) → nat_lt refusals 16 ≡ b → weight u ≡ weight t → p ≤ n + (512 * m.columns + (if b then search_steps m.columns (now.rows ++ row ∷ []) else 0))
      → p ≤ n + (256 * (nodes_met row t + 1) + (if b then search_steps m.columns (now.rows ++ row ∷ []) else 0)) → after ≡ now
      → IsCharged m further (done ++ row ∷ []) after (refusals + 1) (met + (nodes_met row t + 1)) w (weight u) s p
  refused_by true p e same h k keeps =
      let few : refusals < 16 = ltb-true refusals 16 e in
      subst (λ x. IsCharged m further (done ++ row ∷ []) x (refusals + 1) (met + (nodes_met row t + 1)) w (weight u) s p) (sym keeps) (record {
        explained = so.explained + 1;
        few = omega (arith, few, so.each);
        each = omega (arith, so.each);
        within = omega (arith, so.within, length-append done (row ∷ []));
        columns = so.columns;
        rows = omega (arith, so.rows, length-append done (row ∷ []));
        ones = omega (arith, so.ones, sum_by_push length done row);
        paid = omega (arith, so.paid, h, same, search, mul-suc (512 * m.columns) refusals, suc-mul so.explained (further_search m further));
        exact = omega (arith, so.exact, k, same, search, suc-mul so.explained (further_search m further));
      })
  refused_by false p e same h k keeps =
      subst (λ x. IsCharged m further (done ++ row ∷ []) x (refusals + 1) (met + (nodes_met row t + 1)) w (weight u) s p) (sym keeps) (record {
        explained = so.explained;
        few = so.few;
        each = omega (arith, so.each);
        within = omega (arith, so.within, length-append done (row ∷ []));
        columns = so.columns;
        rows = omega (arith, so.rows, length-append done (row ∷ []));
        ones = omega (arith, so.ones, sum_by_push length done row);
        paid = omega (arith, so.paid, h, same, mul-suc (512 * m.columns) refusals);
        exact = omega (arith, so.exact, k, same);
      })

  taken_by : (p : ℕ) → p + 256 * weight u ≤ n + 1024 * (1 + length row) + 256 * weight t → after ≡ with_row now row → IsCharged m further (done ++ row ∷ []) after refusals met w (weight u) s p
  taken_by p h adds =
      subst (λ x. IsCharged m further (done ++ row ∷ []) x refusals met w (weight u) s p) (sym adds) (record {
        explained = so.explained;
        few = so.few;
        each = so.each;
        within = omega (arith, so.within, length-append done (row ∷ []));
        columns = so.columns;
        rows = omega (arith, so.rows, length-append done (row ∷ []), length-append now.rows (row ∷ []));
        ones = omega (arith, so.ones, sum_by_push length done row, sum_by_push length now.rows row);
        paid = omega (arith, so.paid, h, sum_by_push length now.rows row, length-append now.rows (row ∷ []));
        exact = omega (arith, so.exact, h, sum_by_push length now.rows row, length-append now.rows (row ∷ []));
      })

  pub charged_more : (o : Outcome) (count p : ℕ) → count ≡ refusals_after refusals o → after ≡ matrix_after now row o → IsOneCharged now.columns (now.rows ++ row ∷ []) row refusals count t u n p
      → IsCharged m further (done ++ row ∷ []) after count (met_after met row t o) w (weight u) s p
  charged_more accepted count p is after_is one = elim one [
    | inl taken ↦ subst (λ k. IsCharged m further (done ++ row ∷ []) after k met w (weight u) s p) (sym is) (taken_by p taken.1 after_is)
    | inr kept ↦ absurd (omega (arith, is, kept.0))
  ]
  charged_more (refused cycle) count p is after_is one = elim one [
    | inl taken ↦ absurd (omega (arith, is, taken.0))
    | inr kept ↦ subst (λ k. IsCharged m further (done ++ row ∷ []) after k (met + (nodes_met row t + 1)) w (weight u) s p) (sym is)
        (refused_by (nat_lt refusals 16) p refl kept.1 (subst (λ (c : ℕ). p ≤ n + refusal_steps c (now.rows ++ row ∷ []) (nat_lt refusals 16)) so.columns kept.2)
        (subst (λ (c : ℕ). p ≤ n + row_steps c (now.rows ++ row ∷ []) row t (nat_lt refusals 16)) so.columns kept.3) after_is)
  ]

  -- a row at which the session fails
  failed_by : (b : Bool) (q : ℕ) → nat_lt refusals 16 ≡ b → length done < length further → q ≤ n + (1024 * (1 + length row) + 256 * weight t + (512 * m.columns + (if b then search_steps m.columns (now.rows ++ row ∷ []) else 0)))
      → q ≤ s + 256 * w + further_steps m further
  failed_by true q e inside h =
      let few : refusals < 16 = ltb-true refusals 16 e in
      let refusals_most : 512 * m.columns * (refusals + 1) ≤ 512 * m.columns * length further = mul-le-mul_left (512 * m.columns) (omega (arith, so.within, inside)) in
      let searches = searches_few m further (so.explained + 1) (length further) (omega (arith, so.each, so.within, inside)) (omega (arith, few, so.each)) in
      omega (arith, so.paid, so.rows, so.ones, so.columns, h, search, room, inside, refusals_most, searches, mul-suc (512 * m.columns) refusals, suc-mul so.explained (further_search m further))
  failed_by false q e inside h =
      let refusals_most : 512 * m.columns * (refusals + 1) ≤ 512 * m.columns * length further = mul-le-mul_left (512 * m.columns) (omega (arith, so.within, inside)) in
      let searches = searches_few m further so.explained (length further) (omega (arith, so.each, so.within, inside)) so.few in
      omega (arith, so.paid, so.rows, so.ones, so.columns, h, room, inside, refusals_most, searches, mul-suc (512 * m.columns) refusals)

  pub charged_failed : (q : ℕ) → length done < length further → q ≤ n + one_steps now.columns (now.rows ++ row ∷ []) row refusals (weight t) → q ≤ s + 256 * w + further_steps m further
  charged_failed q inside h = failed_by (nat_lt refusals 16) q refl inside (subst (λ (c : ℕ). q ≤ n + one_steps c (now.rows ++ row ∷ []) row refusals (weight t)) so.columns h)

-- all of them
pub charged_all : (m : RowList) (further : List (List ℕ)) (now : RowList) (refusals met w v s n : ℕ) → IsCharged m further further now refusals met w v s n →
    (n + taking_steps m ≤ s + 256 * w + taking_steps now + refused_steps m further refusals) × (n + taking_steps m ≤ s + 256 * w + taking_steps now + 256 * met + min refusals 16 * further_search m further)
charged_all m further now refusals met w v s n so =
    let searches = searches_few m further so.explained refusals so.each so.few in
    (omega (arith, so.paid, searches), omega (arith, so.exact, searches))

pub charged_most : (m : RowList) (further : List (List ℕ)) (now : RowList) (refusals met w v s n : ℕ) → IsCharged m further further now refusals met w v s n → n ≤ s + 256 * w + further_steps m further
charged_most m further now refusals met w v s n so =
    let refusals_most : 512 * m.columns * refusals ≤ 512 * m.columns * length further = mul-le-mul_left (512 * m.columns) so.within in
    let searches = searches_few m further so.explained (length further) (omega (arith, so.each, so.within)) so.few in
    omega (arith, so.paid, so.rows, so.ones, so.columns, refusals_most, searches)

pub charged_none : (m : RowList) (further : List (List ℕ)) (w s : ℕ) → IsCharged m further [] m 0 0 w w s s
charged_none m further w s = record { explained = 0; few = omega arith; each = omega arith; within = omega arith; columns = refl; rows = omega arith; ones = omega arith; paid = omega arith; exact = omega arith }

-- what further rows cost after a session of the matrix began
abbrev pub SessionCosts : RowList → List (List ℕ) → ℕ → ℕ → ℕ → Type 0
SessionCosts m further w p n =
    (outcomes : List Outcome) × AreOutcomes m 0 further outcomes × (n + taking_steps m ≤ p + 256 * w + taking_steps (matrix_at_end m further outcomes) + refused_steps m further (refusals_at_end 0 outcomes))
    × ((a : ℕ) × AreMet m further outcomes a × (n + taking_steps m ≤ p + 256 * w + taking_steps (matrix_at_end m further outcomes) + 256 * a + min (refusals_at_end 0 outcomes) 16 * further_search m further))

-- the steps of a session that was started, and those of a base without an order
pub of_session : {E : Type 0} (m : RowList) (further : List (List ℕ)) (v : SessionValue) (r : Result Reply E) (s p n : ℕ) → v.matrix ≡ m → p + 256 * weight v.tree ≤ s + taking_steps m
    → IfOk r (λ reply. reply.status ≡ 0) → IfOk r (λ reply. SessionCosts v.matrix further (weight v.tree) p n)
    → n ≤ p + 256 * weight v.tree + further_steps v.matrix further → ExtendsWithin m further (made_status (λ reply. reply.status) r) s n
of_session m further v (Ok reply) s p n is begun status told most =
    let told : SessionCosts m further (weight v.tree) p n = subst (λ (k : RowList). SessionCosts k further (weight v.tree) p n) is told in
    let most : n ≤ p + 256 * weight v.tree + further_steps m further = subst (λ (k : RowList). n ≤ p + 256 * weight v.tree + further_steps k further) is most in
    record { base = λ e. absurd (omega (arith, status, e)); session = λ e. (told.0, told.1, omega (arith, told.2, begun), (told.3.0, told.3.1, omega (arith, told.3.2, begun))); most = omega (arith, most, begun) }
of_session m further v (Err e) s p n is begun status told most =
    let most : n ≤ p + 256 * weight v.tree + further_steps m further = subst (λ (k : RowList). n ≤ p + 256 * weight v.tree + further_steps k further) is most in
    record { base = λ e. absurd (omega (arith, e)); session = λ e. absurd (omega (arith, e)); most = omega (arith, most, begun) }

pub of_base : {E : Type 0} (m : RowList) (further : List (List ℕ)) (r : Result Reply E) (s n : ℕ) → (HasValidOrder m.columns m.rows → ⊥) → IfOk r (λ reply. reply.status ≡ 1) → n ≤ s + answer_steps m
    → ExtendsWithin m further (made_status (λ reply. reply.status) r) s n
of_base m further (Ok reply) s n none status most = record { base = λ e. (none, most); session = λ e. absurd (omega (arith, status, e)); most = omega (arith, most) }
of_base m further (Err e) s n none status most = record { base = λ e. absurd (omega (arith, e)); session = λ e. absurd (omega (arith, e)); most = omega (arith, most) }

-- memory was refused before any further row
pub of_none : {E : Type 0} (m : RowList) (further : List (List ℕ)) (r : Result Reply E) (P : E → Type 0) (s n : ℕ) → IsErrAnd r P → n ≤ s + answer_steps m → ExtendsWithin m further (made_status (λ reply. reply.status) r) s n
of_none m further (Ok reply) P s n is most = absurd is
of_none m further (Err e) P s n is most = record { base = λ e. absurd (omega (arith, e)); session = λ e. absurd (omega (arith, e)); most = omega (arith, most) }
