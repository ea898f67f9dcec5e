-- The sweep along the positions.
use Rattle.std.proofs.Common.{◌≡◌, ◌≢◌, ◌⊎◌, ◌∙◌, ℕ, ◌+◌, ◌<◌, ◌≤◌, List, [], ◌∷◌, ◌++◌, get_or, set, max, All, sym, ap, subst, inl, inr, arith, get_or-set_same, get_or-set_other}
use Rattle.std.specs.List.{Contains}
use Rattle.std.proofs.lemmas.Bool.{cases_lt, cases_eq}
use Rattle.std.proofs.lemmas.List.{length-set}
use Rattle.std.proofs.lemmas.List.Elements.{All-contains, All-push, Contains-push, Contains-push_cases, Contains-append_left}
use Rattle.row_model.specs.declared.lists.Place.{Place}
use Rattle.row_model.specs.declared.lists.Place.TheVariants.{Nowhere, At}
use Rattle.row_model.specs.declared.lists.Span.{Span}
use Rattle.clone_map.specs.Contigs.{Cover}
use Rattle.clone_map.specs.Runs.{IsWithinPositions, AreReaches, IsCovered, IsRun}

-- after a number of positions: the runs so far, the last position that they cover, and the greatest last position of the places that begin so far
pub record IsSwept (places : List Place) (done before reach : ℕ) (spans : List Span) : Type 0 where
  pub cover : Cover 0 before spans
  pub runs : All (IsRun places) spans
  pub behind : before ≤ done
  pub open_run : (gap : ℕ) → before < gap → gap ≤ done → IsCovered places gap
  pub greatest : (first last : ℕ) → Contains places (At first last) → 1 ≤ first → first ≤ done → last ≤ reach
  pub taken : (reach ≡ 0) ⊎ ((first : ℕ) × Contains places (At first reach) × (first ≤ done))

cover_push : (before middle end : ℕ) (spans : List Span) (s : Span) → Cover before middle spans → s.first ≡ middle + 1 → s.first ≤ s.last → s.last ≡ end → Cover before end (spans ++ s ∷ [])
cover_push before middle end [] s h f l e = (f ∙ ap (λ n. n + 1) (sym h), l, e)
cover_push before middle end (x ∷ spans) s h f l e = (h.0, h.1, cover_push x.last middle end spans s h.2 f l e)

module _ (count : ℕ) (places : List Place) (within : All (IsWithinPositions count) places) where
  in_positions : (first last : ℕ) → Contains places (At first last) → (1 ≤ first) × (first ≤ last) × (last ≤ count)
  in_positions first last among = All-contains (IsWithinPositions count) places (At first last) within among

  module _ (done before reach : ℕ) (spans : List Span) (reaches : List ℕ) (h : IsSwept places done before reach spans) (at : AreReaches count places reaches) where
    abbrev next : ℕ
    next = max reach (get_or reaches done 0)

    -- the places that begin up to the next position
    next_greatest : (first last : ℕ) → Contains places (At first last) → 1 ≤ first → first ≤ done + 1 → last ≤ next
    next_greatest first last among l u =
        elim (cases_eq first (done + 1)) [
          | inl e ↦ omega (arith, at.greatest done last (subst (λ n. Contains places (At n last)) e among))
          | inr n ↦ omega (arith, h.greatest first last among l (omega arith))
        ]

    next_taken : (next ≡ 0) ⊎ ((first : ℕ) × Contains places (At first next) × (first ≤ done + 1))
    next_taken =
        elim (cases_lt (get_or reaches done 0) reach) [
          | inl l ↦
              let e : max reach (get_or reaches done 0) ≡ reach = omega arith in
              elim h.taken [
                | inl z ↦ inl (e ∙ z)
                | inr t ↦ inr (t.0, subst (λ n. Contains places (At t.0 n)) (sym e) t.1, omega (arith, t.2))
              ]
          | inr l ↦
              let e : max reach (get_or reaches done 0) ≡ get_or reaches done 0 = omega arith in
              elim (at.taken done) [
                | inl z ↦ inl (e ∙ z)
                | inr t ↦ inr (done + 1, subst (λ n. Contains places (At (done + 1) n)) (sym e) t, omega arith)
              ]
        ]

    -- the gap after the next position is covered where a place reaches past it
    next_covered : done + 1 < next → IsCovered places (done + 1)
    next_covered l =
        elim next_taken [
          | inl z ↦ absurd (omega (arith, z))
          | inr t ↦ record { first = t.0; last = next; among = t.1; before = t.2; after = l }
        ]

    next_open : next ≤ done + 1 → IsCovered places (done + 1) → ⊥
    next_open l k = omega (arith, k.after, next_greatest k.first k.last k.among (in_positions k.first k.last k.among).0 k.before)

    pub swept_on : done + 1 < next → IsSwept places (done + 1) before next spans
    swept_on l =
        record {
          cover = h.cover;
          runs = h.runs;
          behind = omega (arith, h.behind);
          open_run = λ gap a b. elim (cases_eq gap (done + 1)) [
            | inl e ↦ subst (IsCovered places) (sym e) (next_covered l)
            | inr n ↦ h.open_run gap a (omega arith)
          ];
          greatest = next_greatest;
          taken = next_taken;
        }

    pub swept_end : (s : Span) → s.first ≡ before + 1 → s.last ≡ done + 1 → next ≤ done + 1 → IsSwept places (done + 1) (done + 1) next (spans ++ s ∷ [])
    swept_end s f e l =
        let run : IsRun places s = record {
          within = λ gap a b. h.open_run gap (omega arith) (omega arith);
          ends = λ k. next_open l (subst (IsCovered places) e k);
        } in
        record {
          cover = cover_push 0 before (done + 1) spans s h.cover f (omega (arith, h.behind)) e;
          runs = All-push (IsRun places) spans s h.runs run;
          behind = omega arith;
          open_run = λ gap a b. absurd (omega arith);
          greatest = next_greatest;
          taken = next_taken;
        }

-- one more place
module _ (count : ℕ) (places : List Place) (reaches : List ℕ) (h : AreReaches count places reaches) where
  pub reaches_nowhere : AreReaches count (places ++ Nowhere ∷ []) reaches
  reaches_nowhere =
      record {
        size = h.size;
        greatest = λ i last among. elim (Contains-push_cases places Nowhere (At (i + 1) last) among) [
          | inl t ↦ h.greatest i last t
          | inr e ↦ absurd (cc)
        ];
        taken = λ i. elim (h.taken i) [ inl z ↦ inl z | inr t ↦ inr (Contains-append_left places (Nowhere ∷ []) (At (i + 1) (get_or reaches i 0)) t) ];
      }

  module _ (first last at : ℕ) (is : first ≡ at + 1) (to : first ≤ count) where
    abbrev raised : ℕ
    raised = max (get_or reaches at 0) last

    abbrev raised_list : List ℕ
    raised_list = set reaches at raised

    here : get_or raised_list at 0 ≡ raised
    here = get_or-set_same reaches at raised 0 (omega (arith, h.size))

    elsewhere : (i : ℕ) → i ≢ at → get_or raised_list i 0 ≡ get_or reaches i 0
    elsewhere i n = get_or-set_other reaches at i raised 0 n

    no_lower : (i : ℕ) → get_or reaches i 0 ≤ get_or raised_list i 0
    no_lower i =
        elim (cases_eq i at) [
          | inl e ↦ subst (λ n. get_or reaches n 0 ≤ get_or raised_list n 0) (sym e) (omega (arith, here))
          | inr n ↦ omega (arith, elsewhere i n)
        ]

    new_place : Contains (places ++ At first last ∷ []) (At (at + 1) last)
    new_place = subst (λ n. Contains (places ++ At first last ∷ []) (At n last)) is (Contains-push places (At first last))

    old_place : (n : ℕ) → Contains places (At (at + 1) n) → Contains (places ++ At first last ∷ []) (At (at + 1) n)
    old_place n t = Contains-append_left places (At first last ∷ []) (At (at + 1) n) t

    raised_taken : (raised ≡ 0) ⊎ Contains (places ++ At first last ∷ []) (At (at + 1) raised)
    raised_taken =
        elim (cases_lt last (get_or reaches at 0)) [
          | inl l ↦
              let e : raised ≡ get_or reaches at 0 = omega arith in
              elim (h.taken at) [
                | inl z ↦ inl (e ∙ z)
                | inr t ↦ inr (subst (λ n. Contains (places ++ At first last ∷ []) (At (at + 1) n)) (sym e) (old_place (get_or reaches at 0) t))
              ]
          | inr l ↦
              let e : raised ≡ last = omega arith in
              inr (subst (λ n. Contains (places ++ At first last ∷ []) (At (at + 1) n)) (sym e) new_place)
        ]

    pub reaches_raised : AreReaches count (places ++ At first last ∷ []) (set reaches at (max (get_or reaches at 0) last))
    reaches_raised =
        record {
          size = length-set reaches at raised ∙ h.size;
          greatest = λ i l among. elim (Contains-push_cases places (At first last) (At (i + 1) l) among) [
            | inl t ↦ omega (arith, h.greatest i l t, no_lower i)
            | inr e ↦
                let firsts : first ≡ i + 1 = cc in
                let lasts : last ≡ l = cc in
                let same : at ≡ i = omega arith in
                subst (λ n. l ≤ get_or raised_list n 0) same (omega (arith, here))
          ];
          taken = λ i. elim (cases_eq i at) [
            | inl e ↦ subst (λ n. (get_or raised_list n 0 ≡ 0) ⊎ Contains (places ++ At first last ∷ []) (At (n + 1) (get_or raised_list n 0))) (sym e)
                (subst (λ r. (r ≡ 0) ⊎ Contains (places ++ At first last ∷ []) (At (at + 1) r)) (sym here) raised_taken)
            | inr n ↦ subst (λ r. (r ≡ 0) ⊎ Contains (places ++ At first last ∷ []) (At (i + 1) r)) (sym (elsewhere i n)) (elim (h.taken i) [
              | inl z ↦ inl z
              | inr t ↦ inr (Contains-append_left places (At first last ∷ []) (At (i + 1) (get_or reaches i 0)) t)
            ])
          ];
        }
