-- A file that goes through a taker.
use Rattle.std.proofs.Common.{◌≡◌, ◌≢◌, ◌==◌, ℕ, ◌+◌, ◌≤◌, List, [], ◌++◌, length, take, drop, Option, true, false, refl, sym, ap, subst, ◌∙◌, arith, append_assoc, append-nil, length-append}
use Rattle.std.proofs.lemmas.List.{length-take-le, length-drop}
use Rattle.std.proofs.Math.Seq.{take-add}
use Rattle.std.proofs.KnownBytes.{Consumes-trans}
use Rattle.std.specs.Io.KnownBytes.{Consumes, IsAtEnd}
use Rattle.file_io.specs.Taken.{Taken, handed_out}
use Rattle.file_io.specs.Whole.{HandsOutPart}
use Rattle.file_io.specs.Through.{IsMadeOf}
use Rattle.file_io.proofs.Handed.{handed_out-nil, handed_out-more, not_zero}

-- These bytes were given, of which a taker left a front. What it makes of more behind the front is made of as much behind
-- what was given.
pub record GoesThrough {M : Type 0} (makes0 makes : List ℕ → M → Type 0) (left0 left : Option (List ℕ)) (taken0 taken : List Taken) (total : ℕ) (front given : List ℕ) : Type 0 where
  pub part : HandsOutPart left0 left taken0 taken given false
  pub count : length given ≡ total
  pub makes_on : (rest : List ℕ) (made : M) → makes (front ++ rest) made → makes0 (given ++ rest) made

consumes_none : (left : Option (List ℕ)) → Consumes left left []
consumes_none Option.None = tt
consumes_none (Option.Some bytes) = refl

pub begin_through : {M : Type 0} (makes : List ℕ → M → Type 0) (left : Option (List ℕ)) (taken : List Taken) → GoesThrough makes makes left left taken taken 0 [] []
begin_through makes left taken = record {
  part = record { taken = sym (handed_out-nil taken); consumed = consumes_none left; end = λ e. absurd (cc) };
  count = refl;
  makes_on = λ rest made h. h;
}

module _ {M : Type 0} (makes0 makes : List ℕ → M → Type 0) (left0 left : Option (List ℕ)) (taken0 taken : List Taken) (total : ℕ) (given : List ℕ) where
  -- one read more
  module _ (filled n : ℕ) (old new : List ℕ) (through : GoesThrough makes0 makes left0 left taken0 taken total (take filled old) given) (same : take filled new ≡ take filled old) (left2 : Option (List ℕ))
      (taken2 : List Taken) (consumed : Consumes left left2 (take n (drop filled new))) (handed : taken2 ≡ handed_out (take n (drop filled new)) (n == 0) taken) where
    pub through_more : n ≢ 0 → filled + n ≤ length new → GoesThrough makes0 makes left0 left2 taken0 taken2 (total + n) (take (filled + n) new) (given ++ take n (drop filled new))
    through_more some room =
        let read = take n (drop filled new) in
        let long : length read ≡ n = length-take-le n (drop filled new) (omega (arith, length-drop filled new)) in
        let front : take (filled + n) new ≡ take filled old ++ read = take-add filled n new ∙ ap (λ f. f ++ read) same in
        record {
          part = record {
            taken = handed ∙ ap (λ e. handed_out read e taken) (not_zero n some) ∙ ap (handed_out read false) through.part.taken ∙ handed_out-more given read false taken0;
            consumed = Consumes-trans left0 left left2 given read through.part.consumed consumed;
            end = λ e. absurd (cc);
          };
          count = length-append given read ∙ omega (arith, long, through.count);
          makes_on = λ rest made h.
              subst (λ text. makes0 text made) (sym (append_assoc given read rest))
              (through.makes_on (read ++ rest) made (subst (λ text. makes text made) (ap (λ f. f ++ rest) front ∙ append_assoc (take filled old) read rest) h));
        }

    pub part_end : n ≡ 0 → (n ≡ 0 → IsAtEnd left2) → HandsOutPart left0 left2 taken0 taken2 given true
    part_end none end = record {
      taken =
          handed
          ∙ ap (λ k. handed_out (take k (drop filled new)) (k == 0) taken) none
          ∙ ap (handed_out [] true) through.part.taken
          ∙ handed_out-more given [] true taken0
          ∙ ap (λ all. handed_out all true taken0) (append-nil given);
      consumed = subst (Consumes left0 left2) (append-nil given)
          (Consumes-trans left0 left left2 given [] through.part.consumed (subst (λ k. Consumes left left2 (take k (drop filled new))) none consumed));
      end = λ e. end none;
    }

    pub made_end : (limit : ℕ) (made : M) → total ≤ limit → makes (take filled new) made → IsMadeOf limit makes0 given true (Option.Some made)
    made_end limit made few h = (
      refl,
      omega (arith, through.count),
      subst (λ text. makes0 text made) (append-nil given) (through.makes_on [] made (subst (λ text. makes text made) (same ∙ sym (append-nil (take filled old))) h)),
    )

  -- one call of a taker more
  pub through_over : (makes2 : List ℕ → M → Type 0) (front front2 : List ℕ) → GoesThrough makes0 makes left0 left taken0 taken total front given
      → ((rest : List ℕ) (made : M) → makes2 (front2 ++ rest) made → makes (front ++ rest) made) → GoesThrough makes0 makes2 left0 left taken0 taken total front2 given
  through_over makes2 front front2 through on = record {
    part = through.part;
    count = through.count;
    makes_on = λ rest made h. through.makes_on rest made (on rest made h);
  }
