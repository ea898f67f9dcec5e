-- A word that is read is at the front, and a word at the front is read.
use Rattle.std.proofs.Common.{◌≡◌, ◌∙◌, ℕ, true, List, ◌++◌, Option, Some, None, refl, ap, eqb}
use Rattle.std.proofs.lemmas.Bool.Decides.{Decides-eqb}
use Rattle.std.proofs.lemmas.Option.{cond_some}
use Rattle.std.proofs.Math.Seq.{drop-append_seam}
use Rattle.std.proofs.lemmas.Slice.Eq.{starts_is}
use Rattle.std.specs.List.{starts_with}
use Rattle.std.specs.Prelude.{◌≢◌, IfSome, IfNone, MatchOption}
use Rattle.std.specs.Borrow.{Bor}
use Rattle.plain_text.specs.Words.{word_at}

pub word_takes : (word bytes rest : List ℕ) → word_at word bytes ≡ Some rest → bytes ≡ word ++ rest
unfolding word_at
word_takes word bytes rest h =
    let e = cond_some (starts_with eqb bytes word) _ rest h in
    (starts_is Decides-eqb bytes word (starts_with eqb bytes word) refl).0 e.0 ∙ ap (λ x. word ++ x) e.1

pub word_again : (word rest : List ℕ) → word_at word (word ++ rest) ≡ Some rest
unfolding word_at
word_again word rest =
    let e : starts_with eqb (word ++ rest) word ≡ true = (starts_is Decides-eqb (word ++ rest) word (starts_with eqb (word ++ rest) word) refl).1 rest refl in
    rw e (ap Some (drop-append_seam word rest))

-- what a reader of words gives
pub word_found : (word bytes : List ℕ) (r : Option (Bor (List ℕ))) → MatchOption r ((rest : List ℕ) → bytes ≢ word ++ rest) (λ x. bytes ≡ word ++ x.now) → IfSome r (λ rest. bytes ≡ word ++ rest.now)
word_found word bytes None h = tt
word_found word bytes (Some x) h = h

pub word_none : (word bytes : List ℕ) (r : Option (Bor (List ℕ))) → MatchOption r ((rest : List ℕ) → bytes ≢ word ++ rest) (λ x. bytes ≡ word ++ x.now) → IfNone r ((rest : List ℕ) → bytes ≢ word ++ rest)
word_none word bytes (Some x) h = tt
word_none word bytes None h = h
