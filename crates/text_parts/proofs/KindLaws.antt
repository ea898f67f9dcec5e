-- The word of a kind, as a text and as read.
use Rattle.std.proofs.Common.{◌≡◌, ◌∙◌, ◌+◌, ◌<◌, ℕ, suc, List, [], ◌∷◌, ◌++◌, length, drop, get_or, drop-cons, add-one, Option, Some, None, refl, sym, ap}
use Rattle.std.specs.Prelude.{option_and_then}
use Rattle.std.proofs.lemmas.Option.{none-some, some_pair_parts}
use Rattle.plain_text.specs.Words.{word_at}
use Rattle.plain_text.proofs.WordLaws.{word_takes}
use Rattle.row_model.specs.declared.kind.Kind.{Kind}
use Rattle.row_model.specs.declared.kind.Kind.TheVariants.{Matrix, Rows, Table, Circular, Convex, Doubly, Proper, Robinson, Clones}
use Rattle.text_parts.specs.Text.{kind_word}
use Rattle.text_parts.specs.Reading.{kind_from, all_kinds, with_kind, or_else}

at_kind : (kinds : List Kind) (i : ℕ) (kind : Kind) → i < length kinds → kind ≡ get_or kinds i kind → drop i kinds ≡ kind ∷ drop (i + 1) kinds
at_kind kinds i kind l e = rw add-one (drop-cons kinds i kind l ∙ ap (λ k. k ∷ drop (suc i) kinds) (sym e))

pub kind_found : (kinds : List Kind) (i : ℕ) (kind : Kind) (bytes rest : List ℕ) (o : Option (Kind × List ℕ)) → i < length kinds → kind ≡ get_or kinds i kind
    → kind_from (drop i kinds) bytes ≡ o → word_at (kind_word kind) bytes ≡ Some rest → Some (kind, rest) ≡ o
kind_found kinds i kind bytes rest o l e h w =
    ap (λ x. or_else (option_and_then (with_kind kind) x) (kind_from (drop (i + 1) kinds) bytes)) (sym w) ∙ ap (λ ks. kind_from ks bytes) (sym (at_kind kinds i kind l e)) ∙ h

pub kind_passed : (kinds : List Kind) (i : ℕ) (kind : Kind) (bytes : List ℕ) (o : Option (Kind × List ℕ)) → i < length kinds → kind ≡ get_or kinds i kind
    → kind_from (drop i kinds) bytes ≡ o → word_at (kind_word kind) bytes ≡ None → kind_from (drop (i + 1) kinds) bytes ≡ o
kind_passed kinds i kind bytes o l e h w =
    ap (λ x. or_else (option_and_then (with_kind kind) x) (kind_from (drop (i + 1) kinds) bytes)) (sym w) ∙ ap (λ ks. kind_from ks bytes) (sym (at_kind kinds i kind l e)) ∙ h

-- what is read stands at the front
pub kind_takes : (kinds : List Kind) (bytes : List ℕ) (kind : Kind) (rest : List ℕ) → kind_from kinds bytes ≡ Some (kind, rest) → bytes ≡ kind_word kind ++ rest
kind_takes [] bytes kind rest h = absurd (none-some _ h)
kind_takes (k ∷ kinds) bytes kind rest h =
    (elim (word_at (kind_word k) bytes) as (λ o. word_at (kind_word k) bytes ≡ o → or_else (option_and_then (with_kind k) o) (kind_from kinds bytes) ≡ Some (kind, rest) → bytes ≡ kind_word kind ++ rest) [
      | Some r ↦ λ e m.
          let p = some_pair_parts k kind r rest m in
          word_takes (kind_word k) bytes r e ∙ ap (λ x. kind_word k ++ x) p.1 ∙ ap (λ x. kind_word x ++ rest) p.0
      | None ↦ λ e m. kind_takes kinds bytes kind rest m
    ]) refl h

-- no word of a kind begins another
pub kind_again : (kind : Kind) (rest : List ℕ) → kind_from all_kinds (kind_word kind ++ rest) ≡ Some (kind, rest)
unfolding word_at
kind_again Matrix rest = refl
kind_again Rows rest = refl
kind_again Table rest = refl
kind_again Circular rest = refl
kind_again Convex rest = refl
kind_again Doubly rest = refl
kind_again Proper rest = refl
kind_again Robinson rest = refl
kind_again Clones rest = refl
