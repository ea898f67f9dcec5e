-- Runs of the reading over bytes.
use Rattle.std.proofs.Common.{◌≡◌, ◌∙◌, ◌+◌, ◌<◌, ◌≤◌, ℕ, Bool, true, false, List, [], ◌∷◌, length, drop, get_or, Option, Some, None, refl, sym, ap, arith, drop-cons, add-one, subst, replicate}
use Rattle.column_order.specs.Orders.{has}
use Rattle.column_order.specs.declared.TheConstants.{COLUMN_BOUND}
use Rattle.std.specs.Prelude.{option_and_then}
use Rattle.std.proofs.lemmas.List.{length-replicate, get_or-replicate}
use Rattle.std.proofs.Math.ListN.{drop_of_length-le}
use Rattle.pq_tree.specs.Outline.{Outline}
use Rattle.pq_tree.specs.Reading.{State, step, run, settled, finished, start, tree_of, used}
use Rattle.pq_tree.specs.Seen.{seen, Moves, IsMoved, IsKept}
use Rattle.pq_tree.specs.declared.parse.Last.TheVariants.{Nothing}
use Rattle.pq_tree.specs.declared.parse.Parser.{Parser}

pub run_on : (c : ℕ) (s t : State) (b : ℕ) (bytes : List ℕ) → step c s b ≡ Some t → run c s (b ∷ bytes) ≡ run c t bytes
unfolding run
run_on c s t b bytes h = rw h refl

pub run_stop : (c : ℕ) (s : State) (b : ℕ) (bytes : List ℕ) → step c s b ≡ None → run c s (b ∷ bytes) ≡ None
unfolding run
run_stop c s b bytes h = rw h refl

at_place : (i : ℕ) (bytes : List ℕ) → i < length bytes → drop i bytes ≡ get_or bytes i 0 ∷ drop (i + 1) bytes
at_place i bytes h = rw add-one (drop-cons bytes i 0 h)

pub run_byte : (c i : ℕ) (bytes : List ℕ) (s t : State) (o : Option Outline) → i < length bytes → run c s (drop i bytes) ≡ o → step c s (get_or bytes i 0) ≡ Some t
    → run c t (drop (i + 1) bytes) ≡ o
run_byte c i bytes s t o l e h = sym (run_on c s t (get_or bytes i 0) (drop (i + 1) bytes) h) ∙ ap (run c s) (sym (at_place i bytes l)) ∙ e

pub run_stopped : (c i : ℕ) (bytes : List ℕ) (s : State) (o : Option Outline) → i < length bytes → run c s (drop i bytes) ≡ o → step c s (get_or bytes i 0) ≡ None → None ≡ o
run_stopped c i bytes s o l e h = sym (run_stop c s (get_or bytes i 0) (drop (i + 1) bytes) h) ∙ ap (run c s) (sym (at_place i bytes l)) ∙ e

pub run_ended : (c i : ℕ) (bytes : List ℕ) (s : State) (o : Option Outline) → length bytes ≤ i → run c s (drop i bytes) ≡ o → option_and_then (finished c) (settled s) ≡ o
unfolding run
run_ended c i bytes s o l e = rw (drop_of_length-le bytes l) at e

pub run_start : (c : ℕ) (bytes : List ℕ) (s : State) → s ≡ start → run c s bytes ≡ tree_of c bytes
unfolding tree_of
run_start c bytes s e = ap (λ x. run c x bytes) e

pub moved : (done : Bool) (a b : Parser) (o : Option State) → Moves done a b o → done ≡ true → IsMoved a b o
moved done a b o m e = let P : Bool → Type 0 = λ d. Moves d a b o in subst P e m

pub not_moved : (done : Bool) (a b : Parser) (o : Option State) → Moves done a b o → done ≡ false → o ≡ None
not_moved done a b o m e = let P : Bool → Type 0 = λ d. Moves d a b o in subst P e m

pub seen_start : (a : Parser) → a.last ≡ Nothing → a.children.items ≡ [] → a.open_nodes.items ≡ [] → seen a ≡ start
unfolding seen
seen_start a l e n = rw (l, e, n) refl

pub kept_start : (a : Parser) → a.columns ≤ COLUMN_BOUND → a.last ≡ Nothing → a.children.items ≡ [] → a.open_nodes.items ≡ [] → a.marks.items ≡ replicate (a.columns + 1) false → IsKept a
kept_start a small l e n marks =
    record {
      small = small;
      long = ap length marks ∙ length-replicate (a.columns + 1) false;
      marked = λ j h. ap (λ ms. get_or ms j false) marks ∙ get_or-replicate (a.columns + 1) j false false h ∙ ap (λ s. has (used s) j) (sym (seen_start a l e n));
      within = rw l tt;
      few = rw n (omega arith);
    }
