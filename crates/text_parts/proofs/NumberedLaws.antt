-- Items one after another, as text and as read.
use Rattle.std.proofs.Common.{◌≡◌, ◌∙◌, ◌+◌, ◌*◌, ◌<◌, ◌≤◌, ℕ, zero, suc, List, [], ◌∷◌, ◌++◌, length, Option, Some, None, refl, sym, ap, arith, subst, length-append}
use Rattle.std.specs.Prelude.{option_and_then, flat_map}
use Rattle.std.specs.Fmt.{decimal}
use Rattle.std.specs.List.{AllByRecursion}
use Rattle.std.proofs.lemmas.List.{append_assoc}
use Rattle.std.proofs.lemmas.Option.{some_pair_parts, option_and_then_some}
use Rattle.text_parts.specs.Grammar.{max_number, Fits32}
use Rattle.text_parts.specs.Numbered.{numbered, numbered_at, with_first}
use Rattle.text_parts.specs.Reading.{counted_at}
use Rattle.text_parts.proofs.Chains.{Takes, small, after_number, after_word, at_number, at_word}
use Rattle.text_parts.specs.Text.{counted_text}

-- where the text of an item does not depend on its number
pub numbered-flat_map : {A : Type 0} (text : A → List ℕ) (i : ℕ) (xs : List A) → numbered (λ i. text) i xs ≡ flat_map text xs
numbered-flat_map text i [] = refl
numbered-flat_map text i (x ∷ xs) = ap (λ z. text x ++ z) (numbered-flat_map text (i + 1) xs)

-- so many items that were read, and the bytes after them
pub record AreTaken {A : Type 0} (text : ℕ → A → List ℕ) (Good : A → Type 0) (i n : ℕ) (bytes : List ℕ) (xs : List A) (rest : List ℕ) : Type 0 where
  pub each : AllByRecursion Good xs
  pub all : length xs ≡ n
  pub front : bytes ≡ numbered text i xs ++ rest

pub numbered_take : {A : Type 0} (read : ℕ → List ℕ → Option (A × List ℕ)) (text : ℕ → A → List ℕ) (Good : A → Type 0)
    → ((i : ℕ) (bytes : List ℕ) (x : A) (rest : List ℕ) → read i bytes ≡ Some (x, rest) → Takes (text i) Good bytes x rest)
    → (i n : ℕ) (bytes : List ℕ) (xs : List A) (rest : List ℕ) → numbered_at read i n bytes ≡ Some (xs, rest) → AreTaken text Good i n bytes xs rest
unfolding numbered_at
numbered_take read text Good one i zero bytes xs rest h =
    let p = some_pair_parts [] xs bytes rest h in
    subst (λ l. AreTaken text Good i 0 bytes l rest) p.0 (record { each = tt; all = refl; front = p.1 })
numbered_take read text Good one i (suc n) bytes xs rest h =
    option_and_then_some _ (read i bytes) (xs, rest) h (λ x e k.
    option_and_then_some (with_first x.0) (numbered_at read (i + 1) n x.1) (xs, rest) k (λ y f m.
    let l = one i bytes x.0 x.1 e in
    let r = numbered_take read text Good one (i + 1) n x.1 y.0 y.1 f in
    let p = some_pair_parts (x.0 ∷ y.0) xs y.1 rest m in
    subst (λ l. AreTaken text Good i (suc n) bytes l rest) p.0 (record {
      each = (l.good, r.each);
      all = ap suc r.all;
      front = l.front ∙ ap (λ z. text i x.0 ++ z) (r.front ∙ ap (λ z. numbered text (i + 1) y.0 ++ z) p.1) ∙ sym (append_assoc (text i x.0) (numbered text (i + 1) y.0) rest);
    })))

pub numbered_again : {A : Type 0} (read : ℕ → List ℕ → Option (A × List ℕ)) (text : ℕ → A → List ℕ) (Good : A → Type 0) (last : ℕ)
    → ((i : ℕ) (x : A) (rest : List ℕ) → i ≤ last → Good x → read i (text i x ++ rest) ≡ Some (x, rest))
    → (i : ℕ) (xs : List A) (rest : List ℕ) → i + length xs ≤ suc last → AllByRecursion Good xs → numbered_at read i (length xs) (numbered text i xs ++ rest) ≡ Some (xs, rest)
unfolding numbered_at
numbered_again read text Good last one i [] rest l h = refl
numbered_again read text Good last one i (x ∷ xs) rest l h =
    ap (λ b. option_and_then (λ y. option_and_then (with_first y.0) (numbered_at read (i + 1) (length xs) y.1)) (read i b)) (append_assoc (text i x) (numbered text (i + 1) xs) rest)
    ∙ ap (option_and_then (λ y. option_and_then (with_first y.0) (numbered_at read (i + 1) (length xs) y.1))) (one i x (numbered text (i + 1) xs ++ rest) (omega arith) h.0)
    ∙ ap (option_and_then (with_first x)) (numbered_again read text Good last one (i + 1) xs rest (omega arith) h.1)

-- items of so many bytes or more each
long_all : {A : Type 0} (text : ℕ → A → List ℕ) (Good : A → Type 0) (least : ℕ) → ((i : ℕ) (x : A) → i ≤ max_number → Good x → least ≤ length (text i x)) → (i : ℕ) (xs : List A)
    → i + length xs ≤ suc max_number → AllByRecursion Good xs → length xs * least ≤ length (numbered text i xs)
long_all text Good least one i [] l h = omega arith
long_all text Good least one i (x ∷ xs) l h =
    let all : length xs * least ≤ length (numbered text (i + 1) xs) = long_all text Good least one (i + 1) xs (omega arith) h.1 in
    let first : least ≤ length (text i x) = one i x (omega arith) h.0 in
    grind (arith, length-append (text i x) (numbered text (i + 1) xs), first, all)

-- bytes that so many items cannot fill
pub numbered_none : {A : Type 0} (read : ℕ → List ℕ → Option (A × List ℕ)) (text : ℕ → A → List ℕ) (Good : A → Type 0) (least : ℕ)
    → ((i : ℕ) (bytes : List ℕ) (x : A) (rest : List ℕ) → read i bytes ≡ Some (x, rest) → Takes (text i) Good bytes x rest)
    → ((i : ℕ) (x : A) → i ≤ max_number → Good x → least ≤ length (text i x))
    → (n : ℕ) (bytes : List ℕ) → n ≤ max_number → length bytes < n * least → numbered_at read 1 n bytes ≡ None
numbered_none read text Good least one long n bytes k h =
    (elim (numbered_at read 1 n bytes) as (λ o. numbered_at read 1 n bytes ≡ o → o ≡ None) [
      | Some x ↦ λ e.
          let t = numbered_take read text Good one 1 n bytes x.0 x.1 e in
          let l : length bytes ≡ length (numbered text 1 x.0) + length x.1 = ap length t.front ∙ length-append (numbered text 1 x.0) x.1 in
          let m : n * least ≤ length (numbered text 1 x.0) = subst (λ k. k * least ≤ length (numbered text 1 x.0)) t.all (long_all text Good least long 1 x.0 (omega (arith, t.all, k)) t.each) in
          absurd (omega (arith, l, m, h))
      | None ↦ λ e. refl
    ]) refl

-- items after a word and their count
pub record AreCounted {A : Type 0} (word : List ℕ) (text : ℕ → A → List ℕ) (Good : A → Type 0) (bytes : List ℕ) (xs : List A) (rest : List ℕ) : Type 0 where
  pub few : Fits32 (length xs)
  pub each : AllByRecursion Good xs
  pub front : bytes ≡ word ++ (decimal (length xs) ++ (10 ∷ (numbered text 1 xs ++ rest)))

pub counted_take : {A : Type 0} (word : List ℕ) (read : ℕ → List ℕ → Option (A × List ℕ)) (text : ℕ → A → List ℕ) (Good : A → Type 0)
    → ((i : ℕ) (bytes : List ℕ) (x : A) (rest : List ℕ) → read i bytes ≡ Some (x, rest) → Takes (text i) Good bytes x rest)
    → (bytes : List ℕ) (xs : List A) (rest : List ℕ) → counted_at word read bytes ≡ Some (xs, rest) → AreCounted word text Good bytes xs rest
unfolding counted_at
counted_take word read text Good one bytes xs rest h =
    let a = after_word _ word bytes (xs, rest) h in
    let b = after_number _ max_number a.0 (xs, rest) small a.2 in
    let d = after_word _ (10 ∷ []) b.1 (xs, rest) b.4 in
    let t = numbered_take read text Good one 1 b.0 d.0 xs rest d.2 in
    record {
      few = subst Fits32 (sym t.all) b.2;
      each = t.each;
      front = a.1 ∙ ap (λ w. word ++ w) (b.3 ∙ ap (λ n. decimal n ++ b.1) (sym t.all) ∙ ap (λ w. decimal (length xs) ++ w) (d.1 ∙ ap (λ w. 10 ∷ w) t.front));
    }

pub counted_again : {A : Type 0} (word : List ℕ) (read : ℕ → List ℕ → Option (A × List ℕ)) (text : ℕ → A → List ℕ) (Good : A → Type 0)
    → ((i : ℕ) (x : A) (rest : List ℕ) → i ≤ max_number → Good x → read i (text i x ++ rest) ≡ Some (x, rest))
    → (xs : List A) (rest : List ℕ) → Fits32 (length xs) → AllByRecursion Good xs → counted_at word read (word ++ (decimal (length xs) ++ (10 ∷ (numbered text 1 xs ++ rest)))) ≡ Some (xs, rest)
unfolding counted_at
counted_again word read text Good one xs rest few each =
    at_word _ word (decimal (length xs) ++ (10 ∷ (numbered text 1 xs ++ rest)))
    ∙ at_number _ max_number (length xs) (10 ∷ (numbered text 1 xs ++ rest)) small few refl
    ∙ at_word _ (10 ∷ []) (numbered text 1 xs ++ rest)
    ∙ numbered_again read text Good max_number one 1 xs rest (omega (arith, few)) each

-- items without numbers, after a word and their count
pub record AreListed {A : Type 0} (word : List ℕ) (text : A → List ℕ) (Good : A → Type 0) (bytes : List ℕ) (xs : List A) (rest : List ℕ) : Type 0 where
  pub few : Fits32 (length xs)
  pub each : AllByRecursion Good xs
  pub front : bytes ≡ word ++ (counted_text text xs ++ rest)

listed_regroup : {A : Type 0} (word : List ℕ) (text : A → List ℕ) (xs : List A) (rest : List ℕ) → word ++ (counted_text text xs ++ rest) ≡ word ++ (decimal (length xs) ++ (10 ∷ (numbered (λ i. text) 1 xs ++ rest)))
listed_regroup word text xs rest =
    ap (λ w. word ++ w) (append_assoc (decimal (length xs)) (10 ∷ flat_map text xs) rest ∙ ap (λ w. decimal (length xs) ++ (10 ∷ (w ++ rest))) (sym (numbered-flat_map text 1 xs)))

pub listed_take : {A : Type 0} (word : List ℕ) (read : ℕ → List ℕ → Option (A × List ℕ)) (text : A → List ℕ) (Good : A → Type 0)
    → ((i : ℕ) (bytes : List ℕ) (x : A) (rest : List ℕ) → read i bytes ≡ Some (x, rest) → Takes text Good bytes x rest)
    → (bytes : List ℕ) (xs : List A) (rest : List ℕ) → counted_at word read bytes ≡ Some (xs, rest) → AreListed word text Good bytes xs rest
listed_take word read text Good one bytes xs rest h =
    let t = counted_take word read (λ i. text) Good one bytes xs rest h in
    record { few = t.few; each = t.each; front = t.front ∙ sym (listed_regroup word text xs rest) }

pub listed_again : {A : Type 0} (word : List ℕ) (read : ℕ → List ℕ → Option (A × List ℕ)) (text : A → List ℕ) (Good : A → Type 0)
    → ((i : ℕ) (x : A) (rest : List ℕ) → i ≤ max_number → Good x → read i (text x ++ rest) ≡ Some (x, rest))
    → (xs : List A) (rest : List ℕ) → Fits32 (length xs) → AllByRecursion Good xs → counted_at word read (word ++ (counted_text text xs ++ rest)) ≡ Some (xs, rest)
listed_again word read text Good one xs rest few each = ap (counted_at word read) (listed_regroup word text xs rest) ∙ counted_again word read (λ i. text) Good one xs rest few each
