-- Lines of labelled nodes: what is counted, and where they are cut.
use Rattle.std.proofs.Common.{◌≡◌, ℕ, ◌+◌, ◌≤◌, List, [], ◌∷◌, ◌++◌, length, refl, sym, ap, subst, ◌∙◌, arith, reverse, append_assoc}
use Rattle.std.specs.Prelude.{sum_by}
use Rattle.std.proofs.lemmas.List.{reverse-append}
use Rattle.std.proofs.lemmas.List.Sums.{sum_by-append, sum_by-cons}
use Rattle.arena_model.proofs.Lists.{reverse_cons}
use Rattle.bubble_pass.specs.declared.labels.Label.{Label as Mark}
use Rattle.bubble_pass.specs.declared.labels.Label.TheVariants.{Empty, Partial, Full}
use Rattle.bubble_pass.specs.Marks.{Marks, label_at}
use Rattle.bubble_pass.specs.Sweep.{full_one, partial_one}
use Rattle.templates_q.specs.Walk.{AreThose, AreAll, EndsWithout}
use Rattle.templates_q.specs.Lines.{AreCounted, IsRunFrom}

-- how many are full, and how many partial
abbrev pub fulls_in : Marks → List ℕ → ℕ
fulls_in w ks = sum_by (λ k. full_one (label_at w k)) ks

abbrev pub partials_in : Marks → List ℕ → ℕ
partials_in w ks = sum_by (λ k. partial_one (label_at w k)) ks

pub fulls_cons : (w : Marks) (x : ℕ) (xs : List ℕ) → fulls_in w (x ∷ xs) ≡ full_one (label_at w x) + fulls_in w xs
fulls_cons w x xs = sum_by-cons (λ k. full_one (label_at w k)) x xs

pub partials_cons : (w : Marks) (x : ℕ) (xs : List ℕ) → partials_in w (x ∷ xs) ≡ partial_one (label_at w x) + partials_in w xs
partials_cons w x xs = sum_by-cons (λ k. partial_one (label_at w k)) x xs

pub fulls_append : (w : Marks) (xs ys : List ℕ) → fulls_in w (xs ++ ys) ≡ fulls_in w xs + fulls_in w ys
fulls_append w xs ys = sum_by-append (λ k. full_one (label_at w k)) xs ys

pub partials_append : (w : Marks) (xs ys : List ℕ) → partials_in w (xs ++ ys) ≡ partials_in w xs + partials_in w ys
partials_append w xs ys = sum_by-append (λ k. partial_one (label_at w k)) xs ys

pub sum_reverse : (f : ℕ → ℕ) (xs : List ℕ) → sum_by f (reverse xs) ≡ sum_by f xs
sum_reverse f [] = refl
sum_reverse f (x ∷ xs) =
    let a : sum_by f (reverse xs) ≡ sum_by f xs = sum_reverse f xs in
    let b : sum_by f (reverse (x ∷ xs)) ≡ sum_by f (reverse xs ++ x ∷ []) = ap (sum_by f) (reverse_cons x xs) in
    let c : sum_by f (reverse xs ++ x ∷ []) ≡ sum_by f (reverse xs) + sum_by f (x ∷ []) = sum_by-append f (reverse xs) (x ∷ []) in
    let d : sum_by f (x ∷ []) ≡ f x + sum_by f [] = sum_by-cons f x [] in
    let e : sum_by f (x ∷ xs) ≡ f x + sum_by f xs = sum_by-cons f x xs in
    let z : sum_by f [] ≡ 0 = refl in omega arith

-- nodes of one label are counted so
pub count_full : (w : Marks) (ks : List ℕ) → AreAll Full w ks → (fulls_in w ks ≡ length ks) × (partials_in w ks ≡ 0)
count_full w [] a = (refl, refl)
count_full w (x ∷ xs) a =
    let r = count_full w xs a.1 in
    let r0 : fulls_in w xs ≡ length xs = r.0 in let r1 : partials_in w xs ≡ 0 = r.1 in
    let f : full_one (label_at w x) ≡ 1 = ap full_one a.0 in
    let p : partial_one (label_at w x) ≡ 0 = ap partial_one a.0 in
    (omega (arith, fulls_cons w x xs), omega (arith, partials_cons w x xs))

pub count_partial : (w : Marks) (ks : List ℕ) → AreAll Partial w ks → (fulls_in w ks ≡ 0) × (partials_in w ks ≡ length ks)
count_partial w [] a = (refl, refl)
count_partial w (x ∷ xs) a =
    let r = count_partial w xs a.1 in
    let r0 : fulls_in w xs ≡ 0 = r.0 in let r1 : partials_in w xs ≡ length xs = r.1 in
    let f : full_one (label_at w x) ≡ 0 = ap full_one a.0 in
    let p : partial_one (label_at w x) ≡ 1 = ap partial_one a.0 in
    (omega (arith, fulls_cons w x xs), omega (arith, partials_cons w x xs))

pub count_empty : (w : Marks) (ks : List ℕ) → AreAll Empty w ks → (fulls_in w ks ≡ 0) × (partials_in w ks ≡ 0)
count_empty w [] a = (refl, refl)
count_empty w (x ∷ xs) a =
    let r = count_empty w xs a.1 in
    let r0 : fulls_in w xs ≡ 0 = r.0 in let r1 : partials_in w xs ≡ 0 = r.1 in
    let f : full_one (label_at w x) ≡ 0 = ap full_one a.0 in
    let p : partial_one (label_at w x) ≡ 0 = ap partial_one a.0 in
    (omega (arith, fulls_cons w x xs), omega (arith, partials_cons w x xs))

-- where none is counted, all are empty
pub none_counted : (w : Marks) (ks : List ℕ) → fulls_in w ks ≡ 0 → partials_in w ks ≡ 0 → AreAll Empty w ks
none_counted w [] f p = tt
none_counted w (x ∷ xs) f p = (by (label_at w x) refl, none_counted w xs (omega (arith, fulls_cons w x xs)) (omega (arith, partials_cons w x xs)))
  where
    by : (l : Mark) → label_at w x ≡ l → label_at w x ≡ Empty
    by Empty e = e
    by Partial e = absurd (let o : partial_one (label_at w x) ≡ 1 = ap partial_one e in omega (arith, partials_cons w x xs))
    by Full e = absurd (let o : full_one (label_at w x) ≡ 1 = ap full_one e in omega (arith, fulls_cons w x xs))

-- read from the other end they are the same
pub those_append : (H : Mark → Type 0) (w : Marks) (xs ys : List ℕ) → AreThose H w xs → AreThose H w ys → AreThose H w (xs ++ ys)
those_append H w [] ys a b = b
those_append H w (x ∷ xs) ys a b = (a.0, those_append H w xs ys a.1 b)

pub all_append : (l : Mark) (w : Marks) (xs ys : List ℕ) → AreAll l w xs → AreAll l w ys → AreAll l w (xs ++ ys)
all_append l w xs ys a b = those_append (λ m. m ≡ l) w xs ys a b

pub all_reverse : (l : Mark) (w : Marks) (ks : List ℕ) → AreAll l w ks → AreAll l w (reverse ks)
all_reverse l w [] a = tt
all_reverse l w (x ∷ xs) a = subst (AreAll l w) (sym (reverse_cons x xs)) (all_append l w (reverse xs) (x ∷ []) (all_reverse l w xs a.1) (a.0, tt))

pub counted_reverse : (w : Marks) (ks : List ℕ) (full partial : ℕ) → AreCounted w ks full partial → AreCounted w (reverse ks) full partial
counted_reverse w ks full partial c = record {
  full = c.full ∙ sym (sum_reverse (λ k. full_one (label_at w k)) ks);
  partial = c.partial ∙ sym (sum_reverse (λ k. partial_one (label_at w k)) ks);
}

-- three parts turned
pub reverse_three : (xs ys zs : List ℕ) → reverse (xs ++ (ys ++ zs)) ≡ reverse zs ++ (reverse ys ++ reverse xs)
reverse_three xs ys zs = reverse-append xs (ys ++ zs) ∙ ap (λ z. z ++ reverse xs) (reverse-append ys zs) ∙ append_assoc (reverse zs) (reverse ys) (reverse xs)

not_both : (w : Marks) (x : ℕ) (l m : Mark) → label_at w x ≡ l → label_at w x ≡ m → l ≡ m
not_both w x l m a b = sym a ∙ b

-- the full nodes that come first are known by their labels
pub record SameCut (xs ys us vs : List ℕ) : Type 0 where
  pub first : xs ≡ us
  pub rest : ys ≡ vs

pub same_cut : (w : Marks) (xs ys us vs : List ℕ) → xs ++ ys ≡ us ++ vs → AreAll Full w xs → AreAll Full w us → EndsWithout Full w ys → EndsWithout Full w vs → SameCut xs ys us vs
same_cut w [] ys [] vs e a b c d = record { first = refl; rest = e }
same_cut w [] [] (u ∷ us) vs e a b c d = absurd (cc)
same_cut w [] (y ∷ ys) (u ∷ us) vs e a b c d = absurd (let k : y ≡ u = cc in c (ap (label_at w) k ∙ b.0))
same_cut w (x ∷ xs) ys [] [] e a b c d = absurd (cc)
same_cut w (x ∷ xs) ys [] (v ∷ vs) e a b c d = absurd (let k : x ≡ v = cc in d (ap (label_at w) (sym k) ∙ a.0))
same_cut w (x ∷ xs) ys (u ∷ us) vs e a b c d =
    let k : x ≡ u = cc in
    let t : xs ++ ys ≡ us ++ vs = cc in
    let r = same_cut w xs ys us vs t a.1 b.1 c d in
    record { first = ap (λ z. z ∷ xs) k ∙ ap (λ z. u ∷ z) r.first; rest = r.rest }

partial_full : Partial ≡ Full → ⊥
partial_full e = cc

empty_full : Empty ≡ Full → ⊥
empty_full e = cc

-- behind the full nodes comes no full one
pub behind_fulls : (w : Marks) (ks es : List ℕ) → AreAll Partial w ks → AreAll Empty w es → EndsWithout Full w (ks ++ es)
behind_fulls w [] [] p e = tt
behind_fulls w [] (x ∷ es) p e = λ k. empty_full (sym e.0 ∙ k)
behind_fulls w (x ∷ ks) es p e = λ k. partial_full (sym p.0 ∙ k)

partial_empty : Partial ≡ Empty → ⊥
partial_empty e = cc

-- what a walk over full nodes and at most one partial one leaves, where the numbers agree
pub run_counted : (w : Marks) (ks fs ps rest : List ℕ) (full partial : ℕ) → ks ≡ fs ++ (ps ++ rest) → AreAll Full w fs → AreAll Partial w ps → length ps ≤ 1 →
    AreCounted w ks full partial → 1 ≤ length ps + length rest → full ≡ length fs → partial ≡ length ps → IsRunFrom w ks
run_counted w ks fs ps rest full partial is a b one c some ef ep =
    let x = count_full w fs a in let y = count_partial w ps b in
    let x0 : fulls_in w fs ≡ length fs = x.0 in let x1 : partials_in w fs ≡ 0 = x.1 in
    let y0 : fulls_in w ps ≡ 0 = y.0 in let y1 : partials_in w ps ≡ length ps = y.1 in
    let f : full ≡ fulls_in w (fs ++ (ps ++ rest)) = c.full ∙ ap (fulls_in w) is in
    let p : partial ≡ partials_in w (fs ++ (ps ++ rest)) = c.partial ∙ ap (partials_in w) is in
    record {
      line = record {
        fulls = fs;
        parts = ps;
        empties = rest;
        is = is;
        full = a;
        partial = b;
        one = one;
        empty = none_counted w rest (omega (arith, fulls_append w fs (ps ++ rest), fulls_append w ps rest)) (omega (arith, partials_append w fs (ps ++ rest), partials_append w ps rest));
      };
      others = some;
    }

-- a list of at most one, whose first is no partial one, is empty where it was to be partial
pub same_parts : (w : Marks) (xs ys us vs : List ℕ) → xs ++ ys ≡ us ++ vs → length xs ≤ 1 → length us ≤ 1 → AreAll Partial w xs → AreAll Partial w us →
    (length xs ≡ 0 → EndsWithout Partial w ys) → AreAll Empty w vs → SameCut xs ys us vs
same_parts w [] ys [] vs e a b c d k z = record { first = refl; rest = e }
same_parts w [] [] (u ∷ us) vs e a b c d k z = absurd (cc)
same_parts w [] (y ∷ ys) (u ∷ us) vs e a b c d k z = absurd (let i : y ≡ u = cc in k refl (ap (label_at w) i ∙ d.0))
same_parts w (x ∷ xs) ys [] [] e a b c d k z = absurd (cc)
same_parts w (x ∷ xs) ys [] (v ∷ vs) e a b c d k z = absurd (let i : x ≡ v = cc in partial_empty (sym c.0 ∙ ap (label_at w) i ∙ z.0))
same_parts w (x ∷ []) ys (u ∷ []) vs e a b c d k z =
    let i : x ≡ u = cc in let t : ys ≡ vs = cc in record { first = ap (λ z. z ∷ []) i; rest = t }
same_parts w (x ∷ []) ys (u ∷ u' ∷ us) vs e a b c d k z = absurd (omega arith)
same_parts w (x ∷ x' ∷ xs) ys us vs e a b c d k z = absurd (omega arith)

-- in a run the walk counts what there is
pub record CountsAgree (a b : ℕ) (fs ps rest : List ℕ) : Type 0 where
  pub full : a ≡ length fs
  pub partial : b ≡ length ps
  pub some : 1 ≤ length ps + length rest

pub counted_run : (w : Marks) (ks fs ps rest : List ℕ) (full partial : ℕ) → ks ≡ fs ++ (ps ++ rest) → AreAll Full w fs → AreAll Partial w ps → length ps ≤ 1 →
    EndsWithout Full w (ps ++ rest) → (length ps ≡ 0 → EndsWithout Partial w rest) → AreCounted w ks full partial → IsRunFrom w ks → CountsAgree full partial fs ps rest
counted_run w ks fs ps rest full partial is a b one no_full no_partial c run =
    let l = run.line in
    let k1 = same_cut w fs (ps ++ rest) l.fulls (l.parts ++ l.empties) (sym is ∙ l.is) a l.full no_full (behind_fulls w l.parts l.empties l.partial l.empty) in
    let k2 = same_parts w ps rest l.parts l.empties k1.rest one l.one b l.partial no_partial l.empty in
    let empty : AreAll Empty w rest = subst (AreAll Empty w) (sym k2.rest) l.empty in
    let x = count_full w fs a in let y = count_partial w ps b in let z = count_empty w rest empty in
    let x0 : fulls_in w fs ≡ length fs = x.0 in let x1 : partials_in w fs ≡ 0 = x.1 in
    let y0 : fulls_in w ps ≡ 0 = y.0 in let y1 : partials_in w ps ≡ length ps = y.1 in
    let z0 : fulls_in w rest ≡ 0 = z.0 in let z1 : partials_in w rest ≡ 0 = z.1 in
    let f : full ≡ fulls_in w (fs ++ (ps ++ rest)) = c.full ∙ ap (fulls_in w) is in
    let p : partial ≡ partials_in w (fs ++ (ps ++ rest)) = c.partial ∙ ap (partials_in w) is in
    let e1 : length ps ≡ length l.parts = ap length k2.first in let e2 : length rest ≡ length l.empties = ap length k2.rest in
    let o : 1 ≤ length l.parts + length l.empties = run.others in
    record {
      full = omega (arith, fulls_append w fs (ps ++ rest), fulls_append w ps rest);
      partial = omega (arith, partials_append w fs (ps ++ rest), partials_append w ps rest);
      some = omega arith;
    }

-- no more are passed than are counted
pub passed_within : (w : Marks) (ks fs ps rest : List ℕ) (a b : ℕ) → ks ≡ fs ++ (ps ++ rest) → AreAll Full w fs → AreAll Partial w ps → AreCounted w ks a b → (length fs ≤ a) × (length ps ≤ b)
passed_within w ks fs ps rest a b is x y c =
    let m = count_full w fs x in let n = count_partial w ps y in
    let m0 : fulls_in w fs ≡ length fs = m.0 in let n1 : partials_in w ps ≡ length ps = n.1 in
    let f : a ≡ fulls_in w (fs ++ (ps ++ rest)) = c.full ∙ ap (fulls_in w) is in
    let p : b ≡ partials_in w (fs ++ (ps ++ rest)) = c.partial ∙ ap (partials_in w) is in
    (omega (arith, fulls_append w fs (ps ++ rest), fulls_append w ps rest), omega (arith, partials_append w fs (ps ++ rest), partials_append w ps rest))

-- all are full where no walk over full nodes leaves one
pub all_first : (l : Mark) (w : Marks) (xs ys : List ℕ) → AreAll l w (xs ++ ys) → AreAll l w xs
all_first l w [] ys a = tt
all_first l w (x ∷ xs) ys a = (a.0, all_first l w xs ys a.1)

pub all_last : (l : Mark) (w : Marks) (xs ys : List ℕ) → AreAll l w (xs ++ ys) → AreAll l w ys
all_last l w [] ys a = a
all_last l w (x ∷ xs) ys a = all_last l w xs ys a.1

pub full_end : (w : Marks) (ys : List ℕ) → AreAll Full w ys → EndsWithout Full w ys → ys ≡ []
full_end w [] a e = refl
full_end w (y ∷ ys) a e = absurd (e a.0)

pub all_empty_counts : (w : Marks) (ks : List ℕ) (a b : ℕ) → AreCounted w ks a b → AreAll Empty w ks → (a ≡ 0) × (b ≡ 0)
all_empty_counts w ks a b c e = let z = count_empty w ks e in (c.full ∙ z.0, c.partial ∙ z.1)
