-- What labels mean, and what the patterns of the templates then say of the children.
use Rattle.std.proofs.Common.{◌≡◌, ℕ, false, List, [], ◌∷◌, ◌++◌, reverse, Option, Some, None, IsTrue, IsFalse, refl, sym, ap, subst, inl, inr}
use Rattle.std.proofs.lemmas.Bool.{both_ways}
use Rattle.std.proofs.lemmas.List.{reverse-append}
use Rattle.column_order.specs.Orders.{has}
use Rattle.column_order.proofs.Lists.{has_append_cases}
use Rattle.pq_tree.specs.Outline.{Outline, Forest, no_tree, tree_and, leaves, leaves_of}
use Rattle.tree_theory.specs.Templates.{Partial, Label, empty_label, full_label, partial_label, IsSorted, none_sorted, to_empty, to_full, to_partial, IsRun, run_full, run_partial, run_more, IsTail, tail_empty, tail_partial, tail_more, IsTwoSidedRun, span_tail, span_partial, span_more}
use Rattle.pq_tree.specs.Forests.{join, back}
use Rattle.tree_theory.proofs.Lines.{IsParted, none_parted, to_left, to_right}
use Rattle.tree_theory.proofs.BelowRoot.{IsEmpty, IsFull, AreEmpty, AreFull, Treated}

-- the label is right for the tree: it is empty, it is full, or the partial may stand in its place
pub data IsLabelled (row : List ℕ) (t : Outline) : Label → Type 1 where
  labelled_empty : IsEmpty row t → IsLabelled row t empty_label
  labelled_full : IsFull row t → IsLabelled row t full_label
  labelled_partial : (h : Partial) → Treated row t h.e h.f → IsLabelled row t (partial_label h)

-- so for each of the trees
pub data AreLabelled (row : List ℕ) : Forest → List Label → Type 1 where
  none_labelled : AreLabelled row no_tree []
  more_labelled : {t : Outline} {ts : Forest} {x : Label} {ps : List Label} → IsLabelled row t x → AreLabelled row ts ps → AreLabelled row (tree_and t ts) (x ∷ ps)

-- the partial may stand in the place of the tree, for each of the trees
pub data ArePartial (row : List ℕ) : Forest → List Partial → Type 1 where
  no_partial : ArePartial row no_tree []
  a_partial : {t : Outline} {ts : Forest} {h : Partial} {hs : List Partial} → Treated row t h.e h.f → ArePartial row ts hs → ArePartial row (tree_and t ts) (h ∷ hs)

-- so for at most one tree
pub data IsAtMostOne (row : List ℕ) : Forest → Option Partial → Type 1 where
  no_such : IsAtMostOne row no_tree None
  one_such : {t : Outline} (h : Partial) → Treated row t h.e h.f → IsAtMostOne row (tree_and t no_tree) (Some h)

-- a column of the row outside the list
abbrev pub Misses : List ℕ → List ℕ → Type 0
Misses row l = (s : ℕ) × IsTrue (has row s) × IsFalse (has l s)

abbrev pub AllMiss : List ℕ → Forest → Type 0
AllMiss row no_tree = Unit {0}
AllMiss row (tree_and t ts) = Misses row (leaves t) × AllMiss row ts

pub miss_right : (row : List ℕ) {xs ys zs : Forest} → IsParted xs ys zs → AllMiss row xs → AllMiss row zs
miss_right row none_parted h = tt
miss_right row (to_left r) h = miss_right row r h.1
miss_right row (to_right r) h = (h.0, miss_right row r h.1)

pub miss_after : (row : List ℕ) (xs ys : Forest) → AllMiss row (join xs ys) → AllMiss row ys
miss_after row no_tree ys h = h
miss_after row (tree_and x xs) ys h = miss_after row xs ys h.1

-- the node over these children is the pertinent root: it holds the whole row, and no child does
pub record IsRoot (row : List ℕ) (ts : Forest) : Type 0 where
  pub within : (a : ℕ) → IsTrue (has row a) → IsTrue (has (leaves_of ts) a)
  pub lowest : AllMiss row ts

labelled_push : (row : List ℕ) (ts : Forest) (ps : List Label) (t : Outline) (x : Label) → AreLabelled row ts ps → IsLabelled row t x → AreLabelled row (join ts (tree_and t no_tree)) (ps ++ x ∷ [])
labelled_push row ts ps t x none_labelled k = more_labelled k none_labelled
labelled_push row ts ps t x (more_labelled g m) k = more_labelled g (labelled_push row _ _ t x m k)

pub labelled_back : (row : List ℕ) (ts : Forest) (ps : List Label) → AreLabelled row ts ps → AreLabelled row (back ts) (reverse ps)
labelled_back row ts ps none_labelled = none_labelled
labelled_back row ts ps (more_labelled {t = t} {ts = us} {x = x} {ps = qs} g m) =
    subst (AreLabelled row (join (back us) (tree_and t no_tree))) (sym (reverse-append (x ∷ []) qs)) (labelled_push row (back us) (reverse qs) t x (labelled_back row us qs m) g)

-- The children of a P-node: an interleaving of the empty ones, the full ones and the partial ones.
pub record Parts (row : List ℕ) (ts es fs : Forest) (hs : List Partial) : Type 1 where
  pub rest : Forest
  pub us : Forest
  pub first : IsParted ts es rest
  pub second : IsParted rest fs us
  pub empty : AreEmpty row es
  pub full : AreFull row fs
  pub partial : ArePartial row us hs

no_tree_all : {A : Type 0} (a : ℕ) → IsTrue (has (leaves_of no_tree) a) → A
no_tree_all a h = absurd (both_ways false refl h)

more_empty : (row : List ℕ) (t : Outline) (ts : Forest) → IsEmpty row t → AreEmpty row ts → AreEmpty row (tree_and t ts)
more_empty row t ts k ks a h = elim (has_append_cases (leaves t) (leaves_of ts) a h) [ inl m ↦ k a m | inr m ↦ ks a m ]

more_full : (row : List ℕ) (t : Outline) (ts : Forest) → IsFull row t → AreFull row ts → AreFull row (tree_and t ts)
more_full row t ts k ks a h = elim (has_append_cases (leaves t) (leaves_of ts) a h) [ inl m ↦ k a m | inr m ↦ ks a m ]

pub parts : (row : List ℕ) {ts es fs : Forest} {ps : List Label} {hs : List Partial} → IsSorted ts ps es fs hs → AreLabelled row ts ps → Parts row ts es fs hs
parts row none_sorted none_labelled =
    record { rest = no_tree; us = no_tree; first = none_parted; second = none_parted; empty = λ a h. no_tree_all a h; full = λ a h. no_tree_all a h; partial = no_partial }
parts row (to_empty {t = t} {es = es} s) (more_labelled (labelled_empty k) m) =
    let w = parts row s m in
    record { rest = w.rest; us = w.us; first = to_left w.first; second = w.second; empty = more_empty row t es k w.empty; full = w.full; partial = w.partial }
parts row (to_full {t = t} {fs = fs} s) (more_labelled (labelled_full k) m) =
    let w = parts row s m in
    record { rest = tree_and t w.rest; us = w.us; first = to_right w.first; second = to_left w.second; empty = w.empty; full = more_full row t fs k w.full; partial = w.partial }
parts row (to_partial {t = t} s) (more_labelled (labelled_partial h k) m) =
    let w = parts row s m in
    record { rest = tree_and t w.rest; us = tree_and t w.us; first = to_right w.first; second = to_right w.second; empty = w.empty; full = w.full; partial = a_partial k w.partial }

-- The children of a Q-node from one end.
pub record RunParts (row : List ℕ) (ts es : Forest) (h : Option Partial) (fs : Forest) : Type 1 where
  pub us : Forest
  pub is : join es (join us fs) ≡ ts
  pub empty : AreEmpty row es
  pub full : AreFull row fs
  pub partial : IsAtMostOne row us h

pub run_parts : (row : List ℕ) {ts es fs : Forest} {ps : List Label} {h : Option Partial} → IsRun ts ps es h fs → AreLabelled row ts ps → RunParts row ts es h fs
run_parts row (run_full s) m = record { us = no_tree; is = refl; empty = λ a h. no_tree_all a h; full = (parts row s m).full; partial = no_such }
run_parts row (run_partial {t = t} s) (more_labelled (labelled_partial h k) m) =
    record { us = tree_and t no_tree; is = refl; empty = λ a h. no_tree_all a h; full = (parts row s m).full; partial = one_such h k }
run_parts row (run_more {t = t} {es = es} r) (more_labelled (labelled_empty k) m) =
    let w = run_parts row r m in
    record { us = w.us; is = ap (tree_and t) w.is; empty = more_empty row t es k w.empty; full = w.full; partial = w.partial }

pub record TailParts (row : List ℕ) (ts fs : Forest) (k : Option Partial) (gs : Forest) : Type 1 where
  pub ws : Forest
  pub is : join fs (join ws gs) ≡ ts
  pub full : AreFull row fs
  pub empty : AreEmpty row gs
  pub partial : IsAtMostOne row ws k

tail_parts : (row : List ℕ) {ts fs gs : Forest} {ps : List Label} {k : Option Partial} → IsTail ts ps fs k gs → AreLabelled row ts ps → TailParts row ts fs k gs
tail_parts row (tail_empty s) m = record { ws = no_tree; is = refl; full = λ a h. no_tree_all a h; empty = (parts row s m).empty; partial = no_such }
tail_parts row (tail_partial {t = t} s) (more_labelled (labelled_partial h k) m) =
    record { ws = tree_and t no_tree; is = refl; full = λ a h. no_tree_all a h; empty = (parts row s m).empty; partial = one_such h k }
tail_parts row (tail_more {t = t} {fs = fs} r) (more_labelled (labelled_full k) m) =
    let w = tail_parts row r m in
    record { ws = w.ws; is = ap (tree_and t) w.is; full = more_full row t fs k w.full; empty = w.empty; partial = w.partial }

pub record SpanParts (row : List ℕ) (ts es : Forest) (h : Option Partial) (fs : Forest) (k : Option Partial) (gs : Forest) : Type 1 where
  pub us : Forest
  pub ws : Forest
  pub is : join es (join us (join fs (join ws gs))) ≡ ts
  pub before : AreEmpty row es
  pub left : IsAtMostOne row us h
  pub full : AreFull row fs
  pub right : IsAtMostOne row ws k
  pub behind : AreEmpty row gs

pub span_parts : (row : List ℕ) {ts es fs gs : Forest} {ps : List Label} {h k : Option Partial} → IsTwoSidedRun ts ps es h fs k gs → AreLabelled row ts ps → SpanParts row ts es h fs k gs
span_parts row (span_tail r) m =
    let w = tail_parts row r m in
    record { us = no_tree; ws = w.ws; is = w.is; before = λ a h. no_tree_all a h; left = no_such; full = w.full; right = w.partial; behind = w.empty }
span_parts row (span_partial {t = t} r) (more_labelled (labelled_partial h k) m) =
    let w = tail_parts row r m in
    record { us = tree_and t no_tree; ws = w.ws; is = ap (tree_and t) w.is; before = λ a h. no_tree_all a h; left = one_such h k; full = w.full; right = w.partial; behind = w.empty }
span_parts row (span_more {t = t} {es = es} r) (more_labelled (labelled_empty k) m) =
    let w = span_parts row r m in
    record { us = w.us; ws = w.ws; is = ap (tree_and t) w.is; before = more_empty row t es k w.before; left = w.left; full = w.full; right = w.right; behind = w.behind }
