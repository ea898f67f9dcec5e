-- The text of a tree over 1 to c is read as that tree.
use Rattle.std.proofs.Common.{◌≡◌, ◌∙◌, ◌+◌, ◌-◌, ◌*◌, ◌/◌, ◌%◌, ◌^◌, ◌<◌, ◌≤◌, ℕ, zero, suc, Bool, true, false, cond, ◌&&◌, leb, List, [], ◌∷◌, ◌++◌, length, Some, refl, sym, ap, arith, inl, inr, subst}
use Rattle.std.specs.Prelude.{option_and_then}
use Rattle.std.proofs.lemmas.Bool.{le-leb, lt-ltb, and_from}
use Rattle.std.proofs.lemmas.List.{append_assoc, append-nil, length-append}
use Rattle.std.proofs.lemmas.Fmt.{decimal_by_steps}
use Rattle.std.specs.Fmt.{decimal}
use Rattle.plain_text.proofs.Digits.{digit_is}
use Rattle.column_order.specs.Orders.{has, occurs, IsOrder, IsWithin}
use Rattle.column_order.proofs.Lists.{has_head, occurs-append, occurs_from_has, has_from_occurs, lacks_from_occurs}
use Rattle.column_order.proofs.Counts.{in_range as range_cases, length_le, order_length, order_within}
use Rattle.pq_tree.specs.Outline.{Outline, Forest, leaf, p_node, q_node, no_tree, tree_and, leaves, leaves_of}
use Rattle.pq_tree.specs.Proper.{forest, trees, columns, count, HasArities, HaveArities, IsProper}
use Rattle.pq_tree.specs.Text.{tree_text, forest_text, spaced_text}
use Rattle.pq_tree.specs.Reading.{State, Begun, used, begun_leaves, settled, digit_at, spaced_after, closed, node_of, least_count, same_shape, step, covers, finished, run, start, tree_of}
use Rattle.pq_tree.specs.declared.parse.Last.TheVariants.{Nothing, Number, Child}
use Rattle.pq_tree.proofs.Shown.{leaves_of-append}
use Rattle.pq_tree.proofs.Universal.{columns_order}
use Rattle.pq_tree.proofs.Runs.{run_on}
use Rattle.pq_tree.proofs.Found.{within, within_one, within_none, st}
use Rattle.pq_tree.proofs.Forests.{leaves_some}

within_le : (c a : ℕ) → within c a ≤ 1
within_le c a = elim (leb 1 a && leb a c) as (λ b. cond {A = ℕ} b 1 0 ≤ 1) [ true ↦ omega arith | false ↦ omega arith ]

-- a number that a list has is one of 1 to c
pub in_range : (c a : ℕ) → 1 ≤ within c a → (1 ≤ a) × (a ≤ c)
in_range c a h = elim (range_cases c a) [ inl r ↦ r | inr r ↦ absurd (omega (arith, within_none c a r)) ]

pub head_one : (x : ℕ) (xs : List ℕ) → 1 ≤ occurs (x ∷ xs) x
head_one x xs = occurs_from_has (x ∷ xs) x (has_head x xs)

-- no more than c columns
pub few : (c : ℕ) (xs : List ℕ) → ((a : ℕ) → occurs xs a ≤ within c a) → length xs ≤ c
few c xs h =
    let all : IsOrder c (columns c) = columns_order c in
    let inside : IsWithin c xs = λ a k. in_range c a (omega (arith, h a, occurs_from_has xs a k)) in
    omega (arith, length_le c xs inside (columns c) (order_within c (columns c) all) (λ a. omega (arith, h a, all a)), order_length c (columns c) all)

-- each tree has at most so many columns
AreSmall : ℕ → Forest → Type 0
AreSmall n no_tree = Unit {0}
AreSmall n (tree_and t ts) = (length (leaves t) ≤ n) × AreSmall n ts

small_more : (m n : ℕ) (ts : Forest) → m ≤ n → AreSmall m ts → AreSmall n ts
unfolding AreSmall
small_more m n no_tree l h = tt
small_more m n (tree_and t ts) l h = (omega (arith, h.0), small_more m n ts l h.1)

small_all : (ts : Forest) → AreSmall (length (leaves_of ts)) ts
unfolding AreSmall
small_all no_tree = tt
small_all (tree_and t ts) =
    (omega (arith, length-append (leaves t) (leaves_of ts)), small_more _ _ ts (omega (arith, length-append (leaves t) (leaves_of ts))) (small_all ts))

-- of two trees or more each lacks a column of the others
small_two : (n : ℕ) (ts : Forest) → HaveArities ts → 2 ≤ count ts → length (leaves_of ts) ≤ suc n → AreSmall n ts
unfolding AreSmall
small_two n no_tree h l k = tt
small_two n (tree_and t no_tree) h l k = absurd (omega arith)
small_two n (tree_and t (tree_and u us)) h l k =
    let e = length-append (leaves t) (leaves_of (tree_and u us)) in
    let f = length-append (leaves u) (leaves_of us) in
    let one = leaves_some u h.1.0 in
    let two = leaves_some t h.0 in
    (omega (arith, e, f, one), small_more (length (leaves_of (tree_and u us))) n (tree_and u us) (omega (arith, e, two)) (small_all (tree_and u us)))

-- Some bytes lead from a state to one whose last child is proper.
record Arrives (c : ℕ) (s : State) (bytes : List ℕ) (goal : State) : Type 0 where
  state : State
  runs : (rest : List ℕ) → run c s (bytes ++ rest) ≡ run c state rest
  settles : settled state ≡ Some goal

digit_step : (c d : ℕ) (s : State) → d < 10 → step c s (48 + d) ≡ digit_at c d s.last s
unfolding step
digit_step c d s h = let e : 48 + d - 48 ≡ d = omega arith in rw (digit_is d h, e) refl

digits_run : (c n : ℕ) (ts : List Outline) (ns : List Begun) → c < 2 ^ 64 → 1 ≤ n → n ≤ c → (rest : List ℕ) → run c (st Nothing ts ns) (decimal n ++ rest) ≡ run c (st (Number n) ts ns) rest
digits_run c n ts ns small l h =
    let P : ℕ → List ℕ → Type 0 = λ n ds. 1 ≤ n → n ≤ c → (rest : List ℕ) → run c (st Nothing ts ns) (ds ++ rest) ≡ run c (st (Number n) ts ns) rest in
    decimal_by_steps P (λ n d l h rest. run_on c (st Nothing ts ns) (st (Number n) ts ns) (48 + n) rest (digit_step c n (st Nothing ts ns) d ∙ rw (le-leb 1 n l, le-leb n c h) refl)) (λ n ds m r l h rest.
    let e : n / 10 * 10 + n % 10 ≡ n = omega arith in
    ap (run c (st Nothing ts ns)) (append_assoc ds ((48 + n % 10) ∷ []) rest)
    ∙ r (omega arith) (omega arith) ((48 + n % 10) ∷ rest)
    ∙ run_on c (st (Number (n / 10)) ts ns) (st (Number n) ts ns) (48 + n % 10) rest (digit_step c (n % 10) (st (Number (n / 10)) ts ns) (omega arith) ∙ rw (e, le-leb n c h) refl)) n (omega arith) l h

leaf_arrives : (c a : ℕ) (ts : List Outline) (ns : List Begun) → c < 2 ^ 64 → ((b : ℕ) → occurs (used (st Nothing ts ns)) b + occurs (a ∷ []) b ≤ within c b)
    → Arrives c (st Nothing ts ns) (tree_text (leaf a)) (st Child (ts ++ leaf a ∷ []) ns)
unfolding tree_text forest_text spaced_text
leaf_arrives c a ts ns small once =
    let r = in_range c a (omega (arith, once a, head_one a [])) in
    let none : occurs (used (st Nothing ts ns)) a ≡ 0 = omega (arith, once a, head_one a [], within_le c a) in
    let free : has (used (st Nothing ts ns)) a ≡ false = lacks_from_occurs (used (st Nothing ts ns)) a none in
    record {
      state = st (Number a) ts ns;
      runs = digits_run c a ts ns small r.0 r.1;
      settles = rw free refl;
    }

byte_step : (c b : ℕ) (s t : State) (bytes rest : List ℕ) → step c s b ≡ Some t → run c s ((b ∷ bytes) ++ rest) ≡ run c t (bytes ++ rest)
byte_step c b s t bytes rest h = run_on c s t b (bytes ++ rest) h

plans_kids : (ts : Forest) → forest (trees ts) ≡ ts
plans_kids no_tree = refl
plans_kids (tree_and t ts) = ap (tree_and t) (plans_kids ts)

count-trees : (ts : Forest) → length (trees ts) ≡ count ts
count-trees no_tree = refl
count-trees (tree_and t ts) = omega (arith, count-trees ts)

-- two stretches of bytes
on_from : (c : ℕ) (s u : State) (a b : List ℕ) (goal : State) → ((rest : List ℕ) → run c s (a ++ rest) ≡ run c u rest) → Arrives c u b goal → Arrives c s (a ++ b) goal
on_from c s u a b goal h r =
    record { state = r.state; runs = λ rest. ap (run c s) (append_assoc a b rest) ∙ h (b ++ rest) ∙ r.runs rest; settles = r.settles }

-- a node's brackets
open_byte : Bool → ℕ
open_byte true = 40
open_byte false = 91

close_byte : Bool → ℕ
close_byte true = 41
close_byte false = 93

open_step : (c : ℕ) (round : Bool) (ts : List Outline) (ns : List Begun) → length ns < c → step c (st Nothing ts ns) (open_byte round) ≡ Some (st Nothing [] (record { round = round; before = ts } ∷ ns))
unfolding step open_byte
open_step c true ts ns l = rw (lt-ltb (length ns) c l) refl
open_step c false ts ns l = rw (lt-ltb (length ns) c l) refl

close_step : (c : ℕ) (round : Bool) (s : State) → step c s (close_byte round) ≡ option_and_then (closed round) (settled s)
unfolding step close_byte
close_step c true s = refl
close_step c false s = refl

space_step : (c : ℕ) (s : State) → step c s 32 ≡ option_and_then spaced_after (settled s)
unfolding step
space_step c s = refl

same_self : (round : Bool) → same_shape round round ≡ true
same_self true = refl
same_self false = refl

-- a node, where its children are read
node_arrives : (c : ℕ) (round : Bool) (us : Forest) (ts : List Outline) (ns : List Begun) → length ns < c → least_count round ≤ count us
    → Arrives c (st Nothing [] (record { round = round; before = ts } ∷ ns)) (forest_text us) (st Child (trees us) (record { round = round; before = ts } ∷ ns))
    → Arrives c (st Nothing ts ns) (open_byte round ∷ (forest_text us ++ close_byte round ∷ [])) (st Child (ts ++ node_of round (trees us) ∷ []) ns)
node_arrives c round us ts ns l enough r =
    let e : length (trees us) ≡ count us = count-trees us in
    let close : step c r.state (close_byte round) ≡ Some (st Child (ts ++ node_of round (trees us) ∷ []) ns) =
    close_step c round r.state ∙ ap (option_and_then (closed round)) r.settles ∙ rw (same_self round, e, le-leb (least_count round) (count us) enough) refl in
    record {
      state = st Child (ts ++ node_of round (trees us) ∷ []) ns;
      runs = λ rest.
          byte_step c (open_byte round) (st Nothing ts ns) (st Nothing [] (record { round = round; before = ts } ∷ ns)) (forest_text us ++ close_byte round ∷ []) rest (open_step c round ts ns l)
          ∙ ap (run c (st Nothing [] (record { round = round; before = ts } ∷ ns))) (append_assoc (forest_text us) (close_byte round ∷ []) rest)
          ∙ r.runs (close_byte round ∷ rest)
          ∙ run_on c r.state (st Child (ts ++ node_of round (trees us) ∷ []) ns) (close_byte round) rest close;
      settles = refl;
    }

used_add : (ns : List Begun) (ts : List Outline) (t : Outline) (b : ℕ) → occurs (begun_leaves ns ++ leaves_of (forest (ts ++ t ∷ []))) b ≡ occurs (begun_leaves ns ++ leaves_of (forest ts)) b + occurs (leaves t) b
used_add ns ts t b =
    let e : occurs (leaves_of (forest (ts ++ t ∷ []))) b ≡ occurs (leaves_of (forest ts)) b + occurs (leaves t ++ []) b =
    ap (λ x. occurs x b) (leaves_of-append ts (t ∷ [])) ∙ occurs-append (leaves_of (forest ts)) (leaves t ++ []) b in
    omega (arith, e, occurs-append (leaves t) [] b, occurs-append (begun_leaves ns) (leaves_of (forest (ts ++ t ∷ []))) b, occurs-append (begun_leaves ns) (leaves_of (forest ts)) b)

-- what is not used yet may be read, each column once
abbrev IsFresh : ℕ → List Begun → List Outline → List ℕ → Type 0
IsFresh c ns ts xs = (b : ℕ) → occurs (begun_leaves ns ++ leaves_of (forest ts)) b + occurs xs b ≤ within c b

fresh_first : (c : ℕ) (ns : List Begun) (ts : List Outline) (xs ys : List ℕ) → IsFresh c ns ts (xs ++ ys) → IsFresh c ns ts xs
fresh_first c ns ts xs ys h b = omega (arith, h b, occurs-append xs ys b)

fresh_next : (c : ℕ) (ns : List Begun) (ts : List Outline) (t : Outline) (ys : List ℕ) → IsFresh c ns ts (leaves t ++ ys) → IsFresh c ns (ts ++ t ∷ []) ys
fresh_next c ns ts t ys h b = omega (arith, h b, occurs-append (leaves t) ys b, used_add ns ts t b)

fresh_inside : (c : ℕ) (ns : List Begun) (ts : List Outline) (round : Bool) (xs : List ℕ) → IsFresh c ns ts xs → IsFresh c (record { round = round; before = ts } ∷ ns) [] xs
fresh_inside c ns ts round xs h b = omega (arith, h b, occurs-append (begun_leaves ns ++ leaves_of (forest ts)) [] b)

goal_is : (c : ℕ) (s : State) (bytes : List ℕ) (us vs : List Outline) (ns : List Begun) → us ≡ vs → Arrives c s bytes (st Child us ns) → Arrives c s bytes (st Child vs ns)
goal_is c s bytes us vs ns e r = subst (λ x. Arrives c s bytes (st Child x ns)) e r

space_arrives : (c : ℕ) (s : State) (ts : List Outline) (ns : List Begun) (bytes : List ℕ) (goal : State) → 0 < length ns → settled s ≡ Some (st Child ts ns)
    → Arrives c (st Nothing ts ns) bytes goal → Arrives c s (32 ∷ bytes) goal
space_arrives c s ts ns bytes goal l h r =
    let space : step c s 32 ≡ Some (st Nothing ts ns) = space_step c s ∙ ap (option_and_then spaced_after) h ∙ rw (lt-ltb 0 (length ns) l) refl in
    record { state = r.state; runs = λ rest. byte_step c 32 s (st Nothing ts ns) bytes rest space ∙ r.runs rest; settles = r.settles }

mutual
  unfolding tree_text forest_text spaced_text open_byte close_byte AreSmall

  arrives : (c : ℕ) (t : Outline) (ts : List Outline) (ns : List Begun) → c < 2 ^ 64 → HasArities t → length ns + length (leaves t) ≤ c → IsFresh c ns ts (leaves t)
      → Arrives c (st Nothing ts ns) (tree_text t) (st Child (ts ++ t ∷ []) ns)
  arrives c (leaf a) ts ns small h room fresh = leaf_arrives c a ts ns small fresh
  arrives c (p_node us) ts ns small h room fresh =
      let one = leaves_some (p_node us) h in
      let node : Begun = record { round = true; before = ts } in
      goal_is c (st Nothing ts ns) (tree_text (p_node us)) (ts ++ p_node (forest (trees us)) ∷ []) (ts ++ p_node us ∷ []) ns (ap (λ x. ts ++ p_node x ∷ []) (plans_kids us))
      (node_arrives c true us ts ns (omega arith) h.0
      (arrives_all c (length (leaves_of us) - 1) us [] (node ∷ ns) small h.1 (omega (arith, h.0)) (small_two (length (leaves_of us) - 1) us h.1 h.0 (omega arith)) (omega arith) (omega arith)
      (fresh_inside c ns ts true (leaves_of us) fresh)))
  arrives c (q_node us) ts ns small h room fresh =
      let one = leaves_some (q_node us) h in
      let node : Begun = record { round = false; before = ts } in
      goal_is c (st Nothing ts ns) (tree_text (q_node us)) (ts ++ q_node (forest (trees us)) ∷ []) (ts ++ q_node us ∷ []) ns (ap (λ x. ts ++ q_node x ∷ []) (plans_kids us))
      (node_arrives c false us ts ns (omega arith) h.0
      (arrives_all c (length (leaves_of us) - 1) us [] (node ∷ ns) small h.1 (omega (arith, h.0)) (small_two (length (leaves_of us) - 1) us h.1 (omega (arith, h.0)) (omega arith)) (omega arith) (omega arith)
      (fresh_inside c ns ts false (leaves_of us) fresh)))

  arrives_all : (c n : ℕ) (us : Forest) (ts : List Outline) (ns : List Begun) → c < 2 ^ 64 → HaveArities us → 1 ≤ count us → AreSmall n us → length ns + n ≤ c → 0 < length ns → IsFresh c ns ts (leaves_of us)
      → Arrives c (st Nothing ts ns) (forest_text us) (st Child (ts ++ trees us) ns)
  arrives_all c n no_tree ts ns small h one few room some fresh = absurd (omega arith)
  arrives_all c n (tree_and t us) ts ns small h one few room some fresh =
      let r = arrives c t ts ns small h.0 (omega (arith, few.0)) (fresh_first c ns ts (leaves t) (leaves_of us) fresh) in
      goal_is c (st Nothing ts ns) (tree_text t ++ spaced_text us) ((ts ++ t ∷ []) ++ trees us) (ts ++ t ∷ trees us) ns (append_assoc ts (t ∷ []) (trees us))
      (on_from c (st Nothing ts ns) r.state (tree_text t) (spaced_text us) (st Child ((ts ++ t ∷ []) ++ trees us) ns) r.runs
      (arrives_spaced c n us r.state (ts ++ t ∷ []) ns small h.1 few.1 room some r.settles (fresh_next c ns ts t (leaves_of us) fresh)))

  arrives_spaced : (c n : ℕ) (us : Forest) (s : State) (ts : List Outline) (ns : List Begun) → c < 2 ^ 64 → HaveArities us → AreSmall n us → length ns + n ≤ c → 0 < length ns → settled s ≡ Some (st Child ts ns)
      → IsFresh c ns ts (leaves_of us) → Arrives c s (spaced_text us) (st Child (ts ++ trees us) ns)
  arrives_spaced c n no_tree s ts ns small h few room some e fresh =
      goal_is c s [] ts (ts ++ []) ns (sym (append-nil ts)) (record { state = s; runs = λ rest. refl; settles = e })
  arrives_spaced c n (tree_and t us) s ts ns small h few room some e fresh =
      let r = arrives c t ts ns small h.0 (omega (arith, few.0)) (fresh_first c ns ts (leaves t) (leaves_of us) fresh) in
      goal_is c s (32 ∷ (tree_text t ++ spaced_text us)) ((ts ++ t ∷ []) ++ trees us) (ts ++ t ∷ trees us) ns (append_assoc ts (t ∷ []) (trees us))
      (space_arrives c s ts ns (tree_text t ++ spaced_text us) (st Child ((ts ++ t ∷ []) ++ trees us) ns) some e
      (on_from c (st Nothing ts ns) r.state (tree_text t) (spaced_text us) (st Child ((ts ++ t ∷ []) ++ trees us) ns) r.runs
      (arrives_spaced c n us r.state (ts ++ t ∷ []) ns small h.1 few.1 room some r.settles (fresh_next c ns ts t (leaves_of us) fresh))))

covers_from : (c n : ℕ) (xs : List ℕ) → n ≤ c → IsOrder c xs → covers n xs ≡ true
covers_from c zero xs l h = refl
covers_from c (suc n) xs l h =
    and_from _ _ (has_from_occurs xs (suc n) (omega (arith, h (suc n), within_one c (suc n) (omega arith) l))) (covers_from c n xs (omega arith) h)

-- the text of a tree over 1 to c is read as that tree
pub tree_of_proper : (c : ℕ) (t : Outline) → c < 2 ^ 64 → IsProper c t → tree_of c (tree_text t) ≡ Some t
unfolding tree_of run
tree_of_proper c t small h =
    let r = arrives c t [] [] small h.0 (omega (arith, few c (leaves t) (λ a. omega (arith, h.1 a)))) (λ b. omega (arith, h.1 b)) in
    let all : covers c (leaves t ++ []) ≡ true = rw append-nil (covers_from c c (leaves t) (omega arith) h.1) in
    ap (run c start) (sym (append-nil (tree_text t))) ∙ r.runs [] ∙ ap (option_and_then (finished c)) r.settles ∙ rw all refl
