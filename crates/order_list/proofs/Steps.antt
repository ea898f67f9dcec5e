-- What is read before and after each step of the walk is the same.
use Rattle.std.proofs.Common.{◌≡◌, ◌∙◌, ◌+◌, ◌-◌, ◌<◌, ◌≤◌, ℕ, zero, suc, List, [], ◌∷◌, ◌++◌, map, reverse, length, get_or, remove, take, drop, true, false, Some, None, Bor, refl, sym, ap, subst, arith, length-append}
use Rattle.std.proofs.Math.Seq.{take-append_seam}
use Rattle.std.specs.Prelude.{Result, OnOk}
use Rattle.std.proofs.lemmas.Result.{on_ok_weaker}
use Rattle.std.proofs.lemmas.List.{length-map, reverse-append, take_all}
use Rattle.pq_tree.specs.Outline.{Outline, leaf, p_node, q_node, no_tree, IsFrontier}
use Rattle.pq_tree.specs.Proper.{outline_of, forest, AreTrees}
use Rattle.pq_tree.specs.declared.Tree.{Tree}
use Rattle.order_list.specs.Coming.{outlines}
use Rattle.order_list.specs.Gains.{Gains, IsReady, from_column}
use Rattle.order_list.specs.Listed.{OrderList}
use Rattle.order_list.specs.Next.{OneBegins, IsNextAmong}
use Rattle.order_list.specs.declared.search.Next.{Next}
use Rattle.order_list.specs.Reading.{Reads, CanBegin, tree_at}
use Rattle.order_list.specs.Weights.{walk_weight, walk_weights}
use Rattle.order_list.proofs.Begins.{outline_at, reverse_last, p_some, p_reads}
use Rattle.order_list.proofs.Gaining.{BeginsBelow, Below, gains_same, ready_same, gains_more, gains_all, gains_stopped}
use Rattle.order_list.proofs.Taking.{p_taken, p_untaken, none_taken, none_untaken, one_taken, one_untaken, leaf_taken, leaf_untaken, q_taken, q_untaken, q_turned_taken, q_turned_untaken}

-- the same lists are in both sets
abbrev pub SameSet : (List ℕ → Type 0) → (List ℕ → Type 0) → Type 0
SameSet S T = ((f : List ℕ) → S f → T f) × ((f : List ℕ) → T f → S f)

pub ready_moved : (S T : List ℕ → Type 0) (columns : List ℕ) (limit : ℕ) (a : OrderList) → SameSet S T → IsReady T columns limit a → IsReady S columns limit a
ready_moved S T columns limit a same r = ready_same T S columns limit a same.0 r

pub gains_moved : {V E : Type 0} (r : Result V E) (S T : List ℕ → Type 0) (columns : List ℕ) (limit : ℕ) (a b : OrderList) → SameSet S T →
    OnOk r (Gains S columns limit a b) → OnOk r (Gains T columns limit a b)
gains_moved r S T columns limit a b same g = on_ok_weaker r (gains_same S T columns limit a b same.0 same.1) g

pub same_trees : (us vs : List Outline) → us ≡ vs → SameSet (Reads us) (Reads vs)
same_trees us vs e = subst (λ ws. SameSet (Reads us) (Reads ws)) e ((λ f r. r), (λ f r. r))

-- a bag of nothing, and one of one tree
pub same_none : (us vs : List Outline) → vs ≡ p_node no_tree ∷ us → SameSet (Reads us) (Reads vs)
same_none us vs e = subst (λ ws. SameSet (Reads us) (Reads ws)) (sym e) (none_untaken us, none_taken us)

pub same_one : (t : Outline) (us vs : List Outline) → vs ≡ t ∷ us → SameSet (Reads (p_node (forest (t ∷ [])) ∷ us)) (Reads vs)
same_one t us vs e = subst (λ ws. SameSet (Reads (p_node (forest (t ∷ [])) ∷ us)) (Reads ws)) (sym e) (one_taken t us, one_untaken t us)

pub same_bag : (t : Outline) (us vs : List Outline) → vs ≡ p_node (forest (t ∷ [])) ∷ us → SameSet (Reads (t ∷ us)) (Reads vs)
same_bag t us vs e = subst (λ ws. SameSet (Reads (t ∷ us)) (Reads ws)) (sym e) (one_untaken t us, one_taken t us)

-- a leaf
pub leaf_first : (u : Outline) (a : ℕ) (us : List Outline) → u ≡ leaf a → (f : List ℕ) → Reads (u ∷ us) f → (g : List ℕ) × (f ≡ a ∷ g)
leaf_first u a us e f r = (r.1, r.4 ∙ ap (λ g. g ++ r.1) (subst (λ v. IsFrontier v r.0) e r.2))

pub same_leaf : (u : Outline) (a x : ℕ) (us : List Outline) → u ≡ leaf a → CanBegin u x → SameSet (Reads us) (from_column x (Reads (u ∷ us)))
same_leaf u a x us e b =
    subst (λ v. SameSet (Reads us) (from_column x (Reads (v ∷ us)))) (sym e)
    ((λ f r. leaf_untaken a us x f (subst (λ v. CanBegin v x) e b) r), (λ f r. leaf_taken a us x f r))

-- a tree that is taken out of a bag
pub same_taken : (ts us ws : List Outline) (k x : ℕ) (u : Outline) → AreTrees (forest ts) → k < length ts → CanBegin (tree_at ts k) x → tree_at ts k ≡ u →
    ws ≡ p_node (forest (remove ts k)) ∷ us → SameSet (from_column x (Reads (u ∷ ws))) (from_column x (Reads (p_node (forest ts) ∷ us)))
same_taken ts us ws k x u sound l b e g =
    let T : List ℕ → Type 0 = from_column x (Reads (p_node (forest ts) ∷ us)) in
    subst (λ v. SameSet (from_column x (Reads (v ∷ ws))) T) e
    (subst (λ w. SameSet (from_column x (Reads (tree_at ts k ∷ w))) T) (sym g) ((λ f r. p_untaken ts us k (x ∷ f) l r), (λ f r. p_taken ts us k x f sound l b r)))

-- a P-node, whose children are a bag
pub same_p : (u : Outline) (ts bag us : List Outline) (x y : ℕ) → u ≡ p_node (forest ts) → bag ≡ ts → y ≡ x →
    SameSet (from_column y (Reads (p_node (forest bag) ∷ us))) (from_column x (Reads (u ∷ us)))
same_p u ts bag us x y e g h =
    subst (λ z. SameSet (from_column y (Reads (p_node (forest bag) ∷ us))) (from_column z (Reads (u ∷ us)))) h
    (subst (λ b. SameSet (from_column y (Reads (p_node (forest bag) ∷ us))) (from_column y (Reads (b ∷ us)))) (ap (λ b. p_node (forest b)) g ∙ sym e) ((λ f r. r), (λ f r. r)))

-- a Q-node, from either end
pub same_q : (u t : Outline) (ts rest us ws : List Outline) (x : ℕ) → u ≡ q_node (forest ts) → ts ≡ t ∷ rest → ws ≡ rest ++ us → AreTrees (forest ts) → 1 ≤ length rest → CanBegin t x →
    SameSet (from_column x (Reads (t ∷ ws))) (from_column x (Reads (u ∷ us)))
same_q u t ts rest us ws x e g h sound n b =
    let S : List ℕ → Type 0 = from_column x (Reads (t ∷ ws)) in
    let kept : AreTrees (forest (t ∷ rest)) = subst (λ us. AreTrees (forest us)) g sound in
    subst (λ v. SameSet S (from_column x (Reads (v ∷ us)))) (ap (λ vs. q_node (forest vs)) (sym g) ∙ sym e)
    (subst (λ w. SameSet (from_column x (Reads (t ∷ w))) (from_column x (Reads (q_node (forest (t ∷ rest)) ∷ us)))) (sym h)
    ((λ f r. q_untaken (t ∷ rest) us (x ∷ f) r), (λ f r. q_taken t rest us x f kept n b r)))

pub same_q_turned : (u t : Outline) (ts rest us ws : List Outline) (x : ℕ) → u ≡ q_node (forest ts) → reverse ts ≡ t ∷ rest → ws ≡ rest ++ us → AreTrees (forest ts) → 1 ≤ length rest → CanBegin t x →
    SameSet (from_column x (Reads (t ∷ ws))) (from_column x (Reads (u ∷ us)))
same_q_turned u t ts rest us ws x e g h sound n b =
    let S : List ℕ → Type 0 = from_column x (Reads (t ∷ ws)) in
    let named : reverse ts ++ us ≡ t ∷ ws = ap (λ vs. vs ++ us) g ∙ ap (λ w. t ∷ w) (sym h) in
    subst (λ v. SameSet S (from_column x (Reads (v ∷ us)))) (sym e) (
      (λ f r. q_turned_untaken ts us (x ∷ f) (subst (λ vs. Reads vs (x ∷ f)) (sym named) r)),
      (λ f r. subst (λ vs. Reads vs (x ∷ f)) named (q_turned_taken ts t rest us x f g sound n b r)),
    )

-- the children of a node, as its slices are taken
pub outlines_remove : (ts : List (Bor Tree)) (k : ℕ) → k < length ts → outlines (remove ts k) ≡ remove (outlines ts) k
outlines_remove [] k l = absurd (omega arith)
outlines_remove (t ∷ ts) zero l = refl
outlines_remove (t ∷ ts) (suc k) l = ap (λ us. outline_of t.now ∷ us) (outlines_remove ts k (omega arith))

pub first_child : (ts : List Tree) (t : Tree) → 1 ≤ length ts → t ≡ get_or ts 0 t → map outline_of ts ≡ outline_of t ∷ map outline_of (take (length ts - 1) (drop 1 ts))
first_child [] t n e = absurd (omega arith)
first_child (u ∷ ts) t n e =
    ap (λ v. outline_of v ∷ map outline_of ts) (sym e) ∙
    ap (λ vs. outline_of t ∷ map outline_of vs) (sym (take_all (length (u ∷ ts) - 1) ts (omega arith)))

map-take : {A B : Type 0} (F : A → B) (n : ℕ) (ts : List A) → map F (take n ts) ≡ take n (map F ts)
map-take F zero ts = refl
map-take F (suc n) [] = refl
map-take F (suc n) (t ∷ ts) = ap (λ us. F t ∷ us) (map-take F n ts)

pub last_child : (ts : List Tree) (t : Tree) → 1 ≤ length ts → t ≡ get_or ts (length ts - 1) t →
    reverse (map outline_of ts) ≡ outline_of t ∷ reverse (map outline_of (take (length ts - 1) ts))
last_child ts t n e =
    let us : List Outline = map outline_of ts in
    let m : length us - 1 ≡ length ts - 1 = ap (λ k. k - 1) (length-map ts outline_of) in
    reverse_last us (omega (arith, n, length-map ts outline_of)) ∙
    ap (λ k. tree_at us k ∷ reverse (take k us)) m ∙
    ap (λ v. v ∷ reverse (take (length ts - 1) us)) (outline_at ts (length ts - 1) t (omega arith) e) ∙
    ap (λ vs. outline_of t ∷ reverse vs) (sym (map-take outline_of (length ts - 1) ts))

-- the weights of trees: of one and the others, and backwards
pub weights_taken : (ts : List Outline) (k : ℕ) → k < length ts → walk_weights (forest ts) ≡ walk_weight (tree_at ts k) + walk_weights (forest (remove ts k))
weights_taken [] k l = absurd (omega arith)
weights_taken (t ∷ ts) zero l = refl
weights_taken (t ∷ ts) (suc k) l = omega (arith, weights_taken ts k (omega arith))

pub weights_append : (ts us : List Outline) → walk_weights (forest (ts ++ us)) ≡ walk_weights (forest ts) + walk_weights (forest us)
weights_append [] us = omega arith
weights_append (t ∷ ts) us = omega (arith, weights_append ts us)

pub weights_reverse : (ts : List Outline) → walk_weights (forest (reverse ts)) ≡ walk_weights (forest ts)
weights_reverse [] = refl
weights_reverse (t ∷ ts) =
    omega (arith, ap (λ us. walk_weights (forest us)) (reverse-append (t ∷ []) ts), weights_append (reverse ts) (t ∷ []), weights_reverse ts)

-- the loop over the columns that can come next
module _ (ts us : List Outline) (columns : List ℕ) (limit from : ℕ) (a b : OrderList) (n : ℕ) (some : 1 ≤ n) (all : n ≡ length ts) (sound : AreTrees (forest ts)) where
  abbrev Whole : List ℕ → Type 0
  Whole = Reads (p_node (forest ts) ∷ us)

  one_begins : (y : ℕ) (f : List ℕ) → Whole (y ∷ f) → OneBegins ts n y
  one_begins y f r = subst (λ m. OneBegins ts m y) (sym all) (p_reads ts us y f (omega (arith, some, all)) sound.0 r)

  -- one column more
  pub next_gains : (next : Next) (c : OrderList) (pushed : List ℕ) → IsNextAmong ts n from (Some next) → Gains (Below Whole from) columns limit a b → b.more ≡ false →
      pushed ≡ columns ++ next.column ∷ [] → Gains (from_column next.column Whole) pushed limit b c → Gains (Below Whole (next.column + 1)) columns limit a c
  next_gains next c pushed h first fresh e second =
      gains_more Whole columns limit from next.column a b c h.2 first fresh (subst (λ l. Gains (from_column next.column Whole) l limit b c) e second)
      (λ y f r low. h.3 y (one_begins y f r) low)

  -- the list is full
  pub last_gains : Gains (Below Whole from) columns limit a b → b.more ≡ true → Gains Whole columns limit a b
  last_gains g full = gains_stopped Whole columns limit from a b (p_some ts us (omega (arith, some, all)) sound.0) full g

  -- no column is left
  pub all_gains : IsNextAmong ts n from None → Gains (Below Whole from) columns limit a b → Gains Whole columns limit a b
  all_gains h g = gains_all Whole columns limit from a b below g
    where
      below : (f : List ℕ) → Whole f → BeginsBelow from f
      below [] r = absurd (p_some ts us (omega (arith, some, all)) sound.0 r)
      below (y ∷ f) r = h y (one_begins y f r)

-- a list that is a column longer, where the list before it is as it was
pub pushed_on : (xs ys zs : List ℕ) (x : ℕ) → ys ≡ xs → zs ≡ ys ++ x ∷ [] → zs ≡ xs ++ x ∷ []
pushed_on xs ys zs x same is = is ∙ ap (λ l. l ++ x ∷ []) same

-- the column that was pushed is taken away again
pub popped : (xs ys zs ws : List ℕ) (x n : ℕ) → zs ≡ ws → ws ≡ xs ++ x ∷ [] → n ≡ length zs → ys ≡ take (n - 1) zs → ys ≡ xs
popped xs ys zs ws x n same pushed l t =
    let e : zs ≡ xs ++ x ∷ [] = same ∙ pushed in
    let m : n - 1 ≡ length xs = omega (arith, l, ap (λ (k : List ℕ). length k) e, length-append xs (x ∷ [])) in
    t ∙ ap (λ k. take k zs) m ∙ ap (take (length xs)) e ∙ take-append_seam xs (x ∷ [])
