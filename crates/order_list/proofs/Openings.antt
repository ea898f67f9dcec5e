-- The links of the walk, opened one by one: what is read, the trees, and the weight.
use Rattle.std.proofs.Common.{◌≡◌, ◌∙◌, ◌+◌, ◌-◌, ◌*◌, ◌<◌, ◌≤◌, ◌⊎◌, ℕ, List, [], ◌∷◌, ◌++◌, map, reverse, length, get_or, remove, take, drop, Bor, refl, sym, ap, subst, inl, inr, arith}
use Rattle.std.specs.List.{IsFirstAndRest, IsLastAndRest}
use Rattle.std.proofs.lemmas.List.{length-map, length-reverse, map-append, nil_from_length, reverse-append, take_all}
use Rattle.pq_tree.specs.Outline.{Outline, leaf, p_node, q_node, no_tree}
use Rattle.pq_tree.specs.Proper.{outline_of, forest, AreTrees}
use Rattle.pq_tree.specs.declared.Tree.{Tree}
use Rattle.order_list.specs.Coming.{outlines, coming_trees, trees_within}
use Rattle.order_list.specs.Gains.{IsReady, from_column}
use Rattle.order_list.specs.Listed.{OrderList}
use Rattle.order_list.specs.Reading.{Reads, CanBegin, tree_at}
use Rattle.order_list.specs.Low.{StandsLow, StandLow}
use Rattle.order_list.specs.Ways.{Leads}
use Rattle.order_list.specs.Weights.{walk_weight, walk_weights, weight_within}
use Rattle.order_list.specs.declared.walk.Bag.{Bag}
use Rattle.order_list.specs.declared.walk.Coming.{Coming, InAnyOrder, Forwards, Backwards}
use Rattle.order_list.proofs.Begins.{outline_at, lent_at}
use Rattle.order_list.proofs.Children.{q_counts, child_arities, outlines_length}
use Rattle.order_list.proofs.Readings.{arities_at}
use Rattle.order_list.proofs.Ways.{leads_begin, p_parted, q_parted}
use Rattle.order_list.proofs.LeastFirst.{low_at, low_removed, low_joined, low_reversed, low_same}
use Rattle.order_list.proofs.Links.{trees-InAnyOrder, within-InAnyOrder, weight-InAnyOrder, trees-Forwards, within-Forwards, weight-Forwards, trees-Backwards, within-Backwards, weight-Backwards}
use Rattle.order_list.proofs.Steps.{SameSet, outlines_remove, ready_moved, same_taken, same_q, same_q_turned, first_child, last_child, weights_taken, weights_reverse}
use Rattle.order_list.proofs.Taking.{sound_left, sound_p, sound_q, sound_turned, sound_taken as sound_of_taken, sound_same}

two : (u : Outline) → 2 ≤ walk_weight u
two (leaf a) = omega arith
two (p_node ts) = omega arith
two (q_node ts) = omega arith

-- what the walk needs to go on with the tree u, to which the way ks leads, before the link
abbrev pub GoesOn : Outline → List ℕ → ℕ → Coming → ℕ → List ℕ → ℕ → OrderList → Type 0
GoesOn u ks x after m columns limit found =
    (8 * (walk_weight u + weight_within after) - 12 < m) × (Leads ks u x × (AreTrees (forest (u ∷ trees_within after)) × (StandLow (forest (u ∷ coming_trees after))
    × IsReady (from_column x (Reads (u ∷ coming_trees after))) columns limit found)))

-- a tree u taken from the place k of a bag, and the others: a way down to it begins with the column x
pub record IsOpened (ts : List Outline) (k x : ℕ) (ks : List ℕ) (u : Outline) (left : List Outline) : Type 0 where
  pub at : tree_at ts k ≡ u
  pub others : left ≡ remove ts k
  pub inside : k < length ts
  pub begins : CanBegin (tree_at ts k) x
  pub leads : Leads ks u x

module _ (ts : List Outline) (k x : ℕ) (ks : List ℕ) (u : Outline) (bag : Bag) (rest : Bor Coming) (s : IsOpened ts k x ks u (outlines bag.trees.now)) where
  taken_falls : (m : ℕ) → m ≡ 8 * (walk_weights (forest ts) + weight_within rest.now) → 8 * (walk_weight u + weight_within (InAnyOrder bag rest)) - 12 < m
  taken_falls m same =
      let weighs : walk_weight u + weight_within (InAnyOrder bag rest) ≡ 1 + (walk_weights (forest ts) + weight_within rest.now) =
      omega (arith, ap walk_weight s.at, weights_taken ts k s.inside, weight-InAnyOrder bag rest, ap (λ us. walk_weights (forest us)) s.others) in
      omega (arith, weighs, weights_taken ts k s.inside, two (tree_at ts k))

  taken_sound : AreTrees (forest (ts ++ trees_within rest.now)) → AreTrees (forest (u ∷ trees_within (InAnyOrder bag rest)))
  taken_sound sound =
      sound_same (tree_at ts k ∷ (remove ts k ++ trees_within rest.now)) (u ∷ trees_within (InAnyOrder bag rest))
      (ap (λ v. v ∷ (remove ts k ++ trees_within rest.now)) s.at ∙ ap (λ us. u ∷ (us ++ trees_within rest.now)) (sym s.others) ∙ ap (λ us. u ∷ us) (sym (within-InAnyOrder bag rest)))
      (sound_of_taken ts (trees_within rest.now) k sound s.inside)

  pub taken_same : AreTrees (forest (ts ++ trees_within rest.now)) →
      SameSet (from_column x (Reads (u ∷ coming_trees (InAnyOrder bag rest)))) (from_column x (Reads (p_node (forest ts) ∷ coming_trees rest.now)))
  taken_same sound =
      same_taken ts (coming_trees rest.now) (coming_trees (InAnyOrder bag rest)) k x u (sound_left ts (trees_within rest.now) sound) s.inside s.begins s.at
      (trees-InAnyOrder bag rest ∙ ap (λ us. p_node (forest us) ∷ coming_trees rest.now) s.others)

  taken_low : StandLow (forest (p_node (forest ts) ∷ coming_trees rest.now)) → StandLow (forest (u ∷ coming_trees (InAnyOrder bag rest)))
  taken_low low =
      low_same (tree_at ts k ∷ p_node (forest (remove ts k)) ∷ coming_trees rest.now) (u ∷ coming_trees (InAnyOrder bag rest))
      (ap (λ v. v ∷ p_node (forest (remove ts k)) ∷ coming_trees rest.now) s.at ∙ ap (λ us. u ∷ p_node (forest us) ∷ coming_trees rest.now) (sym s.others) ∙ ap (λ us. u ∷ us) (sym (trees-InAnyOrder bag rest)))
      (low_at ts k low.0.1 s.inside, (low_removed ts k s.inside low.0, low.1))

  -- the walk goes on with the tree
  pub taken_goes_on : (m : ℕ) → m ≡ 8 * (walk_weights (forest ts) + weight_within rest.now) → AreTrees (forest (ts ++ trees_within rest.now)) → StandLow (forest (p_node (forest ts) ∷ coming_trees rest.now)) →
      (columns : List ℕ) (limit : ℕ) (found : OrderList) → IsReady (from_column x (Reads (p_node (forest ts) ∷ coming_trees rest.now))) columns limit found →
      GoesOn u ks x (InAnyOrder bag rest) m columns limit found
  taken_goes_on m same sound low columns limit found ready =
      (taken_falls m same, (s.leads, (taken_sound sound, (taken_low low, ready_moved _ (from_column x (Reads (p_node (forest ts) ∷ coming_trees rest.now))) columns limit found (taken_same sound) ready))))

-- the trees behind the first
outlines_behind : (ts : List (Bor Tree)) → 1 ≤ length ts → outlines (take (length ts - 1) (drop 1 ts)) ≡ remove (outlines ts) 0
outlines_behind [] n = absurd (omega arith)
outlines_behind (t ∷ ts) n = ap outlines (take_all (length (t ∷ ts) - 1) ts (omega arith))

-- the tree of a bag to which a way leads
module _ (trees : List (Bor Tree)) (ps : List ℕ) (x : ℕ) (H : List Outline) (way : Leads (reverse ps) (p_node (forest (outlines trees))) x) (sound : AreTrees (forest (outlines trees ++ H))) where
  abbrev place : ℕ
  place = get_or ps (length ps - 1) 0

  step : (place < length (outlines trees)) × Leads (reverse (take (length ps - 1) ps)) (tree_at (outlines trees) place) x
  step = p_parted ps (outlines trees) x place (take (length ps - 1) ps) refl refl way

  pub step_place : place < length trees
  step_place = omega (arith, step.0, outlines_length trees)

  opened : (u : Outline) (left : List Outline) → tree_at (outlines trees) place ≡ u → left ≡ remove (outlines trees) place → IsOpened (outlines trees) place x (reverse (take (length ps - 1) ps)) u left
  opened u left at others =
      record {
        at = at;
        others = others;
        inside = step.0;
        begins = leads_begin (reverse (take (length ps - 1) ps)) (tree_at (outlines trees) place) x (arities_at (outlines trees) place (sound_left (outlines trees) H sound).0 step.0) step.1;
        leads = subst (λ v. Leads (reverse (take (length ps - 1) ps)) v x) at step.1;
      }

  pub first_opened : (t : Bor Tree) → place ≡ 0 → t ≡ get_or trees 0 t →
      IsOpened (outlines trees) place x (reverse (take (length ps - 1) ps)) (outline_of t.now) (outlines (take (length trees - 1) (drop 1 trees)))
  first_opened t z is =
      let some : 1 ≤ length trees = omega (arith, step_place) in
      opened (outline_of t.now) (outlines (take (length trees - 1) (drop 1 trees))) (ap (tree_at (outlines trees)) z ∙ lent_at trees 0 t some is)
      (outlines_behind trees some ∙ ap (remove (outlines trees)) (sym z))

  pub other_opened : (t : Bor Tree) (others : List (Bor Tree)) → t ≡ get_or trees place t → others ≡ remove trees place →
      IsOpened (outlines trees) place x (reverse (take (length ps - 1) ps)) (outline_of t.now) (outlines others)
  other_opened t others is cut =
      opened (outline_of t.now) (outlines others) (lent_at trees place t step_place is) (ap outlines cut ∙ outlines_remove trees place step_place)

-- the children of a P-node as a bag
pub bag_sound : (u : Outline) (ts bag H : List Outline) → u ≡ p_node (forest ts) → bag ≡ ts → AreTrees (forest (u ∷ H)) → AreTrees (forest (bag ++ H))
bag_sound u ts bag H e is sound =
    sound_same (ts ++ H) (bag ++ H) (ap (λ us. us ++ H) (sym is)) (sound_p ts H (sound_same (u ∷ H) (p_node (forest ts) ∷ H) (ap (λ v. v ∷ H) e) sound))

-- the children of a Q-node
module _ (u : Outline) (ts : List Tree) (rest : Bor Coming) (x : ℕ) (e : u ≡ q_node (forest (map outline_of ts))) (sound : AreTrees (forest (u ∷ trees_within rest.now))) where
  many : 3 ≤ length ts
  many = omega (arith, (q_counts u (map outline_of ts) e sound.0.0).0, length-map ts outline_of)

  whole_sound : AreTrees (forest (map outline_of ts ++ trees_within rest.now))
  whole_sound = sound_q (map outline_of ts) (trees_within rest.now) (sound_same (u ∷ trees_within rest.now) (q_node (forest (map outline_of ts)) ∷ trees_within rest.now) (ap (λ v. v ∷ trees_within rest.now) e) sound)

  children_sound : AreTrees (forest (map outline_of ts))
  children_sound = sound_left (map outline_of ts) (trees_within rest.now) whole_sound

  children_low : StandLow (forest (u ∷ coming_trees rest.now)) → StandLow (forest (map outline_of ts))
  children_low low = (subst StandsLow e low.0).1

  child_begins : (i : ℕ) (t : Tree) (ks : List ℕ) → i < length ts → t ≡ get_or ts i t → Leads ks (outline_of t) x → CanBegin (outline_of t) x
  child_begins i t ks l at w = leads_begin ks (outline_of t) x (child_arities ts i t (q_counts u (map outline_of ts) e sound.0.0).1 l at) w

  module _ (ps : List ℕ) (way : Leads (reverse ps) u x) where
    abbrev end : ℕ
    end = get_or ps (length ps - 1) 0

    down : ((end ≡ 0) ⊎ (end + 1 ≡ length (map outline_of ts))) × Leads (reverse (take (length ps - 1) ps)) (tree_at (map outline_of ts) end) x
    down = q_parted ps (map outline_of ts) x end (take (length ps - 1) ps) refl refl (subst (λ v. Leads (reverse ps) v x) e way)

    pub forward_way : (t : Tree) → t ≡ get_or ts 0 t → end ≡ 0 → Leads (reverse (take (length ps - 1) ps)) (outline_of t) x × CanBegin (outline_of t) x
    forward_way t at z =
        let w = subst (λ v. Leads (reverse (take (length ps - 1) ps)) v x) (ap (tree_at (map outline_of ts)) z ∙ outline_at ts 0 t (omega (arith, many)) at) down.1 in
        (w, child_begins 0 t (reverse (take (length ps - 1) ps)) (omega (arith, many)) at w)

    pub backward_way : (t : Tree) → t ≡ get_or ts (length ts - 1) t → (end ≡ 0 → ⊥) → Leads (reverse (take (length ps - 1) ps)) (outline_of t) x × CanBegin (outline_of t) x
    backward_way t at not =
        let last : end ≡ length ts - 1 = elim down.0 [ inl z ↦ absurd (not z) | inr z ↦ omega (arith, z, length-map ts outline_of) ] in
        let w = subst (λ v. Leads (reverse (take (length ps - 1) ps)) v x) (ap (tree_at (map outline_of ts)) last ∙ outline_at ts (length ts - 1) t (omega (arith, many)) at) down.1 in
        (w, child_begins (length ts - 1) t (reverse (take (length ps - 1) ps)) (omega (arith, many)) at w)

  module _ (t : Tree) (part : Bor (List Tree)) (at : t ≡ get_or ts 0 t) (cut : part.now ≡ take (length ts - 1) (drop 1 ts)) (b : CanBegin (outline_of t) x) where
    forward_split : map outline_of ts ≡ outline_of t ∷ map outline_of part.now
    forward_split = first_child ts t (omega (arith, many)) at ∙ ap (λ us. outline_of t ∷ map outline_of us) (sym cut)

    forward_weight : walk_weight (outline_of t) + weight_within (Forwards part rest) + 1 ≡ walk_weight u + weight_within rest.now
    forward_weight = omega (arith, ap walk_weight e, ap (λ us. walk_weights (forest us)) forward_split, weight-Forwards part rest)

    forward_falls : (m : ℕ) → m ≡ 8 * (walk_weight u + weight_within rest.now) - 12 → 8 * (walk_weight (outline_of t) + weight_within (Forwards part rest)) - 12 < m
    forward_falls m is = omega (arith, forward_weight, ap walk_weight e)

    forward_sound : AreTrees (forest (outline_of t ∷ trees_within (Forwards part rest)))
    forward_sound =
        sound_same (map outline_of ts ++ trees_within rest.now) (outline_of t ∷ trees_within (Forwards part rest))
        (ap (λ us. us ++ trees_within rest.now) forward_split ∙ ap (λ us. outline_of t ∷ us) (sym (within-Forwards part rest))) whole_sound

    forward_low : StandLow (forest (u ∷ coming_trees rest.now)) → StandLow (forest (outline_of t ∷ coming_trees (Forwards part rest)))
    forward_low low =
        low_same (map outline_of ts ++ coming_trees rest.now) (outline_of t ∷ coming_trees (Forwards part rest))
        (ap (λ us. us ++ coming_trees rest.now) forward_split ∙ ap (λ us. outline_of t ∷ us) (sym (trees-Forwards part rest)))
        (low_joined (map outline_of ts) (coming_trees rest.now) (children_low low) low.1)

    pub forward_same : SameSet (from_column x (Reads (outline_of t ∷ coming_trees (Forwards part rest)))) (from_column x (Reads (u ∷ coming_trees rest.now)))
    forward_same =
        same_q u (outline_of t) (map outline_of ts) (map outline_of part.now) (coming_trees rest.now) (coming_trees (Forwards part rest)) x e forward_split (trees-Forwards part rest) children_sound
        (omega (arith, many, length-map ts outline_of, ap (λ (us : List Outline). length us) forward_split)) b

    pub forward_goes_on : (ks : List ℕ) → Leads ks (outline_of t) x → (m : ℕ) → m ≡ 8 * (walk_weight u + weight_within rest.now) - 12 → StandLow (forest (u ∷ coming_trees rest.now)) →
        (columns : List ℕ) (limit : ℕ) (found : OrderList) → IsReady (from_column x (Reads (u ∷ coming_trees rest.now))) columns limit found →
        GoesOn (outline_of t) ks x (Forwards part rest) m columns limit found
    forward_goes_on ks way m is low columns limit found ready =
        (forward_falls m is, (way, (forward_sound, (forward_low low, ready_moved _ (from_column x (Reads (u ∷ coming_trees rest.now))) columns limit found forward_same ready))))

  module _ (t : Tree) (part : Bor (List Tree)) (at : t ≡ get_or ts (length ts - 1) t) (cut : part.now ≡ take (length ts - 1) ts) (b : CanBegin (outline_of t) x) where
    backward_split : reverse (map outline_of ts) ≡ outline_of t ∷ reverse (map outline_of part.now)
    backward_split = last_child ts t (omega (arith, many)) at ∙ ap (λ us. outline_of t ∷ reverse (map outline_of us)) (sym cut)

    backward_weight : walk_weight (outline_of t) + weight_within (Backwards part rest) + 1 ≡ walk_weight u + weight_within rest.now
    backward_weight =
        omega (
          arith,
          ap walk_weight e,
          ap (λ us. walk_weights (forest us)) backward_split,
          weights_reverse (map outline_of ts),
          weights_reverse (map outline_of part.now),
          weight-Backwards part rest,
        )

    backward_falls : (m : ℕ) → m ≡ 8 * (walk_weight u + weight_within rest.now) - 12 → 8 * (walk_weight (outline_of t) + weight_within (Backwards part rest)) - 12 < m
    backward_falls m is = omega (arith, backward_weight, ap walk_weight e)

    backward_sound : AreTrees (forest (outline_of t ∷ trees_within (Backwards part rest)))
    backward_sound =
        sound_same (reverse (map outline_of ts) ++ trees_within rest.now) (outline_of t ∷ trees_within (Backwards part rest))
        (ap (λ us. us ++ trees_within rest.now) backward_split ∙ ap (λ us. outline_of t ∷ us) (sym (within-Backwards part rest)))
        (sound_turned (map outline_of ts) (trees_within rest.now) whole_sound)

    backward_low : StandLow (forest (u ∷ coming_trees rest.now)) → StandLow (forest (outline_of t ∷ coming_trees (Backwards part rest)))
    backward_low low =
        low_same (reverse (map outline_of ts) ++ coming_trees rest.now) (outline_of t ∷ coming_trees (Backwards part rest))
        (ap (λ us. us ++ coming_trees rest.now) backward_split ∙ ap (λ us. outline_of t ∷ us) (sym (trees-Backwards part rest)))
        (low_joined (reverse (map outline_of ts)) (coming_trees rest.now) (low_reversed (map outline_of ts) (children_low low)) low.1)

    pub backward_same : SameSet (from_column x (Reads (outline_of t ∷ coming_trees (Backwards part rest)))) (from_column x (Reads (u ∷ coming_trees rest.now)))
    backward_same =
        same_q_turned u (outline_of t) (map outline_of ts) (reverse (map outline_of part.now)) (coming_trees rest.now) (coming_trees (Backwards part rest)) x e backward_split (trees-Backwards part rest)
        children_sound (omega (arith, many, length-map ts outline_of, length-reverse {A = Outline}, ap (λ (us : List Outline). length us) backward_split)) b

    pub backward_goes_on : (ks : List ℕ) → Leads ks (outline_of t) x → (m : ℕ) → m ≡ 8 * (walk_weight u + weight_within rest.now) - 12 → StandLow (forest (u ∷ coming_trees rest.now)) →
        (columns : List ℕ) (limit : ℕ) (found : OrderList) → IsReady (from_column x (Reads (u ∷ coming_trees rest.now))) columns limit found →
        GoesOn (outline_of t) ks x (Backwards part rest) m columns limit found
    backward_goes_on ks way m is low columns limit found ready =
        (backward_falls m is, (way, (backward_sound, (backward_low low, ready_moved _ (from_column x (Reads (u ∷ coming_trees rest.now))) columns limit found backward_same ready))))

-- a link whose next tree is u, with the link after it
pub record IsLink (coming : Coming) (u : Outline) (after : Coming) : Type 0 where
  pub trees : coming_trees coming ≡ u ∷ coming_trees after
  pub within : trees_within coming ≡ u ∷ trees_within after
  pub weighs : weight_within coming ≡ walk_weight u + weight_within after

-- a link, read from its first tree on
pub first_link : (coming : Coming) (trees : Bor (List Tree)) (rest : Bor Coming) (tree : Tree) (others : Bor (List Tree)) → coming ≡ Forwards trees rest → IsFirstAndRest trees.now tree others.now →
    IsLink coming (outline_of tree) (Forwards others rest)
first_link coming trees rest tree others e first =
    record {
      trees =
          ap coming_trees e ∙ trees-Forwards trees rest ∙ ap (λ ts. map outline_of ts ++ coming_trees rest.now) first.0 ∙
          ap (λ us. outline_of tree ∷ us) (sym (trees-Forwards others rest));
      within =
          ap trees_within e ∙ within-Forwards trees rest ∙ ap (λ ts. map outline_of ts ++ trees_within rest.now) first.0 ∙
          ap (λ us. outline_of tree ∷ us) (sym (within-Forwards others rest));
      weighs = omega (arith, ap weight_within e, weight-Forwards trees rest, ap (λ ts. walk_weights (forest (map outline_of ts))) first.0, weight-Forwards others rest);
    }

-- and from its last one
pub last_link : (coming : Coming) (trees : Bor (List Tree)) (rest : Bor Coming) (tree : Tree) (others : Bor (List Tree)) → coming ≡ Backwards trees rest → IsLastAndRest trees.now tree others.now →
    IsLink coming (outline_of tree) (Backwards others rest)
last_link coming trees rest tree others e last =
    let turned : reverse (map outline_of trees.now) ≡ outline_of tree ∷ reverse (map outline_of others.now) =
    ap (λ ts. reverse (map outline_of ts)) last.0 ∙ ap reverse (map-append outline_of others.now (tree ∷ [])) ∙ reverse-append (map outline_of others.now) (outline_of tree ∷ []) in
    record {
      trees = ap coming_trees e ∙ trees-Backwards trees rest ∙ ap (λ us. us ++ coming_trees rest.now) turned ∙ ap (λ us. outline_of tree ∷ us) (sym (trees-Backwards others rest));
      within = ap trees_within e ∙ within-Backwards trees rest ∙ ap (λ us. us ++ trees_within rest.now) turned ∙ ap (λ us. outline_of tree ∷ us) (sym (within-Backwards others rest));
      weighs =
          omega (
            arith,
            ap weight_within e,
            weight-Backwards trees rest,
            ap (λ us. walk_weights (forest us)) turned,
            weights_reverse (map outline_of trees.now),
            weights_reverse (map outline_of others.now),
            weight-Backwards others rest,
          );
    }

-- a link that is used up

pub one_outline : (ts : List (Bor Tree)) (d : Bor Tree) → length ts ≡ 1 → outlines ts ≡ outline_of (get_or ts 0 d).now ∷ []
one_outline [] d n = absurd (omega arith)
one_outline (t ∷ []) d n = refl
one_outline (t ∷ u ∷ ts) d n = absurd (omega arith)

module _ (coming : Coming) (bag : Bag) (rest : Bor Coming) (u : Outline) (e : coming ≡ InAnyOrder bag rest) (one : outlines bag.trees.now ≡ u ∷ []) where
  pub one_trees : coming_trees coming ≡ p_node (forest (u ∷ [])) ∷ coming_trees rest.now
  one_trees = ap coming_trees e ∙ trees-InAnyOrder bag rest ∙ ap (λ us. p_node (forest us) ∷ coming_trees rest.now) one

  pub one_within : trees_within coming ≡ u ∷ trees_within rest.now
  one_within = ap trees_within e ∙ within-InAnyOrder bag rest ∙ ap (λ us. us ++ trees_within rest.now) one

  pub one_weight : weight_within coming ≡ 1 + (walk_weight u + weight_within rest.now)
  one_weight = omega (arith, ap weight_within e, weight-InAnyOrder bag rest, ap (λ us. walk_weights (forest us)) one)

pub none_trees : (coming : Coming) (bag : Bag) (rest : Bor Coming) → coming ≡ InAnyOrder bag rest → length bag.trees.now ≡ 0 → coming_trees coming ≡ p_node no_tree ∷ coming_trees rest.now
none_trees coming bag rest e n =
    ap coming_trees e ∙ trees-InAnyOrder bag rest ∙ ap (λ ts. p_node (forest (outlines ts)) ∷ coming_trees rest.now) (nil_from_length bag.trees.now n)

pub no_first : (coming : Coming) (trees : Bor (List Tree)) (rest : Bor Coming) → coming ≡ Forwards trees rest → length trees.now ≡ 0 → coming_trees rest.now ≡ coming_trees coming
no_first coming trees rest e n =
    sym (ap coming_trees e ∙ trees-Forwards trees rest ∙ ap (λ ts. map outline_of ts ++ coming_trees rest.now) (nil_from_length trees.now n))

pub no_last : (coming : Coming) (trees : Bor (List Tree)) (rest : Bor Coming) → coming ≡ Backwards trees rest → length trees.now ≡ 0 → coming_trees rest.now ≡ coming_trees coming
no_last coming trees rest e n =
    sym (ap coming_trees e ∙ trees-Backwards trees rest ∙ ap (λ ts. reverse (map outline_of ts) ++ coming_trees rest.now) (nil_from_length trees.now n))
