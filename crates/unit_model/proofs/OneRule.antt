-- An umbrella order gives one list of left ends.
use Rattle.std.proofs.Common.{◌≡◌, ◌∙◌, ◌⊎◌, inl, inr, ℕ, zero, suc, ◌+◌, ◌-◌, ◌*◌, ◌<◌, List, [], ◌∷◌, get_or, IsTrue, refl, sym, ap, subst, arith}
use Rattle.std.proofs.lemmas.Bool.{cases_eq, cases_lt, false≢true}
use Rattle.std.proofs.lemmas.List.{same_lists, get_or_default}
use Rattle.column_order.specs.Orders.{has, place}
use Rattle.column_order.proofs.Lists.{place-inj}
use Rattle.graph_model.specs.Graphs.{GraphValue, IsGraph, has_edge}
use Rattle.row_model.proofs.Ascending.{row_within}
use Rattle.proper_interval.specs.Models.{IsVertex}
use Rattle.proper_interval.specs.Umbrellas.{IsUmbrellaOrder}
use Rattle.unit_model.specs.Models.{at_vertex}
use Rattle.unit_model.specs.Walks.{Walks, IsDistance, IsFirstOf}
use Rattle.unit_model.specs.Rule.{put_before, IsNext, IsFirstNeighbour, IsGrown, begun, put, IsListOf, HasLayers, AreNextFirst, IsBase, base_first, base_next, IsLeftEnd}
use Rattle.unit_model.specs.Laws.{OneRuleLaw}
use Rattle.unit_model.proofs.WalkLemmas.{one_first, one_distance}

module _ (g : GraphValue) (o : List ℕ) (graph : IsGraph g) (umbrella : IsUmbrellaOrder g o) where
  edge_end : (w v : ℕ) → IsVertex g w → IsTrue (has_edge g.neighbours w v) → IsVertex g v
  edge_end w v at edge = row_within g.vertices (get_or g.neighbours (w - 1) []) (graph.ascending (w - 1) [] (omega (arith, at.0, at.1, graph.lists))) v edge

  -- where a walk from a vertex ends, there is a vertex
  walk_end : (f v k : ℕ) → IsVertex g f → Walks g k f v → IsVertex g v
  walk_end f v zero at walk = subst (IsVertex g) walk at
  walk_end f v (suc k) at walk = edge_end walk.0 v walk.1.0 walk.1.2

  module _ (f : ℕ) where
    -- a list is that of a component after so many vertices were put into it
    abbrev GrownIn : ℕ → List ℕ → Type 0
    GrownIn zero list = list ≡ f ∷ []
    GrownIn (suc n) list = (before : List ℕ) × (u : ℕ) × (v : ℕ) × GrownIn n before × IsNext g o f before v × IsFirstNeighbour g o f u v × (list ≡ put_before v u before)

    grown_in : (list : List ℕ) → IsGrown g o f list → (n : ℕ) × GrownIn n list
    grown_in (_) begun = (zero, refl)
    grown_in (_) (put list u v grown next first) = let before = grown_in list grown in (suc before.0, (list, u, v, before.1, next, first, refl))

    vertex_of : (v : ℕ) → IsFirstOf g o f v → IsVertex g v
    vertex_of v inside = walk_end f v inside.walk.0 inside.vertex inside.walk.1

    -- of two next vertices neither comes first
    not_first : (list : List ℕ) (v w s t : ℕ) → IsNext g o f list v → IsNext g o f list w → IsDistance g f v s → IsDistance g f w t → (s < t) ⊎ ((s ≡ t) × (place o v < place o w)) → ⊥
    not_first list v w s t one other near far earlier =
        false≢true (sym one.fresh ∙ other.others v s t (vertex_of v one.inside) one.inside near far earlier)

    one_next : (list : List ℕ) (v w s t : ℕ) → IsNext g o f list v → IsNext g o f list w → IsDistance g f v s → IsDistance g f w t → v ≡ w
    one_next list v w s t one other near far =
        elim (cases_eq s t) [
          | inl level ↦ elim (cases_eq (place o v) (place o w)) [
            | inl same ↦ place-inj o v w same
            | inr differ ↦ elim (cases_lt (place o v) (place o w)) [
              | inl less ↦ absurd (not_first list v w s t one other near far (inr (level, less)))
              | inr more ↦ absurd (not_first list w v t s other one far near (inr (sym level, omega (arith, differ, more))))
            ]
          ]
          | inr differ ↦ elim (cases_lt s t) [
            | inl less ↦ absurd (not_first list v w s t one other near far (inl less))
            | inr more ↦ absurd (not_first list w v t s other one far near (inl (omega (arith, differ, more))))
          ]
        ]

    one_neighbour : (u w v : ℕ) → IsVertex g f → IsFirstNeighbour g o f u v → IsFirstNeighbour g o f w v → u ≡ w
    one_neighbour u w v at one other =
        let level : one.layer ≡ other.layer = omega (arith, one_distance g o graph umbrella f v (one.layer + 1) (other.layer + 1) one.above other.above) in
        let there = walk_end f u one.layer at one.below.walk in
        let here = walk_end f w other.layer at other.below.walk in
        let first = one.first w here (subst (IsDistance g f w) (sym level) other.below) other.adjacent in
        let second = other.first u there (subst (IsDistance g f u) level one.below) one.adjacent in
        place-inj o u w (omega (arith, first, second))

    one_grown : (n : ℕ) (list other : List ℕ) → GrownIn n list → GrownIn n other → list ≡ other
    one_grown zero list other here there = here ∙ sym there
    one_grown (suc n) list other (before, u, v, grown, next, first, is) (front, w, x, grown_too, next_too, first_too, is_too) =
        let same = one_grown n before front grown grown_too in
        let at = next.inside.vertex in
        let vertex = one_next front v x (first.layer + 1) (first_too.layer + 1) (subst (λ l. IsNext g o f l v) same next) next_too first.above first_too.above in
        let neighbour = one_neighbour u w x at (subst (IsFirstNeighbour g o f u) vertex first) first_too in
        is ∙ ap (put_before v u) same ∙ ap (λ y. put_before y u front) vertex ∙ ap (λ y. put_before x y front) neighbour ∙ sym is_too

    -- a list that goes on after so many vertices lacks one there
    lacks : (n m : ℕ) (list : List ℕ) → GrownIn m list → n < m → (before : List ℕ) × (v : ℕ) × GrownIn n before × IsNext g o f before v
    lacks n zero list grown less = absurd (omega (arith, less))
    lacks n (suc m) list (before, u, v, grown, next, first, is) less =
        elim (cases_eq n m) [
          | inl same ↦ (before, v, subst (λ k. GrownIn k before) (sym same) grown, next)
          | inr differ ↦ lacks n m before grown (omega (arith, less, differ))
        ]

    not_shorter : (n m : ℕ) (list other : List ℕ) → ((v : ℕ) → IsVertex g v → IsFirstOf g o f v → IsTrue (has list v)) → GrownIn n list → GrownIn m other → n < m → ⊥
    not_shorter n m list other whole grown grown_too less =
        let there = lacks n m other grown_too less in
        let same = one_grown n list there.0 grown there.2 in
        let next = there.3 in
        false≢true (sym next.fresh ∙ subst (λ l. IsTrue (has l there.1)) same (whole there.1 (vertex_of there.1 next.inside) next.inside))

    one_list_of : (list other : List ℕ) → IsListOf g o f list → IsListOf g o f other → list ≡ other
    one_list_of list other here there =
        let one = grown_in list here.grown in
        let two = grown_in other there.grown in
        elim (cases_eq one.0 two.0) [
          | inl same ↦ one_grown two.0 list other (subst (λ k. GrownIn k list) same one.1) two.1
          | inr differ ↦ elim (cases_lt one.0 two.0) [
            | inl less ↦ absurd (not_shorter one.0 two.0 list other here.whole one.1 two.1 less)
            | inr more ↦ absurd (not_shorter two.0 one.0 other list there.whole two.1 one.1 (omega (arith, differ, more)))
          ]
        ]

    one_depth : (layers others : ℕ) → HasLayers g o f layers → HasLayers g o f others → layers ≡ others
    one_depth layers others here there =
        let a = there.whole here.last (layers - 1) (vertex_of here.last here.inside) here.inside here.deepest in
        let b = here.whole there.last (others - 1) (vertex_of there.last there.inside) there.inside there.deepest in
        omega (arith, a, b, here.some, there.some)

  one_before : (d e f : ℕ) → AreNextFirst g o d f → AreNextFirst g o e f → d ≡ e
  one_before d e f here there =
      elim (cases_eq (place o d) (place o e)) [
        | inl same ↦ place-inj o d e same
        | inr differ ↦ elim (cases_lt (place o d) (place o e)) [
          | inl less ↦ absurd (omega (arith, here.next e there.first.vertex there.first less, there.after))
          | inr more ↦ absurd (omega (arith, there.next d here.first.vertex here.first (omega (arith, differ, more)), here.after))
        ]
      ]

  one_base : (f base other : ℕ) → IsBase g o f base → IsBase g o f other → base ≡ other
  one_base f (_) (_) (base_first _ inside at) (base_first _ inside_too at_too) = refl
  one_base f (_) other (base_first _ inside at) (base_next e _ base layers _ before next deep is) = absurd (omega (arith, at, next.after))
  one_base f other (_) (base_next e _ base layers _ before next deep is) (base_first _ inside at) = absurd (omega (arith, at, next.after))
  one_base f here there (base_next d _ base layers _ before next deep is) (base_next e _ base_too layers_too _ before_too next_too deep_too is_too) =
      let same = one_before d e f next next_too in
      let low = one_base e base base_too (subst (λ x. IsBase g o x base) same before) before_too in
      let depth = one_depth e layers layers_too (subst (λ x. HasLayers g o x layers) same deep) deep_too in
      is ∙ ap (λ b. b + (layers + 1) * g.vertices) low ∙ ap (λ l. base_too + (l + 1) * g.vertices) depth ∙ sym is_too

  one_left : (v left other : ℕ) → IsLeftEnd g o v left → IsLeftEnd g o v other → left ≡ other
  one_left v left other here there =
      let same = one_first g o graph umbrella here.f there.f v here.first there.first in
      let layer = one_distance g o graph umbrella there.f v here.layer there.layer (subst (λ x. IsDistance g x v here.layer) same here.distance) there.distance in
      let base = one_base there.f here.base there.base (subst (λ x. IsBase g o x here.base) same here.base_of) there.base_of in
      let list = one_list_of there.f here.list there.list (subst (λ x. IsListOf g o x here.list) same here.list_of) there.list_of in
      here.is ∙ ap (λ b. b + here.layer * g.vertices + place here.list v) base ∙ ap (λ t. there.base + t * g.vertices + place here.list v) layer ∙ ap (λ l. there.base + there.layer * g.vertices + place l v) list ∙ sym there.is

pub one_rule_law : OneRuleLaw
one_rule_law g o lefts others graph umbrella here there =
    same_lists lefts others (here.count ∙ sym there.count)
    (λ k d lt.
    let back : k + 1 - 1 ≡ k = omega arith in
    let one = one_left g o graph umbrella (k + 1) (at_vertex lefts (k + 1)) (at_vertex others (k + 1)) (here.each (k + 1) (omega arith, omega (arith, lt, here.count)))
    (there.each (k + 1) (omega arith, omega (arith, lt, here.count))) in
    get_or_default lefts k d 0 lt ∙ ap (λ i. get_or lefts i 0) (sym back) ∙ one ∙ ap (λ i. get_or others i 0) back ∙ get_or_default others k 0 d (omega (arith, lt, here.count, there.count)))
