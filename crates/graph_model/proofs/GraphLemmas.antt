-- Lists of neighbours with one more.
use Rattle.std.proofs.Common.{◌≡◌, ◌≢◌, ◌∙◌, ℕ, zero, suc, ◌+◌, ◌-◌, ◌<◌, ◌≤◌, Bool, true, false, if◌then◌else◌, ◌==◌, ◌||◌, ◌&&◌, eqb, List, [], ◌∷◌, ◌++◌, length, take, drop, get_or, set, refl, sym, ap, inl, inr, arith, eq-eqb, nat_lt, All, slice_range, append_assoc, length-drop}
use Rattle.std.proofs.lemmas.Bool.{cases_eq, ne_eqb, or_parts, both_ways, ltb-true, ltb-false}
use Rattle.std.proofs.lemmas.Grind.{common_steps}
use Rattle.std.proofs.lemmas.List.{length-set, get_or-drop, get_or-set_same, get_or-set_other, take_more}
use Rattle.std.proofs.lemmas.List.Elements.{All-set, All-get_or}
use Rattle.std.proofs.Math.Bool.{or-false}
use Rattle.column_order.specs.Orders.{has}
use Rattle.row_model.specs.Rows.{Ascends, IsRow, RowList}
use Rattle.graph_model.specs.Graphs.{has_edge, HasOneMore, HasTwoMore, below, with_number, IsGraph}

pub eqb-sym : (a b : ℕ) → eqb a b ≡ eqb b a
eqb-sym a b = elim (cases_eq a b) [ inl e ↦ rw e refl | inr n ↦ ne_eqb a b n ∙ sym (ne_eqb b a (λ e. n (sym e))) ]

-- the parts before and behind the place of the number
pub with_number_parts : (y : ℕ) (row : List ℕ) → with_number y row ≡ take (below y row) row ++ y ∷ drop (below y row) row
with_number_parts y [] = refl
with_number_parts y (z ∷ row) =
    elim (nat_lt z y) as (λ v. (if v then z ∷ with_number y row else y ∷ z ∷ row) ≡ take (if v then suc (below y row) else 0) (z ∷ row) ++ y ∷ drop (if v then suc (below y row) else 0) (z ∷ row)) [
      | true ↦ ap (λ t. z ∷ t) (with_number_parts y row)
      | false ↦ refl
    ]

-- it has the number, and what it had
or_swap : (p q r : Bool) → (p || (q || r)) ≡ ((q || r) || p)
or_swap true true r = refl
or_swap true false true = refl
or_swap true false false = refl
or_swap false true r = refl
or_swap false false true = refl
or_swap false false false = refl

pub or_step : (p q r : Bool) → (p || (q || r)) ≡ ((p || q) || r)
or_step true q r = refl
or_step false q r = refl

pub has-with_number : (y b : ℕ) (row : List ℕ) → has (with_number y row) b ≡ (has row b || (b == y))
has-with_number y b [] = or-false (eqb y b) ∙ eqb-sym y b
has-with_number y b (z ∷ row) =
    elim (nat_lt z y) as (λ v. has (if v then z ∷ with_number y row else y ∷ z ∷ row) b ≡ ((eqb z b || has row b) || eqb b y)) [
      | true ↦ ap (λ t. eqb z b || t) (has-with_number y b row) ∙ or_step (eqb z b) (has row b) (eqb b y)
      | false ↦ or_swap (eqb y b) (eqb z b) (has row b) ∙ ap (λ t. (eqb z b || has row b) || t) (eqb-sym y b)
    ]

-- it ascends, if the number is new
pub ascends-with_number : (c low y : ℕ) (row : List ℕ) → Ascends c low row → low < y → y ≤ c → has row y ≡ false → Ascends c low (with_number y row)
ascends-with_number c low y [] h lt le new = (lt, le, tt)
ascends-with_number c low y (z ∷ row) h lt le new =
    let parts = or_parts (eqb z y) (has row y) new in
    (elim (nat_lt z y) as (λ v. nat_lt z y ≡ v → Ascends c low (if v then z ∷ with_number y row else y ∷ z ∷ row)) [
      | true ↦ λ e. (h.0, h.1, ascends-with_number c z y row h.2 (ltb-true z y e) le parts.1)
      | false ↦ λ e.
          let other : z ≢ y = λ s. both_ways (eqb z y) parts.0 (eq-eqb z y s) in
          (lt, le, (omega (arith, ltb-false z y e, other), h.1, h.2))
    ]) refl

-- lists, one of which has one number more
module _ (x y : ℕ) (lists : List (List ℕ)) (first : 1 ≤ x) (last : x ≤ length lists) where
  pub edge_added : HasOneMore lists x y (set lists (x - 1) (with_number y (get_or lists (x - 1) [])))
  edge_added a b some =
      elim (cases_eq a x) [
        | inl same ↦
            let within : x - 1 < length lists = omega arith in
            rw (same, eq-eqb x x refl, get_or-set_same lists (x - 1) (with_number y (get_or lists (x - 1) [])) [] within) (has-with_number y b (get_or lists (x - 1) []))
        | inr other ↦
            let apart : a - 1 ≢ x - 1 = omega arith in
            rw (ne_eqb a x other, get_or-set_other lists (x - 1) (a - 1) (with_number y (get_or lists (x - 1) [])) [] apart) (sym (or-false (has (get_or lists (a - 1) []) b)))
      ]

  pub rows_added : (c : ℕ) → All (IsRow c) lists → 1 ≤ y → y ≤ c → has_edge lists x y ≡ false → All (IsRow c) (set lists (x - 1) (with_number y (get_or lists (x - 1) [])))
  rows_added c all some le new =
      let row : IsRow c (get_or lists (x - 1) []) = All-get_or (IsRow c) lists (x - 1) [] (omega arith) all in
      All-set (IsRow c) lists (x - 1) (with_number y (get_or lists (x - 1) [])) (ascends-with_number c 0 y (get_or lists (x - 1) []) row (omega arith) le new) all

-- an edge that is there
pub edge_kept : (lists : List (List ℕ)) (x y : ℕ) → has_edge lists x y ≡ true → HasOneMore lists x y lists
edge_kept lists x y there a b some =
    elim (cases_eq a x) [
      | inl same ↦ elim (cases_eq b y) [
        | inl equal ↦ rw (same, equal, there) refl
        | inr other ↦ rw (ne_eqb b y other) (or_none (has_edge lists a b) (eqb a x))
      ]
      | inr other ↦ rw (ne_eqb a x other) (sym (or-false (has_edge lists a b)))
    ]
  where
    or_none : (p q : Bool) → p ≡ (p || (q && false))
    or_none true q = refl
    or_none false true = refl
    or_none false false = refl

-- one edge after another
pub two_edges : (old one new : List (List ℕ)) (u v : ℕ) → HasOneMore old u v one → HasOneMore one v u new → HasTwoMore old u v new
two_edges old one new u v first second a b some = second a b some ∙ ap (λ t. t || ((a == v) && (b == u))) (first a b some)

and_swap : (p q : Bool) → (p && q) ≡ (q && p)
and_swap true true = refl
and_swap true false = refl
and_swap false true = refl
and_swap false false = refl

or_twice : (p q r : Bool) → ((p || q) || r) ≡ ((p || r) || q)
or_twice true q r = refl
or_twice false true true = refl
or_twice false true false = refl
or_twice false false true = refl
or_twice false false false = refl

-- an edge both ways keeps the symmetry, and between two vertices makes no loop
module _ (old new : List (List ℕ)) (u v : ℕ) (two : HasTwoMore old u v new) where
  pub symmetric_added : ((a b : ℕ) → 1 ≤ a → 1 ≤ b → has_edge old a b ≡ has_edge old b a) → (a b : ℕ) → 1 ≤ a → 1 ≤ b → has_edge new a b ≡ has_edge new b a
  symmetric_added symmetric a b pa pb =
      two a b pa
      ∙ or_twice (has_edge old a b) ((a == u) && (b == v)) ((a == v) && (b == u))
      ∙ ap (λ t. (t || ((a == v) && (b == u))) || ((a == u) && (b == v))) (symmetric a b pa pb)
      ∙ ap (λ t. (has_edge old b a || t) || ((a == u) && (b == v))) (and_swap (a == v) (b == u))
      ∙ ap (λ t. (has_edge old b a || ((b == u) && (a == v))) || t) (and_swap (a == u) (b == v))
      ∙ sym (two b a pb)

  pub loopless_added : u ≢ v → ((a : ℕ) → 1 ≤ a → has_edge old a a ≡ false) → (a : ℕ) → 1 ≤ a → has_edge new a a ≡ false
  loopless_added distinct loopless a some =
      two a a some
      ∙ elim (cases_eq a u) [
        | inl e ↦
            let apart : a ≢ v = λ s. distinct (sym e ∙ s) in
            rw (ne_eqb a v apart, loopless a some) (elim (eqb a u) as (λ t. ((t && false) || false) ≡ false) [ true ↦ refl | false ↦ refl ])
        | inr n ↦ rw (ne_eqb a u n, loopless a some) (elim (eqb a v) as (λ t. (t && false) ≡ false) [ true ↦ refl | false ↦ refl ])
      ]

-- a range with one more
pub range_more : (lists : List (List ℕ)) (from k : ℕ) (list : List ℕ) → from ≤ k → k < length lists → get_or lists k [] ≡ list → slice_range lists from (k + 1) ≡ slice_range lists from k ++ list ∷ []
range_more lists from k list le lt is =
    let more : k + 1 - from ≡ k - from + 1 = omega arith in
    let at : from + (k - from) ≡ k = omega arith in
    let inside : k - from < length (drop from lists) = omega (arith, length-drop from lists) in
    ap (λ n. take n (drop from lists)) more
    ∙ take_more (drop from lists) (k - from) [] inside
    ∙ ap (λ t. take (k - from) (drop from lists) ++ t ∷ []) (get_or-drop from lists (k - from) [] ∙ ap (λ i. get_or lists i []) at ∙ is)

-- the lists before one, another, and those behind it
set_parts : (lists : List (List ℕ)) (i : ℕ) (list : List ℕ) → i < length lists → take i lists ++ list ∷ drop (suc i) lists ≡ set lists i list
set_parts [] i list lt = absurd (omega arith)
set_parts (l ∷ lists) zero list lt = refl
set_parts (l ∷ lists) (suc i) list lt = ap (λ t. l ∷ t) (set_parts lists i list (omega arith))

lists_to_end : (lists : List (List ℕ)) (at : ℕ) → slice_range lists at (length lists) ≡ drop at lists
lists_to_end lists at = grind (arith, common_steps)

-- x is the number of the list, from 1
pub set_is : (lists : List (List ℕ)) (x : ℕ) (list : List ℕ) → 1 ≤ x → x ≤ length lists
    → (([] ++ slice_range lists 0 (x - 1)) ++ list ∷ []) ++ slice_range lists x (length lists) ≡ set lists (x - 1) list
set_is lists x list some le =
    let front : slice_range lists 0 (x - 1) ≡ take (x - 1) lists = ap (λ n. take n lists) (omega arith) in
    let next : x ≡ suc (x - 1) = omega arith in
    append_assoc (slice_range lists 0 (x - 1)) (list ∷ []) (slice_range lists x (length lists))
    ∙ ap (λ t. t ++ list ∷ slice_range lists x (length lists)) front
    ∙ ap (λ t. take (x - 1) lists ++ list ∷ t) (lists_to_end lists x ∙ ap (λ n. drop n lists) next)
    ∙ set_parts lists (x - 1) list (omega arith)

-- lists that are made of the old ones with one changed
pub lists_added : (old l0 l1 l2 l3 : RowList) (c x n : ℕ) (list : List ℕ) → 1 ≤ x → x ≤ length old.rows → n ≡ length old.rows → c ≡ old.columns
    → l0 ≡ (record { columns = c; rows = [] })
    → l1 ≡ (record { columns = l0.columns; rows = l0.rows ++ slice_range old.rows 0 (x - 1) })
    → l2 ≡ (record { columns = l1.columns; rows = l1.rows ++ list ∷ [] })
    → l3 ≡ (record { columns = l2.columns; rows = l2.rows ++ slice_range old.rows x n })
    → l3 ≡ record { columns = old.columns; rows = set old.rows (x - 1) list }
lists_added old l0 l1 l2 l3 c x n list some le whole same e0 e1 e2 e3 =
    e3
    ∙ ap (λ (m : RowList). record { columns = m.columns; rows = m.rows ++ slice_range old.rows x n })
    (e2 ∙ ap (λ (m : RowList). record { columns = m.columns; rows = m.rows ++ list ∷ [] })
    (e1 ∙ ap (λ (m : RowList). record { columns = m.columns; rows = m.rows ++ slice_range old.rows 0 (x - 1) }) e0))
    ∙ rw (whole, same, set_is old.rows x list some le) refl

to_end : (row : List ℕ) (at : ℕ) → slice_range row at (length row) ≡ drop at row
to_end row at = grind (arith, common_steps)

-- a list with one number more in its place, from its parts
pub parts_joined : (y place : ℕ) (row v0 v1 v2 v3 : List ℕ) → place ≡ below y row → v0 ≡ [] → v1 ≡ v0 ++ take place row → v2 ≡ v1 ++ y ∷ []
    → v3 ≡ v2 ++ slice_range row place (length row) → v3 ≡ with_number y row
parts_joined y place row v0 v1 v2 v3 at e0 e1 e2 e3 =
    e3
    ∙ ap (λ t. t ++ slice_range row place (length row)) (e2 ∙ ap (λ t. t ++ y ∷ []) (e1 ∙ ap (λ t. t ++ take place row) e0))
    ∙ append_assoc (take place row) (y ∷ []) (slice_range row place (length row))
    ∙ ap (λ t. take place row ++ y ∷ t) (to_end row place)
    ∙ ap (λ n. take n row ++ y ∷ drop n row) at
    ∙ sym (with_number_parts y row)

-- lists with one edge more
module _ (old new : RowList) (x y : ℕ) (is : new ≡ record { columns = old.columns; rows = set old.rows (x - 1) (with_number y (get_or old.rows (x - 1) [])) })
    (px : 1 ≤ x) (lx : x ≤ length old.rows) (py : 1 ≤ y) (ly : y ≤ old.columns) (fresh : has_edge old.rows x y ≡ false) where
  pub one_more : HasOneMore old.rows x y new.rows
  one_more a b some = ap (λ (m : RowList). has_edge m.rows a b) is ∙ edge_added x y old.rows px lx a b some

  pub same_columns : new.columns ≡ old.columns
  same_columns = ap (λ (m : RowList). m.columns) is

  pub same_count : length new.rows ≡ length old.rows
  same_count = ap (λ (m : RowList). length m.rows) is ∙ length-set old.rows (x - 1) (with_number y (get_or old.rows (x - 1) []))

  pub all_rows : All (IsRow old.columns) old.rows → All (IsRow new.columns) new.rows
  all_rows all = rw is (rows_added x y old.rows px lx old.columns all py ly fresh)

-- a graph with an edge both ways
module _ (old one new : RowList) (u v : ℕ) (first : one ≡ record { columns = old.columns; rows = set old.rows (u - 1) (with_number v (get_or old.rows (u - 1) [])) })
    (second : new ≡ record { columns = one.columns; rows = set one.rows (v - 1) (with_number u (get_or one.rows (v - 1) [])) })
    (g : IsGraph (record { vertices = old.columns; neighbours = old.rows })) (pu : 1 ≤ u) (lu : u ≤ old.columns) (pv : 1 ≤ v) (lv : v ≤ old.columns)
    (distinct : u ≢ v) (fresh : has_edge old.rows u v ≡ false) where
  one_way : HasOneMore old.rows u v one.rows
  one_way = one_more old one u v first pu (omega (arith, g.lists)) pv lv fresh

  fresh_back : has_edge one.rows v u ≡ false
  fresh_back =
      let apart : v ≢ u = λ e. distinct (sym e) in
      one_way v u pv ∙ rw (ne_eqb v u apart, g.symmetric v u pv pu, fresh) refl

  columns_one : one.columns ≡ old.columns
  columns_one = same_columns old one u v first pu (omega (arith, g.lists)) pv lv fresh

  count_one : length one.rows ≡ length old.rows
  count_one = same_count old one u v first pu (omega (arith, g.lists)) pv lv fresh

  columns_new : new.columns ≡ one.columns
  columns_new = same_columns one new v u second pv (omega (arith, g.lists, count_one)) pu (omega (arith, columns_one)) fresh_back

  count_new : length new.rows ≡ length one.rows
  count_new = same_count one new v u second pv (omega (arith, g.lists, count_one)) pu (omega (arith, columns_one)) fresh_back

  pub two_more : HasTwoMore old.rows u v new.rows
  two_more = two_edges old.rows one.rows new.rows u v one_way (one_more one new v u second pv (omega (arith, g.lists, count_one)) pu (omega (arith, columns_one)) fresh_back)

  pub graph_added : IsGraph (record { vertices = new.columns; neighbours = new.rows })
  graph_added =
      let all_one : All (IsRow one.columns) one.rows = all_rows old one u v first pu (omega (arith, g.lists)) pv lv fresh g.ascending in
      record {
        vertices = (omega (arith, columns_one, columns_new, g.vertices.0), omega (arith, columns_one, columns_new, g.vertices.1));
        lists = omega (arith, columns_one, columns_new, count_one, count_new, g.lists);
        ascending = all_rows one new v u second pv (omega (arith, g.lists, count_one)) pu (omega (arith, columns_one)) fresh_back all_one;
        symmetric = symmetric_added old.rows new.rows u v two_more g.symmetric;
        loopless = loopless_added old.rows new.rows u v two_more distinct g.loopless;
      }
