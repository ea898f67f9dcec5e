-- Search forests: what one more node leaves, and what the end of the search shows.
use Rattle.std.proofs.Common.{◌≡◌, ◌∙◌, ℕ, ◌<◌, ◌≤◌, Bool, true, false, not, List, [], ◌∷◌, ◌++◌, length, take, slice_get, Option, Some, None, refl, sym, ap, subst, inl, inr, arith}
use Rattle.std.proofs.lemmas.Bool.{cases_lt}
use Rattle.std.proofs.lemmas.List.{append-nil, append_assoc, length-append, take-append-le}
use Rattle.std.proofs.lemmas.Option.{same_Some, slice_get_within}
use Rattle.row_model.specs.declared.graph.Pair.{Pair}
use Rattle.row_model.specs.declared.graph.Why.{Why}
use Rattle.row_model.specs.declared.graph.Line.{Line}
use Rattle.row_model.specs.Graph.{JoinedBy}
use Rattle.row_model.proofs.CycleLaws.{joined_by_sym}
use Rattle.walk_search.specs.declared.forest.Node.{Node}
use Rattle.walk_search.specs.declared.forest.Forest.{Forest}
use Rattle.odd_cycle.specs.Numbers.{Numbering, IsIndexed}
use Rattle.odd_cycle.specs.Marks.{Marking}
use Rattle.walk_search.specs.Search.{pair_of_node, IsReached, Adds, Reaches, IsTree, AreJoined, IsSettled, IsForest, ShowsConflict, Grows, IsJoinedFrom, HasGrown, KeepsNodes, HasStepped}
use Rattle.odd_cycle.proofs.Items.{item_pushed, item_last, item_append, item_taken, item_take, item_at}
use Rattle.odd_cycle.proofs.NumberLaws.{indexed_same}

not_not : (b : Bool) → not (not b) ≡ b
not_not true = refl
not_not false = refl

-- two that differ from one are equal
pub same_not : (a b d : Bool) → a ≡ not b → d ≡ not b → a ≡ d
same_not a b d e f = e ∙ sym f

-- what is reached stays reached
pub reached_append : (nodes more : List Node) (v : Pair) (odd : Bool) → IsReached nodes v odd → IsReached (nodes ++ more) v odd
reached_append nodes more v odd h =
    record { index = h.index; node = h.node; there = item_append nodes more h.index h.node h.there; pair = h.pair; parity = h.parity }

pub reached_grown : (marks marks' : Marking) (nodes nodes' : List Node) (v : Pair) (odd : Bool) → Grows marks marks' nodes nodes' → IsReached nodes v odd → IsReached nodes' v odd
reached_grown marks marks' nodes nodes' v odd g h = subst (λ ns. IsReached ns v odd) (sym g.appended) (reached_append nodes g.more v odd h)

pub reached_node : (nodes : List Node) (i : ℕ) (node : Node) → slice_get nodes i ≡ Some node → IsReached nodes node.pair node.odd
reached_node nodes i node e = record { index = i; node = node; there = e; pair = refl; parity = refl }

-- a pair is reached in one way
pub reached_once : (t : Numbering) (nodes : List Node) (v : Pair) (x y : Bool) → IsIndexed pair_of_node t nodes → IsReached nodes v x → IsReached nodes v y → x ≡ y
reached_once t nodes v x y h p q =
    let i : p.index ≡ q.index = indexed_same pair_of_node t nodes p.index q.index p.node q.node h p.there q.there (p.pair ∙ sym q.pair) in
    let same : p.node ≡ q.node = same_Some p.node q.node (sym p.there ∙ ap (slice_get nodes) i ∙ q.there) in
    sym p.parity ∙ ap (λ (n : Node). n.odd) same ∙ q.parity

pub grows_refl : (marks : Marking) (nodes : List Node) → Grows marks marks nodes nodes
grows_refl marks nodes = record { rows = refl; columns = refl; stay = λ k p h. h; more = []; appended = sym (append-nil nodes) }

pub grows_trans : (marks marks' marks'' : Marking) (nodes nodes' nodes'' : List Node) → Grows marks marks' nodes nodes' → Grows marks' marks'' nodes' nodes'' → Grows marks marks'' nodes nodes''
grows_trans marks marks' marks'' nodes nodes' nodes'' g h =
    record {
      rows = h.rows ∙ g.rows;
      columns = h.columns ∙ g.columns;
      stay = λ k p m. h.stay k p (g.stay k p m);
      more = g.more ++ h.more;
      appended = h.appended ∙ ap (λ ns. ns ++ h.more) g.appended ∙ append_assoc nodes g.more h.more;
    }

pub grown_item : (marks marks' : Marking) (nodes nodes' : List Node) (i : ℕ) (node : Node) → Grows marks marks' nodes nodes' → slice_get nodes i ≡ Some node → slice_get nodes' i ≡ Some node
grown_item marks marks' nodes nodes' i node g e = subst (λ ns. slice_get ns i ≡ Some node) (sym g.appended) (item_append nodes g.more i node e)

pub grown_long : (marks marks' : Marking) (nodes nodes' : List Node) → Grows marks marks' nodes nodes' → length nodes ≤ length nodes'
grown_long marks marks' nodes nodes' g = omega (arith, ap length g.appended, length-append nodes g.more)

-- an earlier tree has no pair that is joined to one of the last
pub in_last_tree : (c : ℕ) (rows : List (List ℕ)) (f : Forest) (i j : ℕ) (x y : Node) (why : Why) → IsForest c rows f → slice_get f.nodes.items i ≡ Some x → slice_get f.nodes.items j ≡ Some y →
    f.root ≤ i → JoinedBy c rows x.pair y.pair why → f.root ≤ j
in_last_tree c rows f i j x y why h e g l joined =
    elim (cases_lt j f.root) [
      | inr k ↦ k
      | inl k ↦
          let nodes = f.nodes.items in
          let old : IsReached (take f.root nodes) y.pair y.odd = reached_node (take f.root nodes) j y (item_take f.root nodes j y k g) in
          let back = h.settled y.pair x.pair y.odd old (why, joined_by_sym c rows x.pair y.pair why joined) in
          let t = item_taken f.root nodes back.index back.node back.there in
          absurd (omega (arith, t.0, indexed_same pair_of_node f.numbers nodes i back.index x back.node h.indexed e t.1 (sym back.pair)))
    ]

module _ (c : ℕ) (rows : List (List ℕ)) (f g : Forest) (from : ℕ) (parent node : Node) (h : IsForest c rows f) (there : slice_get f.nodes.items from ≡ Some parent) (within : f.root ≤ from)
    (child : node.parent ≡ from) (odd : node.odd ≡ not parent.odd) (joined : JoinedBy c rows node.pair parent.pair node.why) where
  -- one more node with its parent
  added : Adds f g node → IsForest c rows g
  added a =
      let old = f.nodes.items in
      let lt : from < length old = slice_get_within old from parent there in
      let parents : (i : ℕ) (n : Node) → slice_get (old ++ node ∷ []) i ≡ Some n → f.root < i → (f.root ≤ n.parent) × (n.parent < i) = λ i n e l. elim (item_pushed old node i n e) [
        | inl t ↦ h.tree.parents i n t l
        | inr t ↦ (let k : n.parent ≡ from = ap (λ (x : Node). x.parent) (sym t.1) ∙ child in (omega (arith, k), omega (arith, k, t.0)))
      ] in
      let above : (i : ℕ) (n p : Node) → slice_get old i ≡ Some n → f.root < i → slice_get (old ++ node ∷ []) n.parent ≡ Some p → slice_get old n.parent ≡ Some p = λ i n p t l q.
      let lt = (h.tree.parents i n t l).1 in
      elim (item_pushed old node n.parent p q) [ inl u ↦ u | inr u ↦ absurd (omega (arith, u.0, slice_get_within old i n t)) ] in
      let last : (i : ℕ) (n p : Node) → i ≡ length old → node ≡ n → slice_get (old ++ node ∷ []) n.parent ≡ Some p → p ≡ parent = λ i n p t u q.
      let k : n.parent ≡ from = ap (λ (x : Node). x.parent) (sym u) ∙ child in
      same_Some p parent (sym q ∙ ap (slice_get (old ++ node ∷ [])) k ∙ item_append old (node ∷ []) from parent there) in
      let parities : (i : ℕ) (n p : Node) → slice_get (old ++ node ∷ []) i ≡ Some n → f.root < i → slice_get (old ++ node ∷ []) n.parent ≡ Some p → n.odd ≡ not p.odd = λ i n p e l q. elim (item_pushed old node i n e) [
        | inl t ↦ h.tree.parities i n p t l (above i n p t l q)
        | inr t ↦ ap (λ (x : Node). x.odd) (sym t.1) ∙ odd ∙ ap (λ (x : Node). not x.odd) (sym (last i n p t.0 t.1 q))
      ] in
      let joins : AreJoined c rows f.root (old ++ node ∷ []) = λ i n p e l q. elim (item_pushed old node i n e) [
        | inl t ↦ h.joined i n p t l (above i n p t l q)
        | inr t ↦ subst (λ (x : Node). JoinedBy c rows x.pair p.pair x.why) t.1 (subst (λ (x : Node). JoinedBy c rows node.pair x.pair node.why) (sym (last i n p t.0 t.1 q)) joined)
      ] in
      record {
        columns = a.columns ∙ h.columns;
        indexed = a.indexed;
        within = omega (arith, a.root, ap length a.nodes, length-append old (node ∷ []), h.within);
        settled = subst (IsSettled c rows) (sym (ap (take g.root) a.nodes ∙ ap (λ n. take n (old ++ node ∷ [])) a.root ∙ take-append-le f.root old (node ∷ []) h.within)) h.settled;
        tree = subst (λ ns. IsTree g.root ns) (sym a.nodes) (subst (λ r. IsTree r (old ++ node ∷ [])) (sym a.root) (record { parents = parents; parities = parities }));
        joined = subst (λ ns. AreJoined c rows g.root ns) (sym a.nodes) (subst (λ r. AreJoined c rows r (old ++ node ∷ [])) (sym a.root) joins);
      }

  -- the node's pair is reached as the node says
  pub reach_none : Reaches f g node None → IsForest c rows g × (g.root ≡ f.root) × ((more : List Node) × (g.nodes.items ≡ f.nodes.items ++ more)) × IsReached g.nodes.items node.pair node.odd
  reach_none (inl a) =
      (added a, a.root, (node ∷ [], a.nodes), subst (λ ns. IsReached ns node.pair node.odd) (sym a.nodes) (reached_node (f.nodes.items ++ node ∷ []) (length f.nodes.items) node (item_last f.nodes.items node)))
  reach_none (inr a) =
      let nodes : g.nodes.items ≡ f.nodes.items = ap (λ (x : Forest). x.nodes.items) a.0 in
      (subst (IsForest c rows) (sym a.0) h, ap (λ (x : Forest). x.root) a.0, ([], nodes ∙ sym (append-nil f.nodes.items)), subst (λ ns. IsReached ns node.pair node.odd) (sym nodes) a.1)

  -- or its pair is reached the other way
  pub reach_some : (to : ℕ) → Reaches f g node (Some to) → ShowsConflict c rows g (record { from = from; to = to; why = node.why })
  reach_some to a =
      let other = a.1 in
      let j : JoinedBy c rows parent.pair other.pair node.why = subst (λ v. JoinedBy c rows parent.pair v node.why) (sym a.3) (joined_by_sym c rows node.pair parent.pair node.why joined) in
      let shows : ShowsConflict c rows f (record { from = from; to = to; why = node.why }) = record {
        is_forest = h;
        is_conflict = record {
          ends = record {
            from = parent;
            to = other;
            from_there = there;
            to_there = a.2;
            from_in = within;
            to_in = in_last_tree c rows f from to parent other node.why h there a.2 within j;
            alike = sym (not_not parent.odd) ∙ ap not (sym odd) ∙ sym a.4;
          };
          joined = j;
        };
      } in
      subst (λ (x : Forest). ShowsConflict c rows x (record { from = from; to = to; why = node.why })) (sym a.0) shows

same_kept : (f g : Forest) → IsIndexed pair_of_node f.numbers f.nodes.items → g ≡ f → KeepsNodes f g
same_kept f g h e = subst (KeepsNodes f) (sym e) (record { columns = refl; indexed = h; long = omega arith })

-- a forest that stays, or has one more node
pub reach_kept : (f g : Forest) (node : Node) (o : Option ℕ) → IsIndexed pair_of_node f.numbers f.nodes.items → Reaches f g node o → KeepsNodes f g
reach_kept f g node None h (inl a) =
    record { columns = a.columns; indexed = a.indexed; long = omega (arith, ap length a.nodes, length-append f.nodes.items (node ∷ [])) }
reach_kept f g node None h (inr a) = same_kept f g h a.0
reach_kept f g node (Some to) h a = same_kept f g h a.0

-- the node of the line's pair
abbrev pub line_node : Line → ℕ → Node → Node
line_node line from parent = record { pair = line.pair; parent = from; why = line.why; odd = not parent.odd }

module _ (f g : Forest) (from : ℕ) (line : Line) (parent : Node) (there : slice_get f.nodes.items from ≡ Some parent) (c : ℕ) (rows : List (List ℕ)) (h : IsForest c rows f) (within : f.root ≤ from)
    (joined : IsJoinedFrom c rows f from line) where
  pub stepped_none : Reaches f g (line_node line from parent) None → HasStepped c rows f g from line.pair
  stepped_none a =
      let r = reach_none c rows f g from parent (line_node line from parent) h there within refl refl (joined parent there) a in
      record {
        grown = record { is_forest = r.0; root = r.1; more = r.2.0; appended = r.2.1 };
        reached = λ other e. subst (λ (x : Node). IsReached g.nodes.items line.pair (not x.odd)) (same_Some parent other (sym there ∙ e)) r.3;
      }

  pub stepped_some : (to : ℕ) → Reaches f g (line_node line from parent) (Some to) → ShowsConflict c rows g (record { from = from; to = to; why = line.why })
  stepped_some to a = reach_some c rows f g from parent (line_node line from parent) h there within refl refl (joined parent there) to a

-- a node of a forest that grows is a node of the grown one
pub grown_there : (c : ℕ) (rows : List (List ℕ)) (f g : Forest) (i : ℕ) (node : Node) → HasGrown c rows f g → slice_get f.nodes.items i ≡ Some node → slice_get g.nodes.items i ≡ Some node
grown_there c rows f g i node h e = subst (λ ns. slice_get ns i ≡ Some node) (sym h.appended) (item_append f.nodes.items h.more i node e)

-- a node of the grown forest at an old place is the old one
pub grown_old : (c : ℕ) (rows : List (List ℕ)) (f g : Forest) (i : ℕ) (node : Node) → HasGrown c rows f g → i < length f.nodes.items → slice_get g.nodes.items i ≡ Some node → slice_get f.nodes.items i ≡ Some node
grown_old c rows f g i node h l e =
    let was = item_at f.nodes.items i l in
    was.1 ∙ ap Some (same_Some was.0 node (sym (grown_there c rows f g i was.0 h was.1) ∙ e))

pub grown_reached : (c : ℕ) (rows : List (List ℕ)) (f g : Forest) (v : Pair) (odd : Bool) → HasGrown c rows f g → IsReached f.nodes.items v odd → IsReached g.nodes.items v odd
grown_reached c rows f g v odd h r = subst (λ ns. IsReached ns v odd) (sym h.appended) (reached_append f.nodes.items h.more v odd r)

pub grown_refl : (c : ℕ) (rows : List (List ℕ)) (f : Forest) → IsForest c rows f → HasGrown c rows f f
grown_refl c rows f h = record { is_forest = h; root = refl; more = []; appended = sym (append-nil f.nodes.items) }

pub grown_trans : (c : ℕ) (rows : List (List ℕ)) (f g k : Forest) → HasGrown c rows f g → HasGrown c rows g k → HasGrown c rows f k
grown_trans c rows f g k x y =
    record {
      is_forest = y.is_forest;
      root = y.root ∙ x.root;
      more = x.more ++ y.more;
      appended = y.appended ∙ ap (λ ns. ns ++ y.more) x.appended ∙ append_assoc f.nodes.items x.more y.more;
    }

pub kept_trans : (f g k : Forest) → KeepsNodes f g → KeepsNodes g k → KeepsNodes f k
kept_trans f g k x y = record { columns = y.columns ∙ x.columns; indexed = y.indexed; long = omega (arith, x.long, y.long) }
