-- The nodes of an arena as two lists: what each holds of those beside and above it, and of those below it.
use Rattle.std.specs.Prelude.{if◌then◌else◌, ◌==◌, not, Bool, ◌||◌, ◌≢◌, ℕ, ◌+◌, ◌≤◌, cond, eqb, List, map, Option, Some, None, slice_index_or, length, set, ◌-◌, ◌<◌}
use Rattle.arena_model.specs.declared.TheConstants.{NODE_BOUND}
use Rattle.arena_model.specs.declared.Shape.{Shape}
use Rattle.arena_model.specs.declared.Shape.TheVariants.{Leaf, P, Q}
use Rattle.pq_arena.specs.declared.node.NodeKind.{NodeKind}
use Rattle.pq_arena.specs.declared.node.NodeKind.TheVariants.{Spare, Column, Permuted, Directed}
use Rattle.pq_arena.specs.declared.node.Link.{Link}
use Rattle.pq_arena.specs.declared.node.Head.{Head}
use Rattle.pq_arena.specs.declared.node.Node.{Node}
use Rattle.arena_model.specs.ChildLists.{none, end_parent}

-- the link with this parent and these neighbours
abbrev pub seat : ℕ → ℕ → ℕ → Link
seat parent near0 near1 = record { parent = parent; near0 = near0; near1 = near1 }

-- the link of a node that has no parent and no neighbour
abbrev pub no_link : Link
no_link = record { parent = none; near0 = none; near1 = none }

-- how a shape is stored, and none in a spare node
abbrev pub kind_of : Option Shape → NodeKind
kind_of None = Spare
kind_of (Some (Leaf a)) = Column a
kind_of (Some P) = Permuted
kind_of (Some Q) = Directed

-- the shape that is stored
abbrev pub kind_shape : NodeKind → Option Shape
kind_shape Spare = None
kind_shape (Column a) = Some (Leaf a)
kind_shape Permuted = Some P
kind_shape Directed = Some Q

-- the head of a spare node before the spare node `next`
abbrev pub spare_head : ℕ → Head
spare_head next = record { kind = Spare; first = next; last = none; count = 0 }

-- the head of a node of this shape without children
abbrev pub fresh_head : Shape → Head
fresh_head s = record { kind = kind_of (Some s); first = none; last = none; count = 0 }

-- the head that stands past the last node
abbrev pub no_head : Head
no_head = spare_head none

-- what the nodes hold of those above and beside them
abbrev pub links : List Node → List Link
links nodes = map (λ n. n.link) nodes

-- what the nodes hold of themselves and their children
abbrev pub heads : List Node → List Head
heads nodes = map (λ n. n.head) nodes

-- the link of node x
abbrev pub link : List Link → ℕ → Link
link ls x = slice_index_or ls x no_link

-- the head of node x
abbrev pub head : List Head → ℕ → Head
head hs x = slice_index_or hs x no_head

-- x has this first neighbour
abbrev pub with_near0 : List Link → ℕ → ℕ → List Link
with_near0 ls x to = set ls x (record (link ls x) { near0 = to })

-- x has this second neighbour
abbrev pub with_near1 : List Link → ℕ → ℕ → List Link
with_near1 ls x to = set ls x (record (link ls x) { near1 = to })

-- the side of x that showed `from` shows `to`
abbrev pub redirected : Link → ℕ → ℕ → Link
redirected l from to = record l { near0 = cond (eqb l.near0 from) to l.near0; near1 = cond (eqb l.near0 from) l.near1 to }

-- so in the list of all links
abbrev pub relinked : List Link → ℕ → ℕ → ℕ → List Link
relinked ls x from to = set ls x (redirected (link ls x) from to)

-- n leaves its ring
abbrev pub unringed : List Link → ℕ → List Link
unringed ls n =
    let l = link ls n in
    set (with_near1 (with_near0 ls l.near1 l.near0) l.near0 l.near1) n no_link

-- the node above has a child less, after the child n with the link l has left
abbrev pub fewer : List Head → Link → ℕ → List Head
fewer hs l n =
    let h = head hs l.parent in
    set hs l.parent (record h {
      first = cond (eqb h.count 1) none (cond (eqb h.first n) l.near0 h.first);
      count = h.count - 1;
    })

-- n enters the ring of p at its front
abbrev pub ringed : List Link → Head → ℕ → ℕ → List Link
ringed ls h p n =
    cond (eqb h.count 0)
    (set ls n (seat p n n))
    (let back = (link ls h.first).near1 in
    set (with_near1 (with_near0 ls back n) h.first n) n (seat p h.first back))

-- p has n as its first child, and a child more
abbrev pub more : List Head → ℕ → ℕ → List Head
more hs p n = let h = head hs p in set hs p (record h { first = n; count = h.count + 1 })

-- what detach reads and writes is there
pub record RingBounds (ls : List Link) (hs : List Head) (n : ℕ) : Type 0 where
  pub n_in : n < length ls
  pub parent_in : (link ls n).parent < length ls
  pub near0_in : (link ls n).near0 < length ls
  pub near1_in : (link ls n).near1 < length ls
  pub some : 1 ≤ (head hs (link ls n).parent).count

-- what attach reads and writes is there
pub record CanEnter (ls : List Link) (hs : List Head) (p n : ℕ) : Type 0 where
  pub n_in : n < length ls
  pub p_in : p < length ls
  pub first_in : 1 ≤ (head hs p).count → (head hs p).first < length ls
  pub back_in : 1 ≤ (head hs p).count → (link ls (head hs p).first).near1 < length ls
  pub few : (head hs p).count < NODE_BOUND

-- so where x is a node
abbrev pub relinked_if : List Link → ℕ → ℕ → ℕ → List Link
relinked_if ls x from to = cond (eqb x none) ls (relinked ls x from to)

-- e stands beside n, where child stood, and holds q where n is no node
abbrev pub joined : List Link → ℕ → ℕ → ℕ → ℕ → List Link
joined ls n child e q =
    let one = relinked_if ls n child e in
    set one e (record (redirected (link one e) none n) { parent = cond (eqb n none) q none })

-- the children of child, from e to g, stand between n and far, and child has no link
abbrev pub spliced_links : List Link → ℕ → ℕ → ℕ → ℕ → ℕ → ℕ → List Link
spliced_links ls child n far e g q = set (joined (joined ls n child e q) far child g q) child no_link

-- the ends of q, where it is known
abbrev pub spliced_heads : List Head → ℕ → ℕ → ℕ → ℕ → ℕ → List Head
spliced_heads hs q child n e g =
    cond (eqb q none) hs
    (let h = head hs q in
    set hs q (record h {
      first = cond (eqb h.first child) (cond (eqb n none) e g) h.first;
      last = cond (eqb h.last child) (cond (eqb h.first child) g (cond (eqb n none) e g)) h.last;
    }))

-- x is the number of no node, or one of the first n numbers
abbrev pub IsNone : ℕ → ℕ → Type 0
IsNone n x = x ≢ none → x < n

-- what splice reads and writes is there
pub record CanSplice (ls : List Link) (hs : List Head) (child n far e g q : ℕ) : Type 0 where
  pub child_in : child < length ls
  pub n_in : IsNone (length ls) n
  pub far_in : IsNone (length ls) far
  pub e_in : e < length ls
  pub g_in : g < length ls
  pub q_in : IsNone (length ls) q

-- the end child at the end 0 or 1
abbrev pub fore : Head → ℕ → ℕ
fore h first = cond (eqb first 0) h.first h.last

-- the end child at the other end
abbrev pub aft : Head → ℕ → ℕ
aft h first = cond (eqb first 0) h.last h.first

-- new has the place of old among its neighbours
abbrev pub moved_to : List Link → ℕ → ℕ → List Link
moved_to ls old new =
    let l = link ls old in
    relinked_if (relinked_if ls l.near0 old new) l.near1 old new

-- new has the place and the link of old, which has no link
abbrev pub swapped : List Link → ℕ → ℕ → List Link
swapped ls old new = let two = moved_to ls old new in set (set two new (link two old)) old no_link

-- new is an end child where old was one
abbrev pub end_swapped : Head → ℕ → ℕ → Head
end_swapped h old new = record h { first = cond (eqb h.first old) new h.first; last = cond (eqb h.last old) new h.last }

-- so at the node k, where k is a node
abbrev pub heads_swapped : List Head → ℕ → ℕ → ℕ → List Head
heads_swapped hs k old new = cond (eqb k none) hs (set hs k (end_swapped (head hs k) old new))

-- what replace reads and writes is there
pub record CanSwap (ls : List Link) (hs : List Head) (old new : ℕ) : Type 0 where
  pub old_in : old < length ls
  pub new_in : new < length ls
  pub near0_in : IsNone (length ls) (link ls old).near0
  pub near1_in : IsNone (length ls) (link ls old).near1
  pub parent_in : IsNone (length ls) (link ls old).parent

-- n stands beside the former end child of the Q-node q, which holds q only where it is the other end too
abbrev pub beside_end : List Link → ℕ → ℕ → ℕ → List Link
beside_end ls former q n =
    if former == none then ls
    else (let l : Link = redirected (link ls former) none n in set ls former (record l { parent = end_parent q l.near0 l.near1 }))

-- n is an end child of the Q-node q, beside the former one
abbrev pub extended : List Link → ℕ → ℕ → ℕ → List Link
extended ls former q n = set (beside_end ls former q n) n (seat q none former)

-- the child at an end after n has come: n where it came to this end, or where there was no child
abbrev pub new_end : Bool → ℕ → ℕ → ℕ
new_end here former n = if here || former == none then n else former

-- the ends of a run after n has come to its end 0 or 1
abbrev pub extended_ends : Head → ℕ → ℕ → Head
extended_ends h end n = record h { first = new_end (end == 0) h.first n; last = new_end (not (end == 0)) h.last n }

-- what put_end reads and writes is there
pub record CanExtend (ls : List Link) (hs : List Head) (q end n : ℕ) : Type 0 where
  pub q_in : q < length ls
  pub n_in : n < length ls
  pub former_in : IsNone (length ls) (fore (head hs q) end)
