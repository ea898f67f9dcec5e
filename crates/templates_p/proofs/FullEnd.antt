-- P4 applied: what its steps ask for, from one to the next.
use Rattle.std.proofs.Common.{◌≡◌, ℕ, ◌+◌, ◌*◌, ◌≤◌, List, [], ◌∷◌, length, sym, ap, subst, ◌∙◌, arith}
use Rattle.column_order.specs.Orders.{occurs}
use Rattle.pq_tree.specs.Outline.{Forest}
use Rattle.arena_model.specs.declared.Shape.TheVariants.{P}
use Rattle.arena_model.specs.Layout.{Layout, children_at, IsLayout}
use Rattle.arena_model.specs.NamedTree.{outline_below}
use Rattle.arena_model.proofs.Lists.{occurs_here}
use Rattle.arena_model.proofs.Slots.{used_by}
use Rattle.bubble_pass.specs.declared.labels.Label.TheVariants.{Partial as Partly}
use Rattle.bubble_pass.specs.Marks.{Marks, label_at, size_of}
use Rattle.tree_theory.specs.Templates.{Partial, Label, IsSorted}
use Rattle.template_model.specs.Standing.{child_trees, AreMarkedAs, IsShapeAt, IsReady}
use Rattle.template_model.specs.Treated.{IsTreated}
use Rattle.templates_p.specs.Fits.{StandsP4}
use Rattle.templates_p.specs.Sorts.{partial_nodes}
use Rattle.templates_p.specs.Steps.{HasGroup, HasChildWith, CanGather}
use Rattle.templates_p.specs.Lines.{CanAbsorb}
use Rattle.templates_p.proofs.Sorting.{sorted_unique, sort, held_length, partials, not_full_partial}
use Rattle.templates_p.proofs.Becoming.{can_gather}
use Rattle.templates_p.proofs.Ending.{OnePartial, one_partial}
use Rattle.templates_p.proofs.Grouping.{first_marked}

-- some children have this label pattern, of which one is partial
pub partial_count : (f : Layout) (w : Marks) (n : ℕ) (ps : List Label) (es fs : Forest) (hs : List Partial) → AreMarkedAs f w n ps → IsSorted (child_trees f n) ps es fs hs →
    length (partial_nodes w (children_at f n)) ≡ length hs
partial_count f w n ps es fs hs m p =
    sym (held_length w (children_at f n) ps m) ∙ ap (λ zs. length zs) (sorted_unique (sort (outline_below f) w (children_at f n) ps m) p).2

pub partial_child : (f : Layout) (w : Marks) (n : ℕ) → IsLayout f → IsReady f w n → 1 ≤ length (partial_nodes w (children_at f n)) → HasChildWith f w n Partly n
partial_child f w n h r l = first_marked partials (λ q. cc) f w n h r l

pub p4_one : (f : Layout) (w : Marks) (n : ℕ) → StandsP4 f w n → length (partial_nodes w (children_at f n)) ≡ 1
p4_one f w n s = partial_count f w n s.0 s.3.1.1.es s.3.1.1.fs (s.3.1.1.h ∷ []) s.1 s.3.1.1.pattern

pub p4_can_gather : (f : Layout) (w : Marks) (n : ℕ) → IsReady f w n → StandsP4 f w n → CanGather f w n
p4_can_gather f w n r s = can_gather f w n r s.3.0 (let e : length (partial_nodes w (children_at f n)) ≡ 1 = p4_one f w n s in omega arith)

pub p4_shape : (f : Layout) (w : Marks) (n h : ℕ) → (s : StandsP4 f w n) → 1 ≤ occurs (children_at f n) h → label_at w h ≡ Partly →
    OnePartial f w n h s.3.1.1.es s.3.1.1.h s.3.1.1.fs
p4_shape f w n h s o l = one_partial f w n h s.0 s.3.1.1.es s.3.1.1.h s.3.1.1.fs s.1 s.2 s.3.1.1.pattern o l

-- the room stays
pub same_room : (f g : Layout) (v w : Marks) (n a : ℕ) → IsLayout f → IsLayout g → size_of v ≡ length f.slots → IsTreated f g v w n a → size_of w ≡ length g.slots
same_room f g v w n a lf lg r t =
    let a : size_of w ≡ size_of v = t.marks.room in
    let b : length f.slots ≡ 2 * f.columns + 4 = lf.size in
    let c : length g.slots ≡ 2 * g.columns + 4 = lg.size in
    let d : g.columns ≡ f.columns = t.arena.columns in omega arith

-- the line after the full children were gathered
pub line_shape : (f g : Layout) (v w : Marks) (n h y : ℕ) (es : Forest) (x : Partial) (fs : Forest) → OnePartial f v n h es x fs → HasGroup f v g w n y → IsShapeAt g w h x
line_shape f g v w n h y es x fs k grp =
    let o : 1 ≤ occurs (partial_nodes v (children_at f n)) h = subst (λ xs. 1 ≤ occurs xs h) (sym k.only) (occurs_here h []) in
    (grp.others h (omega arith)).shape x k.shape

pub can_absorb : (f g : Layout) (v w : Marks) (n h y : ℕ) (es : Forest) (x : Partial) (fs : Forest) → IsLayout f → IsLayout g → IsReady f v n → IsTreated f g v w n n →
    OnePartial f v n h es x fs → label_at v h ≡ Partly → HasGroup f v g w n y → CanAbsorb g w n h y
can_absorb f g v w n h y es x fs lf lg r t k l grp =
    let ks : List ℕ = children_at f n in
    let o : 1 ≤ occurs (partial_nodes v ks) h = subst (λ xs. 1 ≤ occurs xs h) (sym k.only) (occurs_here h []) in
    let label : label_at w h ≡ Partly = (grp.others h (omega arith)).label ∙ l in
    record {
      one = t.arena.one;
      two = t.arena.two;
      room = same_room f g v w n n lf lg r.room t;
      put = record {
        is_p = grp.shape;
        is_q = (line_shape f g v w n h y es x fs k grp).is_q;
        line = omega (arith, grp.children h);
        child = omega (arith, grp.children y, occurs_here y []);
        apart = λ e. not_full_partial (label_at w h) (ap (label_at w) e ∙ grp.label) label;
        above = t.arena.one n (used_by g n P grp.shape);
      };
      partial = label;
    }
