-- Templates that can't stand where no child is partial, and where all children of a P-node are full.
use Rattle.std.proofs.Common.{◌≡◌, ℕ, Bool, [], ◌∷◌, Some}
use Rattle.pq_tree.specs.Outline.{tree_and, no_tree}
use Rattle.arena_model.specs.declared.Shape.TheVariants.{P}
use Rattle.arena_model.specs.Layout.{Layout, shape_at, children_at}
use Rattle.bubble_pass.specs.declared.labels.Label.TheVariants.{Full}
use Rattle.bubble_pass.specs.Marks.{Marks, label_at}
use Rattle.row_reduce.specs.declared.template.Template.{Template}
use Rattle.row_reduce.specs.declared.template.Template.TheVariants.{L1, P1, P2, P3, P4, P5, P6, Q1, Q2, Q3}
use Rattle.row_reduce.specs.Becomes.{Stands, CanApply}
use Rattle.row_reduce.specs.Still.{IsStill}
use Rattle.row_reduce.proofs.Marking.{AreMarked, marked_as, none_empty}

-- the template is none that changes a P-node
abbrev pub IsQuiet : Template → Type 0
IsQuiet L1 = Unit {0}
IsQuiet P1 = Unit {0}
IsQuiet P2 = ⊥
IsQuiet P3 = ⊥
IsQuiet P4 = ⊥
IsQuiet P5 = ⊥
IsQuiet P6 = ⊥
IsQuiet Q1 = Unit {0}
IsQuiet Q2 = Unit {0}
IsQuiet Q3 = Unit {0}

all_marked : {t : Template} {f : Layout} {v : Marks} {n : ℕ} {root : Bool} (s : Stands t f v n root) → IsStill f v n → shape_at f n ≡ Some P → AreMarked Full s.ps
all_marked {f = f} {v = v} {n = n} s still e = marked_as (label_at v) Full (children_at f n) s.ps s.marked (still.whole e)

quiet : (t : Template) {f : Layout} {v : Marks} {n : ℕ} {root : Bool} → Stands t f v n root → IsStill f v n → IsQuiet t
quiet L1 s still = tt
quiet P1 s still = tt
quiet P2 s still = let z : tree_and _ _ ≡ no_tree = (none_empty s.fits.1.1.pattern (all_marked s still s.fits.0)).0 in absurd (cc)
quiet P3 s still = let z : tree_and _ _ ≡ no_tree = (none_empty s.fits.1.1.pattern (all_marked s still s.fits.0)).0 in absurd (cc)
quiet P4 s still = let z : _ ∷ [] ≡ [] = (none_empty s.fits.1.1.pattern (all_marked s still s.fits.0)).1 in absurd (cc)
quiet P5 s still = let z : _ ∷ [] ≡ [] = (none_empty s.fits.1.1.pattern (all_marked s still s.fits.0)).1 in absurd (cc)
quiet P6 s still = let z : _ ∷ (_ ∷ []) ≡ [] = (none_empty s.fits.1.1.pattern (all_marked s still s.fits.0)).1 in absurd (cc)
quiet Q1 s still = tt
quiet Q2 s still = tt
quiet Q3 s still = tt

pub is_quiet : {t : Template} {f : Layout} {v : Marks} {n : ℕ} → CanApply t f v n → IsStill f v n → IsQuiet t
is_quiet {t = t} c still = quiet t c.stands still
