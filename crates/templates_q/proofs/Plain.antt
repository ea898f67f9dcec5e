-- A Q-node without a partial child, where Q2 and Q3 change nothing.
use Rattle.std.proofs.Common.{◌≡◌, ◌≢◌, ℕ, ◌≤◌, List, [], ◌∷◌, ◌++◌, refl, subst, ◌∙◌, arith}
use Rattle.column_order.specs.Orders.{occurs}
use Rattle.column_order.proofs.Lists.{occurs-append}
use Rattle.arena_model.specs.Layout.{Layout, children_at}
use Rattle.arena_model.proofs.Lists.{occurs_here}
use Rattle.bubble_pass.specs.declared.labels.Label.{Label as Mark}
use Rattle.bubble_pass.specs.declared.labels.Label.TheVariants.{Empty, Partial as Partly, Full}
use Rattle.bubble_pass.specs.Marks.{Marks, label_at, partials_at}
use Rattle.bubble_pass.specs.Pass.{IsRightAt}
use Rattle.bubble_pass.specs.Sweep.{partial_one}
use Rattle.templates_q.specs.declared.walk.ChildGap.{ChildGap}
use Rattle.templates_q.specs.declared.stretch.PassedSpan.{PassedSpan}
use Rattle.templates_q.specs.Walk.{AreAll}
use Rattle.templates_q.specs.Span.{HasNoPartial, IsStretch}
use Rattle.templates_q.specs.Opening.{AreOpened, IsOpenedAt}
use Rattle.templates_q.proofs.Lines.{partials_in, partials_cons}
use Rattle.templates_q.proofs.Opening.{front_place}
use Rattle.templates_q.proofs.Walks.{children_occur}

not_counted : (m : Mark) → m ≢ Partly → partial_one m ≡ 0
not_counted Empty ne = refl
not_counted Partly ne = absurd (ne refl)
not_counted Full ne = refl

none_counted_in : (w : Marks) (ks : List ℕ) → ((k : ℕ) → 1 ≤ occurs ks k → label_at w k ≢ Partly) → partials_in w ks ≡ 0
none_counted_in w [] plain = refl
none_counted_in w (x ∷ xs) plain =
    let a : partial_one (label_at w x) ≡ 0 = not_counted (label_at w x) (plain x (occurs_here x xs)) in
    let b : partials_in w xs ≡ 0 = none_counted_in w xs (λ k o. plain k (omega arith)) in
    omega (arith, partials_cons w x xs)

-- its count of partial children is none
pub plain_count : (f : Layout) (w : Marks) (n : ℕ) → IsRightAt f w n → HasNoPartial f w n → partials_at w n ≡ 0
plain_count f w n r plain = r.partial ∙ none_counted_in w (children_at f n) plain

none_of : (w : Marks) (xs : List ℕ) → AreAll Partly w xs → ((k : ℕ) → 1 ≤ occurs xs k → label_at w k ≢ Partly) → xs ≡ []
none_of w [] a plain = refl
none_of w (x ∷ xs) a plain = absurd (plain x (occurs_here x xs) a.0)

none_opened : (f g : Layout) (w : Marks) (q : ℕ) (from : ChildGap) (xs : List ℕ) → IsOpenedAt f g w q from xs → xs ≡ [] → g ≡ f
none_opened f g w q from xs o e = subst (λ z. IsOpenedAt f g w q from z) e o

-- nothing is opened at either end of its labelled children
pub plain_unopened : (f e : Layout) (w : Marks) (q : ℕ) (s : PassedSpan) (r : IsStretch f w q s) → HasNoPartial f w q → AreOpened f e w q s r → e ≡ f
plain_unopened f e w q s r plain a =
    let p = r.passed in
    let ks = p.ps ++ (p.fs ++ (p.ls ++ p.rest)) in
    let in_line : (k : ℕ) → 1 ≤ occurs (r.us ++ ks) k → label_at w k ≢ Partly = λ k o. plain k (omega (arith, children_occur f q (r.us ++ ks) k (front_place f w q s r).children)) in
    none_opened a.g e w q _ p.ls a.last (none_of w p.ls p.last (λ k o. in_line k (omega (arith, occurs-append r.us ks k, occurs-append p.ps (p.fs ++ (p.ls ++ p.rest)) k, occurs-append p.fs (p.ls ++ p.rest) k, occurs-append p.ls p.rest k))))
    ∙ none_opened f a.g w q _ p.ps a.first (none_of w p.ps p.first (λ k o. in_line k (omega (arith, occurs-append r.us ks k, occurs-append p.ps (p.fs ++ (p.ls ++ p.rest)) k))))
