-- Lists of nodes that are read from either end.
use Rattle.std.proofs.Common.{◌≡◌, ℕ, ◌+◌, List, [], ◌∷◌, ◌++◌, reverse, refl, ap, ◌∙◌, arith, append_assoc}
use Rattle.std.proofs.lemmas.List.{reverse-append}
use Rattle.column_order.specs.Orders.{occurs}
use Rattle.column_order.proofs.Lists.{occurs-append}
use Rattle.arena_model.specs.ChildLists.{head_or, last_or}
use Rattle.arena_model.proofs.Lists.{head_or-append, reverse_cons}

pub occurs_reverse : (xs : List ℕ) (x : ℕ) → occurs (reverse xs) x ≡ occurs xs x
occurs_reverse [] x = refl
occurs_reverse (y ∷ ys) x =
    let a : occurs (reverse ys) x ≡ occurs ys x = occurs_reverse ys x in
    let b : occurs (reverse ys ++ y ∷ []) x ≡ occurs (reverse ys) x + occurs (y ∷ []) x = occurs-append (reverse ys) (y ∷ []) x in
    let e : occurs (reverse (y ∷ ys)) x ≡ occurs (reverse ys ++ y ∷ []) x = ap (λ z. occurs z x) (reverse_cons y ys) in
    let d : occurs (y ∷ ys) x ≡ occurs (y ∷ []) x + occurs ys x = occurs-append (y ∷ []) ys x in
    omega arith

pub head_reverse : (xs : List ℕ) (d : ℕ) → head_or (reverse xs) d ≡ last_or xs d
head_reverse [] d = refl
head_reverse (x ∷ xs) d = ap (λ z. head_or z d) (reverse_cons x xs) ∙ head_or-append (reverse xs) (x ∷ []) d ∙ head_reverse xs x

-- turned, what stood before x stands behind it
pub reverse_split : (us vs : List ℕ) (x : ℕ) → reverse (us ++ x ∷ vs) ≡ reverse vs ++ x ∷ reverse us
reverse_split us vs x =
    reverse-append us (x ∷ vs) ∙ ap (λ z. z ++ reverse us) (reverse_cons x vs) ∙ append_assoc (reverse vs) (x ∷ []) (reverse us)
