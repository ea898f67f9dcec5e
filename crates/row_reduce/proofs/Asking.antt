-- How many patterns are asked.
use Rattle.std.proofs.Common.{◌≡◌, zero, suc, ◌<◌, List, length, set, refl, sym, ap, subst, ◌∙◌, ℕ, ◌+◌, ◌*◌, ◌≤◌, Option, Some, arith}
use Rattle.std.proofs.lemmas.List.{get_or-set_same, get_or-set_other}
use Rattle.arena_model.specs.Layout.{Layout, shape_at}
use Rattle.bubble_pass.specs.Marks.{Marks}
use Rattle.bubble_pass.specs.Pass.{node_in}
use Rattle.row_reduce.specs.declared.template.Template.{Template}
use Rattle.row_reduce.specs.declared.template.Template.TheVariants.{L1}
use Rattle.row_reduce.specs.Asked.{asked}
use Rattle.row_reduce.specs.Decided.{template_in, labelled_at, asking}

-- a template written behind the first n nodes leaves what was asked there
asking_kept : (f : Layout) (v : Marks) (ts : List Template) (i : ℕ) (t : Template) (n : ℕ) → n ≤ i → asking f v (set ts i t) n ≡ asking f v ts n
unfolding asking
asking_kept f v ts i t zero l = refl
asking_kept f v ts i t (suc n) l =
    ap (λ z. asking f v (set ts i t) n + (1 + 4 * asked (shape_at f (node_in v n)) (Some z) * (labelled_at v (node_in v n) + 1))) (get_or-set_other ts i n t L1 (omega arith))
    ∙ ap (λ z. z + (1 + 4 * asked (shape_at f (node_in v n)) (Some (template_in ts n)) * (labelled_at v (node_in v n) + 1))) (asking_kept f v ts i t n (omega arith))

asking_next : (f : Layout) (v : Marks) (ts : List Template) (i : ℕ) (t : Template) (start before after : ℕ) → i < length ts → before ≤ start + asking f v ts i →
    after ≤ before + 1 + 4 * asked (shape_at f (node_in v i)) (Some t) * (labelled_at v (node_in v i) + 1) → after ≤ start + asking f v (set ts i t) (suc i)
unfolding asking
asking_next f v ts i t start before after l b a =
    subst (λ z. after ≤ start + (asking f v (set ts i t) i + (1 + 4 * asked (shape_at f (node_in v i)) (Some z) * (labelled_at v (node_in v i) + 1)))) (sym (get_or-set_same ts i t L1 l))
    (let k : asking f v (set ts i t) i ≡ asking f v ts i = asking_kept f v ts i t i (omega arith) in omega arith)

-- one node more
pub asking_more : (f : Layout) (v : Marks) (ts : List Template) (i : ℕ) (r : Option Template) (t : Template) (node start before after : ℕ) → i < length ts → r ≡ Some t → node ≡ node_in v i → before ≤ start + asking f v ts i →
    after ≤ before + 1 + 4 * asked (shape_at f node) r * (labelled_at v node + 1) → after ≤ start + asking f v (set ts i t) (i + 1)
asking_more f v ts i r t node start before after l q e b a =
    let next : suc i ≡ i + 1 = omega arith in
    subst (λ z. after ≤ start + asking f v (set ts i t) z) next
    (asking_next f v ts i t start before after l b (subst (λ z. after ≤ before + 1 + 4 * asked (shape_at f z) (Some t) * (labelled_at v z + 1)) e
    (subst (λ z. after ≤ before + 1 + 4 * asked (shape_at f node) z * (labelled_at v node + 1)) q a)))
