-- A matrix and further rows over its columns, as their files are read.
use Rattle.std.proofs.Common.{◌≡◌, ◌∙◌, ℕ, List, [], ◌∷◌, Some, None, ap, sym, subst}
use Rattle.row_model.specs.Rows.{RowList}
use Rattle.row_model.specs.declared.kind.Kind.{Kind}
use Rattle.row_model.specs.declared.refusal.Refusal.{Refusal}
use Rattle.row_model.specs.declared.refusal.Read.{Read}
use Rattle.row_model.specs.declared.refusal.Read.TheVariants as read
use Rattle.matrix_read.specs.Sparse.{further}
use Rattle.instance_model.specs.Instance.{InstanceValue, plain, circular, convex, doubly, proper, robinson, instance_kind, derived_matrix}
use Rattle.command_input.specs.Words.{Extend}
use Rattle.command_input.specs.Instances.{instance_of}
use Rattle.solve_replies.specs.Charges.{ExtendsWithin}
use Rattle.pq_cli.specs.Replies.{refused_at, refused_of_two, refusal_of}

-- an instance of a kind that holds a matrix is that matrix, of that kind
base_is : (kind k : Kind) (i : InstanceValue) (m : RowList) → i ≡ plain k m → instance_kind i ≡ kind → i ≡ plain kind m
base_is kind k i m e h = e ∙ ap (λ j. plain j m) (sym (ap instance_kind e) ∙ h)

pub base_read : (kind k : Kind) (bytes : List ℕ) (i : InstanceValue) (m : RowList) → i ≡ plain k m → instance_kind i ≡ kind → read.Ok i ≡ instance_of kind bytes → instance_of kind bytes ≡ read.Ok (plain kind m)
base_read kind k bytes i m e h made = sym made ∙ ap read.Ok (base_is kind k i m e h)

-- further rows over so many columns
pub further_refused : (kind : Kind) (file rows bytes given : List ℕ) (m : RowList) (c : ℕ) (refusal : Refusal) → instance_of kind bytes ≡ read.Ok (plain kind m) → c ≡ m.columns
    → read.Refused refusal ≡ further c given → refusal_of (Extend kind file rows) (bytes ∷ given ∷ []) ≡ Some (2, refusal)
further_refused kind file rows bytes given m c refusal base over refused =
    ap (λ j. refused_of_two j (λ (i : InstanceValue). further (derived_matrix i 1).columns given)) base ∙ ap (λ n. refused_at 2 (further n given)) (sym over) ∙ ap (refused_at 2) (sym refused)

pub further_accepted : (kind : Kind) (file rows bytes given : List ℕ) (m n : RowList) (c : ℕ) → instance_of kind bytes ≡ read.Ok (plain kind m)
    → c ≡ m.columns → read.Ok n ≡ further c given → refusal_of (Extend kind file rows) (bytes ∷ given ∷ []) ≡ None
further_accepted kind file rows bytes given m n c base over made =
    ap (λ j. refused_of_two j (λ (i : InstanceValue). further (derived_matrix i 1).columns given)) base ∙ ap (λ k. refused_at 2 (further k given)) (sym over) ∙ ap (refused_at 2) (sym made)

pub further_read : (given : List ℕ) (m n : RowList) (c : ℕ) → c ≡ m.columns → read.Ok n ≡ further c given → further m.columns given ≡ read.Ok n
further_read given m n c over made = ap (λ k. further k given) (sym over) ∙ sym made

-- what was extended is that matrix, by those rows
abbrev pub value_else : {A : Type 0} → A → Read A → A
value_else d (read.Ok value) = value
value_else d (read.Refused refusal) = d

abbrev matrix_in : RowList → InstanceValue → RowList
matrix_in d (plain kind m) = m
matrix_in d (circular m) = d
matrix_in d (convex graph) = d
matrix_in d (doubly graph) = d
matrix_in d (proper graph) = d
matrix_in d (robinson distances) = d

pub extends_it : (kind k : Kind) (bytes given : List ℕ) (i : InstanceValue) (b m f more : RowList) (c status s n : ℕ) → i ≡ plain k b → read.Ok i ≡ instance_of kind bytes → c ≡ b.columns
    → read.Ok f ≡ further c given → instance_of kind bytes ≡ read.Ok (plain kind m) → further m.columns given ≡ read.Ok more → ExtendsWithin b f.rows status s n → ExtendsWithin m more.rows status s n
extends_it kind k bytes given i b m f more c status s n e made over rows is told within =
    let same : b ≡ m = ap (matrix_in b) (sym e ∙ ap (value_else i) (made ∙ is)) in
    let columns : c ≡ m.columns = over ∙ ap (λ (x : RowList). x.columns) same in
    let row : f ≡ more = ap (value_else f) (rows ∙ ap (λ x. further x given) columns ∙ told) in
    subst (λ (x : RowList). ExtendsWithin m x.rows status s n) row (subst (λ (x : RowList). ExtendsWithin x f.rows status s n) same within)
