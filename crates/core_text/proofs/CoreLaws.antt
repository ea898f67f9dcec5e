-- What is read is the text of a core, and the text of a core is read.
use Rattle.std.proofs.Common.{◌≡◌, ◌∙◌, ◌+◌, ℕ, cond, None, true, false, List, [], ◌∷◌, ◌++◌, length, map, Some, refl, sym, ap, arith, inl, inr, subst, codes, eqb}
use Rattle.std.specs.Prelude.{option_and_then}
use Rattle.std.specs.List.{AllByRecursion, zip}
use Rattle.std.proofs.lemmas.Bool.{eqb-true}
use Rattle.std.proofs.lemmas.List.{length-map, length_push, nil_from_length}
use Rattle.std.proofs.lemmas.Option.{none-some, same_Some, option_and_then_some}
use Rattle.plain_text.specs.Words.{word_at}
use Rattle.plain_text.proofs.NumberLaws.{chosen}
use Rattle.row_model.specs.declared.kind.Kind.{Kind}
use Rattle.row_model.specs.declared.graph.Line.{Line}
use Rattle.core_text.specs.Parts.{CoreParts}
use Rattle.core_text.specs.Laws.{OneCoreLaw}
use Rattle.core_text.specs.Texts.{TextValue, IsEntry, IsInGrammar, entries, entry_text, core_text}
use Rattle.text_parts.specs.Grammar.{IsLine}
use Rattle.text_parts.specs.Text.{kind_word, cycle_line, counted_text, number_word}
use Rattle.text_parts.specs.Reading.{all_kinds, kind_at, kind_from, column_count_at, counted_at, line_at}
use Rattle.core_text.specs.Reading.{entry_at, entry_row, entry_order, text_value, parts_of, core_of}
use Rattle.text_parts.proofs.KindLaws.{kind_takes, kind_again}
use Rattle.text_parts.proofs.Chains.{after_word, at_word}
use Rattle.text_parts.proofs.NumberedLaws.{listed_take, listed_again}
use Rattle.text_parts.proofs.LineLaws.{line_takes, line_again}
use Rattle.core_text.proofs.EntryLaws.{entry_takes, entry_again}
use Rattle.text_parts.proofs.CountLaws.{count_takes, count_again}

-- pairs are the pairs of their firsts and their seconds
zip_parts : (pairs : List (ℕ × List ℕ)) → zip (map entry_row pairs) (map entry_order pairs) ≡ pairs
zip_parts [] = refl
zip_parts (p ∷ pairs) = ap (λ ps. p ∷ ps) (zip_parts pairs)

rows_of_zip : (rows : List ℕ) (orders : List (List ℕ)) → length orders ≡ length rows → map entry_row (zip rows orders) ≡ rows
rows_of_zip [] orders e = refl
rows_of_zip (k ∷ rows) [] e = absurd (omega (arith, e))
rows_of_zip (k ∷ rows) (o ∷ orders) e = ap (λ ks. k ∷ ks) (rows_of_zip rows orders (omega (arith, e)))

orders_of_zip : (rows : List ℕ) (orders : List (List ℕ)) → length orders ≡ length rows → map entry_order (zip rows orders) ≡ orders
orders_of_zip [] [] e = refl
orders_of_zip [] (o ∷ orders) e = absurd (omega (arith, e))
orders_of_zip (k ∷ rows) [] e = absurd (omega (arith, e))
orders_of_zip (k ∷ rows) (o ∷ orders) e = ap (λ os. o ∷ os) (orders_of_zip rows orders (omega (arith, e)))

pub length-zip_equal : (rows : List ℕ) (orders : List (List ℕ)) → length orders ≡ length rows → length (zip rows orders) ≡ length rows
length-zip_equal rows orders e = sym (length-map (zip rows orders) entry_row) ∙ ap length (rows_of_zip rows orders e)

-- one pair more
pub zip_push : (rows : List ℕ) (orders : List (List ℕ)) (k : ℕ) (o : List ℕ) → length orders ≡ length rows → zip (rows ++ k ∷ []) (orders ++ o ∷ []) ≡ zip rows orders ++ (k, o) ∷ []
zip_push [] [] k o e = refl
zip_push [] (p ∷ orders) k o e = absurd (omega (arith, e))
zip_push (j ∷ rows) [] k o e = absurd (omega (arith, e))
zip_push (j ∷ rows) (p ∷ orders) k o e = ap (λ ps. (j, p) ∷ ps) (zip_push rows orders k o (omega (arith, e)))

-- the value of the parts is that of their pairs
pub zipped : (kind : Kind) (columns : ℕ) (rows : List ℕ) (orders : List (List ℕ)) (lines : List Line) → length orders ≡ length rows
    → text_value kind columns (zip rows orders) lines ≡ record { kind = kind; columns = columns; parts = record { rows = rows; orders = orders; lines = lines } }
zipped kind columns rows orders lines e =
    ap (λ ks. record { kind = kind; columns = columns; parts = record { rows = ks; orders = map entry_order (zip rows orders); lines = lines } }) (rows_of_zip rows orders e)
    ∙ ap (λ (os : List (List ℕ)). record { kind = kind; columns = columns; parts = record { rows = rows; orders = os; lines = lines } }) (orders_of_zip rows orders e)

pub core_takes : (bytes : List ℕ) (t : TextValue) → core_of bytes ≡ Some t → IsInGrammar t × (bytes ≡ core_text t)
unfolding core_of parts_of core_text kind_at
core_takes bytes t h =
    let a = after_word _ (codes "pq-core 1\nkind ") bytes t h in
    option_and_then_some _ (kind_from all_kinds a.0) t a.2 (λ x e k.
    let b = after_word _ (codes "\ncolumns") x.1 t k in
    option_and_then_some _ (column_count_at b.0) t b.2 (λ y f m.
    option_and_then_some _ (counted_at (codes "\ncore ") entry_at y.1) t m (λ z g n.
    option_and_then_some _ (counted_at (codes "cycle ") line_at z.1) t n (λ w i o.
    let c = count_takes b.0 y.0 y.1 f in
    let entries_read = listed_take (codes "\ncore ") entry_at entry_text IsEntry entry_takes y.1 z.0 z.1 g in
    let lines_read = listed_take (codes "cycle ") line_at cycle_line IsLine line_takes z.1 w.0 w.1 i in
    let d = after_word _ (codes "end\n") w.1 t o in
    let made : TextValue = text_value x.0 y.0 z.0 w.0 in
    elim (chosen (eqb (length d.0) 0) _ _ _ d.2) [
      | inl q ↦
          let done : w.1 ≡ codes "end\n" = d.1 ∙ ap (λ v. codes "end\n" ++ v) (nil_from_length d.0 (eqb-true (length d.0) 0 q.0)) in
          let pairs : zip (map entry_row z.0) (map entry_order z.0) ≡ z.0 = zip_parts z.0 in
          let P : TextValue → Type 0 = λ v. IsInGrammar v × (bytes ≡ core_text v) in
          subst P (same_Some made t q.1) (
            record {
              columns = c.good;
              each = length-map z.0 entry_order ∙ sym (length-map z.0 entry_row);
              few_rows = rw (length-map z.0 entry_row) entries_read.few;
              entries = subst (AllByRecursion IsEntry) (sym pairs) entries_read.each;
              few_lines = lines_read.few;
              lines = lines_read.each;
            },
            a.1 ∙ ap (λ v. codes "pq-core 1\nkind " ++ v) (kind_takes all_kinds a.0 x.0 x.1 e ∙ ap (λ v. kind_word x.0 ++ v) (b.1 ∙ ap (λ v. codes "\ncolumns" ++ v) (c.front ∙ ap (λ v. number_word y.0 ++ v)
                (entries_read.front ∙ ap (λ ps. codes "\ncore " ++ (counted_text entry_text ps ++ z.1)) (sym pairs)
                ∙ ap (λ v. codes "\ncore " ++ (counted_text entry_text (zip (map entry_row z.0) (map entry_order z.0)) ++ v)) (lines_read.front ∙ ap (λ v. codes "cycle " ++ (counted_text cycle_line w.0 ++ v)) done))))),
          )
      | inr q ↦ absurd (none-some _ q.1)
    ]))))

pub core_again : (t : TextValue) → IsInGrammar t → core_of (core_text t) ≡ Some t
unfolding core_of parts_of core_text kind_at
core_again t h =
    let parts : CoreParts = t.parts in
    let last : List ℕ = codes "end\n" in
    let lines : List ℕ = codes "cycle " ++ (counted_text cycle_line parts.lines ++ last) in
    let rows : List ℕ = codes "\ncore " ++ (counted_text entry_text (entries parts) ++ lines) in
    at_word _ (codes "pq-core 1\nkind ") (kind_word t.kind ++ (codes "\ncolumns" ++ (number_word t.columns ++ rows)))
    ∙ ap (option_and_then _) (kind_again t.kind (codes "\ncolumns" ++ (number_word t.columns ++ rows)))
    ∙ at_word _ (codes "\ncolumns") (number_word t.columns ++ rows)
    ∙ ap (option_and_then _) (count_again t.columns rows h.columns refl)
    ∙ ap (option_and_then _) (listed_again (codes "\ncore ") entry_at entry_text IsEntry entry_again (entries parts) lines (rw (length-zip_equal parts.rows parts.orders h.each) h.few_rows) h.entries)
    ∙ ap (option_and_then _) (listed_again (codes "cycle ") line_at cycle_line IsLine line_again parts.lines last h.few_lines h.lines)
    ∙ at_word _ (codes "end\n") []
    ∙ ap Some (zipped t.kind t.columns parts.rows parts.orders parts.lines h.each)

-- the kind and the number of columns that a chain of readers read
pub head_chain : (bytes a : List ℕ) (k : Kind) (b d : List ℕ) (n : ℕ) (e : List ℕ)
    → word_at (codes "pq-core 1\nkind ") bytes ≡ Some a → kind_at a ≡ Some (k, b) → word_at (codes "\ncolumns") b ≡ Some d → column_count_at d ≡ Some (n, e)
    → core_of bytes ≡ parts_of k n e
unfolding core_of
head_chain bytes a k b d n e p q r s = ap (option_and_then _) p ∙ ap (option_and_then _) q ∙ ap (option_and_then _) r ∙ ap (option_and_then _) s

-- the parts that it reads from there on
pub parts_chain : (k : Kind) (n : ℕ) (e : List ℕ) (es : List (ℕ × List ℕ)) (f : List ℕ) (ls : List Line) (g h : List ℕ)
    → counted_at (codes "\ncore ") entry_at e ≡ Some (es, f) → counted_at (codes "cycle ") line_at f ≡ Some (ls, g) → word_at (codes "end\n") g ≡ Some h
    → parts_of k n e ≡ cond (eqb (length h) 0) (Some (text_value k n es ls)) None
unfolding parts_of
parts_chain k n e es f ls g h t u v = ap (option_and_then _) t ∙ ap (option_and_then _) u ∙ ap (option_and_then _) v

-- one row with its order more
pub zip_pushed : (rows rows' : List ℕ) (orders orders' : List (List ℕ)) (k : ℕ) (o : List ℕ) → rows' ≡ rows ++ k ∷ [] → orders' ≡ orders ++ o ∷ [] → length orders ≡ length rows
    → (length orders' ≡ length rows') × (zip rows' orders' ≡ zip rows orders ++ (k, o) ∷ [])
zip_pushed rows rows' orders orders' k o e f h =
    (ap length f ∙ length_push orders o ∙ ap (λ n. n + 1) h ∙ sym (ap length e ∙ length_push rows k), ap (λ xs. zip xs orders') e ∙ ap (λ os. zip (rows ++ k ∷ []) os) f ∙ zip_push rows orders k o h)

-- at the end of the bytes, and before it
pub at_end : (x : TextValue) (n : ℕ) → eqb n 0 ≡ true → cond (eqb n 0) (Some x) None ≡ Some x
at_end x n e = ap (λ b. cond b (Some x) None) e

pub before_end : (x : TextValue) (n : ℕ) → eqb n 0 ≡ false → cond (eqb n 0) (Some x) None ≡ None
before_end x n e = ap (λ b. cond b (Some x) None) e

-- the text is read as what it says
pub one_core : OneCoreLaw
one_core t u g h e = same_Some t u (sym (core_again t g) ∙ ap core_of e ∙ core_again u h)
