-- Texts that grow.
use Rattle.std.proofs.Common.{◌≡◌, ◌∙◌, ◌+◌, ◌<◌, ◌≤◌, ℕ, zero, suc, arith, codes, List, [], ◌∷◌, ◌++◌, length, take, get_or, slice_get, Some, sym, ap}
use Rattle.std.specs.Prelude.{flat_map}
use Rattle.std.specs.List.{zip}
use Rattle.std.specs.Fmt.{decimal}
use Rattle.std.proofs.lemmas.List.{append_assoc, take_more, take_all, flat_map_more}
use Rattle.core_text.specs.Texts.{TextValue, entries, entry_text, core_text}
use Rattle.text_parts.specs.Text.{kind_word, counted_text, number_word, counted_cycle}
use Rattle.core_text.proofs.CoreLaws.{length-zip_equal}

-- one item more
pub items_more : {A : Type 0} (text : A → List ℕ) (old now new : List ℕ) (xs : List A) (i : ℕ) (x d : A) → i < length xs → x ≡ get_or xs i d → now ≡ old ++ flat_map text (take i xs)
    → new ≡ now ++ text x → new ≡ old ++ flat_map text (take (i + 1) xs)
items_more text old now new xs i x d h r e k =
    k ∙ ap (λ t. t ++ text x) e ∙ flat_map_more text old (take i xs) x
    ∙ ap (λ ys. old ++ flat_map text ys) (ap (λ y. take i xs ++ y ∷ []) r ∙ sym (take_more xs i d h))

-- the pair at a place of two lists of one length
zip_at : (rows : List ℕ) (orders : List (List ℕ)) (i d : ℕ) (o : List ℕ) → length orders ≡ length rows → i < length rows → slice_get orders i ≡ Some o
    → get_or (zip rows orders) i (d, o) ≡ (get_or rows i d, o)
zip_at [] orders i d o e l s = absurd (omega arith)
zip_at (k ∷ rows) [] i d o e l s = absurd (omega (arith, e))
zip_at (k ∷ rows) (p ∷ orders) zero d o e l s = let same : p ≡ o = cc in ap (λ q. (k, q)) same
zip_at (k ∷ rows) (p ∷ orders) (suc i) d o e l s = zip_at rows orders i d o (omega (arith, e)) (omega arith) s

-- one row with its order more
pub entries_more : (old now new : List ℕ) (rows : List ℕ) (orders : List (List ℕ)) (i d : ℕ) (o : List ℕ) → length orders ≡ length rows → i < length rows → slice_get orders i ≡ Some o
    → now ≡ old ++ flat_map entry_text (take i (zip rows orders)) → new ≡ now ++ entry_text (get_or rows i d, o) → new ≡ old ++ flat_map entry_text (take (i + 1) (zip rows orders))
entries_more old now new rows orders i d o e l s before more =
    items_more entry_text old now new (zip rows orders) i (get_or rows i d, o) (d, o) (omega (arith, l, length-zip_equal rows orders e)) (sym (zip_at rows orders i d o e l s)) before more

pub entries_all : (old now : List ℕ) (rows : List ℕ) (orders : List (List ℕ)) (i : ℕ) → length orders ≡ length rows → length rows ≤ i
    → now ≡ old ++ flat_map entry_text (take i (zip rows orders)) → now ≡ old ++ flat_map entry_text (zip rows orders)
entries_all old now rows orders i e l h = h ∙ ap (λ ps. old ++ flat_map entry_text ps) (take_all i (zip rows orders) (omega (arith, l, length-zip_equal rows orders e)))

-- four pieces
pub four : (old a b d new x y z u : List ℕ) → a ≡ old ++ x → b ≡ a ++ y → d ≡ b ++ z → new ≡ d ++ u → new ≡ old ++ (x ++ (y ++ (z ++ u)))
four old a b d new x y z u f g h k =
    k ∙ ap (λ t. t ++ u) (h ∙ ap (λ t. t ++ z) (g ∙ ap (λ t. t ++ y) f))
    ∙ append_assoc ((old ++ x) ++ y) z u ∙ append_assoc (old ++ x) y (z ++ u) ∙ append_assoc old x (y ++ (z ++ u))

-- five pieces
pub five : (old a b d e new x y z u v : List ℕ) → a ≡ old ++ x → b ≡ a ++ y → d ≡ b ++ z → e ≡ d ++ u → new ≡ e ++ v → new ≡ old ++ (x ++ (y ++ (z ++ (u ++ v))))
five old a b d e new x y z u v f g h k l =
    l ∙ ap (λ t. t ++ v) (k ∙ ap (λ t. t ++ u) (h ∙ ap (λ t. t ++ z) (g ∙ ap (λ t. t ++ y) f)))
    ∙ append_assoc (((old ++ x) ++ y) ++ z) u v ∙ append_assoc ((old ++ x) ++ y) z (u ++ v) ∙ append_assoc (old ++ x) y (z ++ (u ++ v)) ∙ append_assoc old x (y ++ (z ++ (u ++ v)))

-- the whole text from that of its head
pub whole_text : (t : TextValue) → (codes "pq-core 1\nkind " ++ (kind_word t.kind ++ (codes "\ncolumns" ++ (number_word t.columns ++ codes "\ncore "))))
    ++ (counted_text entry_text (entries t.parts) ++ (counted_cycle t.parts.lines ++ codes "end\n")) ≡ core_text t
unfolding core_text
whole_text t =
    let rest : List ℕ = counted_text entry_text (entries t.parts) ++ (counted_cycle t.parts.lines ++ codes "end\n") in
    let columns : List ℕ = number_word t.columns ++ codes "\ncore " in
    ap (λ s. codes "pq-core 1\nkind " ++ s) (append_assoc (kind_word t.kind) (codes "\ncolumns" ++ columns) rest
    ∙ ap (λ s. kind_word t.kind ++ (codes "\ncolumns" ++ s)) (append_assoc (number_word t.columns) (codes "\ncore ") rest))

-- three pieces, of which the first is the number of rows
pub counted_entries : (old a b new : List ℕ) (rows : List ℕ) (orders : List (List ℕ)) (n : ℕ) → length orders ≡ length rows → n ≡ length rows → a ≡ old ++ decimal n → b ≡ a ++ 10 ∷ []
    → new ≡ b ++ flat_map entry_text (zip rows orders) → new ≡ old ++ counted_text entry_text (zip rows orders)
counted_entries old a b new rows orders n e c f g h =
    let items : List ℕ = flat_map entry_text (zip rows orders) in
    h ∙ ap (λ t. t ++ items) (g ∙ ap (λ t. t ++ 10 ∷ []) f) ∙ append_assoc (old ++ decimal n) (10 ∷ []) items ∙ append_assoc old (decimal n) (10 ∷ items)
    ∙ ap (λ k. old ++ (decimal k ++ (10 ∷ items))) (c ∙ sym (length-zip_equal rows orders e))
