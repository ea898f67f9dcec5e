-- Probes and clones.
use Rattle.std.proofs.Common.{◌≡◌, inl, inr, ℕ, suc, ◌+◌, ◌<◌, ◌≤◌, ◌==◌, ◌&&◌, not, is_some, option_map, option_and_then, List, [], ◌∷◌, ◌++◌, length, map, codes, drop, get_or, refl, ap, sym, ◌∙◌, arith, Bool, true, false, if◌then◌else◌, cond, unwrap_or, Option, Some, None, append_assoc, drop-cons, add-one, eq-eqb}
use Rattle.std.proofs.lemmas.List.{append-nil}
use Rattle.column_order.specs.Orders.{has}
use Rattle.row_model.specs.Rows.{RowList, IsRow}
use Rattle.row_model.specs.declared.refusal.Read.{Read}
use Rattle.row_model.specs.declared.refusal.Read.TheVariants as answer
use Rattle.serde_json.specs.Data.{Data, Items, no_items, item}
use Rattle.serde_json.specs.Find.{get, as_array, as_str}
use Rattle.serde_json.specs.Read.{read}
use Rattle.std.specs.Str.{IsUtf8, is_utf8, bytes_eq}
use Rattle.std.specs.List.{list_all, prefix_len, position}
use Rattle.std.specs.Borrow.{Bor}
use Rattle.std.proofs.lemmas.List.{length-map}
use Rattle.std.specs.declared.vec.Vec.{Vec}
use Rattle.std.specs.declared.alloc.Global.{Global}
use Rattle.matrix_read.specs.CloneNames.{names_view, clones_view, row_of_clone, names_refused, names_matrix, matrix_of_names}
use Rattle.std.proofs.lemmas.Str.{IsUtf8-from_is_utf8, is_utf8-from_IsUtf8}
use Rattle.std.proofs.lemmas.Bool.{lt-ltb, le-ltb, ne_eqb, cases_lt, false≢true}
use Rattle.row_model.specs.declared.TheConstants.{MAX_COLUMNS, MAX_ROWS, MAX_FILE_BYTES}
use Rattle.row_model.specs.declared.code.TheConstants.{EMPTY, TWICE, LIMIT}
use Rattle.text_lines.specs.Lines.{without_mark}
use Rattle.text_lines.specs.Rows.{refusal_or, refused_or, columns_among}
use Rattle.row_model.proofs.Filtered.{filtered_row}
use Rattle.row_model.proofs.Limits.{too_long, short_enough}
use Rattle.matrix_read.specs.Clones.{reading, is_probe, column_of, names_code, head_code, clones, values_of, values_at, as_strings, probes_in, clones_refused, row_of_probes, clones_over, value_read}
use Rattle.matrix_read.specs.CloneSteps.{array_at, are_strings, texts_of, strings_of, count, probes_of, first_refused, clone_row, clone_rows, clone_matrix, unless_refused, matrix_of, if_shaped, if_read}
use Rattle.matrix_read.specs.Names.{has_twice, bytes_of}

module _ (probes : List (List ℕ)) where
  -- the answer, where these rows stand before the clones
  abbrev pub matrix_after : List (List ℕ) → ℕ → List (Option (List (List ℕ))) → Read RowList
  matrix_after rows number clones = refused_or (names_refused probes number clones) (record { columns = length probes; rows = rows ++ map (row_of_clone probes) clones })

  -- one clone less, which is refused or a row
  module _ (rows : List (List ℕ)) (number : ℕ) (clone : Option (List (List ℕ))) (all clones : List (Option (List (List ℕ)))) (is : all ≡ clone ∷ clones) where
    pub clone_stop : (code : ℕ) → names_code probes clone ≡ Some code → matrix_after rows number all ≡ answer.Refused (record { code = code; line = number })
    unfolding names_refused
    clone_stop code h = rw (is, h) refl

    pub clone_step : names_code probes clone ≡ None → matrix_after (rows ++ row_of_clone probes clone ∷ []) (number + 1) clones ≡ matrix_after rows number all
    unfolding names_refused
    clone_step h = rw (is, h, append_assoc rows (row_of_clone probes clone ∷ []) (map (row_of_clone probes) clones)) refl

  pub clone_end : (m : RowList) (number : ℕ) → m.columns ≡ length probes → matrix_after m.rows number [] ≡ answer.Ok m
  unfolding names_refused
  clone_end m number w = rw (append-nil m.rows, ← w) refl

-- a text that is read, and one that is not
pub reading_some : (text : List ℕ) (value : Data) → IsUtf8 text → read text ≡ Some value → Some value ≡ reading text
reading_some text value utf8 is = rw (is_utf8-from_IsUtf8 text utf8, is) refl

pub reading_none : (text : List ℕ) → (IsUtf8 text → read text ≡ None) → None ≡ reading text
reading_none text none =
    (elim (is_utf8 text) as (λ v. is_utf8 text ≡ v → None ≡ (if v then read text else None)) [
      | true ↦ λ e. sym (none (IsUtf8-from_is_utf8 text e))
      | false ↦ λ e. refl
    ]) refl

-- item after item, as a list of values
strings_same : (items : Items) → as_strings (values_of items) ≡ strings_of items
strings_same items = ap (λ b. if b then Some (map (λ value. unwrap_or (as_str value) []) (values_of items)) else None) (all items) ∙ ap (λ texts. if are_strings items then Some texts else None) (texts items)
  where
    all : (items : Items) → list_all (λ value. is_some (as_str value)) (values_of items) ≡ are_strings items
    all no_items = refl
    all (item value items) = ap (λ b. is_some (as_str value) && b) (all items)

    texts : (items : Items) → map (λ value. unwrap_or (as_str value) []) (values_of items) ≡ texts_of items
    texts no_items = refl
    texts (item value items) = ap (λ ts. unwrap_or (as_str value) [] ∷ ts) (texts items)

probes_same : (value : Data) → probes_in value ≡ probes_of value
probes_same value = by (option_and_then as_array (get (codes "probes") value))
  where
    by : (items : Option Items) → option_and_then as_strings (option_map values_of items) ≡ option_and_then strings_of items
    by None = refl
    by (Some items) = strings_same items

count_same : (items : Items) → length (values_of items) ≡ count items
count_same no_items = refl
count_same (item value items) = ap suc (count_same items)

module _ (probes : List (List ℕ)) where
  refused_same : (number : ℕ) (items : Items) → clones_refused probes number (values_of items) ≡ first_refused probes number items
  unfolding first_refused
  refused_same number no_items = refl
  refused_same number (item clone items) =
      ap (λ names. refusal_or (names_code probes names) number (clones_refused probes (number + 1) (values_of items))) (probes_same clone)
      ∙ ap (refusal_or (names_code probes (probes_of clone)) number) (refused_same (number + 1) items)

  rows_same : (items : Items) → map (row_of_probes probes) (values_of items) ≡ clone_rows probes items
  rows_same no_items = refl
  rows_same (item clone items) =
      ap (λ names. columns_among (length probes) (map (column_of probes) (unwrap_or names [])) ∷ map (row_of_probes probes) (values_of items)) (probes_same clone)
      ∙ ap (λ rows. clone_row probes clone ∷ rows) (rows_same items)

  matrix_same : (items : Items) → clones_over (Some probes) (Some (values_of items)) ≡ matrix_of probes items
  matrix_same items =
      ap (λ n. refused_or (refusal_or (head_code probes n) 0 (clones_refused probes 1 (values_of items))) (record { columns = length probes; rows = map (row_of_probes probes) (values_of items) })) (count_same items)
      ∙ ap (λ r. refused_or (refusal_or (head_code probes (count items)) 0 r) (record { columns = length probes; rows = map (row_of_probes probes) (values_of items) })) (refused_same 1 items)
      ∙ ap (λ rows. refused_or (refusal_or (head_code probes (count items)) 0 (first_refused probes 1 items)) (record { columns = length probes; rows = rows })) (rows_same items)
      ∙ by (head_code probes (count items))
    where
      by : (code : Option ℕ) → refused_or (refusal_or code 0 (first_refused probes 1 items)) (record { columns = length probes; rows = clone_rows probes items }) ≡ unless_refused code (clone_matrix probes items)
      by (Some code) = refl
      by None = refl

pub clones_same : (value : Option Data) → value_read value ≡ if_read value
clones_same None = refl
clones_same (Some value) = ap (λ probes. clones_over probes (values_at (codes "clones") value)) (probes_same value) ∙ by (probes_of value) (array_at (codes "clones") value)
  where
    by : (probes : Option (List (List ℕ))) (items : Option Items) → clones_over probes (option_map values_of items) ≡ if_shaped probes items
    by None None = refl
    by None (Some items) = refl
    by (Some probes) None = refl
    by (Some probes) (Some items) = matrix_same probes items

-- the length of the file comes first
module _ (bytes : List ℕ) where
  pub clones_long : MAX_FILE_BYTES < length bytes → clones bytes ≡ answer.Refused (record { code = LIMIT; line = 0 })
  unfolding clones
  clones_long h = too_long bytes _ h

  pub clones_short : length bytes ≤ MAX_FILE_BYTES → clones bytes ≡ if_read (reading (without_mark bytes))
  unfolding clones
  clones_short h = short_enough bytes _ h ∙ clones_same (reading (without_mark bytes))

-- the rest of a list, from a place on
pub names_drop : (list : List (Bor (List ℕ))) (i : ℕ) (name : Bor (List ℕ)) → i < length list → name ≡ get_or list i name → bytes_of (drop i list) ≡ name.now ∷ bytes_of (drop (i + 1) list)
names_drop list i name lt is =
    ap bytes_of (drop-cons list i name lt)
    ∙ ap (λ (first : Bor (List ℕ)). first.now ∷ bytes_of (drop (suc i) list)) (sym is)
    ∙ ap (λ n. name.now ∷ bytes_of (drop n list)) (sym (add-one i))

pub clones_drop : (list : List (Option (Vec (Bor (List ℕ)) Global))) (i : ℕ) (clone : Option (Vec (Bor (List ℕ)) Global)) → i < length list → clone ≡ get_or list i clone
    → clones_view (drop i list) ≡ names_view clone ∷ clones_view (drop (i + 1) list)
clones_drop list i clone lt is =
    ap clones_view (drop-cons list i clone lt)
    ∙ ap (λ (first : Option (Vec (Bor (List ℕ)) Global)). names_view first ∷ clones_view (drop (suc i) list)) (sym is)
    ∙ ap (λ n. names_view clone ∷ clones_view (drop n list)) (sym (add-one i))

-- names by their bytes
prefix_len-bytes : (p : List ℕ → Bool) (names : List (Bor (List ℕ))) → prefix_len (λ (name : Bor (List ℕ)). p name.now) names ≡ prefix_len p (bytes_of names)
prefix_len-bytes p [] = refl
prefix_len-bytes p (name ∷ names) = ap (λ n. cond (p name.now) (1 + n) 0) (prefix_len-bytes p names)

place_if : (b : Bool) (n i : ℕ) → cond b (Some n) None ≡ Some i → n ≡ i
place_if true n i h = cc
place_if false n i h = absurd (cc)

-- the column of a name that is found at a place
pub column_found : (names : List (Bor (List ℕ))) (name : List ℕ) (i : ℕ) → position (λ (key : Bor (List ℕ)). bytes_eq name key.now) names ≡ Some i → i + 1 ≡ column_of (bytes_of names) name
column_found names name i h =
    let place : prefix_len (λ (key : Bor (List ℕ)). not (bytes_eq name key.now)) names ≡ i = place_if _ _ i h in
    add-one i ∙ ap suc (sym place ∙ prefix_len-bytes (λ key. not (bytes_eq name key)) names)

-- a shape with probes and clones, and the tests of the whole file
pub shaped : (value : Data) (probes : List (List ℕ)) (clones : Items) → Some probes ≡ probes_of value → Some clones ≡ array_at (codes "clones") value → if_read (Some value) ≡ matrix_of probes clones
shaped value probes clones p c = rw (← p, ← c) refl

module _ (probes : List (List ℕ)) (clones : ℕ) where
  pub head_empty : length probes ≡ 0 → head_code probes clones ≡ Some EMPTY
  head_empty h = rw h refl

  module _ (some : 0 < length probes) where
    some_probe : (length probes == 0) ≡ false
    some_probe = ne_eqb (length probes) 0 (λ e. omega arith)

    pub head_wide : MAX_COLUMNS < length probes → head_code probes clones ≡ Some LIMIT
    head_wide h = rw (some_probe, lt-ltb MAX_COLUMNS (length probes) h) refl

    module _ (narrow : length probes ≤ MAX_COLUMNS) where
      pub head_twice : has_twice probes ≡ true → head_code probes clones ≡ Some TWICE
      head_twice h = rw (some_probe, le-ltb MAX_COLUMNS (length probes) narrow, h) refl

      pub head_many : has_twice probes ≡ false → MAX_ROWS < clones → head_code probes clones ≡ Some LIMIT
      head_many h many = rw (some_probe, le-ltb MAX_COLUMNS (length probes) narrow, h, lt-ltb MAX_ROWS clones many) refl

      pub head_taken : has_twice probes ≡ false → clones ≤ MAX_ROWS → head_code probes clones ≡ None
      head_taken h few = rw (some_probe, le-ltb MAX_COLUMNS (length probes) narrow, h, le-ltb MAX_ROWS clones few) refl

-- a clone whose strings are these names
module _ (probes names : List (List ℕ)) (clone : Data) (is : Some names ≡ probes_of clone) where
  pub names_taken : list_all (is_probe probes) names ≡ true → names_code probes (probes_of clone) ≡ None
  names_taken h = rw (← is, h) refl

pub names_row_ascends : (probes : List (List ℕ)) (clone : Option (List (List ℕ))) → IsRow (length probes) (row_of_clone probes clone)
names_row_ascends probes clone = filtered_row (has (map (column_of probes) (unwrap_or clone []))) (length probes)

pub clone_row_ascends : (probes : List (List ℕ)) (clone : Data) → IsRow (length probes) (clone_row probes clone)
clone_row_ascends probes clone = filtered_row (has (map (column_of probes) (unwrap_or (probes_of clone) []))) (length probes)

-- as many names as keys
pub length-bytes : (keys : List (Bor (List ℕ))) → length (bytes_of keys) ≡ length keys
length-bytes keys = length-map keys (λ (name : Bor (List ℕ)). name.now)

pub some_if : (n : ℕ) → false ≡ (n == 0) → 0 < n
some_if n h = elim (cases_lt 0 n) [ inl lt ↦ lt | inr le ↦ absurd (false≢true (h ∙ eq-eqb n 0 (omega arith))) ]

-- the tests of probes and clones as lists of names
module _ (probes : List (Bor (List ℕ))) (clones : List (Option (Vec (Bor (List ℕ)) Global))) where
  width : length (bytes_of probes) ≡ length probes
  width = length-bytes probes

  height : length (clones_view clones) ≡ length clones
  height = length-map clones names_view

  -- what is refused by a code
  abbrev pub RefusedBy : ℕ → Type 0
  RefusedBy code = matrix_of_names (bytes_of probes) (clones_view clones) ≡ answer.Refused (record { code = code; line = 0 })

  by : (code : ℕ) → head_code (bytes_of probes) (length (clones_view clones)) ≡ Some code → RefusedBy code
  by code h = rw h refl

  pub no_probe : length probes ≡ 0 → RefusedBy EMPTY
  no_probe h = by EMPTY (head_empty (bytes_of probes) (length (clones_view clones)) (width ∙ h))

  module _ (some : 0 < length probes) where
    pub many_probes : MAX_COLUMNS < length probes → RefusedBy LIMIT
    many_probes h = by LIMIT (head_wide (bytes_of probes) (length (clones_view clones)) (omega (arith, width)) (omega (arith, width)))

    module _ (narrow : length probes ≤ MAX_COLUMNS) where
      pub probe_twice : has_twice (bytes_of probes) ≡ true → RefusedBy TWICE
      probe_twice h = by TWICE (head_twice (bytes_of probes) (length (clones_view clones)) (omega (arith, width)) (omega (arith, width)) h)

      pub many_clones : has_twice (bytes_of probes) ≡ false → MAX_ROWS < length clones → RefusedBy LIMIT
      many_clones h many = by LIMIT (head_many (bytes_of probes) (length (clones_view clones)) (omega (arith, width)) (omega (arith, width)) h (omega (arith, height)))

      pub within_limits : has_twice (bytes_of probes) ≡ false → length clones ≤ MAX_ROWS → matrix_of_names (bytes_of probes) (clones_view clones) ≡ names_matrix (bytes_of probes) (clones_view clones)
      within_limits h few = rw (head_taken (bytes_of probes) (length (clones_view clones)) (omega (arith, width)) (omega (arith, width)) h (omega (arith, height))) refl
