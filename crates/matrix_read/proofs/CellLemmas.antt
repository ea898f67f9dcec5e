-- Cells and names of a table.
use Rattle.std.proofs.Common.{◌≡◌, ℕ, zero, suc, ◌<◌, ◌≤◌, ◌+◌, ◌-◌, ◌&&◌, List, [], ◌∷◌, ◌++◌, length, map, take, drop, get_or, if◌then◌else◌, ap, sym, ◌∙◌, refl, arith, Option, Some, None, true, false, Bool}
use Rattle.std.proofs.lemmas.Bool.{or_parts}
use Rattle.std.proofs.lemmas.List.{take-append-drop, length-map}
use Rattle.std.proofs.lemmas.Map.Made.{AllPairs-from_IsDistinct, IsDistinct-from_AllPairs}
use Rattle.std.proofs.lemmas.Slice.Eq.{bytes_eq-Decides}
use Rattle.std.specs.List.{list_any, AllByRecursion, IsDistinct}
use Rattle.std.specs.Str.{bytes_eq}
use Rattle.column_order.specs.Orders.{has}
use Rattle.row_model.proofs.Ascending.{row_within}
use Rattle.row_model.proofs.Filtered.{has_filtered, filtered_row}
use Rattle.row_model.specs.declared.refusal.Refusal.{Refusal}
use Rattle.text_lines.specs.Lines.{is_blank_byte, is_blank}
use Rattle.text_lines.specs.Words.{blank_len}
use Rattle.matrix_read.specs.Cells.{without_last_blanks, trimmed, cells, is_present, record_row}
use Rattle.matrix_read.specs.Table.{record_code, record_refusal}
use Rattle.matrix_read.specs.Names.{has_twice}
use Rattle.text_lines.specs.Rows.{refusal_or}
use Rattle.matrix_read.specs.TableLaws.{NamesLaw, RowLaw, TrimmedLaw, AreTold, RefusalLaw}

-- no name is equal to a later one
none_equal : (name : List ℕ) (names : List (List ℕ)) → list_any (bytes_eq name) names ≡ false → AllByRecursion (λ other. bytes_eq name other ≡ false) names
none_equal name [] h = tt
none_equal name (x ∷ names) h = let parts = or_parts (bytes_eq name x) (list_any (bytes_eq name) names) h in (parts.0, none_equal name names parts.1)

any_equal : (name : List ℕ) (names : List (List ℕ)) → AllByRecursion (λ other. bytes_eq name other ≡ false) names → list_any (bytes_eq name) names ≡ false
any_equal name [] all = refl
any_equal name (x ∷ names) all = rw (all.0, any_equal name names all.1) refl

distinct_names : (names : List (List ℕ)) → has_twice names ≡ false → IsDistinct bytes_eq names
unfolding IsDistinct
distinct_names [] h = tt
distinct_names (name ∷ names) h = let parts = or_parts (list_any (bytes_eq name) names) (has_twice names) h in (none_equal name names parts.0, distinct_names names parts.1)

none_twice : (names : List (List ℕ)) → IsDistinct bytes_eq names → has_twice names ≡ false
unfolding IsDistinct
none_twice [] h = refl
none_twice (name ∷ names) h = rw (any_equal name names h.0, none_twice names h.1) refl

pub names_law_holds : NamesLaw
names_law_holds names = (λ h. AllPairs-from_IsDistinct bytes_eq-Decides names (distinct_names names h), λ h. none_twice names (IsDistinct-from_AllPairs bytes_eq-Decides names h))

-- the columns that cells mark
trimmed-get_or : (fields : List (List ℕ)) (i : ℕ) → get_or (map trimmed fields) i [] ≡ trimmed (get_or fields i [])
trimmed-get_or [] i = refl
trimmed-get_or (field ∷ fields) zero = refl
trimmed-get_or (field ∷ fields) (suc i) = trimmed-get_or fields i

pub row_law_holds : RowLaw
row_law_holds fields column =
    let c = length (cells fields) in
    let passes : ℕ → Bool = λ j. is_present (get_or (cells fields) (j - 1) []) in
    let at : 1 ≤ column → column ≤ c → has (record_row fields) column ≡ is_present (trimmed (get_or fields column [])) =
    λ from to. has_filtered passes c column from to ∙ ap is_present (cell_at fields column from) in
    let width : length fields ≤ c + 1 = length-cells-le fields in (
      λ h.
          let bounds = row_within c (record_row fields) (filtered_row passes c) column h in
          (bounds.0, omega (arith, bounds.1, cells-lt fields (omega arith)), sym (at bounds.0 bounds.1) ∙ h),
      λ h. at h.0 (omega (arith, h.1, width)) ∙ h.2,
    )
  where
    length-cells-le : (fields : List (List ℕ)) → length fields ≤ length (cells fields) + 1
    length-cells-le [] = omega arith
    length-cells-le (first ∷ fields) = omega (arith, length-map fields trimmed)

    cells-lt : (fields : List (List ℕ)) → 1 ≤ length (cells fields) → length (cells fields) < length fields
    cells-lt [] some = absurd (omega arith)
    cells-lt (first ∷ fields) some = omega (arith, length-map fields trimmed)

    cell_at : (fields : List (List ℕ)) (column : ℕ) → 1 ≤ column → get_or (cells fields) (column - 1) [] ≡ trimmed (get_or fields column [])
    cell_at [] column some = refl
    cell_at (first ∷ fields) zero some = absurd (omega arith)
    cell_at (first ∷ fields) (suc i) some =
        let at : suc i - 1 ≡ i = omega arith in
        ap (λ k. get_or (map trimmed fields) k []) at ∙ trimmed-get_or fields i

-- a field without blanks at its ends
blanks_last : (bytes : List ℕ) → (back : List ℕ) × (bytes ≡ without_last_blanks bytes ++ back) × (is_blank back ≡ true)
blanks_last [] = ([], refl, refl)
blanks_last (b ∷ bytes) = by (is_blank (b ∷ bytes)) refl (blanks_last bytes)
  where
    by : (v : Bool) → is_blank (b ∷ bytes) ≡ v → ((back : List ℕ) × (bytes ≡ without_last_blanks bytes ++ back) × (is_blank back ≡ true))
        → (back : List ℕ) × ((b ∷ bytes) ≡ (if v then [] else b ∷ without_last_blanks bytes) ++ back) × (is_blank back ≡ true)
    by true e rest = (b ∷ bytes, refl, e)
    by false e rest = (rest.0, ap (λ t. b ∷ t) rest.1, rest.2)

blanks_first : (field : List ℕ) → is_blank (take (blank_len field) field) ≡ true
blanks_first [] = refl
blanks_first (b ∷ field) = by (is_blank_byte b) refl (blanks_first field)
  where
    by : (v : Bool) → is_blank_byte b ≡ v → is_blank (take (blank_len field) field) ≡ true → is_blank (take (if v then suc (blank_len field) else 0) (b ∷ field)) ≡ true
    by true e later = rw e later
    by false e later = refl

cons_head : (a b : ℕ) (xs ys : List ℕ) → a ∷ xs ≡ b ∷ ys → a ≡ b
cons_head a b xs ys e = cc

cons_tail : (a b : ℕ) (xs ys : List ℕ) → a ∷ xs ≡ b ∷ ys → xs ≡ ys
cons_tail a b xs ys e = cc

first_filled : (field : List ℕ) (b : ℕ) (rest : List ℕ) → trimmed field ≡ b ∷ rest → is_blank_byte b ≡ false
first_filled [] b rest e = absurd (cc)
first_filled (a ∷ field) b rest e = by (is_blank_byte a) refl e (first_filled field b rest)
  where
    by : (v : Bool) → is_blank_byte a ≡ v → without_last_blanks (drop (if v then suc (blank_len field) else 0) (a ∷ field)) ≡ b ∷ rest → (trimmed field ≡ b ∷ rest → is_blank_byte b ≡ false) → is_blank_byte b ≡ false
    by true h e later = later e
    by false h e later =
        let kept : a ∷ without_last_blanks field ≡ b ∷ rest = (rw h refl) ∙ e in
        ap is_blank_byte (sym (cons_head a b (without_last_blanks field) rest kept)) ∙ h

pub all_dropped : (bytes : List ℕ) → without_last_blanks bytes ≡ [] → is_blank bytes ≡ true
all_dropped [] e = refl
all_dropped (b ∷ bytes) e = by (is_blank (b ∷ bytes)) e
  where
    by : (v : Bool) → (if v then [] else b ∷ without_last_blanks bytes) ≡ [] → v ≡ true
    by true e = refl
    by false e = absurd (cc)

last_filled : (bytes : List ℕ) (b : ℕ) (rest : List ℕ) → without_last_blanks bytes ≡ rest ++ b ∷ [] → is_blank_byte b ≡ false
last_filled [] b [] e = absurd (cc)
last_filled [] b (r ∷ rest) e = absurd (cc)
last_filled (a ∷ bytes) b rest e = by rest (is_blank (a ∷ bytes)) refl e (last_filled bytes b)
  where
    alone : (v w : Bool) → w ≡ true → (v && w) ≡ false → v ≡ false
    alone true w h k = absurd (cc)
    alone false w h k = refl

    by : (rest : List ℕ) (v : Bool) → is_blank (a ∷ bytes) ≡ v → (if v then [] else a ∷ without_last_blanks bytes) ≡ rest ++ b ∷ [] → ((rest : List ℕ) → without_last_blanks bytes ≡ rest ++ b ∷ [] → is_blank_byte b ≡ false) → is_blank_byte b ≡ false
    by [] true h e later = absurd (cc)
    by (r ∷ rest) true h e later = absurd (cc)
    by [] false h e later =
        let blank : is_blank bytes ≡ true = all_dropped bytes (cons_tail a b (without_last_blanks bytes) [] e) in
        ap is_blank_byte (sym (cons_head a b (without_last_blanks bytes) [] e)) ∙ alone (is_blank_byte a) (is_blank bytes) blank h
    by (r ∷ rest) false h e later = later rest (cons_tail a r (without_last_blanks bytes) (rest ++ b ∷ []) e)

pub trimmed_law_holds : TrimmedLaw
trimmed_law_holds field =
    let rest = drop (blank_len field) field in
    let last = blanks_last rest in
    record {
      front = take (blank_len field) field;
      back = last.0;
      whole = sym (take-append-drop (blank_len field) field) ∙ ap (λ t. take (blank_len field) field ++ t) last.1;
      front_blank = blanks_first field;
      back_blank = last.2;
      first = first_filled field;
      last = λ b rest e. last_filled (drop (blank_len field) field) b rest e;
    }

-- the first record that is refused
abbrev IsTold : ℕ → List (List (List ℕ)) → Refusal → ℕ → Type 0
IsTold before further refusal k =
    (k < length further) × (refusal.line ≡ before + k + 2) × (record_code (before + k) (get_or further k []) ≡ Some refusal.code) × ((i : ℕ) → i < k → record_code (before + i) (get_or further i []) ≡ None)

first_told : (before : ℕ) (further : List (List (List ℕ))) (refusal : Refusal) → record_refusal before further ≡ Some refusal → (k : ℕ) × IsTold before further refusal k
unfolding record_refusal
first_told before [] refusal e = absurd (cc)
first_told before (fields ∷ further) refusal e = by (record_code before fields) refl e (first_told (before + 1) further refusal)
  where
    shift : (k : ℕ) → before + 1 + k ≡ before + suc k
    shift k = omega arith

    by : (code : Option ℕ) → record_code before fields ≡ code → refusal_or code (before + 2) (record_refusal (before + 1) further) ≡ Some refusal
        → (record_refusal (before + 1) further ≡ Some refusal → (k : ℕ) × IsTold (before + 1) further refusal k) → (k : ℕ) × IsTold before (fields ∷ further) refusal k
    by (Some code) h e later =
        let same : record { code = code; line = before + 2 } ≡ refusal = cc in
        let at : record_code (before + 0) fields ≡ Some code = ap (λ n. record_code n fields) (omega arith) ∙ h in
        (0, (omega arith, ap (λ (r : Refusal). r.line) (sym same) ∙ omega arith, at ∙ ap (λ (r : Refusal). Some r.code) same, λ i lt. absurd (omega arith)))
    by None h e later =
        let told = later e in
        let k = told.0 in
        (suc k, (omega (arith, told.1.0), omega (arith, told.1.1), ap (λ n. record_code n (get_or further k [])) (sym (shift k)) ∙ told.1.2, earlier k told.1.3))
      where
        earlier : (k : ℕ) → ((i : ℕ) → i < k → record_code (before + 1 + i) (get_or further i []) ≡ None) → (i : ℕ) → i < suc k → record_code (before + i) (get_or (fields ∷ further) i []) ≡ None
        earlier k all zero lt = ap (λ n. record_code n fields) (omega arith) ∙ h
        earlier k all (suc i) lt = ap (λ n. record_code n (get_or further i [])) (sym (shift i)) ∙ all i (omega arith)

none_told : (before : ℕ) (further : List (List (List ℕ))) → record_refusal before further ≡ None → (i : ℕ) → i < length further → record_code (before + i) (get_or further i []) ≡ None
unfolding record_refusal
none_told before [] e i lt = absurd (omega arith)
none_told before (fields ∷ further) e i lt = by i lt (record_code before fields) refl e (none_told (before + 1) further)
  where
    by : (i : ℕ) → i < suc (length further) → (code : Option ℕ) → record_code before fields ≡ code → refusal_or code (before + 2) (record_refusal (before + 1) further) ≡ None
        → (record_refusal (before + 1) further ≡ None → (i : ℕ) → i < length further → record_code (before + 1 + i) (get_or further i []) ≡ None) → record_code (before + i) (get_or (fields ∷ further) i []) ≡ None
    by i lt (Some code) h e later = absurd (cc)
    by zero lt None h e later = ap (λ n. record_code n fields) (omega arith) ∙ h
    by (suc i) lt None h e later = ap (λ n. record_code n (get_or further i [])) (omega arith) ∙ later e i (omega arith)

pub refusal_law_holds : RefusalLaw
refusal_law_holds further = by (record_refusal 0 further) refl
  where
    zero-plus : (k : ℕ) → k ≡ 0 + k
    zero-plus k = omega arith

    by : (refusal : Option Refusal) → record_refusal 0 further ≡ refusal → AreTold further refusal
    by (Some refusal) e =
        let told = first_told 0 further refusal e in
        let k = told.0 in
        record {
          before = k;
          within = told.1.0;
          line = told.1.1 ∙ omega arith;
          code = ap (λ n. record_code n (get_or further k [])) (zero-plus k) ∙ told.1.2;
          earlier = λ i lt. ap (λ n. record_code n (get_or further i [])) (zero-plus i) ∙ told.1.3 i lt;
        }
    by None e = λ i lt. ap (λ n. record_code n (get_or further i [])) (zero-plus i) ∙ none_told 0 further e i lt
