-- What a clone file names, as its value is read.
use Rattle.std.proofs.Common.{◌≡◌, ℕ, suc, ◌+◌, ◌&&◌, Bool, true, false, List, [], ◌∷◌, ◌++◌, length, map, codes, is_some, unwrap_or, Option, Some, None, option_map, option_and_then, if◌then◌else◌, refl, sym, ap, subst, ◌∙◌, true≢false}
use Rattle.std.proofs.lemmas.Bool.{false≢true}
use Rattle.std.proofs.lemmas.Slice.Eq.{bytes_eq-Decides}
use Rattle.std.specs.Str.{bytes_eq}
use Rattle.json.specs.Token.{Token}
use Rattle.json.specs.Json as json
use Rattle.json.specs.Json.{Parse, parse_map, if_last, value_with}
use Rattle.json.proofs.Grammar.{value_is}
use Rattle.serde_json.specs.Data.{Num, Data, null, boolean, number, string, array, object, Items, no_items, item, Members, no_members, put}
use Rattle.serde_json.specs.Find.{get, get_member, as_array, as_str}
use Rattle.serde_json.specs.Read.{number_of, of_json, of_items, of_members, converted}
use Rattle.serde_json.proofs.Views.{get_member-put, get_member-put_other}
use Rattle.matrix_read.specs.JsonSteps.{value_at, string_in, opens_array, opens_object}
use Rattle.matrix_read.specs.Clones.{head_code}
use Rattle.matrix_read.specs.CloneSteps.{are_strings, text_of, texts_of, strings_of, array_at, probes_of, count, first_refused, clone_rows, clone_matrix, matrix_of, if_shaped, if_read, unless_refused}
use Rattle.row_model.specs.declared.refusal.Read.TheVariants as answer
use Rattle.row_model.specs.declared.code.TheConstants.{JSON}
use Rattle.matrix_read.specs.CloneNames.{array_strings, member_probes, clone_names, array_clones, clones_of, file_names, with_string, names_refused, row_of_clone, matrix_of_names, matrix_named}
use Rattle.text_lines.specs.Rows.{refusal_or, refused_or}
use Rattle.matrix_read.proofs.JsonLemmas.{pick, converted_some, converted_object, converted_array}

-- a value that is mapped
pub mapped_some : {A B : Type 0} (f : A → B) (o : Option (A × List Token)) (b : B) (r : List Token) → parse_map f o ≡ Some (b, r) → (a : A) × (o ≡ Some (a, r)) × (f a ≡ b)
mapped_some f None b r e = absurd (cc)
mapped_some f (Some p) b r e = let same = ap (pick (f p.0, p.1)) e in (p.0, ap (λ s. Some (p.0, s)) (ap (λ q. q.1) same), ap (λ q. q.0) same)

pub fused : {A B C : Type 0} (f : A → B) (g : B → C) (o : Option (A × List Token)) → parse_map g (parse_map f o) ≡ parse_map (λ a. g (f a)) o
fused f g None = refl
fused f g (Some p) = refl

-- what is read of a value, by what it is made of
pub made_of : {A B : Type 0} (make : A → Data) (f : Data → B) (o : Option (A × List Token)) (v : Option (Data × List Token)) → v ≡ parse_map make o → parse_map f v ≡ parse_map (λ a. f (make a)) o
made_of make f o v e = ap (parse_map f) e ∙ fused make f o

-- what a value is, by the token that it begins with
pub record IsKind (t : Token) (d : Data) : Type 0 where
  pub text : as_str d ≡ string_in t
  pub list : opens_array t ≡ false → as_array d ≡ None
  pub members : opens_object t ≡ false → (k : List ℕ) → get k d ≡ None

number_kind : (s : List ℕ) (x : Option Num) (ts r : List Token) (d : Data) → option_map {U = Data × List Token} (λ b. (b, ts)) (option_map number x) ≡ Some (d, r) → IsKind (Token.number s) d
number_kind s None ts r d e = absurd (cc)
number_kind s (Some n) ts r d e = subst (IsKind (Token.number s)) (ap (λ q. q.0) (ap (pick (number n, ts)) e)) (record { text = refl; list = λ h. refl; members = λ h k. refl })

kind_with : (a : Parse json.Items) (o : Parse json.Members) (t : Token) (ts r : List Token) (d : Data) → converted of_json (value_with a o (t ∷ ts)) ≡ Some (d, r) → IsKind t d
kind_with a o Token.begin_object ts r d e =
    let m = mapped_some object (converted (λ ms. of_members ms no_members) (o ts)) d r (sym (converted_object (o ts)) ∙ e) in
    subst (IsKind Token.begin_object) m.2 (record { text = refl; list = λ h. refl; members = λ h k. absurd (true≢false h) })
kind_with a o Token.end_object ts r d e = absurd (cc)
kind_with a o Token.begin_array ts r d e =
    let m = mapped_some array (converted of_items (a ts)) d r (sym (converted_array (a ts)) ∙ e) in
    subst (IsKind Token.begin_array) m.2 (record { text = refl; list = λ h. absurd (true≢false h); members = λ h k. refl })
kind_with a o Token.end_array ts r d e = absurd (cc)
kind_with a o (Token.key s) ts r d e = absurd (cc)
kind_with a o (Token.string s) ts r d e = subst (IsKind (Token.string s)) (ap (λ q. q.0) (ap (pick (string s, ts)) e)) (record { text = refl; list = λ h. refl; members = λ h k. refl })
kind_with a o (Token.number s) ts r d e = number_kind s (number_of s) ts r d e
kind_with a o (Token.boolean b) ts r d e = subst (IsKind (Token.boolean b)) (ap (λ q. q.0) (ap (pick (boolean b, ts)) e)) (record { text = refl; list = λ h. refl; members = λ h k. refl })
kind_with a o Token.null ts r d e = subst (IsKind Token.null) (ap (λ q. q.0) (ap (pick (null, ts)) e)) (record { text = refl; list = λ h. refl; members = λ h k. refl })
kind_with a o Token.bad ts r d e = absurd (cc)

pub kind_at_front : (depth : ℕ) (t : Token) (ts r : List Token) (d : Data) → value_at depth (t ∷ ts) ≡ Some (d, r) → IsKind t d
kind_at_front depth t ts r d e = kind_with _ _ t ts r d (sym (ap (converted of_json) (value_is depth (t ∷ ts))) ∙ e)

pub array_token : (t : Token) → opens_array t ≡ true → t ≡ Token.begin_array
array_token Token.begin_array h = refl
array_token other h = absurd (cc)

pub object_token : (t : Token) → opens_object t ≡ true → t ≡ Token.begin_object
object_token Token.begin_object h = refl
object_token other h = absurd (cc)

-- items behind items
abbrev pub joined : Items → Items → Items
joined no_items rest = rest
joined (item d ds) rest = item d (joined ds rest)

pub joined_none : (ds : Items) → joined ds no_items ≡ ds
joined_none no_items = refl
joined_none (item d ds) = ap (item d) (joined_none ds)

joined_one : (ds : Items) (d : Data) (rest : Items) → joined ds (item d rest) ≡ joined (joined ds (item d no_items)) rest
joined_one no_items d rest = refl
joined_one (item x ds) d rest = ap (item x) (joined_one ds d rest)

pub joined_more : (ds : Items) (d : Data) (o : Option (Items × List Token)) → parse_map (joined ds) (parse_map (item d) o) ≡ parse_map (joined (joined ds (item d no_items))) o
joined_more ds d None = refl
joined_more ds d (Some p) = ap (λ all. Some (all, p.1)) (joined_one ds d p.0)

pub joined_nothing : (o : Option (Items × List Token)) → o ≡ parse_map (joined no_items) o
joined_nothing None = refl
joined_nothing (Some p) = refl

-- strings, and one item more
and_one : (b : Bool) → (b && true) ≡ (true && b)
and_one true = refl
and_one false = refl

and_assoc : (a b c : Bool) → (a && (b && c)) ≡ ((a && b) && c)
and_assoc true b c = refl
and_assoc false b c = refl

are_more : (ds : Items) (d : Data) → are_strings (joined ds (item d no_items)) ≡ (are_strings ds && is_some (as_str d))
are_more no_items d = and_one (is_some (as_str d))
are_more (item x ds) d = ap (λ b. is_some (as_str x) && b) (are_more ds d) ∙ and_assoc (is_some (as_str x)) (are_strings ds) (is_some (as_str d))

texts_more : (ds : Items) (d : Data) → texts_of (joined ds (item d no_items)) ≡ texts_of ds ++ text_of d ∷ []
texts_more no_items d = refl
texts_more (item x ds) d = ap (λ texts. text_of x ∷ texts) (texts_more ds d)

strings_by : (b : Bool) (texts : List (List ℕ)) (o : Option (List ℕ)) → (if b && is_some o then Some (texts ++ unwrap_or o [] ∷ []) else None) ≡ with_string (if b then Some texts else None) o
strings_by true texts None = refl
strings_by true texts (Some text) = refl
strings_by false texts o = refl

pub strings_more : (ds : Items) (d : Data) → strings_of (joined ds (item d no_items)) ≡ with_string (strings_of ds) (as_str d)
strings_more ds d = rw (are_more ds d, texts_more ds d) (strings_by (are_strings ds) (texts_of ds) (as_str d))

pub names_more : (ds : Items) (d : Data) → clone_names (joined ds (item d no_items)) ≡ clone_names ds ++ probes_of d ∷ []
names_more no_items d = refl
names_more (item x ds) d = ap (λ names. probes_of x ∷ names) (names_more ds d)

-- one member more
is_key : (k key : List ℕ) → bytes_eq k key ≡ true → k ≡ key
is_key k key h = (bytes_eq-Decides k key).0 h

other_key : (k key : List ℕ) → bytes_eq k key ≡ false → key ≡ k → ⊥
other_key k key h same = false≢true (sym h ∙ (bytes_eq-Decides k key).1 (sym same))

module _ (k : List ℕ) (d : Data) (ms : Members) where
  found_there : (key : List ℕ) → bytes_eq k key ≡ true → get_member key (put k d ms) ≡ Some d
  found_there key h = ap (λ name. get_member name (put k d ms)) (sym (is_key k key h)) ∙ get_member-put k d ms

  found_before : (key : List ℕ) → bytes_eq k key ≡ false → get_member key (put k d ms) ≡ get_member key ms
  found_before key h = get_member-put_other key k d ms (other_key k key h)

  pub probes_put : bytes_eq k (codes "probes") ≡ true → member_probes (put k d ms) ≡ array_strings d
  probes_put h = ap (λ o. option_and_then strings_of (option_and_then as_array o)) (found_there (codes "probes") h)

  pub probes_kept : bytes_eq k (codes "probes") ≡ false → member_probes (put k d ms) ≡ member_probes ms
  probes_kept h = ap (λ o. option_and_then strings_of (option_and_then as_array o)) (found_before (codes "probes") h)

  pub clones_put : bytes_eq k (codes "clones") ≡ true → clones_of (object (put k d ms)) ≡ array_clones d
  clones_put h = ap (λ o. option_map clone_names (option_and_then as_array o)) (found_there (codes "clones") h)

  pub clones_kept : bytes_eq k (codes "clones") ≡ false → clones_of (object (put k d ms)) ≡ clones_of (object ms)
  clones_kept h = ap (λ o. option_map clone_names (option_and_then as_array o)) (found_before (codes "clones") h)

-- `probes` is not `clones`
pub not_probes : (k : List ℕ) → bytes_eq k (codes "clones") ≡ true → bytes_eq k (codes "probes") ≡ false
not_probes k h = ap (λ key. bytes_eq key (codes "probes")) (is_key k (codes "clones") h)

-- the whole text
abbrev pub whole : Option (json.Json × List Token) → Option Data
whole o = option_and_then of_json (option_and_then (λ p. if_last p.0 p.1) o)

pub whole_read : (o : Option (json.Json × List Token)) (d : Data) → converted of_json o ≡ Some (d, []) → whole o ≡ Some d
whole_read o d e = let j = converted_some of_json o d [] e in ap whole j.1 ∙ j.2

-- the matrix depends on the names alone
count_names : (clones : Items) → count clones ≡ length (clone_names clones)
count_names no_items = refl
count_names (item clone clones) = ap suc (count_names clones)

refused_names : (probes : List (List ℕ)) (n : ℕ) (clones : Items) → first_refused probes n clones ≡ names_refused probes n (clone_names clones)
unfolding first_refused names_refused
refused_names probes n no_items = refl
refused_names probes n (item clone clones) = ap (refusal_or _ n) (refused_names probes (n + 1) clones)

rows_of_names : (probes : List (List ℕ)) (clones : Items) → clone_rows probes clones ≡ map (row_of_clone probes) (clone_names clones)
rows_of_names probes no_items = refl
rows_of_names probes (item clone clones) = ap (λ rows. row_of_clone probes (probes_of clone) ∷ rows) (rows_of_names probes clones)

matrix_same : (probes : List (List ℕ)) (clones : Items) → matrix_of probes clones ≡ matrix_of_names probes (clone_names clones)
matrix_same probes clones =
    ap (λ n. unless_refused (head_code probes n) (clone_matrix probes clones)) (count_names clones)
    ∙ ap (λ r. unless_refused (head_code probes (length (clone_names clones))) (refused_or r (record { columns = length probes; rows = clone_rows probes clones }))) (refused_names probes 1 clones)
    ∙ ap (λ rows. unless_refused (head_code probes (length (clone_names clones))) (refused_or (names_refused probes 1 (clone_names clones)) (record { columns = length probes; rows = rows }))) (rows_of_names probes clones)

shaped_same : (probes : Option (List (List ℕ))) (clones : Option Items) → if_shaped probes clones ≡ matrix_named probes (option_map clone_names clones)
shaped_same None None = refl
shaped_same None (Some clones) = refl
shaped_same (Some probes) None = refl
shaped_same (Some probes) (Some clones) = matrix_same probes clones

pub matrix_by_names : (value : Data) → if_read (Some value) ≡ matrix_named (probes_of value) (clones_of value)
matrix_by_names value = shaped_same (probes_of value) (array_at (codes "clones") value)

-- what is read of a file, by its names
abbrev unwrap : {A : Type 0} → A → Option A → A
unwrap d None = d
unwrap d (Some a) = a

pub not_named : (value : Option Data) → None ≡ option_map file_names value → if_read value ≡ answer.Refused (record { code = JSON; line = 0 })
not_named None e = refl
not_named (Some value) e = absurd (cc)

pub named_as : (value : Option Data) (names : Option (List (List ℕ)) × Option (List (Option (List (List ℕ))))) → Some names ≡ option_map file_names value → if_read value ≡ matrix_named names.0 names.1
named_as None names e = absurd (cc)
named_as (Some value) names e = matrix_by_names value ∙ ap (λ (found : Option (List (List ℕ)) × Option (List (Option (List (List ℕ))))). matrix_named found.0 found.1) (sym (ap (unwrap (file_names value)) e))
