-- A matrix of probes and clones has no more columns, rows and ones than there are bytes.
use Rattle.std.proofs.Common.{◌≡◌, ℕ, suc, ◌+◌, ◌≤◌, Bool, true, false, if◌then◌else◌, List, [], ◌∷◌, length, map, sum_by, codes, Option, Some, None, option_map, option_and_then, unwrap_or, is_some, refl, arith}
use Rattle.std.specs.List.{list_all}
use Rattle.std.specs.Str.{is_utf8}
use Rattle.std.proofs.lemmas.List.{length-map}
use Rattle.std.proofs.lemmas.List.Sums.{sum_by-cons}
use Rattle.serde_json.specs.Data.{Data, null, boolean, number, string, array, object, Items, no_items, item}
use Rattle.serde_json.specs.Find.{get, as_array, as_str}
use Rattle.serde_json.specs.Read.{read}
use Rattle.text_lines.specs.Lines.{without_mark}
use Rattle.text_lines.specs.Rows.{refusal_or}
use Rattle.matrix_read.specs.Clones.{reading, values_of, values_at, as_strings, probes_in, column_of, clones_refused, row_of_probes, head_code, clones_over, value_read, clones}
use Rattle.command_input.specs.Instances.{IfRead}
use Rattle.file_steps.proofs.Dense.{AreFew}
use Rattle.column_order.proofs.Few.{filter_few}
use Rattle.file_steps.proofs.Found.{within_read, refused_read}
use Rattle.file_steps.proofs.Lines.{unmarked_short}
use Rattle.file_steps.proofs.Values.{size, items_size, IsSmall, kept_small, read_small, value_within}

-- of UTF-8 alone a value is read
reading_small : (text : List ℕ) → IsSmall size (length text + 1) (reading text)
reading_small text = of_utf8 (is_utf8 text)
  where
    of_utf8 : (t : Bool) → IsSmall size (length text + 1) (if t then read text else None)
    of_utf8 true = read_small text
    of_utf8 false = tt

-- each value has itself in it
itself : (d : Data) → 1 ≤ size d
itself null = omega arith
itself (boolean b) = omega arith
itself (number n) = omega arith
itself (string s) = omega arith
itself (array ds) = omega arith
itself (object ms) = omega arith

-- the values in an array
values_size : (ds : Items) → sum_by size (values_of ds) ≡ items_size ds
values_size no_items = refl
values_size (item d ds) = omega (arith, sum_by-cons size d (values_of ds), values_size ds)

array_small : (d : Data) → IsSmall (λ ds. suc (items_size ds)) (size d) (as_array d)
array_small null = tt
array_small (boolean b) = tt
array_small (number n) = tt
array_small (string s) = tt
array_small (array ds) = omega arith
array_small (object ms) = tt

listed : (ds : Option Items) (n : ℕ) → IsSmall (λ ds. suc (items_size ds)) n ds → IsSmall (sum_by size) n (option_map values_of ds)
listed None n h = tt
listed (Some ds) n h = omega (arith, h, values_size ds)

-- the values of the array under a key
array_in : (o : Option Data) (n : ℕ) → IsSmall (λ d. suc (size d)) n o → IsSmall (λ values. suc (sum_by size values)) n (option_map values_of (option_and_then as_array o))
array_in None n h = tt
array_in (Some d) n h = fewer (option_map values_of (as_array d)) (listed (as_array d) (size d) (array_small d))
  where
    fewer : (values : Option (List Data)) → IsSmall (sum_by size) (size d) values → IsSmall (λ values. suc (sum_by size values)) n values
    fewer None k = tt
    fewer (Some values) k = omega (arith, h, k)

values_small : (key : List ℕ) (d : Data) → IsSmall (λ values. suc (sum_by size values)) (size d) (values_at key d)
values_small key d = array_in (get key d) (size d) (value_within key d)

count_small : (values : List Data) → length values ≤ sum_by size values
count_small [] = omega arith
count_small (d ∷ values) = omega (arith, itself d, sum_by-cons size d values, count_small values)

-- the strings among them
strings_small : (values : List Data) (n : ℕ) → suc (sum_by size values) ≤ n → IsSmall (λ names. suc (length names)) n (as_strings values)
strings_small values n h = of_all (list_all (λ value. is_some (as_str value)) values)
  where
    of_all : (t : Bool) → IsSmall (λ names. suc (length names)) n (if t then Some (map (λ value. unwrap_or (as_str value) []) values) else None)
    of_all true = omega (arith, h, count_small values, length-map values (λ value. unwrap_or (as_str value) []))
    of_all false = tt

strings_in : (values : Option (List Data)) (n : ℕ) → IsSmall (λ values. suc (sum_by size values)) n values → IsSmall (λ names. suc (length names)) n (option_and_then as_strings values)
strings_in None n h = tt
strings_in (Some values) n h = strings_small values n h

probes_small : (d : Data) → IsSmall (λ names. suc (length names)) (size d) (probes_in d)
probes_small d = strings_in (values_at (codes "probes") d) (size d) (values_small (codes "probes") d)

-- the row of a clone has no more ones than it names probes
named_few : (names : Option (List (List ℕ))) (n : ℕ) → IsSmall (λ names. suc (length names)) n names → length (unwrap_or names []) ≤ n
named_few None n h = omega arith
named_few (Some names) n h = omega (arith, h)

row_small : (probes : List (List ℕ)) (d : Data) → length (row_of_probes probes d) ≤ size d
row_small probes d =
    omega (
      arith,
      filter_few (map (column_of probes) (unwrap_or (probes_in d) [])) (length probes) 1,
      length-map (unwrap_or (probes_in d) []) (column_of probes),
      named_few (probes_in d) (size d) (probes_small d),
    )

ones_small : (probes : List (List ℕ)) (values : List Data) → sum_by length (map (row_of_probes probes) values) ≤ sum_by size values
ones_small probes [] = omega arith
ones_small probes (d ∷ values) =
    omega (arith, sum_by-cons length (row_of_probes probes d) (map (row_of_probes probes) values), sum_by-cons size d values, row_small probes d, ones_small probes values)

over_few : (probes : Option (List (List ℕ))) (values : Option (List Data)) (n : ℕ) → IsSmall (λ names. suc (length names)) (n + 1) probes → IsSmall (λ values. suc (sum_by size values)) (n + 1) values →
    IfRead (clones_over probes values) (AreFew n)
over_few None None n p v = tt
over_few None (Some values) n p v = tt
over_few (Some probes) None n p v = tt
over_few (Some probes) (Some values) n p v =
    refused_read (AreFew n) (refusal_or (head_code probes (length values)) 0 (clones_refused probes 1 values)) _
    (λ none. record {
      columns = omega (arith, p);
      rows = omega (arith, v, count_small values, length-map values (row_of_probes probes));
      ones = omega (arith, v, ones_small probes values);
    })

value_few : (d : Option Data) (n : ℕ) → IsSmall size (n + 1) d → IfRead (value_read d) (AreFew n)
value_few None n h = tt
value_few (Some d) n h =
    over_few (probes_in d) (values_at (codes "clones") d) n (kept_small (λ names. suc (length names)) (size d) (n + 1) (probes_in d) h (probes_small d))
    (kept_small (λ values. suc (sum_by size values)) (size d) (n + 1) (values_at (codes "clones") d) h (values_small (codes "clones") d))

pub clones_few : (bytes : List ℕ) → IfRead (clones bytes) (AreFew (length bytes))
unfolding clones
clones_few bytes =
    within_read (AreFew (length bytes)) bytes (value_read (reading (without_mark bytes)))
    (value_few (reading (without_mark bytes)) (length bytes)
    (kept_small size (length (without_mark bytes) + 1) (length bytes + 1) (reading (without_mark bytes)) (omega (arith, unmarked_short bytes)) (reading_small (without_mark bytes))))
