-- Values, items and members at the front of tokens, a turn at a time.
use Rattle.std.proofs.Common.{◌≡◌, ℕ, zero, suc, ◌-◌, ◌<◌, ◌≤◌, List, [], ◌∷◌, length, Option, Some, None, option_map, option_and_then, is_some, true, false, refl, ap, ◌∙◌}
use Rattle.json.specs.Token.{Token}
use Rattle.json.specs.Json as json
use Rattle.json.specs.Json.{parse_map, after_end_array, read_key, items_step, items, members, value}
use Rattle.json.proofs.Grammar.{value_is, items_end, items_more, members_end, members_no_key, members_more, value-begin_array, value-begin_object}
use Rattle.serde_json.specs.Data.{Num, Data, number, array, object, no_items, item, Members, no_members, put}
use Rattle.serde_json.specs.Read.{number_of, of_json, of_items, of_members, converted}
use Rattle.matrix_read.specs.JsonSteps.{value_at, items_at, members_at, behind}

-- what is converted, and what is not
abbrev pub pick : {A : Type 0} → A → Option A → A
pick d None = d
pick d (Some a) = a

found : {A B : Type 0} (a : A) (r s : List Token) (x : Option B) (b : B) → option_map {U = B × List Token} (λ y. (y, r)) x ≡ Some (b, s) → (r ≡ s) × (x ≡ Some b)
found a r s None b e = absurd (cc)
found a r s (Some y) b e = let same = ap (pick (y, r)) e in (ap (λ p. p.1) same, ap (λ p. Some p.0) same)

pub converted_some : {A B : Type 0} (f : A → Option B) (o : Option (A × List Token)) (b : B) (r : List Token) → converted f o ≡ Some (b, r) → (a : A) × (o ≡ Some (a, r)) × (f a ≡ Some b)
converted_some f None b r e = absurd (cc)
converted_some f (Some p) b r e = let both = found p.0 p.1 r (f p.0) b e in (p.0, ap (λ s. Some (p.0, s)) both.0, both.1)

pub refused : {B : Type 0} (r : List Token) (x : Option B) → option_map {U = B × List Token} (λ y. (y, r)) x ≡ None → x ≡ None
refused r None e = refl
refused r (Some y) e = absurd (cc)

twice : {A B : Type 0} (g : A → B) (r : List Token) (x : Option A) → option_map (λ b. (b, r)) (option_map g x) ≡ parse_map g (option_map (λ a. (a, r)) x)
twice g r None = refl
twice g r (Some a) = refl

pub converted_array : (o : Option (json.Items × List Token)) → converted of_json (parse_map json.array o) ≡ parse_map array (converted of_items o)
converted_array None = refl
converted_array (Some p) = twice array p.1 (of_items p.0)

pub converted_object : (o : Option (json.Members × List Token)) → converted of_json (parse_map json.object o) ≡ parse_map object (converted (λ ms. of_members ms no_members) o)
converted_object None = refl
converted_object (Some p) = twice object p.1 (of_members p.0 no_members)

with_item : (j : json.Json) (d : Data) → of_json j ≡ Some d → (o : Option (json.Items × List Token)) → converted of_items (parse_map (json.item j) o) ≡ parse_map (item d) (converted of_items o)
with_item j d e None = refl
with_item j d e (Some p) = rw e (twice (item d) p.1 (of_items p.0))

without_item : (j : json.Json) → of_json j ≡ None → (o : Option (json.Items × List Token)) → converted of_items (parse_map (json.item j) o) ≡ None
without_item j e None = refl
without_item j e (Some p) = rw e

with_member : (k : List ℕ) (j : json.Json) (d : Data) (old : Members) → of_json j ≡ Some d → (o : Option (json.Members × List Token))
    → converted (λ ms. of_members ms old) (parse_map (json.member k j) o) ≡ converted (λ ms. of_members ms (put k d old)) o
with_member k j d old e None = refl
with_member k j d old e (Some p) = rw e

without_member : (k : List ℕ) (j : json.Json) (old : Members) → of_json j ≡ None → (o : Option (json.Members × List Token)) → converted (λ ms. of_members ms old) (parse_map (json.member k j) o) ≡ None
without_member k j old e None = refl
without_member k j old e (Some p) = rw e

-- no token begins no value
pub nothing_at_front : (depth : ℕ) → value_at depth [] ≡ None
nothing_at_front depth = ap (converted of_json) (value_is depth [])

-- a number has a value, or none
with_value : (r : List Token) (n : Option Num) → is_some n ≡ true → behind (option_map {U = Data × List Token} (λ d. (d, r)) (option_map number n)) ≡ Some r
with_value r None e = absurd (cc)
with_value r (Some n) e = refl

without_value : (r : List Token) (n : Option Num) → is_some n ≡ false → behind (option_map {U = Data × List Token} (λ d. (d, r)) (option_map number n)) ≡ None
without_value r None e = refl
without_value r (Some n) e = absurd (cc)

pub number_passed : (depth : ℕ) (s : List ℕ) (r : List Token) → is_some (number_of s) ≡ true → behind (value_at depth (Token.number s ∷ r)) ≡ Some r
number_passed depth s r e = ap (λ o. behind (converted of_json o)) (value_is depth (Token.number s ∷ r)) ∙ with_value r (number_of s) e

pub number_refused : (depth : ℕ) (s : List ℕ) (r : List Token) → is_some (number_of s) ≡ false → behind (value_at depth (Token.number s ∷ r)) ≡ None
number_refused depth s r e = ap (λ o. behind (converted of_json o)) (value_is depth (Token.number s ∷ r)) ∙ without_value r (number_of s) e

-- an array or an object that begins
pub array_at_front : (depth : ℕ) (ts : List Token) → 0 < depth → value_at depth (Token.begin_array ∷ ts) ≡ parse_map array (items_at (depth - 1) (length ts) ts)
array_at_front depth ts some = ap (converted of_json) (value-begin_array depth ts some) ∙ converted_array (items (value (depth - 1)) (length ts) ts)

pub object_at_front : (depth : ℕ) (ts : List Token) → 0 < depth → value_at depth (Token.begin_object ∷ ts) ≡ parse_map object (members_at (depth - 1) (length ts) no_members ts)
object_at_front depth ts some = ap (converted of_json) (value-begin_object depth ts some) ∙ converted_object (members (value (depth - 1)) (length ts) ts)

module _ (depth : ℕ) where
  -- items in turn
  pub item_read : (n : ℕ) (ts r : List Token) (d : Data) → 0 < n → after_end_array ts ≡ None → value_at depth ts ≡ Some (d, r) → items_at depth n ts ≡ parse_map (item d) (items_at depth (n - 1) r)
  item_read n ts r d some going e =
      let j = converted_some of_json (value depth ts) d r e in
      ap (converted of_items) (items_more (value depth) n ts r j.0 some going j.1) ∙ with_item j.0 d j.2 _

  no_item : (more : json.Parse json.Items) (o : Option (json.Json × List Token)) → converted of_json o ≡ None → converted of_items (option_and_then (λ q. parse_map (json.item q.0) (more q.1)) o) ≡ None
  no_item more None e = refl
  no_item more (Some q) e = without_item q.0 (refused q.1 (of_json q.0) e) (more q.1)

  pub item_refused : (n : ℕ) (ts : List Token) → after_end_array ts ≡ None → value_at depth ts ≡ None → items_at depth n ts ≡ None
  unfolding items
  item_refused zero ts going e = refl
  item_refused (suc n) ts going e = ap (λ o. converted of_items (items_step (value depth) (items (value depth) n) ts o)) going ∙ no_item (items (value depth) n) (value depth ts) e

  pub items_over : (n : ℕ) (ts r : List Token) → length ts ≤ n → after_end_array ts ≡ Some r → items_at depth n ts ≡ Some (no_items, r)
  items_over n ts r enough e = ap (converted of_items) (items_end (value depth) n ts r enough e)

  -- members in turn
  module _ (old : Members) where
    pub member_read : (n : ℕ) (k : List ℕ) (ts s r : List Token) (d : Data) → 0 < n → read_key ts ≡ Some (Some k, s) → value_at depth s ≡ Some (d, r)
        → members_at depth n old ts ≡ members_at depth (n - 1) (put k d old) r
    member_read n k ts s r d some key e =
        let j = converted_some of_json (value depth s) d r e in
        ap (converted (λ ms. of_members ms old)) (members_more (value depth) n k ts s r j.0 some key j.1) ∙ with_member k j.0 d old j.2 _

    no_member : (k : List ℕ) (more : json.Parse json.Members) (o : Option (json.Json × List Token)) → converted of_json o ≡ None
        → converted (λ ms. of_members ms old) (option_and_then (λ q. parse_map (json.member k q.0) (more q.1)) o) ≡ None
    no_member k more None e = refl
    no_member k more (Some q) e = without_member k q.0 old (refused q.1 (of_json q.0) e) (more q.1)

    pub member_refused : (n : ℕ) (k : List ℕ) (ts s : List Token) → read_key ts ≡ Some (Some k, s) → value_at depth s ≡ None → members_at depth n old ts ≡ None
    unfolding members
    member_refused zero k ts s key e = refl
    member_refused (suc n) k ts s key e = rw key (no_member k (members (value depth) n) (value depth s) e)

    pub key_refused : (n : ℕ) (ts : List Token) → read_key ts ≡ None → members_at depth n old ts ≡ None
    key_refused n ts e = ap (converted (λ ms. of_members ms old)) (members_no_key (value depth) n ts e)

    pub members_over : (n : ℕ) (ts r : List Token) → length ts ≤ n → read_key ts ≡ Some (None, r) → members_at depth n old ts ≡ Some (old, r)
    members_over n ts r enough e = ap (converted (λ ms. of_members ms old)) (members_end (value depth) n ts r enough e)
