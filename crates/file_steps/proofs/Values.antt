-- The value that a text is has no more values in it than the text has bytes, and one.
use Rattle.std.proofs.Common.{ℕ, zero, suc, ◌+◌, ◌≤◌, Bool, true, false, List, [], ◌∷◌, length, Option, Some, None, option_map, option_and_then, arith, Ordering, Less, Equal, Greater}
use Rattle.std.specs.Prelude.{⊤}
use Rattle.std.specs.Ordering.{nat_cmp, match_ordering}
use Rattle.std.specs.Cmp.Lexicographic.{slice_cmp}
use Rattle.json.specs.Token.{Token}
use Rattle.json.specs.Json as json
use Rattle.json.specs.Lex as lexer
use Rattle.json.specs.Lex.{Lexeme, Mode, Place, tokens}
use Rattle.serde_json.specs.Data.{Num, Data, null, boolean, number, string, array, object, Items, no_items, item, Members, no_members, member, put}
use Rattle.serde_json.specs.Find.{get_member, get}
use Rattle.serde_json.specs.Read.{number_of, of_json, of_items, of_members, max_depth, read}

-- how many values there are in a value, itself included
abbrev mutual
  pub size : Data → ℕ
  size null = 1
  size (boolean b) = 1
  size (number n) = 1
  size (string s) = 1
  size (array ds) = suc (items_size ds)
  size (object ms) = suc (members_size ms)

  pub items_size : Items → ℕ
  items_size no_items = 0
  items_size (item d ds) = size d + items_size ds

  pub members_size : Members → ℕ
  members_size no_members = 0
  members_size (member k d ms) = size d + members_size ms

-- the same of a value with its members in order
abbrev mutual
  json_size : json.Json → ℕ
  json_size json.null = 1
  json_size (json.boolean b) = 1
  json_size (json.number s) = 1
  json_size (json.string s) = 1
  json_size (json.array js) = suc (json_items_size js)
  json_size (json.object ms) = suc (json_members_size ms)

  json_items_size : json.Items → ℕ
  json_items_size json.no_items = 0
  json_items_size (json.item j js) = json_size j + json_items_size js

  json_members_size : json.Members → ℕ
  json_members_size json.no_members = 0
  json_members_size (json.member k j ms) = json_size j + json_members_size ms

-- what there is has at most such a size
abbrev pub IsSmall : {A : Type 0} → (A → ℕ) → ℕ → Option A → Type 0
IsSmall size_of n None = ⊤
IsSmall size_of n (Some a) = size_of a ≤ n

-- what was read, and the tokens that are left, are no more than so many
abbrev IsTaken : {A : Type 0} → (A → ℕ) → ℕ → Option (A × List Token) → Type 0
IsTaken size_of n None = ⊤
IsTaken size_of n (Some p) = size_of p.0 + length p.1 ≤ n

abbrev Takes : {A : Type 0} → (A → ℕ) → (List Token → Option (A × List Token)) → Type 0
Takes size_of reading = (ts : List Token) → IsTaken size_of (length ts) (reading ts)

-- a value is made of what was read, with at most one more
map_taken : {A B : Type 0} (small : A → ℕ) (large : B → ℕ) (f : A → B) (n more : ℕ) (r : Option (A × List Token)) → IsTaken small n r → ((a : A) → large (f a) ≤ small a + 1) → n + 1 ≤ more →
    IsTaken large more (json.parse_map f r)
map_taken small large f n more None h grows room = tt
map_taken small large f n more (Some p) h grows room = omega (arith, h, grows p.0, room)

-- a value, and then others
then_taken : {A B C : Type 0} (first : A → ℕ) (later : B → ℕ) (all : C → ℕ) (f : A → B → C) (more : List Token → Option (B × List Token)) (n : ℕ) (r : Option (A × List Token)) →
    IsTaken first n r → Takes later more → ((a : A) (b : B) → all (f a b) ≤ first a + later b) →
    IsTaken all n (option_and_then (λ p. json.parse_map (f p.0) (more p.1)) r)
then_taken first later all f more n None h takes grows = tt
then_taken first later all f more n (Some p) h takes grows = rest (more p.1) (takes p.1)
  where
    rest : (q : _) → IsTaken later (length p.1) q → IsTaken all n (json.parse_map (f p.0) q)
    rest None t = tt
    rest (Some q) t = omega (arith, h, t, grows p.0 q.0)

-- no more tokens are left
abbrev AreLeft : ℕ → Option (List Token) → Type 0
AreLeft n None = ⊤
AreLeft n (Some ts) = length ts ≤ n

after_left : (ts : List Token) → AreLeft (length ts) (json.after_end_array ts)
after_left [] = tt
after_left (Token.begin_object ∷ ts) = tt
after_left (Token.end_object ∷ ts) = tt
after_left (Token.begin_array ∷ ts) = tt
after_left (Token.end_array ∷ ts) = omega arith
after_left (Token.key s ∷ ts) = tt
after_left (Token.string s ∷ ts) = tt
after_left (Token.number s ∷ ts) = tt
after_left (Token.boolean b ∷ ts) = tt
after_left (Token.null ∷ ts) = tt
after_left (Token.bad ∷ ts) = tt

-- no key has a size
abbrev none : Option (List ℕ) → ℕ
none k = 0

key_taken : Takes none json.read_key
key_taken [] = tt
key_taken (Token.begin_object ∷ ts) = tt
key_taken (Token.end_object ∷ ts) = omega arith
key_taken (Token.begin_array ∷ ts) = tt
key_taken (Token.end_array ∷ ts) = tt
key_taken (Token.key s ∷ ts) = omega arith
key_taken (Token.string s ∷ ts) = tt
key_taken (Token.number s ∷ ts) = tt
key_taken (Token.boolean b ∷ ts) = tt
key_taken (Token.null ∷ ts) = tt
key_taken (Token.bad ∷ ts) = tt

step_taken : (value : json.Parse json.Json) (more : json.Parse json.Items) (ts : List Token) (after : Option (List Token)) → Takes json_size value → Takes json_items_size more → AreLeft (length ts) after →
    IsTaken json_items_size (length ts) (json.items_step value more ts after)
step_taken value more ts (Some rest) v m left = omega (arith, left)
step_taken value more ts None v m left =
    then_taken json_size json_items_size json_items_size json.item more (length ts) (value ts) (v ts) m (λ j js. omega arith)

items_taken : (value : json.Parse json.Json) (n : ℕ) → Takes json_size value → Takes json_items_size (json.items value n)
unfolding json.items
items_taken value zero v ts = tt
items_taken value (suc n) v ts = step_taken value (json.items value n) ts (json.after_end_array ts) v (items_taken value n v) (after_left ts)

with_key : (value : json.Parse json.Json) (more : json.Parse json.Members) (key : Option (List ℕ)) (ts : List Token) (n : ℕ) → Takes json_size value → Takes json_members_size more → length ts ≤ n →
    IsTaken json_members_size n (json.members_step value more key ts)
with_key value more None ts n v m h = omega (arith, h)
with_key value more (Some k) ts n v m h =
    then_taken json_size json_members_size json_members_size (json.member k) more n (value ts) (fits (value ts) (v ts)) m (λ j ms. omega arith)
  where
    fits : (r : _) → IsTaken json_size (length ts) r → IsTaken json_size n r
    fits None t = tt
    fits (Some q) t = omega (arith, t, h)

after_key : (value : json.Parse json.Json) (more : json.Parse json.Members) (n : ℕ) (key : Option (Option (List ℕ) × List Token)) → Takes json_size value → Takes json_members_size more → IsTaken none n key →
    IsTaken json_members_size n (option_and_then (λ p. json.members_step value more p.0 p.1) key)
after_key value more n None v m h = tt
after_key value more n (Some p) v m h = with_key value more p.0 p.1 n v m (omega (arith, h))

members_taken : (value : json.Parse json.Json) (n : ℕ) → Takes json_size value → Takes json_members_size (json.members value n)
unfolding json.members
members_taken value zero v ts = tt
members_taken value (suc n) v ts = after_key value (json.members value n) (length ts) (json.read_key ts) v (members_taken value n v) (key_taken ts)

with_taken : (a : json.Parse json.Items) (o : json.Parse json.Members) → Takes json_items_size a → Takes json_members_size o → Takes json_size (json.value_with a o)
with_taken a o items members [] = tt
with_taken a o items members (Token.begin_object ∷ ts) = map_taken json_members_size json_size json.object (length ts) (suc (length ts)) (o ts) (members ts) (λ ms. omega arith) (omega arith)
with_taken a o items members (Token.end_object ∷ ts) = tt
with_taken a o items members (Token.begin_array ∷ ts) = map_taken json_items_size json_size json.array (length ts) (suc (length ts)) (a ts) (items ts) (λ js. omega arith) (omega arith)
with_taken a o items members (Token.end_array ∷ ts) = tt
with_taken a o items members (Token.key s ∷ ts) = tt
with_taken a o items members (Token.string s ∷ ts) = omega arith
with_taken a o items members (Token.number s ∷ ts) = omega arith
with_taken a o items members (Token.boolean b ∷ ts) = omega arith
with_taken a o items members (Token.null ∷ ts) = omega arith
with_taken a o items members (Token.bad ∷ ts) = tt

value_taken : (depth : ℕ) → Takes json_size (json.value depth)
unfolding json.value
value_taken zero ts = with_taken (λ ts. None) (λ ts. None) (λ ts. tt) (λ ts. tt) ts
value_taken (suc depth) ts =
    with_taken (λ ts. json.items (json.value depth) (length ts) ts) (λ ts. json.members (json.value depth) (length ts) ts)
    (λ ts. items_taken (json.value depth) (length ts) (value_taken depth) ts) (λ ts. members_taken (json.value depth) (length ts) (value_taken depth) ts) ts

-- a text has no more lexemes than bytes
byte_few : (m : Mode) (c : lexer.Class) (x : ℕ) (xs : List ℕ) (k : Mode → List Lexeme) (n : ℕ) → ((m : Mode) → length (k m) ≤ n) → length (lexer.lex_byte m c x xs k) ≤ n + 1
byte_few Mode.between lexer.quote x xs k n h = omega (arith, h Mode.in_string)
byte_few Mode.between lexer.backslash x xs k n h = omega (arith, h Mode.in_word)
byte_few Mode.between lexer.operator x xs k n h = omega (arith, h Mode.between)
byte_few Mode.between lexer.space x xs k n h = omega (arith, h Mode.between)
byte_few Mode.between lexer.other x xs k n h = omega (arith, h Mode.in_word)
byte_few Mode.in_word lexer.quote x xs k n h = omega (arith, h Mode.in_word)
byte_few Mode.in_word lexer.backslash x xs k n h = omega (arith, h Mode.in_word)
byte_few Mode.in_word lexer.operator x xs k n h = omega (arith, h Mode.between)
byte_few Mode.in_word lexer.space x xs k n h = omega (arith, h Mode.between)
byte_few Mode.in_word lexer.other x xs k n h = omega (arith, h Mode.in_word)
byte_few Mode.in_string lexer.quote x xs k n h = omega (arith, h Mode.between)
byte_few Mode.in_string lexer.backslash x xs k n h = omega (arith, h Mode.in_escape)
byte_few Mode.in_string lexer.operator x xs k n h = omega (arith, h Mode.in_string)
byte_few Mode.in_string lexer.space x xs k n h = omega (arith, h Mode.in_string)
byte_few Mode.in_string lexer.other x xs k n h = omega (arith, h Mode.in_string)
byte_few Mode.in_escape c x xs k n h = omega (arith, h Mode.in_string)

lex_few : (m : Mode) (xs : List ℕ) → length (lexer.lex m xs) ≤ length xs
unfolding lexer.lex
lex_few m [] = omega arith
lex_few m (x ∷ xs) = omega (arith, byte_few m (lexer.class x) x xs (λ next. lexer.lex next xs) (length xs) (λ next. lex_few next xs))

-- and no more tokens than lexemes, and one
allowed_few : (t : Bool) (token : Token) (k : Place → List Token) (next : Place) (n : ℕ) → ((p : Place) → length (k p) ≤ n) → length (lexer.if_allowed t token k next) ≤ n + 1
allowed_few true token k next n h = omega (arith, h next)
allowed_few false token k next n h = omega arith

token_few : (p : Place) (t : Token) (colon : Bool) (k : Place → List Token) (n : ℕ) → ((p : Place) → length (k p) ≤ n) → length (lexer.place_token p t colon k) ≤ n + 1
token_few p Token.begin_object colon k n h = allowed_few (lexer.may_begin p) Token.begin_object k Place.fresh n h
token_few p Token.end_object colon k n h = allowed_few (lexer.may_close p) Token.end_object k Place.after_value n h
token_few p Token.begin_array colon k n h = allowed_few (lexer.may_begin p) Token.begin_array k Place.fresh n h
token_few p Token.end_array colon k n h = allowed_few (lexer.may_close p) Token.end_array k Place.after_value n h
token_few p (Token.key s) colon k n h = omega arith
token_few p (Token.string s) true k n h = allowed_few (lexer.may_begin p) (Token.key s) k Place.after_key n h
token_few p (Token.string s) false k n h = allowed_few (lexer.may_begin p) (Token.string s) k Place.after_value n h
token_few p (Token.number s) colon k n h = allowed_few (lexer.may_begin p) (Token.number s) k Place.after_value n h
token_few p (Token.boolean b) colon k n h = allowed_few (lexer.may_begin p) (Token.boolean b) k Place.after_value n h
token_few p Token.null colon k n h = allowed_few (lexer.may_begin p) Token.null k Place.after_value n h
token_few p Token.bad colon k n h = omega arith

punctuated_few : (p : Place) (ls : List Lexeme) → length (lexer.punctuate p ls) ≤ length ls + 1
unfolding lexer.punctuate
punctuated_few Place.fresh [] = omega arith
punctuated_few Place.after_value [] = omega arith
punctuated_few Place.after_comma [] = omega arith
punctuated_few Place.after_key [] = omega arith
punctuated_few Place.fresh (lexer.token t ∷ ls) = omega (arith, token_few Place.fresh t (lexer.begins_colon ls) (λ next. lexer.punctuate next ls) (length ls + 1) (λ next. punctuated_few next ls))
punctuated_few Place.after_value (lexer.token t ∷ ls) = omega (arith, token_few Place.after_value t (lexer.begins_colon ls) (λ next. lexer.punctuate next ls) (length ls + 1) (λ next. punctuated_few next ls))
punctuated_few Place.after_comma (lexer.token t ∷ ls) = omega (arith, token_few Place.after_comma t (lexer.begins_colon ls) (λ next. lexer.punctuate next ls) (length ls + 1) (λ next. punctuated_few next ls))
punctuated_few Place.after_key (lexer.token t ∷ ls) = omega (arith, token_few Place.after_key t (lexer.begins_colon ls) (λ next. lexer.punctuate next ls) (length ls + 1) (λ next. punctuated_few next ls))
punctuated_few Place.fresh (lexer.comma ∷ ls) = omega arith
punctuated_few Place.after_value (lexer.comma ∷ ls) = omega (arith, punctuated_few Place.after_comma ls)
punctuated_few Place.after_comma (lexer.comma ∷ ls) = omega arith
punctuated_few Place.after_key (lexer.comma ∷ ls) = omega arith
punctuated_few Place.fresh (lexer.colon ∷ ls) = omega arith
punctuated_few Place.after_value (lexer.colon ∷ ls) = omega arith
punctuated_few Place.after_comma (lexer.colon ∷ ls) = omega arith
punctuated_few Place.after_key (lexer.colon ∷ ls) = omega (arith, punctuated_few Place.fresh ls)

tokens_few : (text : List ℕ) → length (tokens text) ≤ length text + 1
tokens_few text = omega (arith, punctuated_few Place.fresh (lexer.lex Mode.between text), lex_few Mode.between text)

-- a value that is kept has no more values in it than what was read
number_small : (n : Option Num) → IsSmall size 1 (option_map number n)
number_small None = tt
number_small (Some n) = omega arith

put_small : (k : List ℕ) (d : Data) (ms : Members) → members_size (put k d ms) ≤ size d + members_size ms
put_small k d no_members = omega arith
put_small k d (member l e ms) = placed (slice_cmp nat_cmp k l) (put k d ms) (put_small k d ms)
  where
    placed : (o : Ordering) (more : Members) → members_size more ≤ size d + members_size ms →
        members_size (match_ordering o (member k d (member l e ms)) (member l d ms) (member l e more)) ≤ size d + (size e + members_size ms)
    placed Less more h = omega arith
    placed Equal more h = omega arith
    placed Greater more h = omega (arith, h)

item_small : (n m : ℕ) (d : Option Data) (ds : Option Items) → IsSmall size n d → IsSmall items_size m ds → IsSmall items_size (n + m) (option_and_then (λ d. option_map (item d) ds) d)
item_small n m None ds h more = tt
item_small n m (Some d) None h more = tt
item_small n m (Some d) (Some ds) h more = omega (arith, h, more)

grown_small : {A B : Type 0} (small : A → ℕ) (large : B → ℕ) (f : A → B) (n : ℕ) (r : Option A) → IsSmall small n r → ((a : A) → large (f a) ≤ suc (small a)) → IsSmall large (suc n) (option_map f r)
grown_small small large f n None h grows = tt
grown_small small large f n (Some a) h grows = omega (arith, h, grows a)

member_small : (n m : ℕ) (d : Option Data) (more : Data → Option Members) → IsSmall size n d → ((d : Data) → size d ≤ n → IsSmall members_size m (more d)) →
    IsSmall members_size m (option_and_then more d)
member_small n m None more h next = tt
member_small n m (Some d) more h next = next d h

mutual
  json_small : (j : json.Json) → IsSmall size (json_size j) (of_json j)
  json_small json.null = omega arith
  json_small (json.boolean b) = omega arith
  json_small (json.number s) = number_small (number_of s)
  json_small (json.string s) = omega arith
  json_small (json.array js) = grown_small items_size size array (json_items_size js) (of_items js) (items_small js) (λ ds. omega arith)
  json_small (json.object ms) = grown_small members_size size object (json_members_size ms) (of_members ms no_members) (members_small ms no_members (json_members_size ms) (omega arith)) (λ ds. omega arith)

  items_small : (js : json.Items) → IsSmall items_size (json_items_size js) (of_items js)
  items_small json.no_items = omega arith
  items_small (json.item j js) = item_small (json_size j) (json_items_size js) (of_json j) (of_items js) (json_small j) (items_small js)

  members_small : (ms : json.Members) (found : Members) (n : ℕ) → json_members_size ms + members_size found ≤ n → IsSmall members_size n (of_members ms found)
  members_small json.no_members found n h = omega (arith, h)
  members_small (json.member k j ms) found n h =
      member_small (json_size j) n (of_json j) (λ d. of_members ms (put k d found)) (json_small j)
      (λ d few. members_small ms (put k d found) n (omega (arith, h, few, put_small k d found)))

pub kept_small : {A : Type 0} (size_of : A → ℕ) (k n : ℕ) (o : Option A) → k ≤ n → IsSmall size_of k o → IsSmall size_of n o
kept_small size_of k n None l h = tt
kept_small size_of k n (Some a) l h = omega (arith, l, h)

last_small : (n : ℕ) (j : json.Json) (ts : List Token) → json_size j ≤ n → IsSmall size n (option_and_then of_json (json.if_last j ts))
last_small n j [] h = kept_small size (json_size j) n (of_json j) h (json_small j)
last_small n j (t ∷ ts) h = tt

document_small : (n m : ℕ) (r : Option (json.Json × List Token)) → n ≤ m → IsTaken json_size n r → IsSmall size m (option_and_then of_json (option_and_then (λ p. json.if_last p.0 p.1) r))
document_small n m None l h = tt
document_small n m (Some p) l h = last_small m p.0 p.1 (omega (arith, l, h))

pub read_small : (text : List ℕ) → IsSmall size (length text + 1) (read text)
read_small text =
    document_small (length (tokens text)) (length text + 1) (json.value max_depth (tokens text)) (tokens_few text) (value_taken max_depth (tokens text))

-- what an object has under a key has fewer values in it
pub member_within : (k : List ℕ) (ms : Members) → IsSmall size (members_size ms) (get_member k ms)
member_within k no_members = tt
member_within k (member l e ms) = found (slice_cmp nat_cmp k l) (get_member k ms) (member_within k ms)
  where
    found : (o : Ordering) (r : Option Data) → IsSmall size (members_size ms) r → IsSmall size (size e + members_size ms) (match_ordering o r (Some e) r)
    found Less None h = tt
    found Less (Some d) h = omega (arith, h)
    found Equal r h = omega arith
    found Greater None h = tt
    found Greater (Some d) h = omega (arith, h)

pub value_within : (k : List ℕ) (d : Data) → IsSmall (λ e. suc (size e)) (size d) (get k d)
value_within k null = tt
value_within k (boolean b) = tt
value_within k (number n) = tt
value_within k (string s) = tt
value_within k (array ds) = tt
value_within k (object ms) = fewer (get_member k ms) (member_within k ms)
  where
    fewer : (r : Option Data) → IsSmall size (members_size ms) r → IsSmall (λ e. suc (size e)) (suc (members_size ms)) r
    fewer None h = tt
    fewer (Some e) h = omega (arith, h)
