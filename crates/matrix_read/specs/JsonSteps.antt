-- JSON as a list of tokens that is read from its front.
use Rattle.std.specs.Prelude.{◌≡◌, ℕ, List, Bool, false, true, Option, Some, None, option_map}
use Rattle.json.specs.Token.{Token, begin_object, begin_array, string}
use Rattle.json.specs.Json.{value, items, members}
use Rattle.serde_json.specs.Data.{Data, Items, Members}
use Rattle.serde_json.specs.Find.{get, as_array}
use Rattle.serde_json.specs.Read.{of_json, of_items, of_members, converted}

-- the value at the front, which nests so deep at most, and the tokens behind it
abbrev pub value_at : ℕ → List Token → Option (Data × List Token)
value_at depth tokens = converted of_json (value depth tokens)

-- the items up to the end of an array, in so many turns at most, and the tokens behind it
abbrev pub items_at : ℕ → ℕ → List Token → Option (Items × List Token)
items_at depth turns tokens = converted of_items (items (value depth) turns tokens)

-- the members up to the end of an object, put into those found before, and the tokens behind it
abbrev pub members_at : ℕ → ℕ → Members → List Token → Option (Members × List Token)
members_at depth turns found tokens = converted (λ read. of_members read found) (members (value depth) turns tokens)

-- the tokens behind what is read
abbrev pub behind : {T : Type 0} → Option (T × List Token) → Option (List Token)
behind read = option_map (λ both. both.1) read

-- the bytes of a token that is a string
abbrev pub string_in : Token → Option (List ℕ)
string_in (string text) = Some text
string_in token = None

-- whether a token begins an array
abbrev pub opens_array : Token → Bool
opens_array begin_array = true
opens_array token = false

-- whether a token begins an object
abbrev pub opens_object : Token → Bool
opens_object begin_object = true
opens_object token = false

-- the value at the front is no array, and these tokens stand behind it
pub record IsNoArray (depth : ℕ) (tokens rest : List Token) : Type 0 where
  pub value : Data
  pub is : value_at depth tokens ≡ Some (value, rest)
  pub list : as_array value ≡ None

-- the value at the front is no object, and these tokens stand behind it
pub record IsNoObject (depth : ℕ) (tokens rest : List Token) : Type 0 where
  pub value : Data
  pub is : value_at depth tokens ≡ Some (value, rest)
  pub members : (key : List ℕ) → get key value ≡ None
