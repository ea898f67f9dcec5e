-- The value that a token begins.
use Rattle.std.proofs.Common.{◌≡◌, ◌∙◌, ℕ, ◌-◌, ◌<◌, List, [], ◌∷◌, length, true, Some, None, sym, ap}
use Rattle.json.specs.Token.{Token}
use Rattle.json.specs.Json.{parse_map}
use Rattle.json.proofs.Grammar.{left_some}
use Rattle.serde_json.specs.Data.{Data, array, object, no_members}
use Rattle.matrix_read.specs.JsonSteps.{value_at, items_at, members_at, behind, opens_array, opens_object}
use Rattle.matrix_read.proofs.JsonLemmas.{nothing_at_front, array_at_front, object_at_front}
use Rattle.matrix_read.proofs.FileLemmas.{IsKind, kind_at_front, array_token, object_token}

module _ (depth : ℕ) (all : List Token) where
  -- no token
  pub no_token : all ≡ [] → value_at depth all ≡ None
  no_token none = ap (value_at depth) none ∙ nothing_at_front depth

  module _ (token : Token) (next : List Token) (first : all ≡ token ∷ next) where
    pub begins_array : 0 < depth → opens_array token ≡ true → value_at depth all ≡ parse_map array (items_at (depth - 1) (length next) next)
    begins_array some opened = ap (value_at depth) (first ∙ ap (λ t. t ∷ next) (array_token token opened)) ∙ array_at_front depth next some

    pub begins_object : 0 < depth → opens_object token ≡ true → value_at depth all ≡ parse_map object (members_at (depth - 1) (length next) no_members next)
    begins_object some opened = ap (value_at depth) (first ∙ ap (λ t. t ∷ next) (object_token token opened)) ∙ object_at_front depth next some

    -- what was passed over
    pub passed_value : (rest : List Token) → behind (value_at depth (token ∷ next)) ≡ Some rest → (value : Data) × (value_at depth all ≡ Some (value, rest)) × IsKind token value
    passed_value rest read =
        let whole = left_some (value_at depth all) rest (ap (λ ts. behind (value_at depth ts)) first ∙ read) in
        (whole.0, whole.1, kind_at_front depth token next rest whole.0 (ap (value_at depth) (sym first) ∙ whole.1))
