-- The members of an object, as far as they are read.
use Rattle.std.proofs.Common.{◌≡◌, ◌∙◌, ℕ, ◌-◌, ◌<◌, ◌≤◌, List, length, Some, None, refl, arith}
use Rattle.json.specs.Token.{Token}
use Rattle.json.specs.Json.{read_key}
use Rattle.json.proofs.Grammar.{read_key-shorter}
use Rattle.serde_json.specs.Data.{Data, Members, no_members, put}
use Rattle.matrix_read.specs.JsonSteps.{value_at, members_at}
use Rattle.matrix_read.proofs.JsonLemmas.{member_read, member_refused, key_refused, members_over}

-- behind a key and what follows it fewer tokens are left
pub fewer_left : (left next rest : List Token) (key : List ℕ) → read_key left ≡ Some (Some key, next) → length rest < length next → length rest < length left
fewer_left left next rest key e less = let fewer : length next < length left = read_key-shorter left (Some key) next e in omega arith

-- these members were found at the front of all the tokens, and so many are left to read from
pub record AreFound (depth : ℕ) (all left : List Token) (found : Members) : Type 0 where
  pub turns : ℕ
  pub enough : length left ≤ turns
  pub shorter : length left ≤ length all
  pub so_far : members_at depth (length all) no_members all ≡ members_at depth turns found left

module _ (depth : ℕ) (all : List Token) where
  pub none_found : AreFound depth all all no_members
  none_found = record { turns = length all; enough = omega arith; shorter = omega arith; so_far = refl }

  pub no_key : (left : List Token) (found : Members) (before : AreFound depth all left found) → read_key left ≡ None → members_at depth (length all) no_members all ≡ None
  no_key left found before e = before.so_far ∙ key_refused depth found before.turns left e

  -- what comes next
  module _ (left next : List Token) (found : Members) (before : AreFound depth all left found) where
    pub no_value : (key : List ℕ) → read_key left ≡ Some (Some key, next) → value_at depth next ≡ None → members_at depth (length all) no_members all ≡ None
    no_value key e none = before.so_far ∙ member_refused depth found before.turns key left next e none

    pub one_more : (key : List ℕ) (rest : List Token) (value : Data) → read_key left ≡ Some (Some key, next) → value_at depth next ≡ Some (value, rest) → length rest < length next
        → AreFound depth all rest (put key value found)
    one_more key rest value e read less =
        let fewer : length next < length left = read_key-shorter left (Some key) next e in
        record {
          turns = before.turns - 1;
          enough = omega (arith, before.enough);
          shorter = omega (arith, before.shorter);
          so_far = before.so_far ∙ member_read depth found before.turns key left next rest value (omega (arith, before.enough)) e read;
        }

    pub no_more : read_key left ≡ Some (None, next) → members_at depth (length all) no_members all ≡ Some (found, next)
    no_more e = before.so_far ∙ members_over depth found before.turns left next before.enough e
