-- The items of an array, as far as they are read.
use Rattle.std.proofs.Common.{◌≡◌, ◌∙◌, ℕ, ◌-◌, ◌<◌, ◌≤◌, List, length, Some, None, ap, arith}
use Rattle.json.specs.Token.{Token}
use Rattle.json.specs.Json.{parse_map, after_end_array}
use Rattle.serde_json.specs.Data.{Data, Items, no_items, item}
use Rattle.matrix_read.specs.JsonSteps.{value_at, items_at}
use Rattle.matrix_read.proofs.JsonLemmas.{item_read, item_refused, items_over}
use Rattle.matrix_read.proofs.FileLemmas.{joined, joined_none, joined_more, joined_nothing}

-- these items were read at the front of all the tokens, and so many are left to read from
pub record AreItems (depth : ℕ) (all left : List Token) (found : Items) : Type 0 where
  pub turns : ℕ
  pub enough : length left ≤ turns
  pub shorter : length left ≤ length all
  pub so_far : items_at depth (length all) all ≡ parse_map (joined found) (items_at depth turns left)

module _ (depth : ℕ) (all : List Token) where
  pub none_read : AreItems depth all all no_items
  none_read = record { turns = length all; enough = omega arith; shorter = omega arith; so_far = joined_nothing _ }

  module _ (left : List Token) (found : Items) (before : AreItems depth all left found) where
    pub no_item : after_end_array left ≡ None → value_at depth left ≡ None → items_at depth (length all) all ≡ None
    no_item going none = before.so_far ∙ ap (parse_map (joined found)) (item_refused depth before.turns left going none)

    pub one_item : (rest : List Token) (value : Data) → after_end_array left ≡ None → value_at depth left ≡ Some (value, rest) → length rest < length left
        → AreItems depth all rest (joined found (item value no_items))
    one_item rest value going read less = record {
      turns = before.turns - 1;
      enough = omega (arith, before.enough);
      shorter = omega (arith, before.shorter);
      so_far = before.so_far ∙ ap (parse_map (joined found)) (item_read depth before.turns left rest value (omega (arith, before.enough, less)) going read)
          ∙ joined_more found value (items_at depth (before.turns - 1) rest);
    }

    pub all_items : (rest : List Token) → after_end_array left ≡ Some rest → items_at depth (length all) all ≡ Some (found, rest)
    all_items rest e = before.so_far ∙ ap (parse_map (joined found)) (items_over depth before.turns left rest before.enough e) ∙ ap (λ ds. Some (ds, rest)) (joined_none found)
