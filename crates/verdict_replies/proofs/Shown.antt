-- The sides of an instance, one or two, and what they show.
use Rattle.std.proofs.Common.{◌≡◌, ◌⊎◌, List, [], ◌∷◌, length, refl, inl, inr, arith}
use Rattle.verdict_text.specs.Verdict.{SideValue}
use Rattle.verdict_text.specs.Grammar.{side_count}
use Rattle.instance_model.specs.Instance.{InstanceValue, plain, circular, convex, doubly, proper, robinson, instance_kind, instance_columns, derived_matrix, IsInstance}
use Rattle.verdict_replies.specs.Verdicts.{ShowsSide, ShowsSides}
use Rattle.verdict_replies.proofs.PlainKinds.{plain_cases}

-- an instance has as many sides as verdicts of its kind
pub sides_of_kind : (i : InstanceValue) → IsInstance i → length (instance_columns i) ≡ side_count (instance_kind i)
sides_of_kind (plain kind m) h = plain_cases (λ k. 1 ≡ side_count k) refl refl refl refl kind h.0
sides_of_kind (circular m) h = refl
sides_of_kind (convex g) h = refl
sides_of_kind (doubly g) h = refl
sides_of_kind (proper g) h = refl
sides_of_kind (robinson d) h = refl

-- the columns of one side, or of two
pub record OneSided (i : InstanceValue) : Type 0 where
  pub columns : instance_columns i ≡ (derived_matrix i 1).columns ∷ []

pub record TwoSided (i : InstanceValue) : Type 0 where
  pub columns : instance_columns i ≡ (derived_matrix i 1).columns ∷ (derived_matrix i 2).columns ∷ []

pub one_or_two : (i : InstanceValue) → OneSided i ⊎ TwoSided i
one_or_two (plain kind m) = inl (record { columns = refl })
one_or_two (circular m) = inl (record { columns = refl })
one_or_two (convex g) = inl (record { columns = refl })
one_or_two (doubly g) = inr (record { columns = refl })
one_or_two (proper g) = inl (record { columns = refl })
one_or_two (robinson d) = inl (record { columns = refl })

-- the sides of a yes
pub record OneShown (i : InstanceValue) (sides : List SideValue) : Type 0 where
  pub side : SideValue
  pub is : sides ≡ side ∷ []
  pub shows : ShowsSide i 1 side

pub record TwoShown (i : InstanceValue) (sides : List SideValue) : Type 0 where
  pub first : SideValue
  pub second : SideValue
  pub is : sides ≡ first ∷ second ∷ []
  pub shows_first : ShowsSide i 1 first
  pub shows_second : ShowsSide i 2 second

pub one_shown : (i : InstanceValue) (sides : List SideValue) → length (instance_columns i) ≡ 1 → ShowsSides i sides → OneShown i sides
one_shown i [] one shows = absurd (omega (arith, one, shows.count))
one_shown i (side ∷ []) one shows = record { side = side; is = refl; shows = shows.each 1 (omega arith, omega (arith, one)) }
one_shown i (side ∷ more ∷ rest) one shows = absurd (omega (arith, one, shows.count))

pub two_shown : (i : InstanceValue) (sides : List SideValue) → length (instance_columns i) ≡ 2 → ShowsSides i sides → TwoShown i sides
two_shown i [] two shows = absurd (omega (arith, two, shows.count))
two_shown i (first ∷ []) two shows = absurd (omega (arith, two, shows.count))
two_shown i (first ∷ second ∷ []) two shows = record {
  first = first;
  second = second;
  is = refl;
  shows_first = shows.each 1 (omega arith, omega (arith, two));
  shows_second = shows.each 2 (omega arith, omega (arith, two));
}
two_shown i (first ∷ second ∷ more ∷ rest) two shows = absurd (omega (arith, two, shows.count))
