-- A number that is read is at the front, and a number at the front is read.
use Rattle.std.proofs.Common.{◌≡◌, ◌∙◌, ◌+◌, ◌-◌, ◌*◌, ◌/◌, ◌%◌, ◌^◌, ◌<◌, ◌≤◌, ℕ, zero, suc, Bool, true, false, cond, eqb, leb, List, [], ◌∷◌, ◌++◌, Option, Some, None, refl, sym, ap, arith, inl, inr, ◌⊎◌, eq-eqb}
use Rattle.std.proofs.lemmas.Bool.{le-leb, leb-true, cases_eq, ne_eqb, eqb-true, both_ways}
use Rattle.std.proofs.lemmas.Option.{some_pair_parts, none-some}
use Rattle.std.proofs.lemmas.List.{append_assoc}
use Rattle.std.proofs.lemmas.Fmt.{decimal_by_steps, decimal_digit}
use Rattle.std.specs.Char.{is_ascii_digit}
use Rattle.std.specs.Fmt.{decimal}
use Rattle.std.specs.Prelude.{◌≢◌, IfSome, IfNone, option_map}
use Rattle.std.specs.Borrow.{Bor}
use Rattle.plain_text.specs.Rest.{with_rest}
use Rattle.plain_text.specs.Numbers.{number_at, digits_on, NoDigitFirst}
use Rattle.plain_text.proofs.Digits.{digit_is, digit_within, decimal_byte, decimal_next_byte}

-- which way a test went
pub chosen : {A : Type 0} (b : Bool) (x y z : A) → cond b x y ≡ z → ((b ≡ true) × (x ≡ z)) ⊎ ((b ≡ false) × (y ≡ z))
chosen true x y z h = inl (refl, h)
chosen false x y z h = inr (refl, h)

digits_takes : (limit n : ℕ) (bytes : List ℕ) (m : ℕ) (rest : List ℕ) → limit < 2 ^ 64 → 1 ≤ n → n ≤ limit → digits_on limit n bytes ≡ Some (m, rest) → (decimal n ++ bytes ≡ decimal m ++ rest) × (m ≤ limit)
digits_takes limit n [] m rest small k l h =
    let e = some_pair_parts n m [] rest h in
    (ap (λ x. decimal x ++ []) e.0 ∙ ap (λ x. decimal m ++ x) e.1, omega (arith, e.0))
digits_takes limit n (b ∷ bytes) m rest small k l h =
    elim (chosen (is_ascii_digit b) _ _ _ h) [
      | inl e ↦ elim (chosen (leb (n * 10 + (b - 48)) limit) _ _ _ e.1) [
        | inl f ↦
            let w = digit_within b e.0 in
            let under : n * 10 + (b - 48) ≤ limit = leb-true (n * 10 + (b - 48)) limit f.0 in
            let r = digits_takes limit (n * 10 + (b - 48)) bytes m rest small (omega arith) under f.1 in
            (sym (append_assoc (decimal n) (b ∷ []) bytes) ∙ ap (λ x. x ++ bytes) (sym (decimal_next_byte n b k w.0 w.1 (omega arith))) ∙ r.0, r.1)
        | inr f ↦ absurd (none-some _ f.1)
      ]
      | inr e ↦
          let p = some_pair_parts n m (b ∷ bytes) rest e.1 in
          (ap (λ x. decimal x ++ (b ∷ bytes)) p.0 ∙ ap (λ x. decimal m ++ x) p.1, omega (arith, p.0))
    ]

-- what is read stands at the front
pub number_takes : (limit : ℕ) (bytes : List ℕ) (m : ℕ) (rest : List ℕ) → limit < 2 ^ 64 → number_at limit bytes ≡ Some (m, rest) → (bytes ≡ decimal m ++ rest) × (m ≤ limit)
unfolding number_at
number_takes limit [] m rest small h = absurd (none-some _ h)
number_takes limit (b ∷ bytes) m rest small h =
    elim (chosen (eqb b 48) _ _ _ h) [
      | inl e ↦
          let p = some_pair_parts 0 m bytes rest e.1 in
          (ap (λ x. x ∷ bytes) (eqb-true b 48 e.0) ∙ ap (λ x. x ++ bytes) (sym (decimal_digit 0 (omega arith))) ∙ ap (λ x. decimal x ++ bytes) p.0 ∙ ap (λ x. decimal m ++ x) p.1, omega (arith, p.0))
      | inr e ↦ elim (chosen (is_ascii_digit b) _ _ _ e.1) [
        | inl f ↦ elim (chosen (leb (b - 48) limit) _ _ _ f.1) [
          | inl g ↦
              let w = digit_within b f.0 in
              let one : 1 ≤ b - 48 = elim (cases_eq b 48) [
                | inl q ↦ absurd (both_ways (eqb b 48) e.0 (eq-eqb b 48 q))
                | inr q ↦ omega arith
              ] in
              let r = digits_takes limit (b - 48) bytes m rest small one (leb-true (b - 48) limit g.0) g.1 in
              (ap (λ x. x ++ bytes) (sym (decimal_byte b w.0 w.1)) ∙ r.0, r.1)
          | inr g ↦ absurd (none-some _ g.1)
        ]
        | inr f ↦ absurd (none-some _ f.1)
      ]
    ]

-- a number that is followed by no digit is read
digits_on_step : (limit n d : ℕ) (rest : List ℕ) → d < 10 → n * 10 + d ≤ limit → digits_on limit n ((48 + d) ∷ rest) ≡ digits_on limit (n * 10 + d) rest
digits_on_step limit n d rest small h =
    let e : 48 + d - 48 ≡ d = omega arith in
    rw (digit_is d small, e, le-leb (n * 10 + d) limit h) refl

number_at_first : (limit d : ℕ) (rest : List ℕ) → 1 ≤ d → d < 10 → d ≤ limit → number_at limit ((48 + d) ∷ rest) ≡ digits_on limit d rest
unfolding number_at
number_at_first limit d rest l small h =
    let e : 48 + d - 48 ≡ d = omega arith in
    let n : eqb (48 + d) 48 ≡ false = ne_eqb (48 + d) 48 (λ q. omega arith) in
    rw (n, digit_is d small, e, le-leb d limit h) refl

pub number_goes : (limit n : ℕ) → limit < 2 ^ 64 → 1 ≤ n → n ≤ limit → (rest : List ℕ) → number_at limit (decimal n ++ rest) ≡ digits_on limit n rest
number_goes limit n small k l =
    let P : ℕ → List ℕ → Type 0 = λ n ds. 1 ≤ n → n ≤ limit → (rest : List ℕ) → number_at limit (ds ++ rest) ≡ digits_on limit n rest in
    decimal_by_steps P (λ n h k l rest. number_at_first limit n rest k h l) (λ n ds h r k l rest.
    let e : n / 10 * 10 + n % 10 ≡ n = omega arith in
    ap (number_at limit) (append_assoc ds ((48 + n % 10) ∷ []) rest)
    ∙ r (omega arith) (omega arith) ((48 + n % 10) ∷ rest)
    ∙ digits_on_step limit (n / 10) (n % 10) rest (omega arith) (omega arith)
    ∙ ap (λ x. digits_on limit x rest) e) n (omega arith) k l

digits_stop : (limit n : ℕ) (rest : List ℕ) → NoDigitFirst rest → digits_on limit n rest ≡ Some (n, rest)
digits_stop limit n [] s = refl
digits_stop limit n (b ∷ rest) s = rw s refl

pub number_again : (limit n : ℕ) (rest : List ℕ) → limit < 2 ^ 64 → n ≤ limit → NoDigitFirst rest → number_at limit (decimal n ++ rest) ≡ Some (n, rest)
unfolding number_at
number_again limit zero rest small l s = ap (λ x. number_at limit (x ++ rest)) (decimal_digit 0 (omega arith))
number_again limit (suc n) rest small l s = number_goes limit (suc n) small (omega arith) l rest ∙ digits_stop limit (suc n) rest s

-- what a reader of numbers gives
pub number_found : (limit : ℕ) (bytes : List ℕ) (r : Option (ℕ × Bor (List ℕ))) → limit < 2 ^ 64 → option_map with_rest r ≡ number_at limit bytes → IfSome r (λ x. bytes ≡ decimal x.0 ++ x.1.now)
number_found limit bytes None small h = tt
number_found limit bytes (Some x) small h = (number_takes limit bytes x.0 x.1.now small (sym h)).0

pub number_none : (limit : ℕ) (bytes : List ℕ) (r : Option (ℕ × Bor (List ℕ))) → limit < 2 ^ 64 → option_map with_rest r ≡ number_at limit bytes
    → IfNone r ((n : ℕ) (rest : List ℕ) → n ≤ limit → NoDigitFirst rest → bytes ≢ decimal n ++ rest)
number_none limit bytes (Some x) small h = tt
number_none limit bytes None small h = λ n rest l s e. none-some _ (h ∙ ap (number_at limit) e ∙ number_again limit n rest small l s)
