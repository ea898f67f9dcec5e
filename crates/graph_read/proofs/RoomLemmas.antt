-- The bytes that are left of a limit.
use Rattle.std.proofs.Common.{◌≡◌, ℕ, ◌-◌, ◌<◌, ◌≤◌, ◌++◌, List, length, drop, nat_lt, length-append, length-drop, sym, ◌∙◌, inl, inr, arith}
use Rattle.std.proofs.lemmas.Bool.{cases_lt, lt-ltb, le-ltb}

-- the bytes that are taken off the front are taken off the limit
pub room_same : (room taken : ℕ) (text rest : List ℕ) → taken ≤ length text → length text ≤ room → nat_lt (room - taken) (length (drop taken text ++ rest)) ≡ nat_lt room (length (text ++ rest))
room_same room taken text rest le few =
    elim (cases_lt room (length (text ++ rest))) [
      | inl long ↦
          let rest_long : room - taken < length (drop taken text ++ rest) = omega (arith, long, length-append text rest, length-append (drop taken text) rest, length-drop taken text) in
          lt-ltb _ _ rest_long ∙ sym (lt-ltb _ _ long)
      | inr short ↦
          let rest_short : length (drop taken text ++ rest) ≤ room - taken = omega (arith, short, length-append text rest, length-append (drop taken text) rest, length-drop taken text) in
          le-ltb _ _ rest_short ∙ sym (le-ltb _ _ short)
    ]
