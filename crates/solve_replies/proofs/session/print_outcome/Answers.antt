use Rattle.std.proofs.Common.{◌≡◌, ◌∙◌, ◌++◌, ℕ, List, Result, Ok, Err, codes, refl, sym, ap, append_assoc}
use Rattle.std.specs.Prelude.{OnOk, if◌then◌else◌}
use Rattle.std.specs.Result.{is_ok}
use Rattle.std.specs.Fmt.{decimal}
use Rattle.c1p_solve.specs.declared.session.Taken.{Taken}
use Rattle.c1p_solve.specs.declared.session.Taken.TheVariants as taken
use Rattle.solve_replies.specs.Sessions.{outcome_text}
use Rattle.solve_replies.specs.Taking.{outcome_of}
use Rattle.solve_replies.proofs.session.print_outcome.Goals as goal

-- the number, and what is told behind it where there was room
behind_number : {T E : Type 0} (r : Result T E) (old mid new rest : List ℕ) (i : ℕ) (t u : Taken) → mid ≡ old ++ decimal i → t ≡ u → outcome_text i (outcome_of u) ≡ decimal i ++ rest
    → new ≡ (if is_ok r then mid ++ rest else mid) → OnOk r (new ≡ old ++ outcome_text i (outcome_of t))
behind_number (Ok x) old mid new rest i t u numbered is told e =
    e ∙ ap (λ x. x ++ rest) numbered ∙ append_assoc old (decimal i) rest ∙ ap (λ x. old ++ x) (sym (ap (λ x. outcome_text i (outcome_of x)) is ∙ told))
behind_number (Err x) old mid new rest i t u numbered is told e = tt

pub returns-in-Ok : goal.returns-in-Ok
returns-in-Ok c =
    let old = c.args.text.now.items in
    behind_number c.extend_from_slice.result old c.push_number.new.text.items c.extend_from_slice.new.self.items (codes " ok\n") c.args.i c.args.taken.now taken.Ok
    (c.in_ok-push_number.ensures.ok ∙ ap (λ n. old ++ decimal n) c.from.ensures) c.in-Ok.is refl c.extend_from_slice.ensures.items
