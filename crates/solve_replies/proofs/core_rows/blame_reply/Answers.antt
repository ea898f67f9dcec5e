use Rattle.std.proofs.Common.{◌≡◌, ◌⊎◌, ◌∙◌, inl, inr, refl, sym, ap, subst}
use Rattle.std.proofs.lemmas.Result.{IfOk-from_err, IfOk-weaker}
use Rattle.instance_model.specs.Instance.{derived_matrix, IsInstance}
use Rattle.instance_model.specs.Value.{instance_value}
use Rattle.row_core.specs.Cored.{IsCored}
use Rattle.solve_replies.specs.Steps.{made_status, FindsCoreWithin}
use Rattle.solve_replies.proofs.Cores.{plain_of, core_told, yes_told, made_of_core, core_within, tree_within, failed_within}
use Rattle.solve_replies.proofs.core_rows.blame_reply.Goals as goal

pub core_reply-requires-clause-within : goal.core_reply-requires-clause-within
core_reply-requires-clause-within g c =
    let is = plain_of c.args.kind c.in-Plain.field-0 (instance_value c.args.instance.now) c.in-Plain.m (ap instance_value c.in-Plain.is) c.requires.of_kind in
    subst IsInstance is c.requires.within

pub core_reply-requires-clause-tells : goal.core_reply-requires-clause-tells
core_reply-requires-clause-tells g c = (subst (IsCored c.in-Plain.m) c.in-Core.is c.in_ok-core.ensures.cored).0

pub core_reply-requires-clause-short : goal.core_reply-requires-clause-short
core_reply-requires-clause-short g c = (subst (IsCored c.in-Plain.m) c.in-Core.is c.in_ok-core.ensures.cored).2

pub returns-in-Core-clause-reply : goal.returns-in-Core-clause-reply
returns-in-Core-clause-reply g c =
    let found = subst (IsCored c.in-Plain.m) c.in-Core.is c.in_ok-core.ensures.cored in
    let is = plain_of c.args.kind c.in-Plain.field-0 (instance_value c.args.instance.now) c.in-Plain.m (ap instance_value c.in-Plain.is) c.requires.of_kind in
    core_told c.args.kind (instance_value c.args.instance.now) c.in-Plain.m c.core_reply.result is found.1 c.core_reply.ensures.status c.core_reply.ensures.text

pub returns-in-Has-clause-reply : goal.returns-in-Has-clause-reply
returns-in-Has-clause-reply g c =
    let found = subst (IsCored c.in-Plain.m) c.in-Has.is c.in_ok-core.ensures.cored in
    let is = plain_of c.args.kind c.in-Plain.field-0 (instance_value c.args.instance.now) c.in-Plain.m (ap instance_value c.in-Plain.is) c.requires.of_kind in
    yes_told c.args.kind (instance_value c.args.instance.now) c.in-Plain.m c.yes_reply.result is found.1 c.yes_reply.ensures.status c.yes_reply.ensures.text

-- the matrix of the instance
pub returns-in-Core-clause-steps : goal.returns-in-Core-clause-steps
returns-in-Core-clause-steps g c = λ m is.
    let found = subst (IsCored c.in-Plain.m) c.in-Core.is c.in_ok-core.ensures.cored in
    subst (λ k. FindsCoreWithin k (made_status (λ reply. reply.status) c.core_reply.result) c.args.steps.now c.find_core.new.steps) (ap (λ i. derived_matrix i 1) (sym (ap instance_value c.in-Plain.is) ∙ is))
    (made_of_core c.core_reply.result c.in-Plain.m 0 c.args.steps.now c.find_core.new.steps c.core_reply.ensures.status
    (core_within c.in-Plain.m c.in_ok-core.field-0 c.in-Core.core c.args.steps.now c.find_core.new.steps c.in-Core.is found.0 (c.in_ok-core.ensures.judgements refl) (c.find_core.ensures.any refl)))

pub returns-in-Has-clause-steps : goal.returns-in-Has-clause-steps
returns-in-Has-clause-steps g c = λ m is.
    subst (λ k. FindsCoreWithin k (made_status (λ reply. reply.status) c.yes_reply.result) c.args.steps.now c.find_core.new.steps) (ap (λ i. derived_matrix i 1) (sym (ap instance_value c.in-Plain.is) ∙ is))
    (made_of_core c.yes_reply.result c.in-Plain.m 1 c.args.steps.now c.find_core.new.steps c.yes_reply.ensures.status
    (tree_within c.in-Plain.m c.in_ok-core.field-0 c.in-Has.tree c.args.steps.now c.find_core.new.steps c.in-Has.is c.in_ok-core.ensures.yes (c.find_core.ensures.any refl)))

pub returns-in_err-core-clause-steps : goal.returns-in_err-core-clause-steps
returns-in_err-core-clause-steps g c = λ m is.
    subst (λ k. FindsCoreWithin k (made_status (λ reply. reply.status) c.from_residual.result) c.args.steps.now c.find_core.new.steps) (ap (λ i. derived_matrix i 1) (sym (ap instance_value c.in-Plain.is) ∙ is))
    (failed_within c.in-Plain.m c.from_residual.result _ c.args.steps.now c.find_core.new.steps c.from_residual.ensures.1 (c.find_core.ensures.any refl))

pub returns-in_err-core-clause-reply : goal.returns-in_err-core-clause-reply
returns-in_err-core-clause-reply g c = IfOk-from_err c.from_residual.result _ c.from_residual.ensures.0

pub returns-in_err-core-clause-status : goal.returns-in_err-core-clause-status
returns-in_err-core-clause-status g c = IfOk-from_err c.from_residual.result _ c.from_residual.ensures.0

pub returns-in-Core-clause-status : goal.returns-in-Core-clause-status
returns-in-Core-clause-status g c =
    IfOk-weaker c.core_reply.result (λ reply. reply.status ≡ 0) (λ reply. (reply.status ≡ 0) ⊎ (reply.status ≡ 1)) (λ reply e. inl e) c.core_reply.ensures.status

pub yes_reply-requires : goal.yes_reply-requires
yes_reply-requires g c = record {
  within = c.requires.within;
  matrix = (c.in-Plain.field-0, ap instance_value c.in-Plain.is);
  orders = (subst (IsCored c.in-Plain.m) c.in-Has.is c.in_ok-core.ensures.cored).0;
}

pub returns-in-Has-clause-status : goal.returns-in-Has-clause-status
returns-in-Has-clause-status g c =
    IfOk-weaker c.yes_reply.result (λ reply. reply.status ≡ 1) (λ reply. (reply.status ≡ 0) ⊎ (reply.status ≡ 1)) (λ reply e. inr e) c.yes_reply.ensures.status
