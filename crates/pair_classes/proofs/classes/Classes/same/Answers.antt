use Rattle.std.proofs.Common.{◌≡◌, ◌∙◌, eqb-true, eq-eqb, ap, sym, subst}
use Rattle.row_model.specs.Graph.{IsPair}
use Rattle.odd_cycle.specs.Numbers.{Numbering, number_of}
use Rattle.pair_classes.proofs.classes.Classes.same.Goals as goal

pub returns : goal.returns
returns c = λ n rows h.
    let first : c.get.result ≡ number_of c.args.self.now c.args.v = c.get.ensures ∙ ap (λ (t : Numbering). number_of t c.args.v) c.self.view_is in
    let second : c.get-2.result ≡ number_of c.args.self.now c.args.w = c.get-2.ensures ∙ ap (λ (t : Numbering). number_of t c.args.w) c.self.view_is in
    let told = h.numbered c.args.v c.args.w (subst (λ x. IsPair x c.args.v) h.columns c.requires.0) (subst (λ x. IsPair x c.args.w) h.columns c.requires.1) in
    (λ t. told.0 (sym first ∙ eqb-true c.get.result c.get-2.result t ∙ second), λ k. eq-eqb c.get.result c.get-2.result (first ∙ told.1 k ∙ sym second))
