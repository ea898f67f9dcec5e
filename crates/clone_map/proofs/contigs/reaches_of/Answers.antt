use Rattle.std.proofs.Common.{◌≡◌, ◌≤◌, ◌<◌, ◌+◌, ◌-◌, ◌++◌, ◌∷◌, [], ℕ, Vec, Global, length, take, get_or, set, max, subst, sym, ◌∙◌, ap, arith}
use Rattle.std.proofs.lemmas.Grind.{get_or_default_zero}
use Rattle.std.proofs.lemmas.List.{take_more}
use Rattle.row_model.specs.declared.lists.Place.TheVariants.{Nowhere, At}
use Rattle.clone_map.specs.Runs.{AreReaches, IsWithinPositions}
use Rattle.clone_map.proofs.SweepLaws.{reaches_nowhere, reaches_raised}
use Rattle.clone_map.proofs.contigs.reaches_of.Goals as goal
use Rattle.clone_map.proofs.contigs.reaches_of.Goals.{in-At, in_default}

pub loop-place-preserved : goal.loop-place-preserved
loop-place-preserved c =
    let count = c.args.count in
    let places = c.args.places.now in
    let reaches = c.loop-place.reaches.items in
    let k = c.loop-place.place-index in
    let taken = take_more places k Nowhere c.loop-place-test.true in
    elim c.match-place.branch [
      | in-At w ↦
          let first = w.in-At.first in
          let last = w.in-At.last in
          let at = first - 1 in
          let here : get_or places k Nowhere ≡ At first last = w.in-At.is in
          let within : (1 ≤ first) × (first ≤ last) × (last ≤ count) = subst (IsWithinPositions count) here (c.requires k Nowhere c.loop-place-test.true) in
          let room : at < length reaches = omega (arith, within.0, within.1, within.2, c.loop-place.invariant.size) in
          let before : w.index.result.now ≡ get_or reaches at 0 = w.index.ensures ∙ get_or_default_zero reaches at w.index.result.now room in
          let after : w.max.result ≡ max (get_or reaches at 0) last = w.max.ensures ∙ ap (λ n. max n last) before in
          let items : c.match-place.reaches.items ≡ set reaches at (max (get_or reaches at 0) last) = ap (λ (v : Vec ℕ Global). v.items) w.reaches-is ∙ ap (set reaches at) after in
          let more : take (k + 1) places ≡ take k places ++ At first last ∷ [] = taken ∙ ap (λ p. take k places ++ p ∷ []) here in
          subst (λ xs. AreReaches count xs c.match-place.reaches.items) (sym more)
          (subst (AreReaches count (take k places ++ At first last ∷ [])) (sym items)
          (reaches_raised count (take k places) reaches c.loop-place.invariant first last at (omega (arith, within.0)) (omega (arith, within.1, within.2))))
      | in_default w ↦
          let same : c.match-place.reaches.items ≡ reaches = ap (λ (v : Vec ℕ Global). v.items) w.reaches-is in
          let more : take (k + 1) places ≡ take k places ++ Nowhere ∷ [] = taken ∙ ap (λ p. take k places ++ p ∷ []) w.in_default.is in
          subst (λ xs. AreReaches count xs c.match-place.reaches.items) (sym more)
          (subst (AreReaches count (take k places ++ Nowhere ∷ [])) (sym same) (reaches_nowhere count (take k places) reaches c.loop-place.invariant))
    ]
