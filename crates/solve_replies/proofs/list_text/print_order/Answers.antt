use Rattle.std.proofs.Common.{◌≡◌, ◌∙◌, ◌++◌, ◌∷◌, [], List, ℕ, codes, ap, append_assoc}
use Rattle.std.proofs.lemmas.Result.{on_ok_weaker}
use Rattle.std.specs.Prelude.{flat_map}
use Rattle.text_parts.specs.Text.{number_word}
use Rattle.solve_replies.proofs.list_text.print_order.Goals as goal

line_told : (old start words now end : List ℕ) → start ≡ old ++ codes "order" → now ≡ start ++ words → end ≡ now ++ 10 ∷ [] → end ≡ old ++ (codes "order" ++ (words ++ 10 ∷ []))
line_told old start words now end e0 e1 e2 =
    e2 ∙ ap (λ t. t ++ 10 ∷ []) (e1 ∙ ap (λ t. t ++ words) e0) ∙ append_assoc (old ++ codes "order") words (10 ∷ []) ∙ append_assoc old (codes "order") (words ++ 10 ∷ [])

pub returns : goal.returns
returns c =
    on_ok_weaker c.push-2.result
    (line_told c.args.text.now.items c.push.new.text.items (flat_map number_word c.args.order.now) c.push_words.new.text.items c.push-2.new.text.items c.in_ok-push.ensures.ok c.in_ok-push_words.ensures.ok)
    c.push-2.ensures.ok
