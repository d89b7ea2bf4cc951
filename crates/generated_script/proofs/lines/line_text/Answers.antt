use Rattle.std.proofs.Common.{◌≡◌, ℕ, List, ◌*◌, ◌++◌, ◌∙◌, ap, ap₂, append_assoc, codes, decimal}
use Rattle.generated_script.specs.Lines.{event_text, line_text, span_text}
use Rattle.generated_script.proofs.lines.line_text.Goals as goal

seven : (a b c d e f g : List ℕ) → a ++ (b ++ (c ++ (d ++ (e ++ (f ++ g))))) ≡ a ++ b ++ c ++ d ++ e ++ f ++ g
seven a b c d e f g = simp append_assoc

pub returns : goal.returns
unfolding line_text
returns c =
    let numbers = c.args.numbers.now in
    let layer = decimal numbers.layer in
    let text = event_text numbers in
    c.in_ok-format.ensures.ok
    ∙ ap₂ (λ span said. codes "Dialogue: " ++ (layer ++ (codes "," ++ (span ++ (codes ",Default,,0,0,0,," ++ (said ++ codes "\n")))))) c.in_ok-span.ensures c.in_ok-text.ensures
    ∙ seven (codes "Dialogue: ") layer (codes ",") (span_text (10 * c.from.result) numbers.length) (codes ",Default,,0,0,0,,") text (codes "\n")
    ∙ ap (λ i. codes "Dialogue: " ++ layer ++ codes "," ++ span_text (10 * i) numbers.length ++ codes ",Default,,0,0,0,," ++ text ++ codes "\n") c.from.ensures
