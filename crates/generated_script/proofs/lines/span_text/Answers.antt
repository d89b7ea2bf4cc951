use Rattle.std.proofs.Common.{◌+◌, ◌++◌, ◌∙◌, ap, ap₂, append_assoc, codes, sym}
use Rattle.generated_script.specs.Lines.{span_text, hundredths_text}
use Rattle.generated_script.proofs.lines.span_text.Goals as goal

pub returns : goal.returns
unfolding span_text
returns c =
    let begin = c.args.begin in
    c.in_ok-format.ensures.ok ∙ ap₂ (λ start end. start ++ (codes "," ++ end)) c.in_ok-start.ensures c.in_ok-end.ensures
    ∙ sym (append_assoc (hundredths_text begin) (codes ",") (hundredths_text (begin + c.from.result)))
    ∙ ap (λ long. hundredths_text begin ++ codes "," ++ hundredths_text (begin + long)) c.from.ensures
