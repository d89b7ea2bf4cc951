use Rattle.std.proofs.Common.{◌++◌, ◌∙◌, ap}
use Rattle.ass_num.proofs.ListLemmas.{flat_more}
use Rattle.generated_script.specs.Generated.{generated_line, header}
use Rattle.generated_script.proofs.StateLemmas.{line_is, line_more}
use Rattle.generated_script.proofs.script.generated.Goals as goal

pub loop-i-preserved : goal.loop-i-preserved
loop-i-preserved c =
    let i = c.loop-i.i in
    let seed = c.args.seed in
    let was = c.loop-i.invariant in
    let line = line_is i seed _ _ _ was.1 c.draw_line-numbers.ensures.numbers c.in_ok-line.ensures in (
      flat_more (generated_line seed) header c.loop-i.script.items _ i was.0 (c.in_ok-extend_from_slice.ensures.items ∙ ap (λ z. c.loop-i.script.items ++ z) (c.as_bytes.ensures.value ∙ line)),
      line_more i seed _ _ was.1 c.draw_line-numbers.ensures.state,
    )
