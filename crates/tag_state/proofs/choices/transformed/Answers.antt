use Rattle.std.proofs.Common.{◌∙◌, ◌++◌, ap, map, reverse}
use Rattle.std.proofs.lemmas.List.{take_all}
use Rattle.tag_state.specs.Setters.{Gradual}
use Rattle.tag_state.specs.Choices.{clip_at}
use Rattle.tag_state.proofs.ChoiceLemmas.{clip_more}
use Rattle.tag_state.proofs.choices.transformed.Goals as goal

pub loop-tag-preserved : goal.loop-tag-preserved
loop-tag-preserved c = λ before is.
    clip_more c.args.header.now c.args.weight c.args.tags.now c.loop-tag.tag-index _ before c.loop-tag.clip c.moved_clip-clip.result c.loop-tag-test.true (c.loop-tag.invariant before is) c.moved_clip-clip.ensures

pub returns : goal.returns
returns c = λ before is.
    c.loop-tag.invariant before is ∙ ap (λ z. clip_at c.args.header.now (reverse (map (Gradual c.args.weight) z) ++ before)) (take_all c.loop-tag.tag-index c.args.tags.now c.loop-tag-test.false)
