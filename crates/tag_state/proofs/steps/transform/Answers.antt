use Rattle.tag_state.proofs.StateLemmas.{transform_more, transform_all}
use Rattle.tag_state.proofs.steps.transform.Goals as goal

pub loop-tag-preserved : goal.loop-tag-preserved
loop-tag-preserved c = λ script own names before style at.
    transform_more script own names c.args.style.now c.args.weight c.args.tags.now c.loop-tag.tag-index _ before c.loop-tag.state c.move_by.new.state c.loop-tag-test.true style (c.loop-tag.invariant script own names before style at) c.move_by.ensures

pub returns : goal.returns
returns c = λ script own names before style at.
    transform_all script own names c.args.weight c.args.tags.now c.loop-tag.tag-index before c.loop-tag.state c.loop-tag-test.false (c.loop-tag.invariant script own names before style at)
