use Rattle.std.proofs.Common.{◌∙◌, sym}
use Rattle.event_instants.specs.Instants.{transform_weight}
use Rattle.tag_state.proofs.ChoiceLemmas.{no_clip}
use Rattle.tag_state.proofs.choices.transform_clip.Goals as goal

pub returns-else-has_clip : goal.returns-else-has_clip
returns-else-has_clip c = λ before is.
    is
    ∙ sym (no_clip c.args.header.now (transform_weight c.args.times c.args.duration c.args.quarters c.args.elapsed) c.args.tags.now before (c.has_clip.ensures c.if-has_clip.false))
