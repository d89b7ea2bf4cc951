use Rattle.std.proofs.Common.{◌∙◌, ◌++◌, ap, sym, reverse, to_z-of_z}
use Rattle.override_tags.specs.declared.tag.Tag.{Tag}
use Rattle.tag_state.specs.Setters.{effects_of_tag}
use Rattle.tag_state.specs.Choices.{clip_at}
use Rattle.tag_state.proofs.choices.set_clip.Goals as goal

pub returns-in-Transform : goal.returns-in-Transform
returns-in-Transform c = λ before is.
    rw (to_z-of_z c.ranges.duration, to_z-of_z c.ranges.elapsed, c.as_slice.ensures) at (c.transform_clip.ensures before is)
    ∙ ap (λ (t : Tag). clip_at c.args.header.now (reverse (effects_of_tag c.args.duration c.args.elapsed t) ++ before)) (sym c.in-Transform.is)
