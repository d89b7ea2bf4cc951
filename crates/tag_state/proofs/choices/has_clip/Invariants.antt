use Rattle.std.proofs.Common.{All, take}
use Rattle.tag_state.specs.Steps.{IsNoClip}
use Rattle.tag_state.proofs.choices.has_clip.Given as goal

abbrev pub invariant-loop-tag : goal.invariant-loop-tag
invariant-loop-tag l = All IsNoClip (take l.tag-index l.tags)
