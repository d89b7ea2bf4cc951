use Rattle.std.proofs.Common.{take}
use Rattle.tag_state.specs.Choices.{IsSaid}
use Rattle.tag_state.proofs.choices.said_of.Given as goal

abbrev pub invariant-loop-item : goal.invariant-loop-item
invariant-loop-item l = IsSaid l.header l.duration l.elapsed (take l.item-index l.items) l.said
