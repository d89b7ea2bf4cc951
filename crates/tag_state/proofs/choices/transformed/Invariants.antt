use Rattle.std.proofs.Common.{◌≡◌, List, ◌++◌, map, reverse, take}
use Rattle.tag_state.specs.Setters.{Effect, Gradual}
use Rattle.tag_state.specs.Choices.{clip_at}
use Rattle.tag_state.proofs.choices.transformed.Given as goal

abbrev pub invariant-loop-tag : goal.invariant-loop-tag
invariant-loop-tag l = (before : List Effect) → l.initial.clip ≡ clip_at l.header before → l.clip ≡ clip_at l.header (reverse (map (Gradual l.weight) (take l.tag-index l.tags)) ++ before)
