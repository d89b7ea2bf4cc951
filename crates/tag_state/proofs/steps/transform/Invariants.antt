use Rattle.std.proofs.Common.{◌≡◌, ℕ, List, ◌++◌, map, reverse, take}
use Rattle.ass_script.specs.Scripts.{ScriptValue}
use Rattle.tag_state.specs.Setters.{Effect, Gradual, style_in_force}
use Rattle.tag_state.specs.States.{IsStateAt}
use Rattle.tag_state.proofs.steps.transform.Given as goal

abbrev pub invariant-loop-tag : goal.invariant-loop-tag
invariant-loop-tag l = (script : ScriptValue) (own : List ℕ) (names : List (List ℕ)) (before : List Effect) → l.style ≡ style_in_force script own before → IsStateAt script own names before l.initial.state
    → IsStateAt script own names (reverse (map (Gradual l.weight) (take l.tag-index l.tags)) ++ before) l.state
