use Rattle.std.proofs.Common.{◌≡◌, map, take}
use Rattle.text_layout.specs.Fonts.{font_of_state}
use Rattle.text_layout.proofs.fonts.state_fonts.Given as goal

abbrev pub invariant-loop-state : goal.invariant-loop-state
invariant-loop-state l = l.numbers.items ≡ map (font_of_state l.fonts.fonts l.view.names) (take l.state-index l.state-items)
