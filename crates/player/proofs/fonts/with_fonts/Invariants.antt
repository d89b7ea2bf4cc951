use Rattle.std.proofs.Common.{◌≡◌, take}
use Rattle.player.proofs.fonts.with_fonts.Given as goal

abbrev pub invariant-loop-one : goal.invariant-loop-one
invariant-loop-one l = l.fonts.items ≡ take l.one-index l.set.fonts
