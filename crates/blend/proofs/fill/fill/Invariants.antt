use Rattle.std.proofs.Common.{◌≡◌}
use Rattle.blend.specs.Blending.{Free}
use Rattle.blend.specs.Areas.{placed_of, tints, with_tints, within}
use Rattle.blend.proofs.FillLemmas.{to_row}
use Rattle.blend.proofs.fill.fill.Given as goal

abbrev pub invariant-loop-j : goal.invariant-loop-j
invariant-loop-j l = l.rows ≡ with_tints l.band (within (to_row l.area l.j) (tints l.colour (placed_of l.placed) Free)) l.initial.rows
