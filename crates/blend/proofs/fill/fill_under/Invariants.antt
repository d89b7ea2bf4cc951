use Rattle.std.proofs.Common.{◌≡◌}
use Rattle.blend.specs.Areas.{placed_of, placed_stencil, tints, with_tints, within}
use Rattle.blend.proofs.FillLemmas.{to_row}
use Rattle.blend.proofs.fill.fill_under.Given as goal

abbrev pub invariant-loop-j : goal.invariant-loop-j
invariant-loop-j l =
    l.rows ≡ with_tints l.band (within (to_row l.area l.j) (tints l.colour (placed_of l.placed) (placed_stencil (placed_of l.over) l.inverse))) l.initial.rows
