use Rattle.std.proofs.Common.{◌≡◌, drop}
use Rattle.cff_font.specs.Pens.{drawn_strokes}
use Rattle.cff_font.proofs.pens.drawn_strokes.Given as goal

abbrev pub invariant-loop-stroke : goal.invariant-loop-stroke
invariant-loop-stroke l = drawn_strokes l.pen (drop l.stroke-index l.strokes) ≡ drawn_strokes l.initial.pen l.strokes
