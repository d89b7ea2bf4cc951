use Rattle.std.proofs.Common.{◌≡◌, ◌++◌, drop}
use Rattle.sfnt_glyphs.specs.Glyphs.{cut_contours}
use Rattle.sfnt_glyphs.proofs.drawing.cut_contours.Given as goal

abbrev pub invariant-loop-size : goal.invariant-loop-size
invariant-loop-size l = l.contours ++ cut_contours (drop l.size-index l.sizes) l.rest ≡ cut_contours l.sizes l.initial.rest
