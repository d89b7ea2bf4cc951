use Rattle.std.proofs.Common.{◌≡◌, false}
use Rattle.std.specs.List.{list_any, range_with_len}
use Rattle.ass_num.specs.Bitmaps.{pixel_is_set}
use Rattle.bdf_font.proofs.glyphs.Pixels.row_has_pixels.Given as goal

abbrev pub invariant-loop-i : goal.invariant-loop-i
invariant-loop-i l = list_any (λ i. pixel_is_set l.self.w l.self.bits i l.j) (range_with_len 0 l.i) ≡ false
