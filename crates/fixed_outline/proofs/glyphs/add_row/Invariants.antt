use Rattle.std.proofs.Common.{◌≡◌, ◌++◌, flat_map}
use Rattle.std.specs.List.{range_with_len}
use Rattle.ass_num.specs.Limits.{IsOutline}
use Rattle.outline_points.specs.Glyphs.{pixel_quads}
use Rattle.bdf_font.specs.GlyphRings.{bitmap_of}
use Rattle.fixed_outline.proofs.glyphs.add_row.Given as goal

abbrev pub invariant-loop-i : goal.invariant-loop-i
invariant-loop-i l =
    (l.rings ≡ l.initial.rings ++ flat_map (pixel_quads l.style.matrix l.style.bold (bitmap_of l.pixels) l.j) (range_with_len 0 l.i))
    × (IsOutline l.initial.rings → IsOutline l.rings)
