use Rattle.std.proofs.Common.{◌≡◌, ◌++◌, flat_map}
use Rattle.std.specs.List.{range_with_len}
use Rattle.ass_num.specs.Limits.{IsOutline}
use Rattle.outline_points.specs.Glyphs.{row_quads}
use Rattle.bdf_font.specs.GlyphRings.{bitmap_of}
use Rattle.fixed_outline.proofs.glyphs.add_rows.Given as goal

abbrev pub invariant-loop-j : goal.invariant-loop-j
invariant-loop-j l =
    (l.rings ≡ l.initial.rings ++ flat_map (row_quads l.style.matrix l.style.bold (bitmap_of l.pixels)) (range_with_len 0 l.j))
    × (IsOutline l.initial.rings → IsOutline l.rings)
