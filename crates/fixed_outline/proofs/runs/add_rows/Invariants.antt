use Rattle.std.proofs.Common.{◌≡◌, ℤ, ◌+ℤ◌, flat_map}
use Rattle.std.specs.List.{range_with_len}
use Rattle.ass_num.specs.Limits.{IsOutline}
use Rattle.ass_num.specs.Winding.{winding}
use Rattle.bdf_font.specs.GlyphRings.{bitmap_of}
use Rattle.outline_points.specs.Glyphs.{row_quads}
use Rattle.fixed_outline.proofs.runs.add_rows.Given as goal

abbrev pub invariant-loop-j : goal.invariant-loop-j
invariant-loop-j l =
    ((i k : ℤ) → winding l.rings i k ≡ winding l.initial.rings i k +ℤ winding (flat_map (row_quads l.style.matrix l.style.bold (bitmap_of l.pixels)) (range_with_len 0 l.j)) i k)
    × (IsOutline l.initial.rings → IsOutline l.rings)
