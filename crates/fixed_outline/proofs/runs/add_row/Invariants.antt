use Rattle.std.proofs.Common.{◌≡◌, ℤ, ◌-◌, ◌<◌, ◌≤◌, ◌+ℤ◌, true}
use Rattle.ass_num.specs.Bitmaps.{pixel_is_set}
use Rattle.ass_num.specs.Limits.{IsOutline}
use Rattle.ass_num.specs.Winding.{winding}
use Rattle.bdf_font.specs.GlyphRings.{bitmap_of}
use Rattle.fixed_outline.specs.Runs.{run_quads}
use Rattle.fixed_outline.proofs.runs.add_row.Given as goal

abbrev pub invariant-loop-from : goal.invariant-loop-from
invariant-loop-from l = record {
  within : l.from ≤ l.pixels.w;
  begins : l.from < l.pixels.w → pixel_is_set l.pixels.w l.pixels.bits l.from l.j ≡ true;
  winding : (i k : ℤ) → winding l.rings i k ≡ winding l.initial.rings i k +ℤ winding (run_quads l.style.matrix l.style.bold (bitmap_of l.pixels) l.j 0 l.from) i k;
  outline : IsOutline l.initial.rings → IsOutline l.rings;
}

abbrev pub decreases-loop-from : goal.decreases-loop-from
decreases-loop-from l = l.pixels.w - l.from
