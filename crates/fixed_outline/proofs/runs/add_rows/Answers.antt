use Rattle.std.proofs.Common.{◌≡◌, arith}
use Rattle.std.proofs.lemmas.Int.{ints}
use Rattle.bdf_font.specs.GlyphRings.{bitmap_of}
use Rattle.fixed_outline.proofs.RunLemmas.{rows_more}
use Rattle.fixed_outline.proofs.runs.add_rows.Goals as goal

pub loop-j-preserved : goal.loop-j-preserved
loop-j-preserved c = (
  λ i k.
      let a = c.loop-j.invariant.0 i k in
      let b = c.in_ok-add_row.ensures.winding i k in
      let e = rows_more c.args.style.now.matrix c.args.style.now.bold (bitmap_of c.args.pixels.now) c.loop-j.j i k in
      omega (arith, ints, a, b, e),
  λ outline. c.in_ok-add_row.ensures.within (c.loop-j.invariant.1 outline),
)

pub returns-clause-winding : goal.returns-clause-winding
returns-clause-winding c i k = let e : c.loop-j.j ≡ c.args.pixels.now.h = omega arith in (rw e at c.loop-j.invariant.0) i k
