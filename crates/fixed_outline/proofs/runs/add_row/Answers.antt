use Rattle.std.proofs.Common.{arith}
use Rattle.std.proofs.lemmas.Int.{ints}
use Rattle.bdf_font.specs.GlyphRings.{bitmap_of}
use Rattle.fixed_outline.proofs.RunLemmas.{front_all, front_gap, front_run}
use Rattle.fixed_outline.proofs.runs.add_row.Goals as goal

pub loop-from-init : goal.loop-from-init
loop-from-init c =
    let gap = c.run_start-from.ensures in
    record {
      within = gap.within;
      begins = gap.ends;
      winding = λ i k. let e = front_gap c.args.style.now.matrix c.args.style.now.bold (bitmap_of c.args.pixels.now) c.args.j 0 c.run_start-from.result i k gap in omega (arith, ints, e);
      outline = λ outline. outline;
    }

pub loop-from-preserved : goal.loop-from-preserved
loop-from-preserved c =
    let m = c.args.style.now.matrix in
    let bold = c.args.style.now.bold in
    let bitmap = bitmap_of c.args.pixels.now in
    let inv = c.loop-from.invariant in
    let run = c.run_end-to.ensures in
    let gap = c.run_start-from-in-loop-from.ensures in
    record {
      within = gap.within;
      begins = gap.ends;
      winding = λ i k.
          let was = inv.winding i k in
          let now = c.in_ok-add_run.ensures.winding i k in
          let e = front_run m bold bitmap c.args.j c.loop-from.from c.run_end-to.result i k run in
          let f = front_gap m bold bitmap c.args.j c.run_end-to.result c.run_start-from-in-loop-from.result i k gap in
          omega (arith, ints, was, now, e, f);
      outline = λ outline. c.in_ok-add_run.ensures.within (inv.outline outline);
    }

pub returns-clause-winding : goal.returns-clause-winding
returns-clause-winding c i k =
    let was = c.loop-from.invariant.winding i k in
    let whole = front_all c.args.style.now.matrix c.args.style.now.bold (bitmap_of c.args.pixels.now) c.args.j c.loop-from.from i k (omega (arith, c.loop-from.invariant.within, c.loop-from-test.false)) in
    omega (arith, ints, was, whole)
