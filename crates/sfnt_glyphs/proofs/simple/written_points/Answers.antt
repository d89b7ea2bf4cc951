use Rattle.std.proofs.Common.{length, arith, sym, ◌∙◌}
use Rattle.sfnt_glyphs.specs.Glyphs.{coordinate_step, point_in}
use Rattle.sfnt_glyphs.proofs.Collects.{collected-next, collected-broken, collected-all}
use Rattle.sfnt_glyphs.proofs.simple.written_points.Goals as goal

pub loop-k-preserved : goal.loop-k-preserved
loop-k-preserved c = record {
  read = rw (c.in_ok-push-in-Some.ensures.ok, c.point_in.ensures)
      (collected-next (coordinate_step c.args.bytes.now c.args.stop 4 32 c.args.flags.now) (point_in c.args.flags.now c.args.xs.now) (length c.args.flags.now) c.loop-k.k c.loop-k.last c.in-Some.next c.loop-k.points c.loop-k-test.true c.in-Some.ensures.value
      ∙ c.loop-k.invariant.read);
  reach = c.in-Some.ensures.at;
}

pub returns-in-None : goal.returns-in-None
returns-in-None c =
    sym (collected-broken (coordinate_step c.args.bytes.now c.args.stop 4 32 c.args.flags.now) (point_in c.args.flags.now c.args.xs.now) (length c.args.flags.now) c.loop-k.k c.loop-k.last c.loop-k.points c.loop-k-test.true c.in-None.ensures.value)
    ∙ c.loop-k.invariant.read

pub returns : goal.returns
returns c =
    sym (collected-all (coordinate_step c.args.bytes.now c.args.stop 4 32 c.args.flags.now) (point_in c.args.flags.now c.args.xs.now) (length c.args.flags.now) c.loop-k.k c.loop-k.last c.loop-k.points (omega arith))
    ∙ c.loop-k.invariant.read
