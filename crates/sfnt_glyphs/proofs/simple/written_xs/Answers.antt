use Rattle.std.proofs.Common.{length, arith, rules, sym, ◌∙◌, FitsSigned, w32, to_z-of_z}
use Rattle.sfnt_glyphs.specs.Glyphs.{coordinate_step, value_in}
use Rattle.sfnt_glyphs.proofs.Collects.{collected-next, collected-broken, collected-all}
use Rattle.sfnt_glyphs.proofs.simple.written_xs.Goals as goal

pub loop-k-preserved : goal.loop-k-preserved
loop-k-preserved c = record {
  read = let fits : FitsSigned w32 c.in-Some.next.value = search rules in rw (c.in_ok-push-in-Some.ensures.ok, to_z-of_z fits)
      (collected-next (coordinate_step c.args.bytes.now c.args.stop 2 16 c.args.flags.now) value_in (length c.args.flags.now) c.loop-k.k c.loop-k.last c.in-Some.next c.loop-k.values c.loop-k-test.true c.in-Some.ensures.value
      ∙ c.loop-k.invariant.read);
  reach = c.in-Some.ensures.at;
}

pub returns-in-None-clause-value : goal.returns-in-None-clause-value
returns-in-None-clause-value c =
    sym (collected-broken (coordinate_step c.args.bytes.now c.args.stop 2 16 c.args.flags.now) value_in (length c.args.flags.now) c.loop-k.k c.loop-k.last c.loop-k.values c.loop-k-test.true c.in-None.ensures.value)
    ∙ c.loop-k.invariant.read

pub returns-clause-value : goal.returns-clause-value
returns-clause-value c =
    sym (collected-all (coordinate_step c.args.bytes.now c.args.stop 2 16 c.args.flags.now) value_in (length c.args.flags.now) c.loop-k.k c.loop-k.last c.loop-k.values (omega arith))
    ∙ c.loop-k.invariant.read
