use Rattle.std.proofs.Common.{sym, ◌∙◌, ap}
use Rattle.std.specs.Prelude.{option_and_then}
use Rattle.sfnt_glyphs.specs.Glyphs.{flag_step, flag_in, flags_end}
use Rattle.sfnt_glyphs.proofs.Collects.{collected-next, collected-broken}
use Rattle.sfnt_glyphs.proofs.simple.flags_at.Goals as goal

pub loop-k-preserved : goal.loop-k-preserved
loop-k-preserved c = record {
  read = rw c.in_ok-push-in-Some.ensures.ok
      (collected-next (flag_step c.args.bytes.now c.args.stop) flag_in c.args.n c.loop-k._k c.loop-k.run c.in-Some.next c.loop-k.flags c.loop-k-test.true c.in-Some.ensures.value
      ∙ c.loop-k.invariant.read);
  reach = c.in-Some.ensures.at;
}

pub returns-in-None-clause-value : goal.returns-in-None-clause-value
returns-in-None-clause-value c =
    ap (option_and_then flags_end)
    (sym (collected-broken (flag_step c.args.bytes.now c.args.stop) flag_in c.args.n c.loop-k._k c.loop-k.run c.loop-k.flags c.loop-k-test.true c.in-None.ensures.value) ∙ c.loop-k.invariant.read)
