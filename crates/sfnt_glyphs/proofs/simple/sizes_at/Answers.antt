use Rattle.std.proofs.Common.{arith, sym, ◌∙◌}
use Rattle.sfnt_glyphs.specs.Glyphs.{next_size, size_of_run}
use Rattle.sfnt_glyphs.proofs.Collects.{collected-next, collected-broken, collected-all}
use Rattle.sfnt_glyphs.proofs.simple.sizes_at.Goals as goal

pub loop-k-preserved : goal.loop-k-preserved
loop-k-preserved c =
    rw c.in_ok-push-in-Some.ensures.ok
    (collected-next (next_size c.args.bytes.now c.args.at) size_of_run c.args.n c.loop-k.k c.loop-k.run c.in-Some.next c.loop-k.sizes c.loop-k-test.true c.in-Some.ensures
    ∙ c.loop-k.invariant)

pub returns-in-None : goal.returns-in-None
returns-in-None c = sym (collected-broken (next_size c.args.bytes.now c.args.at) size_of_run c.args.n c.loop-k.k c.loop-k.run c.loop-k.sizes c.loop-k-test.true c.in-None.ensures) ∙ c.loop-k.invariant

pub returns : goal.returns
returns c = sym (collected-all (next_size c.args.bytes.now c.args.at) size_of_run c.args.n c.loop-k.k c.loop-k.run c.loop-k.sizes (omega arith)) ∙ c.loop-k.invariant
