use Rattle.std.proofs.Common.{arith, pos, false}
use Rattle.std.proofs.lemmas.List.{take_all}
use Rattle.sample_region.specs.declared.sweep.Crossing.{Crossing}
use Rattle.sample_region.proofs.WalkLemmas.{few, walk_more, finished}
use Rattle.sample_region.proofs.row.RowCrossings.walk.Goals as goal

abbrev none : Crossing
none = record { at = pos 0; down = false }

pub pass-requires-clause-downs : goal.pass-requires-clause-downs
pass-requires-clause-downs c = let f = few _ _ _ _ _ _ c.loop-c.invariant c.loop-c-test.true in omega (arith, f.0)

pub pass-requires-clause-ups : goal.pass-requires-clause-ups
pass-requires-clause-ups c = let f = few _ _ _ _ _ _ c.loop-c.invariant c.loop-c-test.true in omega (arith, f.1)

pub loop-c-preserved : goal.loop-c-preserved
loop-c-preserved c = walk_more c.args.crossings.now c.loop-c.c-index none c.loop-c.self c.pass.new.self c.requires.ascending c.loop-c-test.true c.loop-c.invariant c.in_ok-pass.ensures

pub returns : goal.returns
returns c =
    let t = take_all c.loop-c.c-index c.args.crossings.now c.loop-c-test.false in
    finished c.args.crossings.now c.loop-c.self.downs c.loop-c.self.ups c.loop-c.self.from c.loop-c.self.runs.items (simp t at c.loop-c.invariant) c.requires.even
