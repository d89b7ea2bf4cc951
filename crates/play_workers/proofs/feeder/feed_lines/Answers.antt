use Rattle.std.proofs.Common.{◌∙◌, ◌<◌, ◌≤◌, length, get_or, arith, refl}
use Rattle.std.specs.Arc.{arc_value}
use Rattle.play_workers.proofs.Fed.{lines_all, lines_front, lines_more, lines_none}
use Rattle.play_workers.proofs.feeder.feed_lines.Goals as goal

pub loop-line-init : goal.loop-line-init
loop-line-init g c = record { of = c.requires.pass; caches = refl; few = omega arith; fed = lines_none (arc_value c.args.stage.now.script) c.args.pass.track }

pub loop-line-preserved : goal.loop-line-preserved
loop-line-preserved g c =
    let kept = c.loop-line.invariant in let e = rw c.in-Ok.is at c.feed_line-next.ensures in
    let i = c.loop-line.line-index in let lines = c.args.lines.now in
    let there : i < length lines = c.loop-line-test.true in
    record {
      of = e.pass;
      caches = e.caches ∙ kept.caches;
      few = omega (arith, e.few, kept.few);
      fed = lines_more (arc_value c.args.stage.now.script) lines i (get_or lines i 0) there refl c.args.pass.track c.loop-line.pass.track c.feed_line-next.result.0.track c.loop-line.repeated kept.fed c.in-Ok.more e.fed;
    }

pub returns-in-Err-clause-fed : goal.returns-in-Err-clause-fed
returns-in-Err-clause-fed g c =
    let kept = c.loop-line.invariant in let e = rw c.in-Err.is at c.feed_line-next.ensures in
    let i = c.loop-line.line-index in let lines = c.args.lines.now in
    let there : i < length lines = c.loop-line-test.true in
    lines_front (arc_value c.args.stage.now.script) lines i (get_or lines i 0) there refl c.args.pass.track c.loop-line.pass.track c.feed_line-next.result.0.track c.loop-line.repeated kept.fed c.in-Err.refused e.fed

pub returns-clause-fed : goal.returns-clause-fed
returns-clause-fed g c =
    let end : length c.args.lines.now ≤ c.loop-line.line-index = (let no = c.loop-line-test.false in omega (arith, no)) in
    lines_all (arc_value c.args.stage.now.script) c.args.lines.now c.loop-line.line-index c.args.pass.track c.loop-line.pass.track c.loop-line.repeated end c.loop-line.invariant.fed
