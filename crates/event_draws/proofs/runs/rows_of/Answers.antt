use Rattle.std.proofs.Common.{◌≡◌, ◌+◌, ◌-◌, ◌<◌, length, take, drop, get_or, arith}
use Rattle.std.proofs.lemmas.List.{length-drop}
use Rattle.event_draws.proofs.StepLemmas.{next_line, no_line, rows_step}
use Rattle.event_draws.proofs.runs.rows_of.Goals as goal

pub loop-line-preserved : goal.loop-line-preserved
loop-line-preserved c =
    let laid = c.args.laid.now in
    let lines = laid.lines in
    let k = c.loop-line.line-index in
    let from = c.loop-line.from in
    let inv = c.loop-line.invariant in
    let listed = c.as_slice-line-items.ensures in
    let within : k < length lines = rw listed at c.loop-line-test.true in
    let next = next_line laid lines k no_line from laid.placed within inv.follow in
    let line = get_or lines k no_line in
    let e : from + (line.last - line.first) - from ≡ line.last - line.first = omega arith in
    let added = rw (listed, c.as_slice-placed.ensures, e) at c.in_ok-push_row.ensures.value in
    rw listed (record {
      most = omega (arith, next.within, length-drop from laid.placed, inv.most);
      follow = next.follow;
      value = rows_step c.args.stage.now c.args.fonts.now.fonts c.args.view.now laid lines k no_line (take (line.last - line.first) (drop from laid.placed)) c.loop-line.rows c.push_row.new.rows
          within next.items inv.value added;
      range = c.in_ok-push_row.ensures.range inv.range;
    })
