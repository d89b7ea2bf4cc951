use Rattle.std.proofs.Common.{None, ap, arith, length, subst, ◌<◌, ◌≡◌}
use Rattle.std.specs.Arc.{arc_value}
use Rattle.ass_events.specs.Events.{event_of_line, line_fault}
use Rattle.ass_script.specs.Scripts.{ScriptValue}
use Rattle.shared_player.specs.Seats.{SharedSeatView}
use Rattle.shared_player.proofs.LineLemmas.{given_faultless, told_anyhow}
use Rattle.shared_player.proofs.seat.Seat.try_feed_lines.Goals as goal

pub returns-in-Ok-Some-clause-memory : goal.returns-in-Ok-Some-clause-memory
returns-in-Ok-Some-clause-memory c =
    let script = c.args.self.script in
    let kept = c.self.inside.player.script in
    let given = rw c.in-Ok-Some.field-0-is at c.in-Ok-Some.ensures.event in
    let faultless = given_faultless (event_of_line kept c.args.from) (arc_value c.in-Ok-Some.event) given in
    let below : c.args.from < length script.lines = omega (arith, c.if-from-count.false, c.line_count-count.ensures, ap (λ (s : SharedSeatView). length s.script.lines) c.self.view_is) in
    told_anyhow c.try_line.result.1 (c.args.from < length script.lines × line_fault script c.args.from ≡ None)
    (below, subst (λ (s : ScriptValue). line_fault s c.args.from ≡ None) (ap (λ (s : SharedSeatView). s.script) c.self.view_is) faultless)
