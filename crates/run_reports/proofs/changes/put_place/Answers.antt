use Rattle.std.proofs.Common.{inl, inr, ℕ, List, map, pos, refl, subst}
use Rattle.std.specs.Arc.{arc_value}
use Rattle.std.specs.Prelude.{string_bytes}
use Rattle.ass_io.specs.Sinks.{IsPutAnswered}
use Rattle.ass_events.specs.declared.event.Event.{Event}
use Rattle.frame_rate.specs.Instants.{rated_instant}
use Rattle.picture_plan.specs.Pictures.{AreDraws}
use Rattle.run_reports.specs.ChangeStreams.{IsChangeLineIn}
use Rattle.run_reports.proofs.changes.put_place.Goals as goal

pub returns-in-Ok-clause-put : goal.returns-in-Ok-clause-put
returns-in-Ok-clause-put g c =
    let setting = c.args.setting.now in
    let draws = c.line_at.new.screen.plan.draws in
    inr (
      string_bytes c.in-Ok.line,
      subst (λ (events : List Event). AreDraws setting.script setting.fonts events (pos (rated_instant c.args.instants.now c.args.place)) setting.frame draws) c.requires.known
          (subst (λ (n : ℕ). AreDraws setting.script setting.fonts (map arc_value c.args.events.now) (pos n) setting.frame draws) c.at.ensures.at c.in-Ok.ensures.draws),
      subst (λ (n : ℕ). IsChangeLineIn c.args.form setting.fonts setting.frame.size n c.args.screen.now.plan.draws draws (string_bytes c.in-Ok.line)) c.at.ensures.at c.in-Ok.ensures.line,
      subst (λ (piece : List ℕ). IsPutAnswered piece c.put.result (g.R.Sink.state c.args.report.now) (g.R.Sink.state c.put.new.self)) c.as_bytes.ensures.value c.put.ensures,
    )

pub returns-in-Err-clause-put : goal.returns-in-Err-clause-put
returns-in-Err-clause-put g c = inl (refl, refl)
