use Rattle.std.proofs.Common.{◌≡◌, ◌∙◌, map, string_bytes, subst, arith, rules}
use Rattle.std.specs.Arc.{arc_value}
use Rattle.single_run.specs.ChangeReports.{AreChangeLines}
use Rattle.single_run.proofs.ChangePictures.{blank_picture}
use Rattle.single_run.proofs.LineLemmas.{next_lines, no_lines}
use Rattle.single_run.proofs.change_report.lines_of.Goals as goal

pub loop-place-preserved : goal.loop-place-preserved
loop-place-preserved c =
    let setting = c.args.setting.now in
    let draws = c.add_instant.new.screen.plan.draws in
    let line = c.in_ok-add_instant.ensures.line in
    record {
      lines = next_lines setting.script setting.fonts (map arc_value c.args.events.now) c.args.instants.now setting.frame c.loop-place.place c.at-t.result c.loop-place.screen.plan.draws draws
          (string_bytes c.loop-place.report) line.0 (string_bytes c.add_instant.new.report) c.loop-place.invariant.lines c.at-t.ensures.at c.in_ok-add_instant.ensures.draws line.1 line.2;
      screen = c.in_ok-add_instant.ensures.screen;
      fonts = c.in_ok-add_instant.ensures.same ∙ c.loop-place.invariant.fonts;
    }

pub returns : goal.returns
returns c =
    let setting = c.args.setting.now in
    let all : c.loop-place.place ≡ c.args.instants.now.count = omega (arith, c.loop-place-test.false, c.loop-place.auto.place-end) in
    (c.loop-place.screen.plan.draws, subst (λ n. AreChangeLines setting.script setting.fonts (map arc_value c.args.events.now) c.args.instants.now setting.frame n c.loop-place.screen.plan.draws (string_bytes c.loop-place.report)) all c.loop-place.invariant.lines)

pub loop-place-init : goal.loop-place-init
loop-place-init c =
    let screen = c.in_ok-screen.screen in
    record {
      lines = search (rules, no_lines);
      screen = rw (← c.setting.view_is)
          (blank_picture c.setting.inside.fonts.now.fonts c.setting.inside.frame.size screen.plan.draws screen.canvas c.in_ok-screen.ensures.draws c.in_ok-screen.ensures.picture);
      fonts = c.requires.same;
    }
