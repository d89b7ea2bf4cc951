use Rattle.std.proofs.Common.{◌≡◌, ◌∙◌, refl, arith}
use Rattle.run_reports.specs.ChangeStreams.{changes_view}
use Rattle.run_reports.proofs.ChangeLemmas.{all_got, next_failed, next_got, next_wanting, nothing_got}
use Rattle.run_reports.proofs.changes.put_places.Goals as goal

pub loop-place-init : goal.loop-place-init
loop-place-init g c =
    let setting = c.args.setting.now in
    record {
      put = nothing_got (changes_view c.args.form setting.script setting.fonts c.args.instants.now setting.frame) c.args.screen.now.plan.draws (g.R.Sink.state c.args.report.now) c.requires.none;
      screen = c.requires.screen;
      fonts = c.requires.same;
    }

pub loop-place-preserved : goal.loop-place-preserved
loop-place-preserved g c =
    let setting = c.args.setting.now in
    record {
      put = next_got (changes_view c.args.form setting.script setting.fonts c.args.instants.now setting.frame) c.loop-place.place c.loop-place.screen.plan.draws c.put_place.new.screen.plan.draws
          (g.R.Sink.state c.args.report.now) (g.R.Sink.state c.loop-place.report) (g.R.Sink.state c.put_place.new.report) c.loop-place.invariant.put c.in-Done.ensures.put;
      screen = c.in-Done.ensures.screen refl;
      fonts = c.put_place.ensures.same ∙ c.loop-place.invariant.fonts;
    }

pub returns-in-Failed : goal.returns-in-Failed
returns-in-Failed g c =
    let setting = c.args.setting.now in
    next_failed (changes_view c.args.form setting.script setting.fonts c.args.instants.now setting.frame) c.loop-place.place c.loop-place.screen.plan.draws c.put_place.new.screen.plan.draws
    (g.R.Sink.state c.args.report.now) (g.R.Sink.state c.loop-place.report) (g.R.Sink.state c.put_place.new.report) c.loop-place-test.true c.loop-place.invariant.put c.in-Failed.ensures.put

pub returns-in-OutOfMemory : goal.returns-in-OutOfMemory
returns-in-OutOfMemory g c =
    let setting = c.args.setting.now in
    next_wanting (changes_view c.args.form setting.script setting.fonts c.args.instants.now setting.frame) c.loop-place.place c.loop-place.screen.plan.draws c.put_place.new.screen.plan.draws
    (g.R.Sink.state c.args.report.now) (g.R.Sink.state c.loop-place.report) (g.R.Sink.state c.put_place.new.report) c.loop-place-test.true c.loop-place.invariant.put c.in-OutOfMemory.ensures.put

pub returns : goal.returns
returns g c =
    let setting = c.args.setting.now in
    let all : c.loop-place.place ≡ c.args.instants.now.count = omega (arith, c.loop-place-test.false, c.loop-place.auto.place-end) in
    all_got (changes_view c.args.form setting.script setting.fonts c.args.instants.now setting.frame) c.loop-place.place c.loop-place.screen.plan.draws
    (g.R.Sink.state c.args.report.now) (g.R.Sink.state c.loop-place.report) all c.loop-place.invariant.put
