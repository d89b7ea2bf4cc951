use Rattle.std.proofs.Common.{◌≡◌, ◌∙◌, subst, arith}
use Rattle.still_images.specs.Stills.{stills_view}
use Rattle.still_images.proofs.ReelLemmas.{IsShownSoFar, all_listed, none_yet_shown, shown_more, some_shown}
use Rattle.still_images.proofs.stills.show_all.Goals as goal

pub loop-place-init : goal.loop-place-init
loop-place-init g c = record {
  shown = none_yet_shown (stills_view c.args.job.now c.args.setting.now.script c.args.setting.now.fonts) c.new.result (g.F.Sink.state c.args.frames.now) c.new.ensures;
  fit = tt;
  fonts = c.requires.same;
}

pub loop-place-preserved : goal.loop-place-preserved
loop-place-preserved g c = record {
  shown = shown_more (stills_view c.args.job.now c.args.setting.now.script c.args.setting.now.fonts) c.loop-place.place c.loop-place.reel c.add_instant.new.reel (g.F.Sink.state c.args.frames.now) (g.F.Sink.state c.loop-place.frames) (g.F.Sink.state c.add_instant.new.frames)
      c.loop-place.invariant.shown c.in-Ok.ensures.whole;
  fit = c.in-Ok.ensures.fit;
  fonts = c.add_instant.ensures.same ∙ c.loop-place.invariant.fonts;
}

pub returns-in-Err : goal.returns-in-Err
returns-in-Err g c =
    some_shown (stills_view c.args.job.now c.args.setting.now.script c.args.setting.now.fonts) c.loop-place.place c.loop-place.reel c.in-Err.fault (g.F.Sink.state c.args.frames.now) (g.F.Sink.state c.loop-place.frames) (g.F.Sink.state c.add_instant.new.frames)
    c.loop-place.invariant.shown c.in-Err.ensures.part

pub returns : goal.returns
returns g c =
    let view = stills_view c.args.job.now c.args.setting.now.script c.args.setting.now.fonts in
    let first = g.F.Sink.state c.args.frames.now in
    let now = g.F.Sink.state c.loop-place.frames in
    let all : c.loop-place.place ≡ c.args.job.now.instants.count = omega (arith, c.loop-place.auto.place-end, c.loop-place-test.false) in
    all_listed view c.loop-place.reel first now (subst (λ n. IsShownSoFar view n c.loop-place.reel first now) all c.loop-place.invariant.shown)
