use Rattle.std.proofs.Common.{◌∙◌, length, ap, sym, subst}
use Rattle.std.proofs.lemmas.List.{length-map}
use Rattle.std.specs.Arc.{arc_value}
use Rattle.still_images.specs.Reels.{IsNewlyDrawn}
use Rattle.still_images.specs.Stills.{stills_view}
use Rattle.still_images.proofs.ReelLemmas.{cut_next, drawn_at, fit_next, kept_next, on_err, on_ok, shown_next, wants_next}
use Rattle.still_images.proofs.stills.add_instant.Goals as goal

pub returns-in-Ok-None-clause-fit : goal.returns-in-Ok-None-clause-fit
returns-in-Ok-None-clause-fit g c = c.requires.reel

pub returns-in-Ok-None-clause-whole : goal.returns-in-Ok-None-clause-whole
returns-in-Ok-None-clause-whole g c =
    let view = (stills_view c.args.job.now c.args.setting.now.script c.args.setting.now.fonts) in
    let drawn = subst (IsNewlyDrawn view c.at-t.result c.args.reel.now.shown) c.in-Ok-None.field-0-is c.in-Ok-None.ensures.drawn in
    kept_next view c.args.place c.at-t.result c.args.reel.now (g.F.Sink.state c.args.frames.now) c.at-t.ensures.at drawn

pub returns-in-Ok-Some-clause-fit : goal.returns-in-Ok-Some-clause-fit
returns-in-Ok-Some-clause-fit g c =
    let drawn = subst (IsNewlyDrawn (stills_view c.args.job.now c.args.setting.now.script c.args.setting.now.fonts) c.at-t.result c.args.reel.now.shown) c.in-Ok-Some.field-0-is c.in-Ok-Some.ensures.drawn in
    on_ok c.show_picture.result _ _ (fit_next c.args.job.now _ c.args.place c.at-t.result c.in-Ok-Some.shown c.args.reel.now c.show_picture.new.reel _ _ drawn.2) c.show_picture.ensures.whole

pub returns-in-Ok-Some-clause-whole : goal.returns-in-Ok-Some-clause-whole
returns-in-Ok-Some-clause-whole g c =
    let view = (stills_view c.args.job.now c.args.setting.now.script c.args.setting.now.fonts) in
    let drawn = subst (IsNewlyDrawn view c.at-t.result c.args.reel.now.shown) c.in-Ok-Some.field-0-is c.in-Ok-Some.ensures.drawn in
    let draws = drawn_at view c.args.place c.at-t.result c.args.reel.now.shown c.in-Ok-Some.shown c.at-t.ensures.at drawn in
    on_ok c.show_picture.result _ _ (shown_next view c.args.place c.in-Ok-Some.shown draws drawn.1 (g.F.Sink.state c.args.frames.now) (g.F.Sink.state c.show_picture.new.frames) _ c.at-t.result
    c.args.reel.now c.show_picture.new.reel (sym (length-map c.args.events.now arc_value) ∙ ap length c.requires.lines) c.at-t.ensures.at) c.show_picture.ensures.whole

pub returns-in-Ok-Some-clause-part : goal.returns-in-Ok-Some-clause-part
returns-in-Ok-Some-clause-part g c =
    let view = (stills_view c.args.job.now c.args.setting.now.script c.args.setting.now.fonts) in
    let drawn = subst (IsNewlyDrawn view c.at-t.result c.args.reel.now.shown) c.in-Ok-Some.field-0-is c.in-Ok-Some.ensures.drawn in
    let draws = drawn_at view c.args.place c.at-t.result c.args.reel.now.shown c.in-Ok-Some.shown c.at-t.ensures.at drawn in
    on_err c.show_picture.result _ _ (λ fault. cut_next view c.args.place c.in-Ok-Some.shown draws drawn.1 (g.F.Sink.state c.args.frames.now) (g.F.Sink.state c.show_picture.new.frames) _ c.at-t.result
    c.args.reel.now fault (sym (length-map c.args.events.now arc_value) ∙ ap length c.requires.lines) c.at-t.ensures.at c.requires.place) c.show_picture.ensures.part

pub returns-in-Err-clause-part : goal.returns-in-Err-clause-part
returns-in-Err-clause-part g c = wants_next (stills_view c.args.job.now c.args.setting.now.script c.args.setting.now.fonts) c.args.place (g.F.Sink.state c.args.frames.now) c.args.reel.now c.requires.place
