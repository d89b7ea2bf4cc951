use Rattle.std.proofs.Common.{◌≡◌, ◌<◌, length, sym, arith, rules, None}
use Rattle.std.specs.Arc.{arc_value}
use Rattle.std.proofs.lemmas.List.{length-map}
use Rattle.ass_events.specs.Histories.{max_live}
use Rattle.track_history.specs.Answers.{position_of}
use Rattle.track_history.specs.Tellings.{events_of}
use Rattle.track_history.proofs.Histories.{accepted_else, tells_accepted}
use Rattle.track_history.proofs.Places.{position_of_within}
use Rattle.track_history.proofs.live_events.LiveEvents.feed.Goals as goal

pub overflow_add-result : goal.overflow_add-result
overflow_add-result c =
    let sound = c.requires.sound in
    let within = position_of_within _ (events_of c.args.self.now) _ (sym c.in-Some.ensures) in
    omega (arith, within, c.len.ensures, length-map c.args.self.now.events.items arc_value, c.args.self.now.events.ok.0, sound.counted, sound.bounded, sound.few, sound.few_flushes)

pub returns-in-Ok-clause-history : goal.returns-in-Ok-clause-history
returns-in-Ok-clause-history c = λ history tells.
    let absent : position_of (arc_value c.args.event.now).order (events_of c.args.self.now) ≡ None = search rules in
    let room : length (events_of c.args.self.now) < max_live = omega (arith, c.if-len-ge-MAX_LIVE.false, c.len-2.ensures, length-map c.args.self.now.events.items arc_value, c.args.self.now.events.ok.0) in
    tells_accepted c.args.self.now _ history (arc_value c.args.event.now) tells record { is_event = c.requires.event; texts = c.requires.short } absent room c.in-Ok.ensures.ok c.in-Ok.ensures.counted c.in-Ok.ensures.flushes

pub returns-in-Err-clause-wanting : goal.returns-in-Err-clause-wanting
returns-in-Err-clause-wanting c = λ history tells _.
    let absent : position_of (arc_value c.args.event.now).order (events_of c.args.self.now) ≡ None = search rules in
    let room : length (events_of c.args.self.now) < max_live = omega (arith, c.if-len-ge-MAX_LIVE.false, c.len-2.ensures, length-map c.args.self.now.events.items arc_value, c.args.self.now.events.ok.0) in
    accepted_else c.args.self.now history (arc_value c.args.event.now) tells absent room
