use Rattle.std.proofs.Common.{◌≡◌, ℕ, List, None, arith, subst, sym}
use Rattle.ass_events.specs.Histories.{Entry}
use Rattle.track_history.specs.Calls.{history_of}
use Rattle.play_model.specs.Images.{ShownImage, shown_pieces}
use Rattle.play_workers.specs.Asks.{masks_seen}
use Rattle.play_rounds.proofs.Turns.{home_turn}
use Rattle.play_workers.specs.Stages.{play_on}
use Rattle.play_rounds.specs.Outputs.{AreImagesWritten, IsCutOff}
use Rattle.play_rounds.specs.Times.{PlaysTime}
use Rattle.play_rounds.specs.declared.ends.Stop.TheVariants.{OutOfMemory}
use Rattle.play_rounds.proofs.BeginTimes.{same_history, seen_same}
use Rattle.play_rounds.proofs.Puts.{all_cut}
use Rattle.play_rounds.proofs.TimesMore.{more_time, stop_behind, stop_time}
use Rattle.play_rounds.proofs.times.one_time.Goals as goal

pub begin_time-first-requires-clause-time : goal.begin_time-first-requires-clause-time
begin_time-first-requires-clause-time g c = let few = c.requires.stage.playable.job.times.1 in let early = c.requires.time in omega (arith, few, early)

pub returns-in-Err-clause-stopped : goal.returns-in-Err-clause-stopped
returns-in-Err-clause-stopped g c =
    let stage = c.args.stage.now in let old = c.args.frames.now in let new = c.play_once-first.new.frames in
    let state = g.F.Sink.state in let seen = masks_seen stage.renderer in
    stop_time (play_on stage) c.args.time (history_of c.args.first.track.seen) (history_of c.begin_time-first.result.track.seen) c.begin_time-first.ensures.begins c.requires.time
    (λ (images : List ShownImage). IsCutOff c.in-Err.stop (shown_pieces images) (state old) (state new))
    (rw c.in-Err.is at c.play_once-first.ensures.stopped)

pub returns-in-Err-orders-clause-home : goal.returns-in-Err-orders-clause-home
returns-in-Err-orders-clause-home g c =
    home_turn c.args.stage.now.renderer c.play_once-first.result.0 c.orders-first.result.0 None c.play_once-first.ensures.home c.orders-first.ensures.pass c.orders-first.ensures.turn c.orders-first.ensures.caches

pub returns-in-Err-orders-clause-drawn : goal.returns-in-Err-orders-clause-drawn
returns-in-Err-orders-clause-drawn g c =
    let next = c.orders-first.ensures.turn.turn.follows.next in let drawn = c.play_once-first.ensures.drawn in let begun = c.begin_time-first.ensures.drawn in omega (arith, next, drawn, begun)

pub returns-in-Err-orders-clause-stopped : goal.returns-in-Err-orders-clause-stopped
returns-in-Err-orders-clause-stopped g c =
    let stage = c.args.stage.now in let old = c.args.frames.now in let new = c.play_once-first.new.frames in
    let state = g.F.Sink.state in let seen = masks_seen stage.renderer in
    stop_behind (play_on stage) c.args.time (history_of c.args.first.track.seen) (history_of c.begin_time-first.result.track.seen) c.begin_time-first.ensures.begins c.requires.time
    (history_of c.play_once-first.result.0.track.seen) c.in-Ok.repeated
    (λ (images : List ShownImage). AreImagesWritten images (state old) (state new) (seen c.begin_time-first.result) (seen c.play_once-first.result.0))
    (λ (images : List ShownImage). IsCutOff OutOfMemory (shown_pieces images) (state old) (state new))
    (rw c.in-Ok.is at c.play_once-first.ensures.played)
    (λ next written. all_cut (state old) (state new) (state new) (shown_pieces next) written.0)

pub returns-in-Ok-orders-clause-home : goal.returns-in-Ok-orders-clause-home
returns-in-Ok-orders-clause-home g c =
    home_turn c.args.stage.now.renderer c.play_once-first.result.0 c.orders-first.result.0 None c.play_once-first.ensures.home c.orders-first.ensures.pass c.orders-first.ensures.turn c.orders-first.ensures.caches

pub returns-in-Ok-orders-clause-drawn : goal.returns-in-Ok-orders-clause-drawn
returns-in-Ok-orders-clause-drawn g c =
    let next = c.orders-first.ensures.turn.turn.follows.next in let drawn = c.play_once-first.ensures.drawn in let begun = c.begin_time-first.ensures.drawn in omega (arith, next, drawn, begun)

pub returns-in-Ok-orders-clause-few : goal.returns-in-Ok-orders-clause-few
returns-in-Ok-orders-clause-few g c = rw c.in-Ok.is at c.play_once-first.ensures.few

pub returns-in-Ok-orders-clause-played : goal.returns-in-Ok-orders-clause-played
returns-in-Ok-orders-clause-played g c =
    let stage = c.args.stage.now in let old = c.args.frames.now in let new = c.play_once-first.new.frames in
    let state = g.F.Sink.state in let seen = masks_seen stage.renderer in
    let same = same_history stage.renderer c.play_once-first.result.0 c.orders-first.result.0 c.play_once-first.ensures.home c.orders-first.ensures.pass c.orders-first.ensures.turn in
    let asks : seen c.orders-first.result.0 ≡ seen c.play_once-first.result.0 = seen_same stage.renderer c.play_once-first.result.0 c.orders-first.result.0 c.orders-first.ensures.caches in
    let asks_before : seen c.begin_time-first.result ≡ seen c.args.first = c.begin_time-first.ensures.asks in
    more_time (play_on stage) c.args.time (history_of c.args.first.track.seen) (history_of c.begin_time-first.result.track.seen) c.begin_time-first.ensures.begins c.requires.time
    (history_of c.orders-first.result.0.track.seen) c.in-Ok.repeated c.in-Ok-orders.orders
    (λ (next : List ShownImage). AreImagesWritten next (state old) (state new) (seen c.args.first) (seen c.orders-first.result.0))
    (subst (λ (history : List Entry). PlaysTime (play_on stage) (history_of c.begin_time-first.result.track.seen) history c.in-Ok.repeated
    (λ images. AreImagesWritten images (state old) (state new) (seen c.args.first) (seen c.orders-first.result.0))) (sym same)
    (rw (sym asks_before, asks) (rw c.in-Ok.is at c.play_once-first.ensures.played)))
    (rw c.in-Ok-orders.is at c.orders-first.ensures.orders)
