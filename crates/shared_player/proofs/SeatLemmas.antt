-- A seat after a try of its pass.
use Rattle.std.proofs.Common.{◌≡◌, ℕ, ◌+◌, ◌∙◌, ℤ, Bool, true, false, List, [], Result, Ok, Err, ap, sym, subst, arith}
use Rattle.std.proofs.lemmas.Bool.{false≢true}
use Rattle.std.specs.Result.{IfOk, OnErr}
use Rattle.ass_events.specs.declared.event.Event.{Event}
use Rattle.player.specs.Players.{PlayerView}
use Rattle.track_history.specs.Calls.{IsFed, IsFlushed, IsOffered, IsTriedLook, IsTurn, TrackView}
use Rattle.track_history.specs.declared.answers.Feed.{Feed}
use Rattle.track_history.specs.declared.answers.Flushed.{Flushed}
use Rattle.track_history.specs.declared.answers.LookRefusal.{LookRefusal}
use Rattle.track_history.specs.declared.answers.TrackEntry.{TrackEntry}
use Rattle.track_history.specs.declared.answers.TurnOut.{TurnOut}
use Rattle.track_history.specs.declared.scene.Scene.{Scene}
use Rattle.track_history.proofs.LawLemmas.{fed_gives, tried_follows, turn_follows}
use Rattle.track_history.specs.LocalTracks.{new_track}
use Rattle.turn_cell.specs.Passes.{CellView, Follows, IsOf, new_pass, split_pass}
use Rattle.turn_cell.proofs.Passes.{Follows_tries, IsOf-Follows}
use Rattle.shared_player.specs.Seats.{IsSeat}
use Rattle.shared_player.specs.Tries.{IsLostTry}

module _ (player : PlayerView) (cell : CellView (Unit {0})) (pass after : TrackView) (first : Bool) (is : IsSeat player cell pass first) where
  follows_seat : (given : List TrackEntry) → Follows pass after given → IsSeat player cell after first
  follows_seat given f = record { unfed = is.unfed; of_cell = IsOf-Follows cell pass after given is.of_cell f; is_first = λ one. f.number ∙ is.is_first one }

  lost_seat : IsLostTry pass after → IsSeat player cell after first
  lost_seat lost = follows_seat [] (Follows_tries pass after (pass.lost + 1) (omega arith) lost)

  pub offered_seat : (event : Event) (answer : Result Feed TurnOut) → IfOk answer (IsOffered event pass after) → OnErr answer (IsLostTry pass after) → IsSeat player cell after first
  offered_seat event (Ok a) offered out = let g = turn_follows pass after _ offered.turn in follows_seat g.0 g.2
  offered_seat event (Err e) offered out = lost_seat out

  pub fed_seat : (bytes : List ℕ) (start duration : ℤ) (answer : Result Feed TurnOut) → IfOk answer (IsFed bytes start duration pass after) → OnErr answer (IsLostTry pass after)
      → IsSeat player cell after first
  fed_seat bytes start duration (Ok a) fed out = let g = fed_gives bytes start duration pass after a fed in follows_seat g.0 g.2
  fed_seat bytes start duration (Err e) fed out = lost_seat out

  pub flushed_seat : (answer : Result Flushed TurnOut) → IfOk answer (IsFlushed pass after) → OnErr answer (IsLostTry pass after) → IsSeat player cell after first
  flushed_seat (Ok a) flushed out = let g = turn_follows pass after _ flushed.turn in follows_seat g.0 g.2
  flushed_seat (Err e) flushed out = lost_seat out

  pub looked_seat : (t : ℤ) (answer : Result Scene LookRefusal) → IsTriedLook pass t after answer → IsSeat player cell after first
  looked_seat t answer looked = follows_seat [] (tried_follows pass after t answer looked)

-- ---- splitting

pub new_seat_is : (player : PlayerView) (cell : CellView (Unit {0})) (pass new : TrackView) → player.track ≡ new_track → IsOf cell pass → new ≡ new_pass pass → IsSeat player cell new false
new_seat_is player cell pass new unfed of e =
    record { unfed = unfed; of_cell = subst (λ (p : TrackView). IsOf cell p) (sym e) (record { id = of.id; tagged = of.tagged }); is_first = λ no. absurd (false≢true no) }

pub first_seat_is : (player : PlayerView) (cell : CellView (Unit {0})) (pass after : TrackView) → player.track ≡ new_track → IsOf cell pass → pass.number ≡ 0 → after ≡ split_pass pass → IsSeat player cell after true
first_seat_is player cell pass after unfed of first e = record {
  unfed = unfed;
  of_cell = subst (λ (p : TrackView). IsOf cell p) (sym e) (record { id = of.id; tagged = of.tagged });
  is_first = λ yes. ap (λ (p : TrackView). p.number) e ∙ first;
}
