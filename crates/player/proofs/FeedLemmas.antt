-- Tracks that nothing was fed to, and lines that give no event.
use Rattle.std.proofs.Common.{◌≡◌, ℕ, true, List, [], ◌∷◌, length, Option, Some, None, Result, Ok, Err, refl, sym, ap, ◌∙◌}
use Rattle.std.specs.Option.{is_some}
use Rattle.std.specs.Result.{result_ok}
use Rattle.ass_events.specs.Events.{fault_of}
use Rattle.ass_events.specs.Histories.{Entry, flushes_of, live}
use Rattle.ass_events.specs.declared.event.ChunkRefusal.{ChunkRefusal}
use Rattle.ass_events.specs.declared.event.Event.{Event}
use Rattle.track_history.specs.LocalTracks.{IsTrackOf, LocalTrackView, new_track}

no_entries : (history : List Entry) → length history ≡ 0 → history ≡ []
no_entries [] e = refl
no_entries (x ∷ xs) e = absurd cc

-- a track without entries is a new one
pub unfed_track : (track : LocalTrackView) → IsTrackOf track → track.entries ≡ 0 → track ≡ new_track
unfed_track track is none =
    let empty = no_entries is.history (sym is.entries ∙ none) in
    let events = is.events ∙ ap live empty in
    let flushes = is.flushes ∙ ap flushes_of empty in
    λ i. record { events = events i; entries = none i; flushes = flushes i }

-- a line with a fault gives no event
pub faulty_none : (given : Result Event ChunkRefusal) → is_some (fault_of given) ≡ true → result_ok given ≡ None
faulty_none (Ok event) e = absurd cc
faulty_none (Err refusal) e = refl
