-- Public: what is played, and what its feeders offer.
use Rattle.std.specs.Prelude.{ℕ, ◌*◌, ◌≤◌, Bool, List, All, [], ◌∷◌, ◌++◌, length, map, take}
use Rattle.std.specs.List.{flat_map, range_with_len}
use Rattle.std.specs.Result.{is_ok}
use Rattle.ass_events.specs.Events.{event_of_line}
use Rattle.ass_events.specs.Histories.{Entry, Chunk, Flush}
use Rattle.ass_events.specs.declared.event.Event.{Event}
use Rattle.ass_num.specs.Limits.{max_file_bytes}
use Rattle.ass_script.specs.Ranges.{IsScript}
use Rattle.ass_script.specs.Scripts.{ScriptValue}
use Rattle.bdf_font.specs.Fonts.{FontValue}
use Rattle.play_shares.specs.Batches.{again_lines, batch_lines, feeder_lines}
use Rattle.play_shares.specs.Instants.{frame_count}
use Rattle.play_shares.specs.Limits.{max_frames}
use Rattle.play_shares.specs.Rounds.{feeding_rounds}
use Rattle.run_words.specs.Jobs.{IsPlay}
use Rattle.run_words.specs.declared.job.PlayJob.{PlayJob}
use Rattle.ass_events.specs.ScriptEvents.{event_given}
use Rattle.text_layout.specs.Fonts.{IsLayoutFontSet}
use Rattle.play_model.specs.Interleavings.{IsInterleaving, sum_below}

-- a job with its script and its fonts
pub record PlayView : Type 0 where
  pub job : PlayJob
  pub script : ScriptValue
  pub fonts : List FontValue

-- Everything is within its limits. No line has more bytes than a file.
pub record IsPlayable (play : PlayView) : Type 0 where
  pub job : IsPlay play.job
  pub frames : frame_count play.job ≤ max_frames
  pub script : IsScript play.script
  pub short : All (λ line. length line ≤ max_file_bytes) play.script.lines
  pub fonts : IsLayoutFontSet play.fonts

-- of each Dialogue line whether it gives an event
abbrev pub good_flags : ScriptValue → List Bool
good_flags script = map (λ i. is_ok (event_of_line script i)) (range_with_len 0 (length script.lines))

-- the events of lines, as far as they give one
abbrev pub events_at : ScriptValue → List ℕ → List Event
events_at script lines = flat_map (λ i. event_given (event_of_line script i)) lines

module _ (play : PlayView) where
  abbrev pub lines_of_feeder : ℕ → List ℕ
  lines_of_feeder feeder = feeder_lines (length play.script.lines) play.job.feeders feeder

  -- the events of a feeder, in the order of its lines
  abbrev pub feeder_events : ℕ → List Event
  feeder_events feeder = events_at play.script (lines_of_feeder feeder)

  -- those of its batches before a round
  abbrev pub events_before : ℕ → ℕ → List Event
  events_before round feeder = events_at play.script (take (round * play.job.batch) (lines_of_feeder feeder))

  -- those of its batch for a round
  abbrev pub events_in : ℕ → ℕ → List Event
  events_in round feeder = events_at play.script (batch_lines play.job (length play.script.lines) round feeder)

  -- those of the batch before that it offers once more
  abbrev pub events_again : ℕ → ℕ → List Event
  events_again round feeder = events_at play.script (again_lines play.job (good_flags play.script) round feeder)

  -- how many events the batches before a round have
  abbrev pub good_before : ℕ → ℕ
  good_before round = sum_below play.job.feeders (λ feeder. length (events_before round feeder))

  -- how many events there are
  abbrev pub good_count : ℕ
  good_count = sum_below play.job.feeders (λ feeder. length (feeder_events feeder))

  -- how many events are offered once more in a round
  abbrev pub repeated_in : ℕ → ℕ
  repeated_in round = sum_below play.job.feeders (λ feeder. length (again_lines play.job (good_flags play.script) round feeder))

  abbrev pub repeated_before : ℕ → ℕ
  repeated_before rounds = sum_below rounds repeated_in

  -- how many rounds feed all lines
  abbrev pub all_feeding : ℕ
  all_feeding = feeding_rounds play.job (length play.script.lines)

  -- how many events are offered once more in a time
  abbrev pub repeated_count : ℕ
  repeated_count = repeated_before all_feeding

  -- What was accepted behind a flush in so many rounds: the events of the feeders' batches, each once, those of one feeder in its order.
  abbrev pub IsFedTo : ℕ → List Entry → Type 0
  IsFedTo rounds fresh = IsInterleaving play.job.feeders (λ feeder. map Chunk (events_before rounds feeder)) fresh

  -- What is accepted in a whole time.
  abbrev pub IsTimeOf : List Entry → Type 0
  IsTimeOf fresh = IsInterleaving play.job.feeders (λ feeder. map Chunk (feeder_events feeder)) fresh

-- the history of times, with a flush between each two
abbrev pub history_of_times : List (List Entry) → List Entry
history_of_times [] = []
history_of_times (time ∷ []) = time
history_of_times (time ∷ (next ∷ times)) = time ++ Flush ∷ history_of_times (next ∷ times)
