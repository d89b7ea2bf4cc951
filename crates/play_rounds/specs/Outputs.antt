-- Public: what a play writes and reports.
use Rattle.std.specs.Prelude.{◌≡◌, ℕ, ◌+◌, ◌*◌, ◌≤◌, not, List, ◌++◌, length, map, filter, take, All, slice_index_or}
use Rattle.std.specs.Io.KnownBytes.{Appends}
use Rattle.std.specs.List.{flat_map}
use Rattle.ass_events.specs.Histories.{Entry, live}
use Rattle.ass_io.specs.Sinks.{SinkState}
use Rattle.ass_io.specs.Written.{AppendsFront}
use Rattle.ass_io.specs.declared.sink.Put.{Put}
use Rattle.ass_io.specs.declared.sink.Put.TheVariants as put
use Rattle.ass_num.specs.Causes.{Rose}
use Rattle.mask_caches.specs.Asks.{HasAsks}
use Rattle.mask_caches.specs.Balance.{IsAccounted}
use Rattle.mask_caches.specs.Caches.{AreLegal, AreNew, all_totals}
use Rattle.mask_caches.specs.declared.caches.Caches.{Caches}
use Rattle.mask_caches.specs.declared.passes.CachesPass.{CachesPass}
use Rattle.evict_core.specs.declared.counts.Totals.{Totals}
use Rattle.play_report.specs.declared.report.PlayReport.{PlayReport}
use Rattle.play_shares.specs.Instants.{frame_count}
use Rattle.track_history.specs.Answers.{read_orders}
use Rattle.play_model.specs.Images.{ShownImage, all_masks, shown_pieces}
use Rattle.play_model.specs.Outputs.{AreShownImages, IsFrontOfPlay, IsShownPlay}
use Rattle.play_model.specs.Plays.{PlayView, good_flags, history_of_times, repeated_count}
use Rattle.play_rounds.specs.declared.ends.PlayEnd.{PlayEnd}
use Rattle.play_rounds.specs.declared.ends.PlayEnd.TheVariants.{Done, WriteFault, OutOfMemory}
use Rattle.play_rounds.specs.declared.ends.Stop.{Stop}
use Rattle.play_rounds.specs.declared.ends.Stop.TheVariants as stop

-- ---- puts

-- The sink was asked to put these pieces, one after another, and got them whole.
pub record AreWritten (pieces : List (List ℕ)) (old new : SinkState) : Type 0 where
  pub held : Appends old.held new.held (flat_map (λ piece. piece) pieces)
  pub faults : new.faults ≡ old.faults
  pub asked : new.asked ≡ old.asked ++ pieces

-- The count of faults rose at `WriteFault`, and is as it was where memory ran out.
abbrev pub IsStopCounted : Stop → ℕ → ℕ → Type 0
IsStopCounted stop.WriteFault faults faults' = Rose faults faults' × (faults ≤ faults')
IsStopCounted stop.OutOfMemory faults faults' = faults' ≡ faults

-- The sink was asked to put these pieces before the play stopped, and got a prefix of their bytes.
pub record IsCutOff (stop : Stop) (pieces : List (List ℕ)) (old new : SinkState) : Type 0 where
  pub held : AppendsFront old.held new.held (flat_map (λ piece. piece) pieces)
  pub counted : IsStopCounted stop old.faults new.faults
  pub asked : new.asked ≡ old.asked ++ pieces

-- It was asked to put the first of these pieces before the play stopped.
abbrev pub AreCutOff : Stop → List (List ℕ) → SinkState → SinkState → Type 0
AreCutOff stop pieces old new = (count : ℕ) × IsCutOff stop (take count pieces) old new

-- The sink was asked to put pieces one after another: all of them, or the first until one wasn't put whole.
abbrev pub ArePut : List (List ℕ) → Put → SinkState → SinkState → Type 0
ArePut pieces put.Done old new = AreWritten pieces old new
ArePut pieces put.Failed old new = AreCutOff stop.WriteFault pieces old new
ArePut pieces put.OutOfMemory old new = AreCutOff stop.OutOfMemory pieces old new

-- The sink was asked to put these images, and got them whole. So many composed masks were asked for before and after: what the images need was.
abbrev pub AreImagesWritten : List ShownImage → SinkState → SinkState → ℕ → ℕ → Type 0
AreImagesWritten images old new asked asked' = AreWritten (shown_pieces images) old new × (asked + all_masks images ≤ asked')

-- ---- what a whole play has written and reports

-- The totals of three caches that were opened with this budget, after a legal history of theirs: what no pin holds costs no more than the budget, each claim was filled or failed, and what was evicted had been filled. In the last one so many composed masks were asked for.
pub record AreLastTotals (budget asks : ℕ) (totals : List Totals) : Type 0 where
  pub caches : Caches
  pub first : CachesPass
  pub opened : AreNew caches first budget
  pub last : CachesPass
  pub legal : AreLegal caches last
  pub are : totals ≡ all_totals caches last
  pub three : length totals ≡ 3
  pub budgets : All (λ t. t.unpinned ≤ t.budget) totals
  pub accounted : All IsAccounted totals
  pub asked : (d : Totals) → HasAsks asks (slice_index_or totals 2 d)

-- One history for each time, an interleaving of the feeders' events, each once; one image for each instant of each time, in their order; and the report tells them.
pub record IsWholePlay (play : PlayView) (bytes : List ℕ) (report : PlayReport) : Type 0 where
  pub times : List (List Entry)
  pub shown : IsShownPlay play times bytes
  pub accepted : report.accepted ≡ map (λ time. read_orders (live time)) times
  pub malformed : report.malformed ≡ length (filter (λ flag. not flag) (good_flags play.script))
  pub repeated : report.repeated ≡ play.job.times * repeated_count play
  pub frames : report.frames ≡ frame_count play.job
  pub images : List ShownImage
  pub pieces : shown_pieces images ≡ shown.images
  pub are : AreShownImages play (history_of_times times) images
  pub totals : AreLastTotals play.job.budget (all_masks images) report.totals

-- The play stopped. The sink was asked to put the first images, and got a prefix of their bytes.
pub record IsStopped (play : PlayView) (stop : Stop) (old new : SinkState) : Type 0 where
  pub bytes : List ℕ
  pub front : IsFrontOfPlay play bytes
  pub held : Appends old.held new.held bytes
  pub counted : IsStopCounted stop old.faults new.faults
  pub asked : new.asked ≡ old.asked ++ front.images

-- The play was whole. The sink was asked to put its images, and got them whole.
pub record IsDonePlay (play : PlayView) (report : PlayReport) (old new : SinkState) : Type 0 where
  pub bytes : List ℕ
  pub whole : IsWholePlay play bytes report
  pub held : Appends old.held new.held bytes
  pub faults : new.faults ≡ old.faults
  pub asked : new.asked ≡ old.asked ++ whole.shown.images

-- How a play ended, and what the sink of its images was asked to put.
abbrev pub IsPlayed : PlayView → PlayEnd → SinkState → SinkState → Type 0
IsPlayed play (Done report) old new = IsDonePlay play report old new
IsPlayed play WriteFault old new = IsStopped play stop.WriteFault old new
IsPlayed play OutOfMemory old new = IsStopped play stop.OutOfMemory old new
