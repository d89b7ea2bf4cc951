-- What a round adds to the history, and what its workers saw.
use Rattle.std.proofs.Common.{◌≡◌, ℕ, ◌<◌, List, [], ◌∷◌, ◌++◌, length, map, refl, sym, ap, ◌∙◌}
use Rattle.std.proofs.lemmas.List.{map-append}
use Rattle.ass_events.specs.Histories.{Entry}
use Rattle.renderer.specs.Passes.{RenderView}
use Rattle.turn_cell.specs.History.{History, IsPrefix, map_entries}
use Rattle.turn_cell.proofs.Histories.{IsBelow-map, entries_of-map}
use Rattle.track_history.specs.Answers.{entry_of}
use Rattle.track_history.specs.Calls.{TrackView, history_of}
use Rattle.track_history.specs.declared.answers.TrackEntry.{TrackEntry}
use Rattle.play_model.specs.Interleavings.{IsInterleaving, all_entries}
use Rattle.play_workers.specs.declared.stage.PlayStage.{PlayStage}
use Rattle.play_workers.specs.declared.worker.Worker.{Worker}
use Rattle.play_rounds.specs.Passes.{IsAllJoined}
use Rattle.play_rounds.specs.Rounds.{IsRound}
use Rattle.play_rounds.proofs.WholeRounds.{begun_is, given_of, joined_track, news, nobody}
use Rattle.play_workers.proofs.Answered.{history-prefix}

all_entries_mapped : {X Y : Type 0} (f : X → Y) (h : History X) → all_entries (map_entries f h) ≡ map f (all_entries h)
all_entries_mapped f [] = refl
all_entries_mapped f (x ∷ h) = ap (λ z. f x.1 ∷ z) (all_entries_mapped f h)

pub mapped_interleaving : {X Y : Type 0} (f : X → Y) (n : ℕ) (ps : ℕ → List X) (xs : List X) → IsInterleaving n ps xs → IsInterleaving n (λ i. map f (ps i)) (map f xs)
mapped_interleaving f n ps xs is = record {
  labelled = map_entries f is.labelled;
  all = all_entries_mapped f is.labelled ∙ ap (map f) is.all;
  below = IsBelow-map f n is.labelled is.below;
  each = λ i lt. entries_of-map f i is.labelled ∙ ap (map f) (is.each i lt);
}

told_entries : (h : History TrackEntry) → map entry_of (all_entries h) ≡ history_of h
told_entries [] = refl
told_entries (x ∷ h) = ap (λ z. entry_of x.1 ∷ z) (told_entries h)

module _ (stage : PlayStage) (round : ℕ) (first : RenderView) (workers : List Worker) (after : RenderView) (home : IsAllJoined stage.renderer first) (one : IsRound stage round first workers after) where
  -- what is new in the history
  abbrev pub told_new : List Entry
  told_new = map entry_of (news stage round first workers after home one).0

  pub told_later : history_of first.track.seen ++ told_new ≡ history_of after.track.seen
  told_later =
      let new = news stage round first workers after home one in
      ap (λ z. z ++ told_new) (sym (told_entries first.track.seen)) ∙ (sym (map-append entry_of (all_entries first.track.seen) new.0) ∙ (ap (map entry_of) new.1 ∙ told_entries after.track.seen))

  abbrev pub told_given : ℕ → List Entry
  told_given i = map entry_of (given_of stage round first workers after home one i)

  pub told_mixed : IsInterleaving (length workers) told_given told_new
  told_mixed = let new = news stage round first workers after home one in
      mapped_interleaving entry_of (length workers) (given_of stage round first workers after home one) new.0 new.2

  -- what a worker saw
  abbrev pub shown_to : ℕ → List Entry
  shown_to i = history_of (one.passes i).track.seen

  pub told_begun : (i : ℕ) → i < length workers → history_of (one.begun i).track.seen ≡ history_of first.track.seen
  told_begun i lt = ap (λ (p : TrackView). history_of p.seen) (begun_is stage round first workers after home one i lt)

  pub shown_begins : (i : ℕ) → i < length workers → IsPrefix (history_of (one.begun i).track.seen) (shown_to i)
  shown_begins i lt = history-prefix (one.begun i).track.seen (one.passes i).track.seen (one.done i nobody lt).follows.seen

  pub shown_ends : (i : ℕ) → i < length workers → IsPrefix (shown_to i) (history_of after.track.seen)
  shown_ends i lt = history-prefix (one.passes i).track.seen after.track.seen ((joined_track stage round first workers after home one).seen i lt)
