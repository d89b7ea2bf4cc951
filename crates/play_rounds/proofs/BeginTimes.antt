-- How a time begins behind others.
use Rattle.std.proofs.Common.{◌≡◌, ℕ, ◌<◌, ◌≤◌, Bool, false, List, [], ◌∷◌, ◌++◌, length, None, cond, sym, ap, ◌∙◌, arith}
use Rattle.std.specs.Prelude.{nat_le}
use Rattle.std.proofs.lemmas.Bool.Decides.{nat_tests}
use Rattle.cache_kinds.specs.Kinds.{composite_meaning}
use Rattle.mask_caches.specs.Asks.{seen_asks}
use Rattle.mask_caches.specs.declared.passes.CachesPass.{CachesPass}
use Rattle.play_workers.specs.Asks.{masks_seen}
use Rattle.ass_events.specs.Histories.{Entry, Chunk, Flush, flushed, flushes_of, max_flushes}
use Rattle.run_words.specs.Limits.{max_times}
use Rattle.play_model.specs.Plays.{PlayView, history_of_times}
use Rattle.play_model.specs.Times.{history_before}
use Rattle.play_model.proofs.JoinedPasses.{nil_of}
use Rattle.play_model.proofs.MoreTimes.{flushes_many, times_closed}
use Rattle.play_rounds.specs.Passes.{IsAllJoined}
use Rattle.play_rounds.proofs.Turns.{found_same}
use Rattle.renderer.specs.Passes.{IsPassOfRenderer, RenderView, RendererView}
use Rattle.track_history.specs.Answers.{extended, flushed_entry}
use Rattle.track_history.specs.Calls.{IsFlushed, IsTurn, history_of}
use Rattle.track_history.specs.declared.answers.Flushed.{Flushed}
use Rattle.track_history.specs.declared.answers.TrackEntry.{TrackEntry}
use Rattle.track_history.proofs.Turns.{history_of-with_entry}
use Rattle.turn_cell.specs.History.{History}
use Rattle.play_rounds.specs.Times.{BeginsTime}

fewer_flushes : (xs ys : List Entry) → flushes_of xs ≤ flushes_of (xs ++ ys)
fewer_flushes [] ys = omega arith
fewer_flushes (Chunk e ∷ xs) ys = fewer_flushes xs ys
fewer_flushes (Flush ∷ xs) ys = let rest = fewer_flushes xs ys in omega (arith, rest)

not_most : (n : ℕ) → n ≤ 8 → nat_le max_flushes n ≡ false
not_most n few = grind (arith, nat_tests)

-- ---- turns of the first pass, when all others are joined

module _ (renderer : RendererView) (first after : RenderView) (home : IsAllJoined renderer first) (is_of : IsPassOfRenderer renderer after) where
  -- a turn without an entry leaves the history
  pub same_history : IsTurn first.track after.track None → history_of after.track.seen ≡ history_of first.track.seen
  same_history turn = ap (λ (h : History TrackEntry). history_of h) turn.turn.seen
      ∙ (history_of-with_entry turn.turn.list first.track.number turn.given ∙ (ap (extended (history_of turn.turn.list)) turn.is_entry ∙ found_same renderer first after None home is_of turn))

  pub flushed_history : (answer : Flushed) → IsFlushed first.track after.track answer → history_of after.track.seen ≡ flushed (history_of first.track.seen)
  flushed_history answer f = f.history ∙ ap flushed (found_same renderer first after (flushed_entry answer) home is_of f.turn)

-- what leaves the caches as they were asks for nothing
pub seen_same : (renderer : RendererView) (pass after : RenderView) → after.caches ≡ pass.caches → masks_seen renderer after ≡ masks_seen renderer pass
seen_same renderer pass after same = ap (λ (p : CachesPass). seen_asks composite_meaning renderer.caches.composites p.composites) same

-- ---- how a time begins

module _ (play : PlayView) where
  pub begin_same : (time : ℕ) (history : List Entry) → time ≡ 0 → BeginsTime play time history history
  begin_same time history zeroth = λ times many each is.
      let none : times ≡ [] = nil_of times (omega (arith, many, zeroth)) in
      is ∙ (ap history_of_times none ∙ sym (ap history_before none))

  closed : (times : List (List Entry)) → 0 < length times → history_before times ≡ history_of_times times ++ Flush ∷ []
  closed [] some = absurd (omega (arith, some))
  closed (first ∷ times) some = times_closed first times

  pub begin_flushed : (time : ℕ) (history history' : List Entry) → 0 < time → time < max_times → history' ≡ flushed history → BeginsTime play time history history'
  begin_flushed time history history' later few is' = λ times many each is.
      let end = closed times (omega (arith, many, later)) in
      let flushes : flushes_of (history_of_times times ++ Flush ∷ []) ≡ length times = sym (ap flushes_of end) ∙ flushes_many play times each in
      let fewer = fewer_flushes (history_of_times times) (Flush ∷ []) in
      is' ∙ (ap flushed is ∙ (ap (λ (b : Bool). cond b (history_of_times times) (history_of_times times ++ Flush ∷ []))
      (not_most (flushes_of (history_of_times times)) (omega (arith, fewer, flushes, many, few))) ∙ sym end))
