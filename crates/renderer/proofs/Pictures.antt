-- Frames are pictures.
use Rattle.std.proofs.Common.{◌≡◌, ℕ, ℤ, List, [], ◌++◌, None, sym, ap, ◌∙◌, append-nil}
use Rattle.std.proofs.lemmas.List.{length-map}
use Rattle.ass_events.specs.Histories.{Entry, live}
use Rattle.ass_num.specs.declared.size.Size.{Size}
use Rattle.ass_script.specs.Scripts.{ScriptValue}
use Rattle.bdf_font.specs.Fonts.{FontValue}
use Rattle.mask_keys.specs.Pictures.{picture}
use Rattle.frame_view.specs.FrameViews.{plain_frame}
use Rattle.picture_plan.specs.Pictures.{IsPictureAt}
use Rattle.turn_cell.specs.History.{entries_of, entry_list}
use Rattle.turn_cell.specs.Passes.{Follows, mine}
use Rattle.track_history.specs.Answers.{entry_of}
use Rattle.track_history.specs.Calls.{IsTurn, TrackView, history_of}
use Rattle.track_history.specs.declared.answers.TrackEntry.{TrackEntry}
use Rattle.renderer.proofs.PaintedPictures.{canvas-picture}
use Rattle.renderer.specs.ShownFrames.{canvas_of}
use Rattle.renderer.specs.Frames.{IsFrameOf}
use Rattle.renderer.specs.OneHistory.{ShowsOneHistory}
use Rattle.renderer.specs.Passes.{RenderView, RendererView}
use Rattle.renderer.specs.declared.frames.Frame.{Frame}
use Rattle.track_history.proofs.LawLemmas.{none_given}

pub frame-picture : (script : ScriptValue) (fonts : List FontValue) (history : List Entry) (t : ℤ) (size : Size) (frame : Frame) → IsFrameOf script fonts history t size frame
    → IsPictureAt script fonts (live history) t (plain_frame size) (canvas_of frame)
frame-picture script fonts history t size frame f = record {
  draws = f.draws;
  are_draws = f.are_draws;
  value = canvas-picture fonts f.draws frame f.images ∙ ap (λ (s : Size). picture fonts s f.draws) f.size_is;
}

own-same : (p q : TrackView) (given : List TrackEntry) → given ≡ [] → Follows p q given → entries_of p.number q.seen ≡ mine p
own-same p q given none f =
    ap (λ (n : ℕ). entries_of n q.seen) (sym f.number)
    ∙ (f.mine ∙ (ap (λ (l : List TrackEntry). mine p ++ l) none ∙ append-nil (mine p)))

pub frame-history : (renderer : RendererView) (pass after : RenderView) (t : ℤ) (size : Size) (frame : Frame) → IsTurn pass.track after.track None
    → IsFrameOf renderer.script renderer.fonts (history_of after.track.seen) t size frame → ShowsOneHistory renderer pass after t size frame
frame-history renderer pass after t size frame turn f = record {
  n = f.n ∙ length-map after.track.seen (λ (pair : ℕ × TrackEntry). entry_of pair.1);
  instant = f.instant;
  begins = turn.turn.follows.seen;
  own = own-same pass.track after.track _ (ap entry_list (none_given turn.given turn.is_entry)) turn.turn.follows;
  legal = turn.legal;
  fresh = turn.turn.turns;
  picture = frame-picture renderer.script renderer.fonts (history_of after.track.seen) t size frame f;
}
