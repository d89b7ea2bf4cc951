-- What a look shows a seat.
use Rattle.std.proofs.Common.{◌≡◌, ℕ, ℤ, List, length, None, Ok, Err, sym, subst, ap, ◌∙◌, append-nil}
use Rattle.std.proofs.lemmas.List.{length-map}
use Rattle.std.specs.Prelude.{All}
use Rattle.alpha_canvas.specs.declared.pixel.AlphaForm.{AlphaForm}
use Rattle.ass_events.specs.Histories.{live}
use Rattle.blend.specs.Canvases.{CanvasValue, black}
use Rattle.frame_change.specs.declared.kinds.ChangeKind.{ChangeKind}
use Rattle.frame_view.specs.declared.view.FrameView.{FrameView}
use Rattle.picture_plan.specs.AlphaPictures.{IsAlphaPictureAt}
use Rattle.picture_plan.specs.Pictures.{IsPictureAt}
use Rattle.plain_images.specs.PlainImages.{LiesInFrame, with_plain_images}
use Rattle.player.specs.Changes.{IsListChange}
use Rattle.player.specs.Listing.{IsListOf}
use Rattle.track_history.specs.Answers.{IsSceneOf, entry_of}
use Rattle.track_history.specs.Calls.{IsTriedLook, IsTurn, TrackView, history_of}
use Rattle.track_history.specs.declared.answers.TrackEntry.{TrackEntry}
use Rattle.track_history.specs.declared.answers.LookRefusal.{LookRefusal}
use Rattle.track_history.specs.declared.answers.LookRefusal.TheVariants as look
use Rattle.track_history.specs.declared.scene.Scene.{Scene}
use Rattle.track_history.proofs.LawLemmas.{turn_alone}
use Rattle.turn_cell.specs.History.{entries_of}
use Rattle.shared_player.specs.Seats.{SharedSeatView}
use Rattle.shared_player.specs.Shown.{ListsHistory, SeesHistory, ShowsAlphaHistory, ShowsHistory}
use Rattle.shared_player.specs.Tries.{IsLookRefused}

-- a turn that gave nothing, and the scene that it showed
pub sees_scene : (pass after : TrackView) (t : ℤ) (scene : Scene) → IsTurn pass after None → IsSceneOf (history_of after.seen) t scene → SeesHistory pass after scene.n
sees_scene pass after t scene turn shown =
    let follows = turn_alone pass after turn in
    record {
      entries_are = shown.n ∙ length-map after.seen (λ (pair : ℕ × TrackEntry). entry_of pair.1);
      begins = follows.seen;
      own = ap (λ (n : ℕ). entries_of n after.seen) (sym follows.number) ∙ (follows.mine ∙ append-nil _);
      legal = turn.legal;
      fresh = turn.turn.turns;
    }

-- the scene is of the instant that it has
pub scene_at : (pass : TrackView) (t : ℤ) (scene : Scene) → IsSceneOf (history_of pass.seen) t scene → IsSceneOf (history_of pass.seen) scene.t scene
scene_at pass t scene h = subst (λ (s : ℤ). IsSceneOf (history_of pass.seen) s scene) (sym h.instant) h

-- what a look that was refused says
pub refused_look : (pass after : TrackView) (t : ℤ) (refusal : LookRefusal) → IsTriedLook pass t after (Err refusal) → IsLookRefused pass after refusal
refused_look pass after t look.TurnOut h = h
refused_look pass after t look.OutOfMemory h = h

-- ---- pictures and a list of a scene

module _ (seat after : SharedSeatView) (t : ℤ) (frame : FrameView) (scene : Scene) (looked : IsTriedLook seat.track t after.track (Ok scene)) where
  pub shows_scene : (canvas : CanvasValue) → IsPictureAt seat.script seat.fonts (live (history_of after.track.seen)) scene.t frame canvas → canvas.w ≡ frame.size.w → canvas.h ≡ frame.size.h
      → ShowsHistory seat after t frame (record { entries = scene.n; canvas = canvas })
  shows_scene canvas picture width height = record {
    sees = sees_scene seat.track after.track t scene looked.0 looked.1;
    picture = subst (λ (s : ℤ). IsPictureAt seat.script seat.fonts (live (history_of after.track.seen)) s frame canvas) looked.1.instant picture;
    width = width;
    height = height;
  }

  pub shows_alpha_scene : (form : AlphaForm) (bytes : List ℕ) → IsAlphaPictureAt form seat.script seat.fonts (live (history_of after.track.seen)) scene.t frame bytes
      → ShowsAlphaHistory seat after t frame form bytes scene.n
  shows_alpha_scene form bytes picture = record {
    sees = sees_scene seat.track after.track t scene looked.0 looked.1;
    picture = subst (λ (s : ℤ). IsAlphaPictureAt form seat.script seat.fonts (live (history_of after.track.seen)) s frame bytes) looked.1.instant picture;
  }

  pub lists_scene : (change : ChangeKind) → IsPictureAt seat.script seat.fonts (live (history_of after.track.seen)) scene.t frame (with_plain_images (black frame.size.w frame.size.h) after.images)
      → All (LiesInFrame frame.size) after.images → IsListOf seat.script seat.fonts (live (history_of after.track.seen)) scene.t frame after.images → IsListChange change seat.images after.images
      → ListsHistory seat after t frame (record { entries = scene.n; change = change })
  lists_scene change picture within list changed = record {
    sees = sees_scene seat.track after.track t scene looked.0 looked.1;
    picture = subst (λ (s : ℤ). IsPictureAt seat.script seat.fonts (live (history_of after.track.seen)) s frame (with_plain_images (black frame.size.w frame.size.h) after.images)) looked.1.instant picture;
    within = within;
    list = subst (λ (s : ℤ). IsListOf seat.script seat.fonts (live (history_of after.track.seen)) s frame after.images) looked.1.instant list;
    change = changed;
  }
