-- What a look at a track shows.
use Rattle.std.proofs.Common.{◌≡◌, ◌≤◌, ℤ, List, length, map, arith}
use Rattle.std.proofs.lemmas.List.{length-map}
use Rattle.std.specs.Arc.{arc_value}
use Rattle.ass_events.specs.Histories.{Entry, HaveOwnOrders, IsHistory, live, max_live}
use Rattle.ass_num.specs.declared.size.Size.{Size}
use Rattle.ass_script.specs.Scripts.{ScriptValue}
use Rattle.bdf_font.specs.Fonts.{FontValue}
use Rattle.frame_view.specs.declared.view.FrameView.{FrameView}
use Rattle.mask_keys.specs.declared.plans.Draw.{Draw}
use Rattle.picture_plan.specs.Pictures.{AreDraws}
use Rattle.picture_plan.proofs.DrawLaws.{draws_of_near_events}
use Rattle.track_history.specs.Answers.{IsSceneOf}
use Rattle.track_history.specs.declared.scene.Scene.{Scene}
use Rattle.track_history.proofs.LawLemmas.{near_few, near_orders}

module _ (history : List Entry) (t : ℤ) (scene : Scene) (h : IsSceneOf history t scene) where
  pub looked_few : IsHistory history → length scene.events ≤ max_live
  looked_few legal =
      let few = near_few history (map arc_value scene.events) t legal h.events in
      omega (arith, few, length-map scene.events arc_value)

  pub looked_orders : IsHistory history → HaveOwnOrders (map arc_value scene.events)
  looked_orders legal = near_orders history (map arc_value scene.events) t legal h.events

  -- what is near draws what is live
  pub looked_draws : (script : ScriptValue) (fonts : List FontValue) (frame : FrameView) (draws : List Draw) → AreDraws script fonts (map arc_value scene.events) t frame draws
      → AreDraws script fonts (live history) t frame draws
  looked_draws script fonts frame draws are = (draws_of_near_events script fonts (live history) (map arc_value scene.events) t frame draws h.events).0 are
