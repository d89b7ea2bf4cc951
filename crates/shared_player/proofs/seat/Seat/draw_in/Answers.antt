use Rattle.std.proofs.Common.{List, Ok, ap, subst, sym, ◌∙◌}
use Rattle.std.proofs.Math.Facts.{to_z-of_z}
use Rattle.std.specs.Arc.{arc_value}
use Rattle.core.specs.Mem.{manually_drop_value}
use Rattle.ass_events.specs.Histories.{live}
use Rattle.ass_script.specs.Scripts.{ScriptValue}
use Rattle.bdf_font.specs.Fonts.{FontValue}
use Rattle.picture_plan.specs.Pictures.{IsPictureAt}
use Rattle.track_history.specs.Calls.{IsTriedLook, TrackView, history_of}
use Rattle.shared_player.specs.Seats.{SharedSeatView, seat_of}
use Rattle.shared_player.proofs.ShownLemmas.{scene_at, shows_scene}
use Rattle.shared_player.proofs.seat.Seat.draw_in.Goals as goal

pub returns-in-Ok-draw_scene-clause-shown : goal.returns-in-Ok-draw_scene-clause-shown
returns-in-Ok-draw_scene-clause-shown c =
    let seat = c.args.self in
    let kept = c.seat.inside in
    let after = seat_of c.draw_scene.new.self (arc_value kept.track) (manually_drop_value kept.pass) kept.first in
    let scene = c.in-Ok.scene in
    let drawn = c.in-Ok-draw_scene in
    let frame = c.args.frame.now in
    let same = c.seat.view_is ∙ c.try_look-seat.ensures.same in
    let found = rw (c.in-Ok.is, to_z-of_z c.ranges.t) at c.try_look-seat.ensures.look in
    let looked = subst (λ (q : TrackView). IsTriedLook seat.track c.args.t q (Ok scene)) (ap (λ (s : SharedSeatView). s.track) (sym c.seat.view_is)) found in
    let history = history_of after.track.seen in
    let picture = drawn.ensures.picture history (scene_at after.track c.args.t scene looked.1) in
    shows_scene seat after c.args.t frame scene looked drawn.canvas
    (subst (λ (fonts : List FontValue). IsPictureAt seat.script fonts (live history) scene.t frame drawn.canvas) (ap (λ (s : SharedSeatView). s.fonts) same)
    (subst (λ (script : ScriptValue). IsPictureAt script kept.player.fonts (live history) scene.t frame drawn.canvas) (ap (λ (s : SharedSeatView). s.script) same) picture))
    drawn.ensures.width drawn.ensures.height
