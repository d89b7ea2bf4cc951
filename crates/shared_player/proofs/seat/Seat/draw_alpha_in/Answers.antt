use Rattle.std.proofs.Common.{List, Ok, ap, subst, sym, ◌∙◌}
use Rattle.std.proofs.Math.Facts.{to_z-of_z}
use Rattle.std.specs.Arc.{arc_value}
use Rattle.core.specs.Mem.{manually_drop_value}
use Rattle.ass_events.specs.Histories.{live}
use Rattle.ass_script.specs.Scripts.{ScriptValue}
use Rattle.bdf_font.specs.Fonts.{FontValue}
use Rattle.picture_plan.specs.AlphaPictures.{IsAlphaPictureAt}
use Rattle.track_history.specs.Calls.{IsTriedLook, TrackView, history_of}
use Rattle.shared_player.specs.Seats.{SharedSeatView, seat_of}
use Rattle.shared_player.proofs.ShownLemmas.{scene_at, shows_alpha_scene}
use Rattle.shared_player.proofs.seat.Seat.draw_alpha_in.Goals as goal

pub returns-in-Ok-draw_scene_alpha-clause-shown : goal.returns-in-Ok-draw_scene_alpha-clause-shown
returns-in-Ok-draw_scene_alpha-clause-shown c =
    let seat = c.args.self in
    let kept = c.seat.inside in
    let after = seat_of c.draw_scene_alpha.new.self (arc_value kept.track) (manually_drop_value kept.pass) kept.first in
    let scene = c.in-Ok.scene in
    let drawn = c.in-Ok-draw_scene_alpha in
    let frame = c.args.frame.now in
    let form = c.args.form in
    let bytes = c.draw_scene_alpha.new.bytes in
    let same = c.seat.view_is ∙ c.try_look-seat.ensures.same in
    let found = rw (c.in-Ok.is, to_z-of_z c.ranges.t) at c.try_look-seat.ensures.look in
    let looked = subst (λ (q : TrackView). IsTriedLook seat.track c.args.t q (Ok scene)) (ap (λ (s : SharedSeatView). s.track) (sym c.seat.view_is)) found in
    let history = history_of after.track.seen in
    let picture = drawn.ensures.picture history (scene_at after.track c.args.t scene looked.1) in
    shows_alpha_scene seat after c.args.t frame scene looked form bytes
    (subst (λ (fonts : List FontValue). IsAlphaPictureAt form seat.script fonts (live history) scene.t frame bytes) (ap (λ (s : SharedSeatView). s.fonts) same)
    (subst (λ (script : ScriptValue). IsAlphaPictureAt form script kept.player.fonts (live history) scene.t frame bytes) (ap (λ (s : SharedSeatView). s.script) same) picture))
