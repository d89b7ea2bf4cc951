use Rattle.std.proofs.Common.{List, Ok, ap, subst, sym, ◌∙◌}
use Rattle.std.proofs.Math.Facts.{to_z-of_z}
use Rattle.std.specs.Arc.{arc_value}
use Rattle.core.specs.Mem.{manually_drop_value}
use Rattle.ass_events.specs.Histories.{live}
use Rattle.ass_script.specs.Scripts.{ScriptValue}
use Rattle.bdf_font.specs.Fonts.{FontValue}
use Rattle.blend.specs.Canvases.{black}
use Rattle.picture_plan.specs.Pictures.{IsPictureAt}
use Rattle.plain_images.specs.PlainImages.{with_plain_images}
use Rattle.plain_images.specs.declared.plain.PlainImage.{PlainImage}
use Rattle.player.specs.Changes.{IsListChange}
use Rattle.player.specs.Listing.{IsListOf}
use Rattle.track_history.specs.Calls.{IsTriedLook, TrackView, history_of}
use Rattle.shared_player.specs.Seats.{SharedSeatView, seat_of}
use Rattle.shared_player.proofs.ShownLemmas.{lists_scene, scene_at}
use Rattle.shared_player.proofs.seat.Seat.images_in.Goals as goal

pub returns-in-Ok-list_scene-clause-listed : goal.returns-in-Ok-list_scene-clause-listed
returns-in-Ok-list_scene-clause-listed c =
    let seat = c.args.self in
    let kept = c.seat.inside in
    let after = seat_of c.list_scene.new.self (arc_value kept.track) (manually_drop_value kept.pass) kept.first in
    let scene = c.in-Ok.scene in
    let listed = c.in-Ok-list_scene in
    let frame = c.args.frame.now in
    let same = c.seat.view_is ∙ c.try_look-seat.ensures.same in
    let script_is = ap (λ (s : SharedSeatView). s.script) same in
    let fonts_is = ap (λ (s : SharedSeatView). s.fonts) same in
    let found = rw (c.in-Ok.is, to_z-of_z c.ranges.t) at c.try_look-seat.ensures.look in
    let looked = subst (λ (q : TrackView). IsTriedLook seat.track c.args.t q (Ok scene)) (ap (λ (s : SharedSeatView). s.track) (sym c.seat.view_is)) found in
    let history = history_of after.track.seen in
    let here = scene_at after.track c.args.t scene looked.1 in
    let canvas = with_plain_images (black frame.size.w frame.size.h) after.images in
    lists_scene seat after c.args.t frame scene looked listed.change
    (subst (λ (fonts : List FontValue). IsPictureAt seat.script fonts (live history) scene.t frame canvas) fonts_is
    (subst (λ (script : ScriptValue). IsPictureAt script kept.player.fonts (live history) scene.t frame canvas) script_is (listed.ensures.picture history here)))
    listed.ensures.within
    (subst (λ (fonts : List FontValue). IsListOf seat.script fonts (live history) scene.t frame after.images) fonts_is
    (subst (λ (script : ScriptValue). IsListOf script kept.player.fonts (live history) scene.t frame after.images) script_is (listed.ensures.list history here)))
    (subst (λ (images : List PlainImage). IsListChange listed.change images after.images) (ap (λ (s : SharedSeatView). s.images) same) listed.ensures.change)
