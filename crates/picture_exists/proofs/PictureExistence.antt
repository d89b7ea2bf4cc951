-- Events have a picture at each instant.
use Rattle.std.proofs.Common.{◌≤◌, ℤ, List, [], ◌∷◌, ◌++◌, length, Contains, ◌⊎◌, inl, inr, refl, sym, ◌∙◌, arith}
use Rattle.std.proofs.lemmas.Bool.{cases_Bool}
use Rattle.std.proofs.lemmas.List.Elements.{All-contains}
use Rattle.ass_num.specs.Limits.{max_text_bytes}
use Rattle.ass_events.specs.Ranges.{IsEvent}
use Rattle.ass_events.specs.declared.event.Event.{Event}
use Rattle.ass_script.specs.Scripts.{ScriptValue}
use Rattle.bdf_font.specs.Fonts.{FontValue}
use Rattle.blend.specs.Canvases.{CanvasValue}
use Rattle.event_draws.specs.EventDraws.{event_draws}
use Rattle.event_draws.specs.Stages.{stage_at}
use Rattle.event_places.specs.Shifts.{IsMovedBy}
use Rattle.event_places.specs.Stands.{HasPoint, IsStandOf, stand_of}
use Rattle.event_places.specs.declared.stands.Stand.{Stand}
use Rattle.frame_view.specs.declared.view.FrameView.{FrameView}
use Rattle.mask_keys.specs.Pictures.{picture}
use Rattle.mask_keys.specs.declared.plans.Draw.{Draw}
use Rattle.near_events.proofs.Lists.{none_from}
use Rattle.near_events.proofs.Pairs.{Contains-head, Contains-tail}
use Rattle.override_tags.specs.Readings.{IsTextReading}
use Rattle.override_tags.specs.declared.item.Item.{Item}
use Rattle.override_tags.proofs.ExistsLemmas.{has_reading}
use Rattle.picture_exists.specs.Existence.{AreDrawable}
use Rattle.picture_exists.proofs.LineExistence.{laid_exists}
use Rattle.picture_exists.proofs.ShiftExistence.{move_exists}
use Rattle.picture_exists.proofs.ShownExistence.{shown_exist}
use Rattle.picture_exists.proofs.ViewExistence.{HasView, view_exists}
use Rattle.picture_plan.specs.Pictures.{AreDraws, AreDrawsInOrder, AreEventDraws, IsPictureAt, Next, None as NoEvents}
use Rattle.tag_state.specs.Choices.{has_point}
use Rattle.tag_state.proofs.TextLemmas.{point_shown}
use Rattle.tag_state.proofs.ViewLemmas.{items_few}
use Rattle.text_layout.specs.Layouts.{IsLaid}
use Rattle.text_layout.specs.LineScales.{line_scales}
use Rattle.text_layout.specs.declared.laid.Laid.{Laid}

module _ (script : ScriptValue) (fonts : List FontValue) (frame : FrameView) (event : Event) (sound : IsEvent event) (short : length event.text ≤ max_text_bytes) where
  reading : (items : List Item) × IsTextReading event.text items
  reading = has_reading event.text sound.text

  module _ (t : ℤ) where
    view : HasView script event t reading.0
    view = view_exists script event t reading.0 reading.1

    laid : (laid : Laid) × IsLaid script fonts event view.view frame laid
    laid = let few = view.few in let all = items_few reading.1 in laid_exists script fonts event view.view frame (omega (arith, few, all, short))

  -- An event has a point of its own, or stands somewhere.
  stand_or_point : HasPoint event ⊎ ((stand : Stand) × IsStandOf script fonts frame event stand)
  stand_or_point = elim (cases_Bool (has_point reading.0)) [
    | inl point ↦ inl (record { items = reading.0; reading = reading.1; point = point })
    | inr none ↦
        let own = view event.start in
        let block = laid event.start in
        inr (
          stand_of script event own.view block.0 (line_scales script.header frame own.view),
          record {
            view = own.view;
            shows = own.shows;
            pointless = none_from own.view.pos (sym (point_shown reading.0 reading.1 own.shows) ∙ none);
            laid = block.0;
            laid_out = block.1;
            value = refl;
          },
        )
  ]

  draws_of : (events : List Event) (t shift : ℤ) → IsMovedBy script fonts frame events event shift → (draws : List Draw) × AreEventDraws script fonts events t frame event draws
  draws_of events t shift moved =
      let now = view t in
      let block = laid t in
      let draws = event_draws (stage_at script event t frame now.view block.0 shift) fonts now.view block.0 in
      (draws, record { shift = shift; moved = moved; drawn = record { view = now.view; shows = now.shows; colours = now.colours; laid = block.0; laid_out = block.1; value = refl } })

module _ (script : ScriptValue) (fonts : List FontValue) (events : List Event) (t : ℤ) (frame : FrameView) (are : AreDrawable events) where
  is_event : (event : Event) → Contains events event → IsEvent event
  is_event event listed = All-contains IsEvent events event are.each listed

  is_short : (event : Event) → Contains events event → length event.text ≤ max_text_bytes
  is_short event listed = All-contains (λ (e : Event). length e.text ≤ max_text_bytes) events event are.texts listed

  event_has_draws : (event : Event) → Contains events event → (draws : List Draw) × AreEventDraws script fonts events t frame event draws
  event_has_draws event listed =
      let moved = move_exists script fonts frame events are.orders are.each (λ e c. stand_or_point script fonts frame e (is_event e c) (is_short e c)) event listed in
      draws_of script fonts frame event (is_event event listed) (is_short event listed) events t moved.0 moved.1

  draws_in_order : (some : List Event) → ((event : Event) → Contains some event → Contains events event) → (draws : List Draw) × AreDrawsInOrder script fonts events t frame some draws
  draws_in_order [] within = ([], NoEvents)
  draws_in_order (event ∷ above) within =
      let own = event_has_draws event (within event (Contains-head event above)) in
      let rest = draws_in_order above (λ e c. within e (Contains-tail event above e c)) in
      (own.0 ++ rest.0, Next event above own.0 rest.0 own.1 rest.1)

  pub draws_exist : (draws : List Draw) × AreDraws script fonts events t frame draws
  draws_exist =
      let shown = shown_exist events t are.orders in
      let drawn = draws_in_order shown.0 (λ event c. (((shown.1).members event).0 c).0) in
      (drawn.0, record { shown = shown.0; are_shown = shown.1; in_order = drawn.1 })

  pub picture_exists : (canvas : CanvasValue) × IsPictureAt script fonts events t frame canvas
  picture_exists = (picture fonts frame.size draws_exist.0, record { draws = draws_exist.0; are_draws = draws_exist.1; value = refl })
