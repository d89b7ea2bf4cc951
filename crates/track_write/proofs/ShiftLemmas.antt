-- Events at other instants.
use Rattle.std.proofs.Common.{◌≡◌, ℕ, ◌+◌, ◌<◌, Bool, true, false, cond, List, ◌∷◌, length, get_or, drop, map, Some, None, Ok, Err, ℤ, pos, ◌-ℤ◌, int_le, refl, sym, ap, ◌∙◌, subst, arith}
use Rattle.std.specs.List.{All}
use Rattle.std.specs.Option.{option_map_or}
use Rattle.std.proofs.lemmas.Bool.{and_parts}
use Rattle.std.proofs.lemmas.Int.{ints}
use Rattle.std.proofs.lemmas.List.{drop_more, get_or-map, length-map}
use Rattle.ass_num.specs.Limits.{IsWithin, max_instant}
use Rattle.ass_num.proofs.OrderLemmas.{le_is}
use Rattle.ass_script.specs.declared.script.EventField.{EventField}
use Rattle.ass_script.specs.declared.script.EventField.TheVariants as field
use Rattle.ass_events.specs.Events.{is_time}
use Rattle.ass_events.specs.Ranges.{IsEvent}
use Rattle.ass_events.specs.declared.event.Event.{Event}
use Rattle.track_write.specs.Shifts.{later_event, shifted_event, first_outside, moved_events}
use Rattle.track_write.specs.declared.refusal.WriteRefusal.{WriteRefusal}
use Rattle.track_write.specs.declared.refusal.WriteRefusal.TheVariants.{Unwritable, OutOfMemory}
use Rattle.track_write.specs.Texts.{IsWriteAnswer}

-- one of events that are within their ranges
pub at_item : {X : Type 0} (f : X → Event) (xs : List X) (i : ℕ) (d : X) → All IsEvent (map f xs) → i < length xs → d ≡ get_or xs i d → IsEvent (f d)
at_item f xs i d all inside is = subst IsEvent (get_or-map f xs i d (f d) inside ∙ ap f (sym is)) (all i (f d) (omega (arith, length-map xs f)))

-- the difference of two instants
pub shift_within : (later earlier : ℤ) → is_time later ≡ true → is_time earlier ≡ true → IsWithin max_instant (later -ℤ earlier)
shift_within later earlier l e =
    let first = and_parts (int_le (pos 0) later) (int_le later (pos max_instant)) l in
    let second = and_parts (int_le (pos 0) earlier) (int_le earlier (pos max_instant)) e in
    let a = le_is (pos 0) later first.0 in
    let b = le_is later (pos max_instant) first.1 in
    let c = le_is (pos 0) earlier second.0 in
    let d = le_is earlier (pos max_instant) second.1 in
    (omega (arith, ints), omega (arith, ints))

pub moved_sound : (by : ℤ) (event : Event) → IsEvent event → is_time (later_event by event).start ≡ true → IsEvent (later_event by event)
moved_sound by event is time = record {
  order = is.order;
  layer = is.layer;
  style = is.style;
  name = is.name;
  margin_l = is.margin_l;
  margin_r = is.margin_r;
  margin_v = is.margin_v;
  effect = is.effect;
  text = is.text;
  start = time;
  duration = is.duration;
}

module _ {X : Type 0} (f : X → Event) (by : ℤ) (xs : List X) (i : ℕ) (d : X) (inside : i < length xs) (is : d ≡ get_or xs i d) where
  here : first_outside by (map f (drop i xs)) ≡ cond (is_time (later_event by (f d)).start) (first_outside by (map f (drop (i + 1) xs))) (Some (f d).order)
  here = ap (λ z. first_outside by (map f z)) (drop_more xs i d inside) ∙ ap (λ x. first_outside by (f x ∷ map f (drop (i + 1) xs))) (sym is)

  pub outside_here : is_time (later_event by (f d)).start ≡ false → first_outside by (map f (drop i xs)) ≡ Some (f d).order
  outside_here e = here ∙ ap (λ b. cond b (first_outside by (map f (drop (i + 1) xs))) (Some (f d).order)) e

  pub outside_later : is_time (later_event by (f d)).start ≡ true → first_outside by (map f (drop i xs)) ≡ first_outside by (map f (drop (i + 1) xs))
  outside_later e = here ∙ ap (λ b. cond b (first_outside by (map f (drop (i + 1) xs))) (Some (f d).order)) e

pub shift_refused : (by : ℤ) (events : List Event) (order : ℕ) → first_outside by events ≡ Some order → moved_events by events ≡ Err (Unwritable order field.Start)
shift_refused by events order e = ap (λ o. option_map_or (λ n. Err (Unwritable n field.Start)) o (Ok (map (later_event by) events))) e

pub shift_done : (by : ℤ) (events : List Event) → first_outside by events ≡ None → moved_events by events ≡ Ok (map (later_event by) events)
shift_done by events e = ap (λ o. option_map_or (λ n. Err (Unwritable n field.Start)) o (Ok (map (later_event by) events))) e

-- what one event answers is what all do, where it is the first that refuses
refused_all : (by : ℤ) (event : Event) (events : List Event) (n : ℕ) (f : EventField) → (is_time (later_event by event).start ≡ false → first_outside by events ≡ Some event.order) → shifted_event by event ≡ Err (Unwritable n f) → moved_events by events ≡ Err (Unwritable n f)
refused_all by event events n f first e = cases (is_time (later_event by event).start) refl e
  where
    cases : (b : Bool) → is_time (later_event by event).start ≡ b → cond b (Ok (later_event by event)) (Err (Unwritable event.order field.Start)) ≡ Err (Unwritable n f) → moved_events by events ≡ Err (Unwritable n f)
    cases true is e = absurd (cc)
    cases false is e = let same : Unwritable event.order field.Start ≡ Unwritable n f = cc in shift_refused by events event.order (first is) ∙ ap Err same

-- the answer of the first event that refuses is that of all
pub refuse : {V W : Type 0} (said : V → Event) (told : W → List Event) (by : ℤ) (event : Event) (events : List Event) (refusal : WriteRefusal) → (is_time (later_event by event).start ≡ false → first_outside by events ≡ Some event.order) →
    IsWriteAnswer said (Err refusal) (shifted_event by event) → IsWriteAnswer told (Err refusal) (moved_events by events)
refuse said told by event events (Unwritable n f) first e = refused_all by event events n f first e
refuse said told by event events OutOfMemory first e = tt

pub moved_is : (by : ℤ) (event made : Event) → shifted_event by event ≡ Ok made → (is_time (later_event by event).start ≡ true) × (later_event by event ≡ made)
moved_is by event made e = cases (is_time (later_event by event).start) refl e
  where
    cases : (b : Bool) → is_time (later_event by event).start ≡ b → cond b (Ok (later_event by event)) (Err (Unwritable event.order field.Start)) ≡ Ok made → (is_time (later_event by event).start ≡ true) × (later_event by event ≡ made)
    cases true is e = (is, cc)
    cases false is e = absurd (cc)
