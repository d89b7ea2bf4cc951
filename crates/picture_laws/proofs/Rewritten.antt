-- A script that is written again with its own events at other instants.
use Rattle.std.proofs.Common.{◌≡◌, ℕ, zero, suc, ◌+◌, ◌<◌, Bool, true, false, cond, List, [], ◌∷◌, ◌++◌, length, map, All, Option, Some, None, Result, Ok, Err, ℤ, ◌+ℤ◌, ◌-ℤ◌, refl, sym, ap, subst, arith, append-nil}
use Rattle.std.specs.Option.{option_map_or}
use Rattle.std.proofs.lemmas.List.{length-map}
use Rattle.std.proofs.lemmas.List.Elements.{All-cons, All-head, All-map, All-nil, All-tail, All-weaker}
use Rattle.ass_script.specs.Scripts.{ScriptValue}
use Rattle.ass_script.specs.declared.script.EventField.TheVariants as field
use Rattle.ass_events.specs.Events.{event_of_line, is_time}
use Rattle.ass_events.specs.Ranges.{IsEvent}
use Rattle.ass_events.specs.declared.event.ChunkRefusal.{ChunkRefusal}
use Rattle.ass_events.specs.declared.event.Event.{Event}
use Rattle.ass_events.proofs.LawLemmas.{line_gives_event}
use Rattle.near_events.proofs.Pairs.{Pairwise-push}
use Rattle.ass_events.specs.ScriptEvents.{event_given, first_events, line_events}
use Rattle.ass_events.proofs.GivenEvents.{all_events, few_events, line_order, one_more}
use Rattle.script_laws.specs.Laws.{TextsSpellScripts}
use Rattle.track_write.specs.Laws.{EventsAreReadBack, ScriptsAreReadBack, StylesAreSpelled, script_read}
use Rattle.track_write.specs.Shifts.{first_outside, later_event}
use Rattle.track_write.specs.declared.refusal.WriteRefusal.TheVariants.{Unwritable}
use Rattle.track_write.proofs.ShiftLemmas.{moved_sound}
use Rattle.picture_laws.specs.Laws.{AreScriptEvents, HaveAscendingOrders, ReadScriptsAreReadLater, ReadScriptsAreSpelled, ScriptsGiveEvents, SpelledScriptsAreReadLater}
use Rattle.picture_laws.proofs.Written.{ok_inside, pictures_are_shifted, read_shows}

-- ---- the events of lines

abbrev IsBefore : ℕ → Event → Type 0
IsBefore count e = e.order < count

all_before : (script : ScriptValue) (count : ℕ) → All (IsBefore count) (first_events script count)
all_before script count = all_events script count (IsBefore count) (λ i e within line. omega (arith, within, line_order script i e line))

ascending : (script : ScriptValue) (count : ℕ) → HaveAscendingOrders (first_events script count)
ascending script zero = tt
ascending script (suc n) =
    let next : n + 1 ≡ suc n = omega arith in
    subst (λ count. HaveAscendingOrders (first_events script count)) next (subst HaveAscendingOrders (sym (one_more script n)) (cases (event_of_line script n) refl (ascending script n)))
  where
    cases : (answer : Result Event ChunkRefusal) → event_of_line script n ≡ answer → HaveAscendingOrders (first_events script n) → HaveAscendingOrders (first_events script n ++ event_given answer)
    cases (Ok e) is before =
        let place = line_order script n e is in
        Pairwise-push (λ (e f : Event). e.order < f.order) (first_events script n) e before
        (All-weaker (IsBefore n) (λ (f : Event). f.order < e.order) (λ f below. omega (arith, below, place)) (first_events script n) (all_before script n))
    cases (Err refusal) is before = subst HaveAscendingOrders (sym (append-nil (first_events script n))) before

pub scripts_give_events : ScriptsGiveEvents
scripts_give_events script is = record {
  each = all_events script (length script.lines) IsEvent (λ i e within line. line_gives_event script i e is within line);
  ascend = ascending script (length script.lines);
  few = omega (arith, few_events script (length script.lines), is.few_lines);
}

-- ---- events at other instants

none_outside : {Value Cause : Type 0} (refusal : ℕ → Cause) (o : Option ℕ) (value other : Value) → option_map_or (λ order. Err (refusal order)) o (Ok value) ≡ Ok other → o ≡ None
none_outside refusal None value other is = refl
none_outside refusal (Some order) value other is = absurd cc

module _ (by : ℤ) where
  moved_each : (events : List Event) → All IsEvent events → first_outside by events ≡ None → All IsEvent (map (later_event by) events)
  moved_each [] each none = All-nil IsEvent
  moved_each (e ∷ events) each none = cases (is_time (later_event by e).start) refl none (λ rest. moved_each events (All-tail IsEvent e events each) rest)
    where
      cases : (b : Bool) → is_time (later_event by e).start ≡ b → cond b (first_outside by events) (Some e.order) ≡ None
          → (first_outside by events ≡ None → All IsEvent (map (later_event by) events)) → All IsEvent (map (later_event by) (e ∷ events))
      cases true time none rest = All-cons IsEvent (later_event by e) (map (later_event by) events) (moved_sound by e (All-head IsEvent e events each) time) (rest none)
      cases false time none rest = absurd cc

  moved_ascend : (events : List Event) → HaveAscendingOrders events → HaveAscendingOrders (map (later_event by) events)
  moved_ascend [] ascend = tt
  moved_ascend (e ∷ events) ascend = (All-map (λ (f : Event). e.order < f.order) (later_event by) events ascend.0, moved_ascend events ascend.1)

-- ---- scripts

pub scripts_are_read_later : ScriptsAreReadBack → EventsAreReadBack → SpelledScriptsAreReadLater
scripts_are_read_later scripts law script later earlier moved bytes spelled is_moved is_written =
    let by = later -ℤ earlier in
    let events = line_events script in
    let are : AreScriptEvents events = scripts_give_events script spelled.ranges in
    let refusal = λ (order : ℕ). Unwritable order field.Start in
    let none : first_outside by events ≡ None = none_outside refusal (first_outside by events) (map (later_event by) events) moved is_moved in
    let same : map (later_event by) events ≡ moved = ok_inside refusal (first_outside by events) (map (later_event by) events) moved is_moved in
    let each : All IsEvent moved = subst (All IsEvent) same (moved_each by events are.each none) in
    let ascend : HaveAscendingOrders moved = subst HaveAscendingOrders same (moved_ascend by events are.ascend) in (
      script_read script moved,
      scripts script moved bytes spelled each (omega (arith, ap length same, length-map events (later_event by), are.few)) is_written,
      λ fonts t frame canvas picture.
          read_shows law script fonts moved bytes (t +ℤ by) frame canvas each ascend is_written (pictures_are_shifted script fonts later earlier events moved t frame canvas is_moved picture),
    )

pub read_scripts_are_spelled : TextsSpellScripts → StylesAreSpelled → ReadScriptsAreSpelled
read_scripts_are_spelled ranges styles bytes script read = record { ranges = ranges bytes script read; styles = styles bytes script read }

pub read_scripts_are_read_later : ReadScriptsAreSpelled → SpelledScriptsAreReadLater → ReadScriptsAreReadLater
read_scripts_are_read_later spelled law source script later earlier moved bytes read is_moved is_written =
    law script later earlier moved bytes (spelled source script read) is_moved is_written
