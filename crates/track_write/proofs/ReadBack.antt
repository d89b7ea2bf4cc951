-- A text that is written is read back.
use Rattle.std.proofs.Common.{◌≡◌, ℕ, zero, suc, ◌≤◌, List, [], ◌∷◌, ◌++◌, length, get_or, map, Option, Some, None, Ok, Err, refl, sym, ap, ◌∙◌, subst}
use Rattle.std.specs.Prelude.{slice_get}
use Rattle.std.specs.List.{All}
use Rattle.std.specs.Option.{option_map_or}
use Rattle.std.specs.Str.Lines.{lines}
use Rattle.std.proofs.lemmas.List.Elements.{All-nil, All-cons, All-head, All-tail}
use Rattle.ass_script.specs.Fields.{usual_event_fields}
use Rattle.ass_script.specs.Limits.{max_lines}
use Rattle.ass_script.specs.Lines.{lines_in_sections}
use Rattle.ass_script.specs.Scripts.{ScriptValue, script_of_lines, script_of}
use Rattle.ass_script.specs.Words.{past_mark}
use Rattle.ass_script.specs.declared.lines.Section.TheVariants as section
use Rattle.ass_script.specs.declared.lines.Version.TheVariants.{V4Plus}
use Rattle.ass_script.specs.declared.script.EventField.{EventField}
use Rattle.ass_script.proofs.Refusals.{script_of_utf8}
use Rattle.ass_script.proofs.WalkLemmas.{read_is}
use Rattle.ass_events.specs.Events.{line_event, event_of_line}
use Rattle.ass_events.specs.Ranges.{IsEvent}
use Rattle.ass_events.specs.declared.event.Event.{Event}
use Rattle.track_write.specs.Laws.{script_read}
use Rattle.track_write.specs.Ranges.{IsSpelledScript}
use Rattle.track_write.specs.Rows.{spoken, header_lines, style_lines, event_lines, script_lines, script_bytes}
use Rattle.track_write.specs.Texts.{event_fault, first_fault, written}
use Rattle.track_write.specs.declared.refusal.WriteRefusal.TheVariants.{Unwritable}
use Rattle.track_write.proofs.EventReads.{event_read}
use Rattle.track_write.proofs.LineCuts.{AreLines, lines_append, lines_back, text_utf8}
use Rattle.track_write.proofs.LinesHold.{IsWritable, header_hold, styles_hold, events_hold, no_fault}
use Rattle.track_write.proofs.Walks.{script_walked}

-- ---- events without faults

none_faulty : (events : List Event) → All IsEvent events → first_fault events ≡ None → All IsWritable events
none_faulty [] are e = All-nil IsWritable
none_faulty (event ∷ events) are e =
    let parts = cases (event_fault event) refl e in
    All-cons IsWritable event events (no_fault event (All-head IsEvent event events are) parts.0) (none_faulty events (All-tail IsEvent event events are) parts.1)
  where
    cases : (o : Option EventField) → event_fault event ≡ o → option_map_or (λ f. Some (event.order, f)) o (first_fault events) ≡ None → (event_fault event ≡ None) × (first_fault events ≡ None)
    cases None is e = (is, e)
    cases (Some f) is e = absurd (cc)

-- what was written
record Written (script : ScriptValue) (events : List Event) (bytes : List ℕ) : Type 0 where
  can : All IsWritable events
  text : script_bytes script events ≡ bytes

written_is : (script : ScriptValue) (events : List Event) (bytes : List ℕ) → All IsEvent events → written script events ≡ Ok bytes → Written script events bytes
written_is script events bytes are e = cases (first_fault events) refl e
  where
    cases : (o : Option (ℕ × EventField)) → first_fault events ≡ o → option_map_or (λ fault. Err (Unwritable fault.0 fault.1)) o (Ok (script_bytes script events)) ≡ Ok bytes → Written script events bytes
    cases None is e = record { can = none_faulty events are is; text = cc }
    cases (Some fault) is e = absurd (cc)

-- ---- the script

no_mark : (script : ScriptValue) (events : List Event) → past_mark (script_bytes script events) ≡ script_bytes script events
unfolding past_mark
no_mark script events = refl

all_lines : (script : ScriptValue) (events : List Event) → IsSpelledScript script → All IsWritable events → AreLines (script_lines script events)
all_lines script events is can =
    lines_append (header_lines script.header ++ style_lines script.styles) (event_lines events)
    (lines_append (header_lines script.header) (style_lines script.styles) (header_hold script.header is.ranges.header) (styles_hold script.styles is.ranges.styles is.styles)) (events_hold events can)

pub script_back : (script : ScriptValue) (events : List Event) (bytes : List ℕ) → IsSpelledScript script → All IsEvent events → length events ≤ max_lines → written script events ≡ Ok bytes → script_of bytes ≡ Ok (script_read script events)
script_back script events bytes is are few e =
    let w = written_is script events bytes are e in
    let each = all_lines script events is w.can in
    ap script_of (sym w.text)
    ∙ script_of_utf8 (script_bytes script events) (text_utf8 (script_lines script events) each)
    ∙ ap (λ t. script_of_lines (lines_in_sections section.Other (lines t))) (no_mark script events)
    ∙ ap (λ all. script_of_lines (lines_in_sections section.Other all)) (lines_back (script_lines script events) each)
    ∙ sym (read_is (script_lines script events))
    ∙ script_walked script events is few

-- ---- its events

spoken_at : (events : List Event) (i : ℕ) (event : Event) → slice_get events i ≡ Some event → get_or (map spoken events) i [] ≡ spoken event
spoken_at [] i event e = absurd (cc)
spoken_at (first ∷ events) zero event e = let same : first ≡ event = cc in ap spoken same
spoken_at (first ∷ events) (suc i) event e = spoken_at events i event e

can_at : (events : List Event) (i : ℕ) (event : Event) → All IsWritable events → slice_get events i ≡ Some event → IsWritable event
can_at [] i event can e = absurd (cc)
can_at (first ∷ events) zero event can e = let same : first ≡ event = cc in subst IsWritable same (All-head IsWritable first events can)
can_at (first ∷ events) (suc i) event can e = can_at events i event (All-tail IsWritable first events can) e

pub event_back : (script : ScriptValue) (events : List Event) (bytes : List ℕ) (i : ℕ) (event : Event) → All IsEvent events → written script events ≡ Ok bytes → slice_get events i ≡ Some event →
    event_of_line (script_read script events) i ≡ Ok (record event { order = i })
event_back script events bytes i event are e at =
    let w = written_is script events bytes are e in
    let can = can_at events i event w.can at in
    ap (line_event (usual_event_fields V4Plus) i) (spoken_at events i event at) ∙ event_read event can.is can.start can.last i
