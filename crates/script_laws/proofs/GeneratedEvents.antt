-- The lines of a generated script give their events.
use Rattle.std.proofs.Common.{◌≡◌, ℕ, zero, suc, ◌+◌, ◌*◌, ◌/◌, ◌%◌, ◌<◌, ◌≤◌, Bool, true, false, not, List, [], ◌∷◌, ◌++◌, map, Ok, pos, refl, sym, ap, ◌∙◌, arith, append_assoc}
use Rattle.std.specs.Prelude.{codes, flat_map}
use Rattle.std.specs.Fmt.{decimal}
use Rattle.std.specs.List.{range_with_len}
use Rattle.std.proofs.lemmas.Fmt.{decimal_digit}
use Rattle.std.proofs.lemmas.Int.{ints}
use Rattle.std.proofs.lemmas.List.Elements.{All-weaker}
use Rattle.std.proofs.lemmas.List.FromFn.{get_or-map-range_with_len, length-map-range_with_len}
use Rattle.std.proofs.lemmas.List.Sums.{AllPass-from_list_all}
use Rattle.ass_events.specs.Events.{is_time, line_event, event_of_line}
use Rattle.ass_events.specs.Ranges.{IsEvent, IsName}
use Rattle.ass_events.specs.declared.event.Event.{Event}
use Rattle.ass_num.specs.Limits.{IsWithin, max_whole}
use Rattle.ass_script.specs.Fields.{usual_event_fields}
use Rattle.ass_script.specs.Limits.{max_lines}
use Rattle.ass_script.specs.Scripts.{ScriptValue}
use Rattle.ass_script.specs.Words.{is_comma}
use Rattle.ass_script.specs.declared.lines.Version.TheVariants.{V4Plus}
use Rattle.ass_num.specs.Blanks.{past_blanks, before_blanks, trimmed}
use Rattle.generated_script.specs.Draws.{state_after_draws}
use Rattle.generated_script.specs.Lines.{line_numbers, hundredths_text, span_text, event_text}
use Rattle.generated_script.specs.declared.lines.LineNumbers.{LineNumbers}
use Rattle.script_laws.specs.GeneratedLaws.{event_of_numbers, generated_event, GeneratedLinesGiveEvents}
use Rattle.script_laws.proofs.LineTexts.{AreSmall, line_value, drawn_small, text_short}
use Rattle.script_laws.proofs.ReadGenerated.{generated_script, generated_value, script_generated}
use Rattle.ass_events.specs.ScriptEvents.{event_given, line_events}
use Rattle.track_write.specs.Rows.{row, event_end, event_fields}
use Rattle.track_write.specs.Spelling.{digit, time_text}
use Rattle.track_write.proofs.EventReads.{IsWrittenTime, event_read}
use Rattle.track_write.proofs.LinesHold.{known_plain, plain_utf8}
use Rattle.ass_events.proofs.EventLemmas.{nothing_is_name}

-- ---- times

digit_is : (d n : ℕ) → d < 10 → d ≡ n % 10 → decimal d ≡ digit n ∷ []
digit_is d n small same = decimal_digit d small ∙ ap (λ z. (48 + z) ∷ []) same

-- the digits of a time one behind the other, and two by two
digits_paired : (hours : List ℕ) (a b c d e f : ℕ) →
    (hours ++ 58 ∷ [] ++ a ∷ [] ++ b ∷ [] ++ 58 ∷ []) ++ (c ∷ [] ++ d ∷ [] ++ 46 ∷ [] ++ e ∷ [] ++ f ∷ []) ≡ hours ++ 58 ∷ a ∷ b ∷ [] ++ 58 ∷ c ∷ d ∷ [] ++ 46 ∷ e ∷ f ∷ []
digits_paired hours a b c d e f =
    let seconds = 58 ∷ c ∷ d ∷ 46 ∷ e ∷ f ∷ [] in
    append_assoc (hours ++ 58 ∷ [] ++ a ∷ [] ++ b ∷ []) (58 ∷ []) (c ∷ d ∷ 46 ∷ e ∷ f ∷ [])
    ∙ append_assoc (hours ++ 58 ∷ [] ++ a ∷ []) (b ∷ []) seconds
    ∙ append_assoc (hours ++ 58 ∷ []) (a ∷ []) (b ∷ seconds)
    ∙ append_assoc hours (58 ∷ []) (a ∷ b ∷ seconds)
    ∙ sym (append_assoc (hours ++ 58 ∷ a ∷ b ∷ []) (58 ∷ c ∷ d ∷ []) (46 ∷ e ∷ f ∷ []) ∙ append_assoc hours (58 ∷ a ∷ b ∷ []) seconds)

-- so many hundredths of a second are written as ten times so many milliseconds are
time_same : (t : ℕ) → hundredths_text t ≡ time_text (10 * t)
unfolding hundredths_text
time_same t =
    let hours : t / 360000 ≡ 10 * t / 3600000 = omega arith in
    let a = digit_is (t / 60000 % 6) (10 * t / 60000 % 60 / 10) (omega arith) (omega arith) in
    let b = digit_is (t / 6000 % 10) (10 * t / 60000 % 60) (omega arith) (omega arith) in
    let c = digit_is (t / 1000 % 6) (10 * t / 1000 % 60 / 10) (omega arith) (omega arith) in
    let d = digit_is (t / 100 % 10) (10 * t / 1000 % 60) (omega arith) (omega arith) in
    let e = digit_is (t / 10 % 10) (10 * t / 10 % 100 / 10) (omega arith) (omega arith) in
    let f = digit_is (t % 10) (10 * t / 10 % 100) (omega arith) (omega arith) in
    (λ i. (decimal (hours i) ++ 58 ∷ [] ++ a i ++ b i ++ 58 ∷ []) ++ (c i ++ d i ++ 46 ∷ [] ++ e i ++ f i))
    ∙ digits_paired (decimal (10 * t / 3600000)) (digit (10 * t / 60000 % 60 / 10)) (digit (10 * t / 60000 % 60)) (digit (10 * t / 1000 % 60 / 10)) (digit (10 * t / 1000 % 60)) (digit (10 * t / 10 % 100 / 10)) (digit (10 * t / 10 % 100))

-- ---- one event

default_name : IsName (codes "Default")
unfolding trimmed past_blanks before_blanks
default_name = record {
  utf8 = plain_utf8 (codes "Default") (known_plain (codes "Default") refl);
  no_comma = All-weaker (λ c. not (is_comma c) ≡ true) (λ c. is_comma c ≡ false) (λ c e. unless (is_comma c) e) (codes "Default") (AllPass-from_list_all (λ c. not (is_comma c)) (codes "Default") refl);
  bare = refl;
}
  where
    unless : (b : Bool) → not b ≡ true → b ≡ false
    unless true e = absurd cc
    unless false e = refl

small_whole : (n : ℕ) → n < 1000 → IsWithin max_whole (pos n)
small_whole n small = (omega (arith, ints), omega (arith, ints))

small_time : (n : ℕ) → n ≤ 1000000000 → is_time (pos n) ≡ true
small_time n small = grind (arith, ints)

module _ (i : ℕ) (numbers : LineNumbers) (inside : i < max_lines) (small : AreSmall numbers) where
  abbrev event : Event
  event = event_of_numbers i numbers

  -- the event is one that can be written
  event_is : IsEvent event
  event_is = record {
    order = omega arith;
    layer = small_whole numbers.layer small.layer;
    style = default_name;
    name = nothing_is_name;
    margin_l = small_whole 0 (omega arith);
    margin_r = small_whole 0 (omega arith);
    margin_v = small_whole 0 (omega arith);
    effect = nothing_is_name;
    text = plain_utf8 (event_text numbers) (text_short numbers.form numbers.size numbers.x numbers.y small.size small.left small.top).plain;
    start = small_time (100 * i) (omega arith);
    duration = small_time (10 * numbers.length) (omega (arith, small.long));
  }

  start_written : IsWrittenTime event.start
  start_written = record { number = 100 * i; value = refl; whole = omega arith; most = omega arith }

  end_written : IsWrittenTime (event_end event)
  end_written = record { number = 100 * i + 10 * numbers.length; value = refl; whole = omega arith; most = omega (arith, small.long) }

  -- and its line is the one that is generated
  value_is : line_value i numbers ≡ row (event_fields event)
  unfolding span_text
  value_is =
      let long = numbers.length in
      let behind = codes ",Default,,0,0,0,," ++ event_text numbers in
      let start : 10 * (10 * i) ≡ 100 * i = omega arith in
      let last : 10 * (10 * i + long) ≡ 100 * i + 10 * long = omega arith in
      let a = time_same (10 * i) ∙ ap time_text start in
      let b = time_same (10 * i + long) ∙ ap time_text last in
      let zero_text = sym (decimal_digit 0 (omega arith)) in
      ap (λ z. decimal numbers.layer ++ 44 ∷ z) (append_assoc (hundredths_text (10 * i) ++ 44 ∷ []) (hundredths_text (10 * i + long)) behind
      ∙ append_assoc (hundredths_text (10 * i)) (44 ∷ []) (hundredths_text (10 * i + long) ++ behind)
      ∙ (λ k. a k ++ 44 ∷ (b k ++ (codes ",Default,," ++ (zero_text k ++ 44 ∷ (zero_text k ++ 44 ∷ (zero_text k ++ 44 ∷ 44 ∷ event_text numbers)))))))

  line_gives : line_event (usual_event_fields V4Plus) i (32 ∷ line_value i numbers) ≡ Ok event
  line_gives = ap (λ v. line_event (usual_event_fields V4Plus) i (32 ∷ v)) value_is ∙ event_read event event_is start_written end_written i

-- ---- all events

module _ (seed events : ℕ) (few : events ≤ max_lines) where
  abbrev script : ScriptValue
  script = generated_script seed events

  given_at : (i : ℕ) → i < events → event_of_line script i ≡ Ok (generated_event seed i)
  given_at i inside =
      let state = state_after_draws (6 * i) seed in
      ap (line_event (usual_event_fields V4Plus) i) (get_or-map-range_with_len (λ k. 32 ∷ generated_value seed k) 0 events i i [] inside (omega arith))
      ∙ line_gives i (line_numbers state) (omega arith) (drawn_small state)

  all_given : (start n : ℕ) → start + n ≤ events → flat_map event_given (map (event_of_line script) (range_with_len start n)) ≡ map (generated_event seed) (range_with_len start n)
  all_given start zero within = refl
  all_given start (suc n) within =
      ap (λ r. event_given r ++ flat_map event_given (map (event_of_line script) (range_with_len (start + 1) n))) (given_at start (omega arith))
      ∙ ap (λ z. generated_event seed start ∷ z) (all_given (start + 1) n (omega arith))

  events_generated : line_events script ≡ map (generated_event seed) (range_with_len 0 events)
  events_generated =
      ap (λ n. flat_map event_given (map (event_of_line script) (range_with_len 0 n))) (length-map-range_with_len (λ k. 32 ∷ generated_value seed k) 0 events) ∙ all_given 0 events (omega arith)

pub lines_give : GeneratedLinesGiveEvents
lines_give seed events script few is =
    let read = script_generated seed events few in
    let same : script ≡ generated_script seed events = cc in
    ap line_events same ∙ events_generated seed events few
