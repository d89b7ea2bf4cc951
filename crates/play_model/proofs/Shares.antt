-- What the feeders have in a round is apart from all else.
use Rattle.std.proofs.Common.{◌≡◌, ◌≢◌, ℕ, zero, suc, ◌+◌, ◌*◌, ◌%◌, ◌<◌, ◌≤◌, Bool, true, false, eqb, cond, get_or, List, [], ◌∷◌, ◌++◌, length, take, drop, Result, Ok, Err, refl, sym, ap, subst, ◌∙◌, arith, append_assoc, length-append, lt_of_not-le}
use Rattle.std.specs.List.{All, Contains, filter, range_with_len}
use Rattle.std.specs.Result.{is_ok}
use Rattle.std.proofs.lemmas.Grind.{flat_map-append}
use Rattle.std.proofs.lemmas.List.{take-append-drop}
use Rattle.std.proofs.lemmas.List.Elements.{All-cons, All-contains, All-contains_itself, All-filter, All-head, All-nil, All-tail, All-weaker, Contains-append_right, filter_passes}
use Rattle.std.proofs.lemmas.List.FromFn.{get_or-map-range_with_len, length-map-range_with_len}
use mathlib.Core.Logic.{dite}
use native.Mathlib.Decide.{dec_le}
use Rattle.turn_cell.specs.History.{IsDistinct}
use Rattle.ass_events.specs.Events.{event_of_line}
use Rattle.ass_events.specs.declared.event.ChunkRefusal.{ChunkRefusal}
use Rattle.ass_events.specs.declared.event.Event.{Event}
use Rattle.ass_script.specs.Scripts.{ScriptValue}
use Rattle.ass_events.specs.ScriptEvents.{event_given}
use Rattle.ass_events.proofs.GivenEvents.{few_events, line_order}
use Rattle.track_history.specs.Answers.{read_orders}
use Rattle.play_shares.specs.Batches.{again_lines, batch_lines, good_lines}
use Rattle.play_shares.proofs.AllOffers.{all_again, feeder_is, first_and_next}
use Rattle.play_model.specs.Plays.{IsPlayable, PlayView, events_again, events_at, events_before, events_in, feeder_events, good_flags, lines_of_feeder}
use Rattle.play_model.proofs.Counts.{good_is}
use Rattle.play_model.proofs.FeedLaws.{AreApart}
use Rattle.play_model.proofs.Labels.{sum_below_same}
use Rattle.play_model.proofs.SettledLaws.{line_there, of_line}

-- ---- events of lines

none_given : (r : Result Event ChunkRefusal) → is_ok r ≡ false → event_given r ≡ []
none_given (Ok event) none = absurd cc
none_given (Err refusal) none = refl

one_given : (r : Result Event ChunkRefusal) → is_ok r ≡ true → length (event_given r) ≡ 1
one_given (Ok event) some = refl
one_given (Err refusal) some = absurd cc

module _ (script : ScriptValue) where
  pub events_parts : (xs ys : List ℕ) → events_at script (xs ++ ys) ≡ events_at script xs ++ events_at script ys
  events_parts xs ys = flat_map-append (λ i. event_given (event_of_line script i)) xs ys

  flag_is : (i : ℕ) → i < length script.lines → get_or (good_flags script) i false ≡ is_ok (event_of_line script i)
  flag_is i lt = get_or-map-range_with_len (λ i. is_ok (event_of_line script i)) 0 (length script.lines) i i false lt (omega arith)

  pub flags_long : length (good_flags script) ≡ length script.lines
  flags_long = length-map-range_with_len (λ i. is_ok (event_of_line script i)) 0 (length script.lines)

  good_or_none : (b : Bool) (i : ℕ) (lines : List ℕ) → is_ok (event_of_line script i) ≡ b
      → events_at script (cond b (i ∷ lines) lines) ≡ event_given (event_of_line script i) ++ events_at script lines
  good_or_none true i lines is = refl
  good_or_none false i lines is = sym (ap (λ z. z ++ events_at script lines) (none_given (event_of_line script i) is))

  -- lines that give no event have none
  pub good_events : (lines : List ℕ) → All (λ i. i < length script.lines) lines → events_at script (good_lines (good_flags script) lines) ≡ events_at script lines
  good_events [] within = refl
  good_events (i ∷ lines) within =
      let passes : ℕ → Bool = λ k. get_or (good_flags script) k false in
      good_or_none (passes i) i (filter passes lines) (sym (flag_is i (All-head (λ k. k < length script.lines) i lines within)))
      ∙ ap (λ z. event_given (event_of_line script i) ++ z) (good_events lines (All-tail (λ k. k < length script.lines) i lines within))

  abbrev IsGood : ℕ → Type 0
  IsGood i = get_or (good_flags script) i false ≡ true

  good_is_ok : (i : ℕ) → IsGood i → is_ok (event_of_line script i) ≡ true
  good_is_ok i good = dite (dec_le (length (good_flags script)) i)
      (λ past. absurd (past_end (good_flags script) i past good))
      (λ no. sym (flag_is i (subst (λ (n : ℕ). i < n) flags_long (lt_of_not-le no))) ∙ good)
    where
      past_end : (flags : List Bool) (i : ℕ) → length flags ≤ i → get_or flags i false ≡ true → ⊥
      past_end [] zero past good = absurd cc
      past_end [] (suc i) past good = absurd cc
      past_end (b ∷ flags) zero past good = absurd (omega arith)
      past_end (b ∷ flags) (suc i) past good = past_end flags i (omega arith) good

  -- lines that give an event have one each
  pub good_many : (lines : List ℕ) → All IsGood lines → length (events_at script lines) ≡ length lines
  good_many [] good = refl
  good_many (i ∷ lines) good =
      let rest = good_many lines (All-tail IsGood i lines good) in
      let one = one_given (event_of_line script i) (good_is_ok i (All-head IsGood i lines good)) in
      let both = length-append (event_given (event_of_line script i)) (events_at script lines) in
      omega arith

  -- what holds of the lines holds of the ReadOrders
  orders_all : (P : ℕ → Type 0) (lines : List ℕ) → All P lines → All P (read_orders (events_at script lines))
  orders_all P [] all = All-nil P
  orders_all P (i ∷ lines) all = first (event_of_line script i) refl (orders_all P lines (All-tail P i lines all))
    where
      first : (r : Result Event ChunkRefusal) → event_of_line script i ≡ r → All P (read_orders (events_at script lines)) → All P (read_orders (event_given r ++ events_at script lines))
      first (Ok event) is rest = All-cons P event.order (read_orders (events_at script lines)) (subst P (sym (line_order script i event is)) (All-head P i lines all)) rest
      first (Err refusal) is rest = rest

  orders_distinct : (lines : List ℕ) → IsDistinct lines → IsDistinct (read_orders (events_at script lines))
  orders_distinct [] apart = tt
  orders_distinct (i ∷ lines) apart = first (event_of_line script i) refl (orders_distinct lines apart.1)
    where
      first : (r : Result Event ChunkRefusal) → event_of_line script i ≡ r → IsDistinct (read_orders (events_at script lines)) → IsDistinct (read_orders (event_given r ++ events_at script lines))
      first (Ok event) is rest = (orders_all (λ m. m ≢ event.order) lines (subst (λ (k : ℕ). All (λ m. m ≢ k) lines) (sym (line_order script i event is)) apart.0), rest)
      first (Err refusal) is rest = rest

-- ---- numbers of lines are distinct

numbers_above : (a n : ℕ) → All (λ m. a ≤ m) (range_with_len a n)
numbers_above a zero = All-nil (λ m. a ≤ m)
numbers_above a (suc n) = All-cons (λ m. a ≤ m) a (range_with_len (a + 1) n) (omega arith)
    (All-weaker (λ m. a + 1 ≤ m) (λ m. a ≤ m) (λ m le. omega (arith, le)) (range_with_len (a + 1) n) (numbers_above (a + 1) n))

numbers_distinct : (a n : ℕ) → IsDistinct (range_with_len a n)
numbers_distinct a zero = tt
numbers_distinct a (suc n) = (
  All-weaker (λ m. a + 1 ≤ m) (λ m. m ≢ a) (λ m le is. omega (arith, le, is)) (range_with_len (a + 1) n) (numbers_above (a + 1) n),
  numbers_distinct (a + 1) n,
)

filter_distinct : (p : ℕ → Bool) (ns : List ℕ) → IsDistinct ns → IsDistinct (filter p ns)
filter_distinct p [] apart = tt
filter_distinct p (n ∷ ns) apart =
    elim (p n) as (λ b. IsDistinct (cond b (n ∷ filter p ns) (filter p ns))) [
      | true ↦ (All-filter p (λ m. m ≢ n) ns apart.0, filter_distinct p ns apart.1)
      | false ↦ filter_distinct p ns apart.1
    ]

-- ---- a play's

module _ (play : PlayView) where
  -- the events of the batches behind a round's
  abbrev pub events_behind : ℕ → ℕ → List Event
  events_behind round feeder = events_at play.script (drop ((round + 1) * play.job.batch) (lines_of_feeder play feeder))

  pub before_next : (round feeder : ℕ) → events_before play (round + 1) feeder ≡ events_before play round feeder ++ events_in play round feeder
  before_next round feeder =
      let lines = lines_of_feeder play feeder in
      ap (events_at play.script) (first_and_next lines play.job.batch round)
      ∙ events_parts play.script (take (round * play.job.batch) lines) (batch_lines play.job (length play.script.lines) round feeder)

  all_parts : (round feeder : ℕ) → events_before play round feeder ++ (events_in play round feeder ++ events_behind round feeder) ≡ feeder_events play feeder
  all_parts round feeder =
      let lines = lines_of_feeder play feeder in
      let first = (round + 1) * play.job.batch in
      sym (append_assoc (events_before play round feeder) (events_in play round feeder) (events_behind round feeder))
      ∙ ap (λ z. z ++ events_behind round feeder) (sym (before_next round feeder))
      ∙ sym (events_parts play.script (take first lines) (drop first lines))
      ∙ ap (events_at play.script) (take-append-drop first lines)

  pub line_of : (feeder : ℕ) (e : Event) → Contains (feeder_events play feeder) e → (e.order % play.job.feeders ≡ feeder)
  line_of feeder e there =
      let line = of_line play.script (lines_of_feeder play feeder) e there in
      ap (λ (m : ℕ). m % play.job.feeders) (line_order play.script line.0 e line.2) ∙ sym (feeder_is (length play.script.lines) play.job.feeders feeder line.0 line.1)

  feeder_distinct : (feeder : ℕ) → IsDistinct (read_orders (feeder_events play feeder))
  feeder_distinct feeder = orders_distinct play.script (lines_of_feeder play feeder)
      (filter_distinct (λ (k : ℕ). eqb (k % play.job.feeders) feeder) (range_with_len 0 (length play.script.lines)) (numbers_distinct 0 (length play.script.lines)))

  -- what holds of the lines of a batch that give an event holds of those that are offered once more behind it
  again_all : (P : ℕ → Type 0) (round feeder : ℕ) → All P (good_lines (good_flags play.script) (batch_lines play.job (length (good_flags play.script)) round feeder))
      → All P (again_lines play.job (good_flags play.script) (round + 1) feeder)
  again_all P round feeder all = all_again play.job (good_flags play.script) feeder P round all

  -- the events that are offered once more are those of the batch before
  again_of_batch : (round feeder : ℕ) → All (Contains (events_before play (round + 1) feeder)) (events_again play (round + 1) feeder)
  again_of_batch round feeder =
      let batch = batch_lines play.job (length (good_flags play.script)) round feeder in
      let passes : ℕ → Bool = λ k. get_or (good_flags play.script) k false in
      let of_batch : All (Contains batch) (again_lines play.job (good_flags play.script) (round + 1) feeder) =
      again_all (Contains batch) round feeder (All-filter passes (Contains batch) batch (All-contains_itself batch)) in
      All-weaker (Contains (events_again play (round + 1) feeder)) (Contains (events_before play (round + 1) feeder))
      (λ e there. let line = of_line play.script (again_lines play.job (good_flags play.script) (round + 1) feeder) e there in
      let within : Contains batch line.0 = All-contains (Contains batch) (again_lines play.job (good_flags play.script) (round + 1) feeder) line.0 of_batch line.1 in
      let own : Contains (batch_lines play.job (length play.script.lines) round feeder) line.0 =
      subst (λ (n : ℕ). Contains (batch_lines play.job n round feeder) line.0) (flags_long play.script) within in
      subst (λ (es : List Event). Contains es e) (sym (before_next round feeder))
      (Contains-append_right (events_before play round feeder) (events_in play round feeder) e
      (line_there play.script (batch_lines play.job (length play.script.lines) round feeder) e line.0 own line.2)))
      (events_again play (round + 1) feeder) (All-contains_itself (events_again play (round + 1) feeder))

  again_before : (round feeder : ℕ) → All (Contains (events_before play round feeder)) (events_again play round feeder)
  again_before zero feeder = All-nil (Contains (events_before play zero feeder))
  again_before (suc round) feeder =
      let e : round + 1 ≡ suc round = omega arith in
      subst (λ (r : ℕ). All (Contains (events_before play r feeder)) (events_again play r feeder)) e (again_of_batch round feeder)

  -- each line that is offered once more gives an event
  pub again_many : (round feeder : ℕ) → length (events_again play round feeder) ≡ length (again_lines play.job (good_flags play.script) round feeder)
  again_many zero feeder = refl
  again_many (suc round) feeder =
      let e : round + 1 ≡ suc round = omega arith in
      let batch = batch_lines play.job (length (good_flags play.script)) round feeder in
      let passes : ℕ → Bool = λ k. get_or (good_flags play.script) k false in
      subst (λ (r : ℕ). length (events_again play r feeder) ≡ length (again_lines play.job (good_flags play.script) r feeder)) e
      (good_many play.script (again_lines play.job (good_flags play.script) (round + 1) feeder) (again_all (IsGood play.script) round feeder (filter_passes passes batch)))

  -- what the feeders have in a round is apart
  pub are_apart : IsPlayable play → (round : ℕ) → AreApart play.job.feeders (events_before play round) (events_in play round) (events_behind round) (events_again play round)
  are_apart playable round =
      let some : 0 < play.job.feeders = (let least = playable.job.feeders.0 in omega (arith, least)) in
      let within : (f : ℕ) (e : Event) → Contains (events_before play round f ++ (events_in play round f ++ events_behind round f)) e → Contains (feeder_events play f) e =
      λ f e there. subst (λ (es : List Event). Contains es e) (all_parts round f) there in
      let many = good_is play some in
      let few = few_events play.script (length play.script.lines) in
      let lines = playable.script.few_lines in
      let same = sum_below_same play.job.feeders (λ f. length (events_before play round f ++ (events_in play round f ++ events_behind round f))) (λ f. length (feeder_events play f))
      (λ f lt. ap length (all_parts round f)) in
      record {
        apart = λ f g a b there there' same. sym (line_of f a (within f a there)) ∙ ap (λ (m : ℕ). m % play.job.feeders) same ∙ line_of g b (within g b there');
        distinct = λ f. subst (λ (es : List Event). IsDistinct (read_orders es)) (sym (all_parts round f)) (feeder_distinct f);
        few = omega (arith, same, many, few, lines);
        before = again_before round;
      }
