-- The history of a play that ended goes on to whole times.
use Rattle.std.proofs.Common.{◌≡◌, ◌≢◌, ℕ, zero, suc, ◌+◌, ◌-◌, ◌*◌, ◌<◌, Bool, cond, List, [], ◌∷◌, ◌++◌, length, map, take, drop, refl, sym, ap, subst, ◌∙◌, arith, append_assoc, append-nil, eq-eqb, ne_eqb, length-append}
use Rattle.std.specs.List.{All, slice_index_or}
use Rattle.std.proofs.lemmas.List.{map-append, take-append-drop}
use Rattle.std.proofs.lemmas.List.Elements.{All-append, All-cons, All-nil, All-weaker}
use mathlib.Core.Logic.{dite}
use native.Mathlib.Decide.{ℕ_discrete}
use Rattle.turn_cell.specs.History.{History, IsBelow, entries_of}
use Rattle.turn_cell.proofs.Histories.{entries_of-append, entries_of_below}
use Rattle.ass_events.specs.Histories.{Entry, Chunk, Flush}
use Rattle.ass_events.specs.declared.event.Event.{Event}
use Rattle.play_laws.specs.Fronts.{IsFrontOfTimes}
use Rattle.play_model.specs.Images.{IsImageAt}
use Rattle.play_model.specs.Interleavings.{IsInterleaving, all_entries}
use Rattle.play_model.specs.Outputs.{IsFrontOfPlay}
use Rattle.play_model.specs.Plays.{IsFedTo, IsTimeOf, PlayView, events_at, events_before, feeder_events, history_of_times, lines_of_feeder}
use Rattle.play_model.specs.Times.{history_before}
use Rattle.play_model.proofs.Labels.{IsInterleaving-append, IsInterleaving_renamed}
use Rattle.play_model.proofs.MoreTimes.{image_stays, time_more}
use Rattle.play_model.proofs.Shares.{events_parts}
use Rattle.play_shares.specs.Instants.{instant_count}

-- ---- each number of lists has an interleaving

module _ {X : Type 0} where
  -- a list under one label
  abbrev labelled_with : ℕ → List X → History X
  labelled_with n xs = map (λ (x : X). (n, x)) xs

  all_labelled : (n : ℕ) (xs : List X) → all_entries (labelled_with n xs) ≡ xs
  all_labelled n [] = refl
  all_labelled n (x ∷ xs) = ap (λ z. x ∷ z) (all_labelled n xs)

  own_labelled : (n : ℕ) (xs : List X) → entries_of n (labelled_with n xs) ≡ xs
  own_labelled n [] = refl
  own_labelled n (x ∷ xs) =
      ap (λ (b : Bool). cond b (x ∷ entries_of n (labelled_with n xs)) (entries_of n (labelled_with n xs))) (eq-eqb n n refl) ∙ ap (λ z. x ∷ z) (own_labelled n xs)

  none_labelled : (n i : ℕ) (xs : List X) → n ≢ i → entries_of i (labelled_with n xs) ≡ []
  none_labelled n i [] ne = refl
  none_labelled n i (x ∷ xs) ne =
      ap (λ (b : Bool). cond b (x ∷ entries_of i (labelled_with n xs)) (entries_of i (labelled_with n xs))) (ne_eqb n i ne) ∙ none_labelled n i xs ne

  below_labelled : (n m : ℕ) (xs : List X) → n < m → IsBelow m (labelled_with n xs)
  below_labelled n m [] lt = All-nil (λ (pair : ℕ × X). pair.0 < m)
  below_labelled n m (x ∷ xs) lt = All-cons (λ (pair : ℕ × X). pair.0 < m) (n, x) (labelled_with n xs) lt (below_labelled n m xs lt)

  -- a list more, behind the others
  list_more : (n : ℕ) (ps : ℕ → List X) (h : History X) → IsBelow n h → ((i : ℕ) → i < n → entries_of i h ≡ ps i) → (i : ℕ) → i < suc n → entries_of i (h ++ labelled_with n (ps n)) ≡ ps i
  list_more n ps h below each i lt = dite (ℕ_discrete i n)
      (λ is. subst (λ (k : ℕ). entries_of k (h ++ labelled_with n (ps n)) ≡ ps k) (sym is)
      (entries_of-append n h (labelled_with n (ps n))
      ∙ (ap (λ z. z ++ entries_of n (labelled_with n (ps n))) (entries_of_below n n h below (omega arith)) ∙ own_labelled n (ps n))))
      (λ ne. entries_of-append i h (labelled_with n (ps n))
      ∙ (ap (λ z. entries_of i h ++ z) (none_labelled n i (ps n) (λ e. ne (sym e))) ∙ (append-nil (entries_of i h) ∙ each i (omega (arith, lt, ne)))))

  pub interleaved : (n : ℕ) (ps : ℕ → List X) → (xs : List X) × IsInterleaving n ps xs
  interleaved zero ps = ([], record { labelled = []; all = refl; below = All-nil (λ (pair : ℕ × X). pair.0 < 0); each = λ i lt. absurd (omega (arith, lt)) })
  interleaved (suc n) ps =
      let found = interleaved n ps in
      let h : History X = (found.1).labelled in (
        found.0 ++ ps n,
        record {
          labelled = h ++ labelled_with n (ps n);
          all = map-append (λ (pair : ℕ × X). pair.1) h (labelled_with n (ps n))
              ∙ (ap (λ z. z ++ all_entries (labelled_with n (ps n))) (found.1).all ∙ ap (λ z. found.0 ++ z) (all_labelled n (ps n)));
          below = All-append (λ (pair : ℕ × X). pair.0 < suc n) h (labelled_with n (ps n))
              (All-weaker (λ (pair : ℕ × X). pair.0 < n) (λ (pair : ℕ × X). pair.0 < suc n) (λ pair lt. omega (arith, lt)) h (found.1).below)
              (below_labelled n (suc n) (ps n) (omega arith));
          each = list_more n ps h (found.1).below (found.1).each;
        },
      )

-- ---- whole times

module _ (play : PlayView) where
  -- the events of a feeder's batches from a round on
  abbrev events_from : ℕ → ℕ → List Event
  events_from round feeder = events_at play.script (drop (round * play.job.batch) (lines_of_feeder play feeder))

  both_parts : (round feeder : ℕ) → map Chunk (events_before play round feeder) ++ map Chunk (events_from round feeder) ≡ map Chunk (feeder_events play feeder)
  both_parts round feeder =
      let lines = lines_of_feeder play feeder in
      let n = round * play.job.batch in
      sym (map-append Chunk (events_before play round feeder) (events_from round feeder))
      ∙ ap (map Chunk) (sym (events_parts play.script (take n lines) (drop n lines)) ∙ ap (events_at play.script) (take-append-drop n lines))

  -- what was fed in some rounds goes on to a whole time
  pub fed_on : (rounds : ℕ) (last : List Entry) → IsFedTo play rounds last → (rest : List Entry) × IsTimeOf play (last ++ rest)
  fed_on rounds last fed =
      let found = interleaved play.job.feeders (λ feeder. map Chunk (events_from rounds feeder)) in (
        found.0,
        IsInterleaving_renamed play.job.feeders
            (λ feeder. map Chunk (events_before play rounds feeder) ++ map Chunk (events_from rounds feeder)) (λ feeder. map Chunk (feeder_events play feeder)) (last ++ found.0)
            (λ feeder lt. both_parts rounds feeder)
            (IsInterleaving-append play.job.feeders (λ feeder. map Chunk (events_before play rounds feeder)) (λ feeder. map Chunk (events_from rounds feeder)) last found.0 fed found.1),
      )

  some_time : (time : List Entry) × IsTimeOf play time
  some_time = interleaved play.job.feeders (λ feeder. map Chunk (feeder_events play feeder))

  some_times : (count : ℕ) → (times : List (List Entry)) × (length times ≡ count) × All (IsTimeOf play) times
  some_times zero = ([], refl, All-nil (IsTimeOf play))
  some_times (suc count) =
      let rest = some_times count in
      let long = rest.1 in
      (some_time.0 ∷ rest.0, omega (arith, long), All-cons (IsTimeOf play) some_time.0 rest.0 some_time.1 rest.2)

-- ---- histories that go on

put_before : (first before time rest all : List Entry) → all ≡ (before ++ time) ++ rest → first ++ Flush ∷ all ≡ ((first ++ Flush ∷ before) ++ time) ++ rest
put_before first before time rest all is =
    ap (λ z. first ++ Flush ∷ z) (is ∙ append_assoc before time rest)
    ∙ sym (append_assoc first (Flush ∷ before) (time ++ rest))
    ∙ sym (append_assoc (first ++ Flush ∷ before) time rest)

-- what comes behind one of some times
times_on : (times : List (List Entry)) (time : List Entry) (more : List (List Entry)) → (rest : List Entry) × (history_of_times (times ++ time ∷ more) ≡ (history_before times ++ time) ++ rest)
times_on [] time [] = ([], sym (append-nil time))
times_on [] time (next ∷ more) = (Flush ∷ history_of_times (next ∷ more), refl)
times_on (first ∷ []) time more =
    let found = times_on [] time more in
    (found.0, put_before first [] time found.0 (history_of_times (time ∷ more)) found.1)
times_on (first ∷ (second ∷ times)) time more =
    let found = times_on (second ∷ times) time more in
    (found.0, put_before first (history_before (second ∷ times)) time found.0 (history_of_times ((second ∷ times) ++ time ∷ more)) found.1)

module _ (play : PlayView) (bytes : List ℕ) (front : IsFrontOfPlay play bytes) where
  abbrev times : List (List Entry)
  times = front.so_far.times

  abbrev last : List Entry
  last = front.so_far.last

  abbrev own : (rest : List Entry) × IsTimeOf play (last ++ rest)
  own = fed_on play front.so_far.rounds last front.so_far.fed

  abbrev more : (ts : List (List Entry)) × (length ts ≡ play.job.times - length times - 1) × All (IsTimeOf play) ts
  more = some_times play (play.job.times - length times - 1)

  abbrev whole : List (List Entry)
  whole = times ++ (last ++ own.0) ∷ more.0

  abbrev behind : (rest : List Entry) × (history_of_times whole ≡ (history_before times ++ (last ++ own.0)) ++ rest)
  behind = times_on times (last ++ own.0) more.0

  goes_on : history_of_times whole ≡ front.history ++ (own.0 ++ behind.0)
  goes_on =
      behind.1
      ∙ ap (λ z. z ++ behind.0) (sym (append_assoc (history_before times) last own.0))
      ∙ append_assoc (history_before times ++ last) own.0 behind.0
      ∙ ap (λ z. z ++ (own.0 ++ behind.0)) (sym (front.so_far.value ∙ time_more times last))

  as_many : length whole ≡ play.job.times
  as_many =
      let few : length times < play.job.times = front.so_far.few in
      let long = length-append times ((last ++ own.0) ∷ more.0) in
      let rest = more.1 in
      omega (arith, few, long, rest)

  pub front_of_times : IsFrontOfTimes play bytes
  front_of_times = record {
    times = whole;
    as_many = as_many;
    each = All-append (IsTimeOf play) times ((last ++ own.0) ∷ more.0) front.so_far.each (All-cons (IsTimeOf play) (last ++ own.0) more.0 own.1 more.2);
    images = front.images;
    few = front.few;
    are = λ q i d lt within.
        subst (λ (h : List Entry). IsImageAt play h q i (slice_index_or front.images (q * instant_count play.job + i) d)) (sym goes_on)
        (image_stays play front.history (own.0 ++ behind.0) q i (slice_index_or front.images (q * instant_count play.job + i) d) (front.are q i d lt within));
    cut = front.cut;
    value = front.value;
  }
