-- Events that rounds feed and repeat, by the numbers of lines.
use Rattle.std.proofs.Common.{◌≡◌, ℕ, zero, suc, ◌+◌, ◌-◌, ◌*◌, ◌/◌, ◌%◌, ◌<◌, ◌≤◌, min, Bool, true, false, eqb, ltb, cond, List, [], ◌∷◌, length, get_or, map, take, refl, sym, ap, ◌∙◌, arith, length-append, add-mul, le-ltb, lt-ltb, lt_of_not-le}
use Rattle.std.specs.List.{All, filter, range_with_len}
use Rattle.std.proofs.lemmas.List.{take_all}
use Rattle.std.proofs.lemmas.List.Elements.{All-cons, All-filter, All-nil, All-weaker, filter_passes}
use Rattle.std.proofs.lemmas.Nat.{div-add-mod', div-mul-add, mod_below, mul-le}
use mathlib.Core.Logic.{dite}
use native.Mathlib.Decide.{dec_le}
use Rattle.ass_events.specs.Events.{event_of_line}
use Rattle.ass_script.specs.Scripts.{ScriptValue}
use Rattle.play_laws.specs.Counts.{again_count, lines_before}
use Rattle.play_model.specs.Interleavings.{sum_below}
use Rattle.play_model.specs.Plays.{IsPlayable, PlayView, all_feeding, events_at, events_before, good_before, good_flags, lines_of_feeder, repeated_count, repeated_in}
use Rattle.play_model.proofs.Labels.{sum_below_add, sum_below_same, sum_below_zero}
use Rattle.play_model.proofs.Shares.{flags_long, good_events, good_many}
use Rattle.play_shares.specs.Batches.{again_lines, feeder_lines, good_lines, has_batch}
use Rattle.play_shares.specs.Offers.{good_of_batch}
use Rattle.play_shares.proofs.AllOffers.{all_offered}
use Rattle.play_shares.proofs.FeederLines.{AreSteps, lines_are_steps}
use Rattle.ass_events.specs.ScriptEvents.{event_given}

-- ---- what is repeated

sum_first : (n : ℕ) (f : ℕ → ℕ) → sum_below (suc n) f ≡ f 0 + sum_below n (λ i. f (i + 1))
sum_first zero f = omega arith
sum_first (suc n) f =
    let rest = sum_first n f in
    let place : suc n ≡ n + 1 = omega arith in
    let last : f (suc n) ≡ f (n + 1) = ap f place in
    omega (arith, rest, last)

module _ (play : PlayView) (playable : IsPlayable play) where
  again_counted : (round feeder : ℕ) → feeder < play.job.feeders → length (again_lines play.job (good_flags play.script) (round + 1) feeder) ≡ again_count play round feeder
  again_counted round feeder lt =
      (all_offered play.job (good_flags play.script) feeder playable.job lt).again round
      ∙ ap (λ (n : ℕ). cond (has_batch play.job n (round + 1) feeder) (min play.job.again (length (good_of_batch play.job (good_flags play.script) feeder round))) 0) (flags_long play.script)

  abbrev again_in : ℕ → ℕ
  again_in round = sum_below play.job.feeders (again_count play round)

  rounds_counted : (rounds : ℕ) → sum_below rounds (repeated_in play) ≡ sum_below (rounds - 1) again_in
  rounds_counted zero = let none : zero - 1 ≡ zero = omega arith in sym (ap (λ (n : ℕ). sum_below n again_in) none)
  rounds_counted (suc rounds) =
      let first = sum_first rounds (repeated_in play) in
      let none : repeated_in play 0 ≡ 0 = sum_below_zero play.job.feeders in
      let later : sum_below rounds (λ i. repeated_in play (i + 1)) ≡ sum_below rounds again_in =
      sum_below_same rounds (λ i. repeated_in play (i + 1)) again_in (λ round lt.
      sum_below_same play.job.feeders (λ feeder. length (again_lines play.job (good_flags play.script) (round + 1) feeder)) (again_count play round) (λ feeder inside. again_counted round feeder inside)) in
      let all : sum_below (suc rounds) (repeated_in play) ≡ sum_below rounds again_in = omega (arith, first, none, later) in
      let less : rounds ≡ suc rounds - 1 = omega arith in
      all ∙ ap (λ (n : ℕ). sum_below n again_in) less

  pub repeats_counted : repeated_count play ≡ sum_below (all_feeding play - 1) (λ round. sum_below play.job.feeders (again_count play round))
  repeats_counted = rounds_counted (all_feeding play)

-- ---- filters

module _ (p q : ℕ → Bool) where
  filter_same : ((i : ℕ) → p i ≡ q i) → (xs : List ℕ) → filter p xs ≡ filter q xs
  filter_same same [] = refl
  filter_same same (x ∷ xs) = ap (λ (b : Bool). cond b (x ∷ filter p xs) (filter p xs)) (same x) ∙ ap (λ z. cond (q x) (x ∷ z) z) (filter_same same xs)

  turned_one : (x : ℕ) (xs : List ℕ) (a b : Bool) → p x ≡ a → q x ≡ b → filter p (filter q xs) ≡ filter q (filter p xs)
      → filter p (cond b (x ∷ filter q xs) (filter q xs)) ≡ filter q (cond a (x ∷ filter p xs) (filter p xs))
  turned_one x xs true true e f rest =
      ap (λ (c : Bool). cond c (x ∷ filter p (filter q xs)) (filter p (filter q xs))) e ∙ ap (λ z. x ∷ z) rest
      ∙ sym (ap (λ (c : Bool). cond c (x ∷ filter q (filter p xs)) (filter q (filter p xs))) f)
  turned_one x xs true false e f rest = rest ∙ sym (ap (λ (c : Bool). cond c (x ∷ filter q (filter p xs)) (filter q (filter p xs))) f)
  turned_one x xs false true e f rest = ap (λ (c : Bool). cond c (x ∷ filter p (filter q xs)) (filter p (filter q xs))) e ∙ rest
  turned_one x xs false false e f rest = rest

  filters_turned : (xs : List ℕ) → filter p (filter q xs) ≡ filter q (filter p xs)
  filters_turned [] = refl
  filters_turned (x ∷ xs) = turned_one x xs (p x) (q x) refl refl (filters_turned xs)

-- of numbers in their order those below a place are the first ones
filter_steps : (p : ℕ → Bool) (g : ℕ → ℕ) (m : ℕ) → ((j : ℕ) → p (g j) ≡ ltb j m) → (many a : ℕ) → filter p (map g (range_with_len a many)) ≡ take (m - a) (map g (range_with_len a many))
filter_steps p g m is zero a = sym (take_all (m - a) [] (omega arith))
filter_steps p g m is (suc many) a =
    let later : List ℕ = map g (range_with_len (a + 1) many) in
    dite (dec_le m a)
    (λ past.
    let none : m - a ≡ 0 = omega (arith, past) in
    let none_later : m - (a + 1) ≡ 0 = omega (arith, past) in
    ap (λ (b : Bool). cond b (g a ∷ filter p later) (filter p later)) (is a ∙ le-ltb a m past)
    ∙ (filter_steps p g m is many (a + 1) ∙ (ap (λ (n : ℕ). take n later) none_later ∙ sym (ap (λ (n : ℕ). take n (g a ∷ later)) none))))
    (λ no.
    let lt : a < m = lt_of_not-le no in
    let one : suc (m - (a + 1)) ≡ m - a = omega (arith, lt) in
    ap (λ (b : Bool). cond b (g a ∷ filter p later) (filter p later)) (is a ∙ lt-ltb a m lt)
    ∙ (ap (λ z. g a ∷ z) (filter_steps p g m is many (a + 1)) ∙ ap (λ (n : ℕ). take n (g a ∷ later)) one))

-- ---- the lines of the batches before a round

-- a place is before a round where its batch is
batch_below : (batch round place : ℕ) → 0 < batch → ltb (place / batch) round ≡ ltb place (round * batch)
batch_below batch round place some =
    let split : place / batch * batch + place % batch ≡ place = div-add-mod' place batch in
    let rest : place % batch < batch = mod_below place batch some in
    dite (dec_le round (place / batch))
    (λ past.
    let rows : round * batch ≤ place / batch * batch = mul-le round batch (place / batch) batch past (omega arith) in
    le-ltb (place / batch) round past ∙ sym (le-ltb place (round * batch) (omega (arith, rows, split))))
    (λ no.
    let lt : place / batch < round = lt_of_not-le no in
    let rows : (place / batch + 1) * batch ≤ round * batch = mul-le (place / batch + 1) batch round batch (omega (arith, lt)) (omega arith) in
    let row : (place / batch + 1) * batch ≡ place / batch * batch + 1 * batch = add-mul (place / batch) 1 batch in
    lt-ltb (place / batch) round lt ∙ sym (lt-ltb place (round * batch) (omega (arith, rows, row, split, rest))))

first_lines : (count F f m : ℕ) → f < F → take m (feeder_lines count F f) ≡ filter (λ i. ltb (i / F) m) (feeder_lines count F f)
first_lines count F f m inside =
    let lines = feeder_lines count F f in
    let steps : AreSteps F f count lines = lines_are_steps count F f inside in
    let g : ℕ → ℕ = λ j. j * F + f in
    let all : m ≡ m - 0 = omega arith in
    ap (take m) steps.items
    ∙ (ap (λ (n : ℕ). take n (map g (range_with_len 0 (length lines)))) all
    ∙ (sym (filter_steps (λ i. ltb (i / F) m) g m (λ j. ap (λ (q : ℕ). ltb q m) (div-mul-add j F f inside)) (length lines) 0)
    ∙ ap (filter (λ i. ltb (i / F) m)) (sym steps.items)))

numbers_below : (a many : ℕ) → All (λ m. m < a + many) (range_with_len a many)
numbers_below a zero = All-nil (λ m. m < a + zero)
numbers_below a (suc many) = All-cons (λ m. m < a + suc many) a (range_with_len (a + 1) many) (omega arith)
    (All-weaker (λ m. m < (a + 1) + many) (λ m. m < a + suc many) (λ m lt. omega (arith, lt)) (range_with_len (a + 1) many) (numbers_below (a + 1) many))

module _ (script : ScriptValue) (F : ℕ) (some : 0 < F) where
  abbrev given_count : ℕ → ℕ
  given_count i = length (event_given (event_of_line script i))

  line_more : (b : Bool) (i : ℕ) (lines : List ℕ) → length (events_at script (cond b (i ∷ lines) lines)) ≡ length (events_at script lines) + cond b (given_count i) 0
  line_more true i lines = let both = length-append (event_given (event_of_line script i)) (events_at script lines) in omega (arith, both)
  line_more false i lines = omega arith

  -- each line is one of just one feeder
  split_lines : (lines : List ℕ) → sum_below F (λ f. length (events_at script (filter (λ i. eqb (i % F) f) lines))) ≡ length (events_at script lines)
  split_lines [] = sum_below_zero F
  split_lines (i ∷ lines) =
      let more = sum_below_add F (i % F) (given_count i) (λ f. length (events_at script (filter (λ k. eqb (k % F) f) lines))) (λ f. length (events_at script (filter (λ k. eqb (k % F) f) (i ∷ lines))))
      (mod_below i F some) (λ f. line_more (eqb (i % F) f) i (filter (λ k. eqb (k % F) f) lines)) in
      let rest = split_lines lines in
      let both = length-append (event_given (event_of_line script i)) (events_at script lines) in
      omega (arith, more, rest, both)

  -- lines that give an event have one each, and the others none
  good_counted : (lines : List ℕ) → All (λ i. i < length script.lines) lines → length (events_at script lines) ≡ length (good_lines (good_flags script) lines)
  good_counted lines within =
      let passes : ℕ → Bool = λ k. get_or (good_flags script) k false in
      ap length (sym (good_events script lines within)) ∙ good_many script (good_lines (good_flags script) lines) (filter_passes passes lines)

module _ (play : PlayView) (round : ℕ) (playable : IsPlayable play) where
  abbrev F : ℕ
  F = play.job.feeders

  abbrev numbers : List ℕ
  numbers = range_with_len 0 (length play.script.lines)

  abbrev is_before : ℕ → Bool
  is_before i = ltb (i / F / play.job.batch) round

  abbrev is_first : ℕ → Bool
  is_first i = ltb (i / F) (round * play.job.batch)

  some_feeder : 0 < F
  some_feeder = let least = playable.job.feeders.0 in omega (arith, least)

  some_batch : 0 < play.job.batch
  some_batch = let least = playable.job.batch.0 in omega (arith, least)

  feeder_first : (f : ℕ) → f < F → take (round * play.job.batch) (lines_of_feeder play f) ≡ filter (λ i. eqb (i % F) f) (lines_before play round)
  feeder_first f lt =
      first_lines (length play.script.lines) F f (round * play.job.batch) lt
      ∙ (filters_turned is_first (λ i. eqb (i % F) f) numbers
      ∙ ap (filter (λ i. eqb (i % F) f)) (filter_same is_first is_before (λ i. sym (batch_below play.job.batch round (i / F) some_batch)) numbers))

  before_within : All (λ i. i < length play.script.lines) (lines_before play round)
  before_within = All-filter is_before (λ i. i < length play.script.lines) numbers
      (All-weaker (λ m. m < 0 + length play.script.lines) (λ i. i < length play.script.lines) (λ m lt. omega (arith, lt)) numbers (numbers_below 0 (length play.script.lines)))

  pub fed_counted : good_before play round ≡ length (good_lines (good_flags play.script) (lines_before play round))
  fed_counted =
      sum_below_same F (λ f. length (events_before play round f)) (λ f. length (events_at play.script (filter (λ i. eqb (i % F) f) (lines_before play round))))
      (λ f lt. ap (λ z. length (events_at play.script z)) (feeder_first f lt))
      ∙ (split_lines play.script F some_feeder (lines_before play round)
      ∙ good_counted play.script F some_feeder (lines_before play round) before_within)
