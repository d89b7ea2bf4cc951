-- What a feeder offers in all rounds together.
use Rattle.std.proofs.Common.{◌≡◌, ℕ, zero, suc, ◌+◌, ◌-◌, ◌*◌, ◌%◌, ◌<◌, ◌≤◌, min, Bool, true, false, eqb, cond, List, [], ◌∷◌, ◌++◌, length, get_or, take, drop, refl, sym, ap, subst, ◌∙◌, arith, length-append, length-drop, add-mul, eq-eqb, ne_eqb, le-ltb}
use Rattle.std.specs.List.{All, Contains, filter, flat_map, range_with_len}
use Rattle.std.proofs.lemmas.List.{drop_all, take_all}
use Rattle.std.proofs.lemmas.List.Elements.{All-cons, All-contains, All-contains_itself, All-drop, All-filter, All-nil, All-weaker, Contains-append_right, filter-append, filter_passes}
use Rattle.std.proofs.lemmas.Bool.{eqb-true}
use Rattle.std.proofs.lemmas.List.FromFn.{get_or-range_with_len, length-range_with_len}
use Rattle.std.proofs.lemmas.Nat.{mul-le}
use Rattle.std.proofs.Math.Seq.{take-add}
use Rattle.ass_num.proofs.ListLemmas.{flat_more}
use Rattle.run_words.specs.Jobs.{IsPlay}
use Rattle.run_words.specs.declared.job.PlayJob.{PlayJob}
use Rattle.play_shares.specs.Batches.{again_lines, batch_lines, feeder_lines, good_lines, has_batch, last_items, offered}
use Rattle.play_shares.specs.Offers.{AreAllOffered, IsOfOneFeeder, good_of_batch, good_of_feeder, in_rounds}
use Rattle.play_shares.specs.Rounds.{feeding_rounds}
use Rattle.play_shares.proofs.FeederLines.{batches_hold}
use Rattle.play_shares.proofs.InstantLemmas.{ceil_enough}

-- the places of so many batches and one
pub batch_after : (batch round : ℕ) → (round + 1) * batch ≡ round * batch + batch
batch_after batch round = add-mul round 1 batch ∙ omega arith

pub first_and_next : {X : Type 0} (xs : List X) (batch round : ℕ) → take ((round + 1) * batch) xs ≡ take (round * batch) xs ++ take batch (drop (round * batch) xs)
first_and_next xs batch round = ap (λ n. take n xs) (batch_after batch round) ∙ take-add (round * batch) batch xs

part_past : {X : Type 0} (xs : List X) (first batch : ℕ) → length xs ≤ first → take batch (drop first xs) ≡ []
part_past xs first batch past = ap (take batch) (drop_all first xs past) ∙ take_all batch [] (omega arith)

both_long : (first second : ℕ → List ℕ) (rounds : List ℕ) → length (flat_map (λ round. first round ++ second round) rounds) ≡ length (flat_map second rounds) + length (flat_map first rounds)
both_long first second [] = refl
both_long first second (round ∷ rounds) =
    let rest = both_long first second rounds in
    let all = length-append (first round ++ second round) (flat_map (λ r. first r ++ second r) rounds) in
    let one = length-append (first round) (second round) in
    let firsts = length-append (first round) (flat_map first rounds) in
    let seconds = length-append (second round) (flat_map second rounds) in
    omega arith

last_long : (n : ℕ) (xs : List ℕ) → length (last_items n xs) ≡ min n (length xs)
last_long n xs = length-drop (length xs - n) xs ∙ omega arith

-- after so many rounds all lines of a feeder have been offered
module _ (play : PlayJob) (count feeder : ℕ) (is : IsPlay play) (inside : feeder < play.feeders) where
  all_batches : length (feeder_lines count play.feeders feeder) ≤ feeding_rounds play count * play.batch
  all_batches =
      let least : 1 * 1 ≤ play.feeders * play.batch = mul-le 1 1 play.feeders play.batch is.feeders.0 is.batch.0 in
      batches_hold count play.feeders play.batch (feeding_rounds play count) feeder inside (ceil_enough count (play.feeders * play.batch) (omega (arith, least)))

  pub lines_within : (round : ℕ) → feeding_rounds play count ≤ round → length (feeder_lines count play.feeders feeder) ≤ round * play.batch
  lines_within round late =
      let most = all_batches in
      let rows : feeding_rounds play count * play.batch ≤ round * play.batch = mul-le (feeding_rounds play count) play.batch round play.batch late (omega arith) in
      omega (arith, most, rows)

module _ (play : PlayJob) (good : List Bool) (feeder : ℕ) where
  abbrev lines : List ℕ
  lines = feeder_lines (length good) play.feeders feeder

  -- the batches of the first rounds are the first lines
  first_batches : (rounds : ℕ) → in_rounds rounds (good_of_batch play good feeder) ≡ good_lines good (take (rounds * play.batch) lines)
  first_batches zero = let none : 0 * play.batch ≡ 0 = omega arith in sym (ap (λ (n : ℕ). good_lines good (take n lines)) none)
  first_batches (suc round) =
      let e : round + 1 ≡ suc round = omega arith in
      let passes : ℕ → Bool = λ i. get_or good i false in
      let parts : good_lines good (take ((round + 1) * play.batch) lines) ≡ good_lines good (take (round * play.batch) lines) ++ good_of_batch play good feeder round =
      ap (filter passes) (first_and_next lines play.batch round) ∙ filter-append passes (take (round * play.batch) lines) (batch_lines play (length good) round feeder) in
      let more = flat_more (good_of_batch play good feeder) [] (good_lines good (take (round * play.batch) lines)) (good_lines good (take ((round + 1) * play.batch) lines)) round
      (sym (first_batches round)) parts in
      subst (λ (m : ℕ). in_rounds m (good_of_batch play good feeder) ≡ good_lines good (take (m * play.batch) lines)) e (sym more)

  -- what is offered once more before a batch behind the first
  pub again_is : (round : ℕ) → again_lines play good (round + 1) feeder ≡ cond (has_batch play (length good) (round + 1) feeder) (last_items play.again (good_of_batch play good feeder round)) []
  again_is round =
      let before : round + 1 - 1 ≡ round = omega arith in
      let later : eqb (round + 1) 0 ≡ false = ne_eqb (round + 1) 0 (λ e. omega arith) in
      ap (λ (b : Bool). cond b [] (cond (has_batch play (length good) (round + 1) feeder) (last_items play.again (good_of_batch play good feeder (round + 1 - 1))) [])) later
      ∙ ap (λ (r : ℕ). cond (has_batch play (length good) (round + 1) feeder) (last_items play.again (good_of_batch play good feeder r)) []) before

  again_long : (round : ℕ) → length (again_lines play good (round + 1) feeder)
      ≡ cond (has_batch play (length good) (round + 1) feeder) (min play.again (length (good_of_batch play good feeder round))) 0
  again_long round =
      ap length (again_is round)
      ∙ (elim (has_batch play (length good) (round + 1) feeder) as (λ b. length (cond b (last_items play.again (good_of_batch play good feeder round)) []) ≡ cond b (min play.again (length (good_of_batch play good feeder round))) 0) [
        | true ↦ last_long play.again (good_of_batch play good feeder round)
        | false ↦ refl
      ])

  -- what holds of the lines of a batch that give an event holds of those that are offered once more
  pub all_again : (P : ℕ → Type 0) (round : ℕ) → All P (good_of_batch play good feeder round) → All P (again_lines play good (round + 1) feeder)
  all_again P round all = subst (All P) (sym (again_is round))
      (elim (has_batch play (length good) (round + 1) feeder) as (λ b. All P (cond b (last_items play.again (good_of_batch play good feeder round)) [])) [
        | true ↦ All-drop P (length (good_of_batch play good feeder round) - play.again) (good_of_batch play good feeder round) all
        | false ↦ All-nil P
      ])

  module _ (is : IsPlay play) (inside : feeder < play.feeders) where
    pub none_behind : (round : ℕ) → feeding_rounds play (length good) ≤ round → offered play good round feeder ≡ []
    none_behind round late =
        let past = lines_within play (length good) feeder is inside round late in
        let none : has_batch play (length good) round feeder ≡ false = le-ltb (round * play.batch) (length lines) past in
        let again : again_lines play good round feeder ≡ [] =
        ap (λ (b : Bool). cond (eqb round 0) [] (cond b (last_items play.again (good_of_batch play good feeder (round - 1))) [])) none
        ∙ (elim (eqb round 0) as (λ b. cond {A = List ℕ} b [] [] ≡ []) [ true ↦ refl | false ↦ refl ]) in
        ap (λ z. z ++ good_of_batch play good feeder round) again ∙ ap (good_lines good) (part_past lines (round * play.batch) play.batch past)

    pub all_offered : AreAllOffered play good feeder
    all_offered =
        let rounds = feeding_rounds play (length good) in
        let once : in_rounds rounds (good_of_batch play good feeder) ≡ good_of_feeder play good feeder =
        first_batches rounds ∙ ap (good_lines good) (take_all (rounds * play.batch) lines (all_batches play (length good) feeder is inside)) in
        record {
          once = once;
          count = both_long (λ round. again_lines play good round feeder) (good_of_batch play good feeder) (range_with_len 0 rounds)
              ∙ ap (λ z. length z + length (in_rounds rounds (λ round. again_lines play good round feeder))) once;
          again = again_long;
          behind = none_behind;
        }

-- ---- each line is one of just one feeder

module _ {X : Type 0} (p : X → Bool) where
  pub filtered : (xs : List X) (x : X) → Contains xs x → p x ≡ true → Contains (filter p xs) x
  filtered xs x there is = All-contains (λ y. p y ≡ true → Contains (filter p xs) y) xs x (each xs) there is
    where
      each : (xs : List X) → All (λ y. p y ≡ true → Contains (filter p xs) y) xs
      each [] = All-nil (λ y. p y ≡ true → Contains (filter p []) y)
      each (x ∷ xs) = All-cons (λ y. p y ≡ true → Contains (filter p (x ∷ xs)) y) x xs
          (λ is. subst (λ (b : Bool). Contains (cond b (x ∷ filter p xs) (filter p xs)) x) (sym is) (0, omega arith, refl))
          (All-weaker (λ y. p y ≡ true → Contains (filter p xs) y) (λ y. p y ≡ true → Contains (filter p (x ∷ xs)) y)
          (λ y had is. later y (had is)) xs (each xs))
        where
          later : (y : X) → Contains (filter p xs) y → Contains (filter p (x ∷ xs)) y
          later y there = elim (p x) as (λ b. Contains (cond b (x ∷ filter p xs) (filter p xs)) y) [
            | true ↦ Contains-append_right (x ∷ []) (filter p xs) y there
            | false ↦ there
          ]

  pub unfiltered : (xs : List X) (x : X) → Contains (filter p xs) x → Contains xs x
  unfiltered xs x there = All-contains (Contains xs) (filter p xs) x (All-filter p (Contains xs) xs (All-contains_itself xs)) there

  pub passed : (xs : List X) (x : X) → Contains (filter p xs) x → p x ≡ true
  passed xs x there = All-contains (λ y. p y ≡ true) (filter p xs) x (filter_passes p xs) there

pub number_there : (count i : ℕ) → i < count → Contains (range_with_len 0 count) i
number_there count i lt = (i, subst (λ (n : ℕ). i < n) (sym (length-range_with_len 0 count)) lt, get_or-range_with_len 0 count i i lt ∙ omega arith)

pub of_feeder : (count feeders i : ℕ) → Contains (range_with_len 0 count) i → Contains (feeder_lines count feeders (i % feeders)) i
of_feeder count feeders i there =
    filtered (λ (k : ℕ). eqb (k % feeders) (i % feeders)) (range_with_len 0 count) i there (eq-eqb (i % feeders) (i % feeders) refl)

pub feeder_is : (count feeders feeder i : ℕ) → Contains (feeder_lines count feeders feeder) i → feeder ≡ i % feeders
feeder_is count feeders feeder i there = sym (eqb-true (i % feeders) feeder (passed (λ (k : ℕ). eqb (k % feeders) feeder) (range_with_len 0 count) i there))

pub one_feeder : (play : PlayJob) (good : List Bool) (line : ℕ) → line < length good → get_or good line false ≡ true → IsOfOneFeeder play good line
one_feeder play good line lt is =
    let passes : ℕ → Bool = λ i. get_or good i false in
    let own = feeder_lines (length good) play.feeders (line % play.feeders) in (
      filtered passes own line (of_feeder (length good) play.feeders line (number_there (length good) line lt)) is,
      (λ feeder there. feeder_is (length good) play.feeders feeder line (unfiltered passes (feeder_lines (length good) play.feeders feeder) line there)),
    )
