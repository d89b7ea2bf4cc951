-- The places of the instants that painters have in a round.
use Rattle.std.proofs.Common.{◌≡◌, ℕ, ◌+◌, ◌-◌, ◌*◌, ◌/◌, ◌<◌, ◌≤◌, min, true, false, cond, eqb, ap, ◌∙◌, arith, add-mul, le_refl, lt_of_not-le, mul_comm}
use Rattle.std.specs.Int.{div_ceil}
use Rattle.std.specs.Prelude.{nat_lt}
use Rattle.std.proofs.lemmas.Nat.{div-add-mod', div-mul-add, le-div, mul-le}
use mathlib.Core.Logic.{dite}
use native.Mathlib.Decide.{dec_le}
use Rattle.ass_num.specs.declared.size.Size.{Size}
use Rattle.run_words.specs.Jobs.{IsFrame, IsPlay}
use Rattle.run_words.specs.Limits.{max_workers}
use Rattle.run_words.specs.declared.job.Mode.{Mode}
use Rattle.run_words.specs.declared.job.Mode.TheVariants.{Live, Settled}
use Rattle.run_words.specs.declared.job.PlayJob.{PlayJob}
use Rattle.play_shares.specs.Instants.{instant_count}
use Rattle.play_shares.specs.Limits.{max_frames, max_painters, max_round_images, max_round_pixels, max_share_pixels}
use Rattle.play_shares.specs.Renderers.{each_in, first_place, images_each, images_in, images_that_fit, painter_count, painters_in, share_pixels}
use Rattle.play_shares.proofs.InstantLemmas.{ceil_enough}

-- the first place of a round
pub round_fits : (round painters each : ℕ) → round ≤ max_frames → painters ≤ max_painters → each ≤ max_round_images → round * (painters * each) ≤ max_frames * (max_painters * max_round_images)
round_fits round painters each low few small =
    mul-le round (painters * each) max_frames (max_painters * max_round_images) low (mul-le painters each max_painters max_round_images few small)

-- how far a painter is behind it
pub share_fits : (painter images : ℕ) → painter ≤ max_painters → images ≤ max_round_images → painter * images ≤ max_painters * max_round_images
share_fits painter images few small = mul-le painter images max_painters max_round_images few small

-- how many painters there are
pub painters_fit : (renderers each : ℕ) → renderers ≤ max_workers → each ≤ max_round_images → renderers * each ≤ max_painters
painters_fit renderers each few small = mul-le renderers each max_workers max_round_images few small

pub painters_many : (renderers each : ℕ) → 1 ≤ each → renderers ≤ renderers * each
painters_many renderers each least = let all : renderers * 1 ≤ renderers * each = mul-le renderers 1 renderers each (le_refl renderers) least in omega (arith, all)

pub painters_some : (renderers each : ℕ) → 1 ≤ renderers → 1 ≤ each → 1 ≤ renderers * each
painters_some renderers each some least = let all : 1 * 1 ≤ renderers * each = mul-le 1 1 renderers each some least in omega (arith, all)

frame_has_pixels : (size : Size) → IsFrame size → 0 < size.w * size.h
frame_has_pixels size is = let least : 1 * 1 ≤ size.w * size.h = mul-le 1 1 size.w size.h is.0.0 is.1.0 in omega (arith, least)

-- in more pixels no fewer images fit
more_in : (few many each : ℕ) → 0 < each → few ≤ many → few / each ≤ many / each
more_in few many each some le = le-div (few / each) many each some (let split = div-add-mod' few each in omega (arith, split, le))

more_fit : (few many : ℕ) (size : Size) → 0 < size.w * size.h → few ≤ many → images_that_fit few size ≤ images_that_fit many size
more_fit few many size some le = let more = more_in few many (size.w * size.h) some le in omega (arith, more)

-- a share is no larger than a round
share_fits_round : (play : PlayJob) → share_pixels play ≤ max_round_pixels
share_fits_round play = elim (eqb play.renderers 1) as (λ b. cond b max_round_pixels max_share_pixels ≤ max_round_pixels) [
  | true ↦ omega arith
  | false ↦ omega arith
]

pub fitting_more : (play : PlayJob) → IsPlay play → (part all : ℕ) → part ≡ images_that_fit (share_pixels play) play.size → all ≡ images_that_fit max_round_pixels play.size → part ≤ all
fitting_more play is part all part_is all_is =
    let more = more_fit (share_pixels play) max_round_pixels play.size (frame_has_pixels play.size is.size) (share_fits_round play) in omega (arith, more, part_is, all_is)

pub some_of : (all part : ℕ) → 1 ≤ part → part ≤ all → 1 ≤ all / part
some_of all part some le = le-div 1 all part some (omega (arith, le))

pub few_of : (all part most : ℕ) → 1 ≤ part → all ≤ most → all / part ≤ most
few_of all part most some few =
    let split = div-add-mod' all part in let least : all / part * 1 ≤ all / part * part = mul-le (all / part) 1 (all / part) part (omega arith) some in
    omega (arith, split, least, few)

-- ---- numbers

least_left : (m n : ℕ) → m ≤ n → min m n ≡ m
least_left m n le = omega (arith, le)

least_right : (m n : ℕ) → n < m → min m n ≡ n
least_right m n lt = omega (arith, lt)

least_few : (m n : ℕ) → min m n ≤ n
least_few m n = omega arith

times_one : (n : ℕ) → n * 1 ≡ n
times_one n = omega arith

nothing_of : (n : ℕ) → 0 * n ≡ 0
nothing_of n = omega arith

least_none : (n c : ℕ) → n ≡ 0 → 0 ≡ min n c
least_none n c none = omega (arith, none)

reaches : (a c own all : ℕ) → c - a ≤ all → own ≡ all → c ≤ a + own
reaches a c own all enough is = omega (arith, enough, is)

ends_last : (a next own all c : ℕ) → next ≡ a + all → own ≤ all → c ≤ a + own → min (a + own) c ≡ min next c
ends_last a next own all c row few past = omega (arith, row, few, past)

ends_full : (a next own all c : ℕ) → next ≡ a + all → own ≡ all → min (a + own) c ≡ min next c
ends_full a next own all c row same = omega (arith, row, same)

just_one : (n m k : ℕ) → n ≤ m → m ≡ 1 → k < n → n ≡ 1
just_one n m k few one lt = omega (arith, few, one, lt)

one_place : (first row own p n k : ℕ) → first ≡ row → own ≡ p → n ≡ 1 → k < n → first + own + k ≡ row + p
one_place first row own p n k rows is one lt = omega (arith, rows, is, one, lt)

-- a place among those of a painter
pub within_share : (a e c k : ℕ) → k < min (a + e) c - a → k < e
within_share a e c k lt = omega (arith, lt)

pub inside_all : (place a c end : ℕ) → place < end → end ≡ min a c → place < c
inside_all place a c end lt is = omega (arith, lt, is)

pub all_reached : (n m c : ℕ) → c ≤ m → m ≤ n → min n c ≡ c
all_reached n m c enough more = omega (arith, enough, more)

pub first_begins : (a e : ℕ) → a ≡ a + 0 * e
first_begins a e = omega arith

-- ---- rounds

some_in : (mode : Mode) (play : PlayJob) → 0 < each_in mode play
some_in Live play = omega arith
some_in Settled play = elim (nat_lt 0 play.ahead) as (λ b. 0 < cond b 1 (images_that_fit (share_pixels play) play.size)) [
  | true ↦ omega arith
  | false ↦ omega arith
]

some_painters_in : (mode : Mode) (play : PlayJob) → 0 < play.size.w * play.size.h → 0 < painters_in mode play
some_painters_in Live play some = omega arith
some_painters_in Settled play some = elim (nat_lt 0 play.ahead) as (λ b. 0 < cond b 1 (images_that_fit max_round_pixels play.size / images_that_fit (share_pixels play) play.size)) [
  | true ↦ omega arith
  | false ↦ some_of (images_that_fit max_round_pixels play.size) (images_that_fit (share_pixels play) play.size) (omega arith) (more_fit (share_pixels play) max_round_pixels play.size some (share_fits_round play))
]

few_painters_in : (mode : Mode) (play : PlayJob) → painters_in mode play ≤ max_round_images
few_painters_in Live play = omega arith
few_painters_in Settled play = elim (nat_lt 0 play.ahead) as (λ b. cond b 1 (images_that_fit max_round_pixels play.size / images_that_fit (share_pixels play) play.size) ≤ max_round_images) [
  | true ↦ omega arith
  | false ↦ few_of (images_that_fit max_round_pixels play.size) (images_that_fit (share_pixels play) play.size) max_round_images (omega arith) (omega arith)
]

module _ (play : PlayJob) where
  abbrev painters : ℕ
  painters = painter_count play

  pub some_painters : IsPlay play → 0 < painters
  some_painters is =
      let frame : 0 < play.size.w * play.size.h = frame_has_pixels play.size is.size in
      painters_some play.renderers (painters_in play.mode play) is.renderers.0 (some_painters_in play.mode play frame)

  pub few_painters : IsPlay play → painters ≤ max_painters
  few_painters is = painters_fit play.renderers (painters_in play.mode play) is.renderers.1 (few_painters_in play.mode play)

  pub some_each : 0 < images_each play
  some_each = some_in play.mode play

  live_each : play.mode ≡ Live → images_each play ≡ 1
  live_each live = ap (λ (mode : Mode). each_in mode play) live

  pub live_painters : play.mode ≡ Live → painters ≡ play.renderers
  live_painters live = ap (λ (mode : Mode). play.renderers * painters_in mode play) live ∙ times_one play.renderers

  -- so many images are made in a round but the last
  pub some_images : 0 < painters → 0 < painters * images_each play
  some_images some = let least : 1 * 1 ≤ painters * images_each play = mul-le 1 1 painters (images_each play) some some_each in omega (arith, least)

  -- nothing is made before the first round
  pub none_before : 0 ≡ min (first_place play 0) (instant_count play)
  none_before = least_none (first_place play 0) (instant_count play) (nothing_of (painters * images_each play))

  module _ (round : ℕ) where
    abbrev left : ℕ
    left = div_ceil (instant_count play - first_place play round) painters

    next_row : (n : ℕ) → (round + 1) * n ≡ round * n + n
    next_row n = add-mul round 1 n ∙ omega arith

    next_place : first_place play (round + 1) ≡ first_place play round + painters * images_each play
    next_place = next_row (painters * images_each play)

    -- where the last painter of a round ends, the next round begins, or all is made
    pub round_ends : 0 < painters → min (first_place play round + painters * images_in play round) (instant_count play) ≡ min (first_place play (round + 1)) (instant_count play)
    round_ends some = dite (dec_le left (images_each play))
        (λ last.
        let own : painters * images_in play round ≡ left * painters =
        ap (λ (n : ℕ). painters * n) (least_left left (images_each play) last) ∙ mul_comm painters left in
        ends_last (first_place play round) (first_place play (round + 1)) (painters * images_in play round) (painters * images_each play) (instant_count play) next_place
        (mul-le painters (images_in play round) painters (images_each play) (le_refl painters) (least_few left (images_each play)))
        (reaches (first_place play round) (instant_count play) (painters * images_in play round) (left * painters) (ceil_enough (instant_count play - first_place play round) painters some) own))
        (λ no.
        ends_full (first_place play round) (first_place play (round + 1)) (painters * images_in play round) (painters * images_each play) (instant_count play) next_place
        (ap (λ (n : ℕ). painters * n) (least_right left (images_each play) (lt_of_not-le no))))

    -- live, a painter has the place of the round and its number
    pub live_place : (p k : ℕ) → play.mode ≡ Live → p < painters → k < images_in play round → (first_place play round + p * images_in play round + k) / play.renderers ≡ round
    live_place p k live inside lt =
        let one = live_each live in let all = live_painters live in
        let is : images_in play round ≡ 1 = just_one (images_in play round) (images_each play) k (least_few left (images_each play)) one lt in
        let rows : first_place play round ≡ round * play.renderers = ap (λ (n : ℕ). round * n) (ap (λ (n : ℕ). painters * n) one ∙ (times_one painters ∙ all)) in
        let own : p * images_in play round ≡ p = ap (λ (n : ℕ). p * n) is ∙ times_one p in
        ap (λ (n : ℕ). n / play.renderers) (one_place (first_place play round) (round * play.renderers) (p * images_in play round) p (images_in play round) k rows own is lt)
        ∙ div-mul-add round play.renderers p (omega (arith, inside, all))
