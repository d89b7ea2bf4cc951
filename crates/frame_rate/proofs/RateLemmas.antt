-- Frames at a rate, by whole numbers.
use Rattle.std.proofs.Common.{◌≡◌, ℕ, ◌+◌, ◌-◌, ◌*◌, ◌/◌, ◌<◌, ◌≤◌, ◌⊎◌, inl, inr, arith}
use Rattle.std.specs.Int.{div_ceil}
use Rattle.std.proofs.Math.Nat.{div-mul-le_self, lt-div-mul-add, mul-le-mul_right}
use Rattle.std.proofs.lemmas.Bool.{cases_lt}
use Rattle.std.proofs.lemmas.Grind.{div_ceil_times}
use Rattle.frame_rate.specs.Rates.{CountedFramesComeBefore, FramesAreOnTime, StepsAreRates, frame_instant, frames_before}

pub frames_are_on_time : FramesAreOnTime
frames_are_on_time rate from i some =
    let time = 1000 * i * rate.seconds in
    let behind : from + time / rate.frames - from ≡ time / rate.frames = omega arith in
    rw behind (div-mul-le_self time rate.frames, (let more = lt-div-mul-add {a = 1000 * i * rate.seconds} {b = rate.frames} some in omega arith))

-- i is below x / y, rounded up, where i * y is below x
ceil-above : (x y i : ℕ) → 0 < y → i < div_ceil x y → i * y < x
ceil-above x y i some less =
    let times = div_ceil_times x y some in
    let more = mul-le-mul_right y less in
    omega (arith, times.1)

ceil-below : (x y i : ℕ) → 0 < y → i * y < x → i < div_ceil x y
ceil-below x y i some less = below (cases_lt i (div_ceil x y))
  where
    below : (i < div_ceil x y) ⊎ (div_ceil x y ≤ i) → i < div_ceil x y
    below (inl lower) = lower
    below (inr higher) = (let times = div_ceil_times x y some in let most = mul-le-mul_right y higher in absurd (omega (arith, times.0)))

-- the parts that are needed for x, where one part less doesn't do, are no more than any that do
pub ceil-least : (x y a b : ℕ) → 0 < y → a * y < x + y → x ≤ b * y → a ≤ b
ceil-least x y a b some few enough = least (cases_lt b a)
  where
    least : (b < a) ⊎ (a ≤ b) → a ≤ b
    least (inl more) = (let rows = mul-le-mul_right y more in absurd (omega (arith, few, enough)))
    least (inr most) = most

-- a quotient is below d where its number is below d * n
quotient-below : (a n d : ℕ) → 0 < n → a < d * n → a / n < d
quotient-below a n d some less = below (cases_lt (a / n) d)
  where
    below : (a / n < d) ⊎ (d ≤ a / n) → a / n < d
    below (inl lower) = lower
    below (inr higher) = (let low = div-mul-le_self a n in let most = mul-le-mul_right n higher in absurd (omega arith))

quotient-above : (a n d : ℕ) → 0 < n → a / n < d → a < d * n
quotient-above a n d some less =
    let high = lt-div-mul-add {a = a} {b = n} some in
    let most = mul-le-mul_right n less in
    omega arith

pub counted_frames_come_before : CountedFramesComeBefore
counted_frames_come_before rate from to i some time = (there, back)
  where
    there : i < frames_before rate from to → frame_instant rate from i < to
    there less =
        let before = ceil-above ((to - from) * rate.frames) (1000 * rate.seconds) i (omega (arith, time)) less in
        let early = quotient-below (1000 * i * rate.seconds) rate.frames (to - from) some (omega arith) in
        omega arith

    back : frame_instant rate from i < to → i < frames_before rate from to
    back less =
        let before = quotient-above (1000 * i * rate.seconds) rate.frames (to - from) some (omega arith) in
        ceil-below ((to - from) * rate.frames) (1000 * rate.seconds) i (omega (arith, time)) (omega arith)

-- rounding up a quotient of which both are multiplied by a thousand
same-parts : (x y a b : ℕ) → 0 < y → x * 1000 ≤ a * (1000 * y) → a * (1000 * y) < x * 1000 + 1000 * y → x ≤ b * y → b * y < x + y → a ≡ b
same-parts x y a b some least most enough few =
    let grouped : a * (1000 * y) ≡ 1000 * (a * y) = omega arith in
    let up : a ≤ b = ceil-least x y a b some (omega (arith, grouped, most)) enough in
    let down : b ≤ a = ceil-least x y b a some few (omega (arith, grouped, least)) in
    omega (arith, up, down)

same-ceil : (x y : ℕ) → 0 < y → div_ceil (x * 1000) (1000 * y) ≡ div_ceil x y
same-ceil x y some =
    let times = div_ceil_times (x * 1000) (1000 * y) (omega (arith, some)) in
    let wanted = div_ceil_times x y some in
    same-parts x y (div_ceil (x * 1000) (1000 * y)) (div_ceil x y) some times.0 times.1 wanted.0 wanted.1

pub steps_are_rates : StepsAreRates
steps_are_rates from to step i some =
    let whole : 1000 * i * step ≡ 1000 * (i * step) = omega arith in
    (rw whole (omega arith), same-ceil (to - from) step some)
