-- Public: what the movement, the fade and the transforms of an event come to at an instant (docs/TAGS.md).
-- Times are in milliseconds from the event's start, points in thousandths. A weight is in 65,536ths, an alpha from 0 (opaque) to 255.
use Rattle.std.specs.Prelude.{ℕ, ◌+◌, ◌-◌, ◌*◌, ◌/◌, ℤ, pos, ◌+ℤ◌, ◌-ℤ◌, ◌*ℤ◌, ◌≤ℤ◌, ◌&&◌, int_lt, int_le, List, Option, None, Some, slice_index_or, if◌then◌else◌}
use Rattle.std.specs.Int.{int_max, int_min}
use Rattle.std.specs.Int.RustNames.{unsigned_abs}
use Rattle.ass_num.specs.Floor.{floor_div, held}
use Rattle.ass_num.specs.Limits.{one_16}
use Rattle.ass_num.specs.Powers.{power_of}

-- the number that has gone `part` of the `whole` way from `old` to `new`, rounded down
abbrev pub between : ℤ → ℤ → ℤ → ℤ → ℤ
between old new part whole = old +ℤ floor_div ((new -ℤ old) *ℤ part) whole

-- The number lies between the two others, or is one of them.
abbrev pub IsBetween : ℤ → ℤ → ℤ → Type 0
IsBetween a b x = (int_min a b ≤ℤ x) × (x ≤ℤ int_max a b)

-- the number that goes evenly from `old` to `new` while the time goes from `begin` to `end`
abbrev pub at_time : ℤ → ℤ → ℤ → ℤ → ℤ → ℤ
at_time old new begin end elapsed = between old new (elapsed -ℤ begin) (end -ℤ begin)

-- what of the time from `begin` to `end` has passed, in 65,536ths
abbrev pub share : ℤ → ℤ → ℤ → ℕ
share begin end elapsed = unsigned_abs (at_time (pos 0) (pos one_16) begin end elapsed)

-- ---- transforms (\t)

-- the weight of a transform from t1 to t2, whose speed is in quarters
abbrev pub weight_at : ℤ → ℤ → ℕ → ℤ → ℕ
weight_at t1 t2 quarters elapsed =
    if int_lt elapsed t1 then 0 else
    (if int_le t2 elapsed then one_16 else
    power_of (share t1 t2 elapsed) quarters)

-- The weight of a transform in an event of a duration. Without times it goes from the event's start to its end.
abbrev pub transform_weight : Option (ℤ × ℤ) → ℤ → ℕ → ℤ → ℕ
transform_weight None duration quarters elapsed = weight_at (pos 0) duration quarters elapsed
transform_weight (Some times) duration quarters elapsed = weight_at times.0 times.1 quarters elapsed

-- a number that a transform of this weight moves from `old` towards `new`
abbrev pub moved : ℤ → ℤ → ℕ → ℤ
moved old new weight = between old new (pos weight) (pos one_16)

-- ---- movements (\move)

-- The times of a movement: where both are at most 0 they are 0 and the duration,
abbrev pub given_times : ℤ → ℤ → ℤ → ℤ × ℤ
given_times t1 t2 duration = if int_le t1 (pos 0) && int_le t2 (pos 0) then (pos 0, duration) else (t1, t2)

-- and where the first is the later one they change places.
abbrev pub in_order : ℤ × ℤ → ℤ × ℤ
in_order times = if int_lt times.1 times.0 then (times.1, times.0) else times

abbrev pub move_weight : ℤ × ℤ → ℤ → ℕ
move_weight times elapsed =
    if int_le elapsed times.0 then 0 else
    (if int_le times.1 elapsed then one_16 else
    share times.0 times.1 elapsed)

-- the number at place k of a list
abbrev pub nth : List ℤ → ℕ → ℤ
nth numbers k = slice_index_or numbers k (pos 0)

-- the point between (x1, y1) and (x2, y2), which are the path's four numbers in this order
abbrev pub moved_point : List ℤ → ℕ → ℤ × ℤ
moved_point path weight = (moved (nth path 0) (nth path 2) weight, moved (nth path 1) (nth path 3) weight)

abbrev pub move_at : List ℤ → ℤ → ℤ → ℤ → ℤ → ℤ × ℤ
move_at path t1 t2 duration elapsed = moved_point path (move_weight (in_order (given_times t1 t2 duration)) elapsed)

-- ---- fades (\fad, \fade)

abbrev pub held_alpha : ℤ → ℤ
held_alpha a = held (pos 0) (pos 255) a

-- a1, on the way to a2 from t1 to t2, a2, on the way to a3 from t3 to t4, a3
abbrev pub fade_by : ℤ → ℤ → ℤ → ℤ → ℤ → ℤ → ℤ → ℤ → ℤ
fade_by a1 a2 a3 t1 t2 t3 t4 elapsed =
    if int_lt elapsed t1 then a1 else
    (if int_lt elapsed t2 then at_time a1 a2 t1 t2 elapsed else
    (if int_lt elapsed t3 then a2 else
    (if int_lt elapsed t4 then at_time a2 a3 t3 t4 elapsed else
    a3)))

-- the fade whose seven numbers are three alphas and four times
abbrev pub fade_at : List ℤ → ℤ → ℤ
fade_at f elapsed =
    fade_by (held_alpha (nth f 0)) (held_alpha (nth f 1)) (held_alpha (nth f 2)) (nth f 3) (nth f 4) (nth f 5) (nth f 6) elapsed

-- the fade in and out of an event of a duration
abbrev pub fad_at : ℤ → ℤ → ℤ → ℤ → ℤ
fad_at fade_in fade_out duration elapsed = fade_by (pos 255) (pos 0) (pos 255) (pos 0) fade_in (duration -ℤ fade_out) duration elapsed

-- an alpha under a fade: what is left of its opacity, in 255ths, rounded
abbrev pub faded : ℕ → ℕ → ℕ
faded alpha fade = 255 - ((255 - alpha) * (255 - fade) + 127) / 255
