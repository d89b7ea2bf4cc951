-- Public: the sine and the cosine of an angle in thousandths of a degree, in ten-thousandths.
use Rattle.std.specs.Prelude.{ℕ, ◌+◌, ◌-◌, ◌*◌, ◌/◌, ◌%◌, nat_le, if◌then◌else◌, List, [], ◌∷◌, slice_index, ℤ, pos, neg_ℤ, ◌+ℤ◌}
use Rattle.std.specs.Int.{int_rem_euclid}
use Rattle.std.specs.Int.RustNames.{unsigned_abs}

-- the largest sine: 1 in ten-thousandths
abbrev pub max_sine : ℕ
max_sine = 10000

-- the sines of 0 to 90 whole degrees
unfoldable pub sines : List ℕ
sines =
    0 ∷ 175 ∷ 349 ∷ 523 ∷ 698 ∷ 872 ∷ 1045 ∷ 1219 ∷ 1392 ∷ 1564 ∷
    1736 ∷ 1908 ∷ 2079 ∷ 2250 ∷ 2419 ∷ 2588 ∷ 2756 ∷ 2924 ∷ 3090 ∷ 3256 ∷
    3420 ∷ 3584 ∷ 3746 ∷ 3907 ∷ 4067 ∷ 4226 ∷ 4384 ∷ 4540 ∷ 4695 ∷ 4848 ∷
    5000 ∷ 5150 ∷ 5299 ∷ 5446 ∷ 5592 ∷ 5736 ∷ 5878 ∷ 6018 ∷ 6157 ∷ 6293 ∷
    6428 ∷ 6561 ∷ 6691 ∷ 6820 ∷ 6947 ∷ 7071 ∷ 7193 ∷ 7314 ∷ 7431 ∷ 7547 ∷
    7660 ∷ 7771 ∷ 7880 ∷ 7986 ∷ 8090 ∷ 8192 ∷ 8290 ∷ 8387 ∷ 8480 ∷ 8572 ∷
    8660 ∷ 8746 ∷ 8829 ∷ 8910 ∷ 8988 ∷ 9063 ∷ 9135 ∷ 9205 ∷ 9272 ∷ 9336 ∷
    9397 ∷ 9455 ∷ 9511 ∷ 9563 ∷ 9613 ∷ 9659 ∷ 9703 ∷ 9744 ∷ 9781 ∷ 9816 ∷
    9848 ∷ 9877 ∷ 9903 ∷ 9925 ∷ 9945 ∷ 9962 ∷ 9976 ∷ 9986 ∷ 9994 ∷ 9998 ∷
    10000 ∷ []

-- The sine from 0 to 90,000: between whole degrees it rises evenly, and is rounded down.
abbrev pub quarter_sine : ℕ → ℕ
quarter_sine m =
    let below = slice_index sines (m / 1000) in
    let above = slice_index sines (m / 1000 + 1) in
    below + (above - below) * (m % 1000) / 1000

-- the sine from 0 to 360,000 by that of the first quarter
abbrev pub turn_sine : ℕ → ℤ
turn_sine m =
    if nat_le m 90000 then pos (quarter_sine m)
    else (if nat_le m 180000 then pos (quarter_sine (180000 - m))
    else (if nat_le m 270000 then neg_ℤ (pos (quarter_sine (m - 180000)))
    else neg_ℤ (pos (quarter_sine (360000 - m)))))

-- the sine of any angle
unfoldable pub sine_of : ℤ → ℤ
sine_of m = turn_sine (unsigned_abs (int_rem_euclid m (pos 360000)))

-- the cosine of any angle
abbrev pub cosine_of : ℤ → ℤ
cosine_of m = sine_of (m +ℤ pos 90000)
