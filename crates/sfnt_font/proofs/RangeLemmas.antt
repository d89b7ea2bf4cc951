-- The ranges of what a font's bytes say.
use Rattle.std.proofs.Common.{ℕ, ◌+◌, ◌<◌, ◌≤◌, List, ℤ, pos, neg_ℤ, ◌+ℤ◌, ◌≤ℤ◌, ◌<ℤ◌, arith}
use Rattle.std.specs.Int.{int_max}
use Rattle.std.proofs.lemmas.Int.{ints}
use Rattle.ass_num.specs.Floor.{floor_div}
use Rattle.ass_num.specs.Limits.{IsWithin}
use Rattle.ass_num.proofs.Floor.{floor_div_within}
use Rattle.font_bytes.specs.Bytes.{u8_at, u16_at}
use Rattle.sfnt_font.specs.Numbers.{bar_at, IsHeight, IsFontBar}

pub u16_at-most : (bytes : List ℕ) → ((i : ℕ) → u8_at bytes i < 256) → (i : ℕ) → u16_at bytes i ≤ 65535
unfolding u16_at
u16_at-most bytes fits i = omega (arith, fits i, fits (i + 1))

-- ---- bars and heights

bar_top : (middle size : ℤ) → IsHeight middle → IsHeight size → IsWithin 65536 (neg_ℤ (middle +ℤ floor_div size (pos 2)))
bar_top middle size h k =
    let half : (neg_ℤ (pos 32768) ≤ℤ floor_div size (pos 2)) × (floor_div size (pos 2) ≤ℤ pos 32768) =
    floor_div_within (neg_ℤ (pos 32768)) (pos 32768) size 2 (omega arith) (omega (arith, ints, k.0)) (omega (arith, ints, k.1)) in
    (omega (arith, ints, h.1, half.1), omega (arith, ints, h.0, half.0))

pub is_bar : (middle size : ℤ) → IsHeight middle → IsHeight size → pos 0 <ℤ size → IsFontBar (bar_at middle size)
is_bar middle size h k above = record { top = bar_top middle size h k; size = omega (arith, ints, above); size_most = omega (arith, ints, k.1) }

pub max_height : (z : ℤ) → IsHeight z → int_max z (pos 0) ≤ℤ pos 32768
max_height z h = grind (arith, ints, h.1)
