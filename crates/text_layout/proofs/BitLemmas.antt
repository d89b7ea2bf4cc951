-- Numbers in the bits that hold them.
use Rattle.std.proofs.Common.{◌≡◌, ◌∙◌, ℕ, ℤ, ap, FitsSigned, w32, w64, to_z, of_z, to_z-of_z, arith}
use Rattle.std.proofs.lemmas.Int.{ints}
use Rattle.ass_num.specs.Limits.{IsHeldNumber, IsWithin, max_held, max_whole}
use Rattle.ass_num.proofs.LimitLemmas.{IsWithin-wider}
use Rattle.frame_view.specs.FrameScales.{magnified}
use Rattle.outline_points.proofs.Bounds.{scale_within}
use Rattle.outline_points.specs.Limits.{max_scale}
use Rattle.outline_points.specs.Placing.{IsScale}
use Rattle.text_layout.specs.Limits.{max_framed, max_block_place}
use mir.Syntax.{w128}

-- the number that 32 bits hold, and those that 64 and 128 bits hold
abbrev pub bits_32 : ℤ → ℤ
bits_32 z = to_z w32 (of_z w32 z)

abbrev pub bits_64 : ℤ → ℤ
bits_64 z = to_z w64 (of_z w64 z)

abbrev pub bits_128 : ℤ → ℤ
bits_128 z = to_z w128 (of_z w128 z)

pub whole_bits : (z : ℤ) → IsWithin max_whole z → bits_32 z ≡ z
whole_bits z h = let f : FitsSigned w32 z = omega (arith, ints) in to_z-of_z f

pub place_bits : (z : ℤ) → IsWithin max_block_place z → bits_64 z ≡ z
place_bits z h = let f : FitsSigned w64 z = omega (arith, ints) in to_z-of_z f

pub framed_bits : (z : ℤ) → IsWithin max_framed z → bits_64 z ≡ z
framed_bits z h = place_bits z (IsWithin-wider max_framed max_block_place z (omega arith) h)

pub held_bits : (z : ℤ) → IsHeldNumber z → bits_64 z ≡ z
held_bits z h = place_bits z (IsWithin-wider max_held max_block_place z (omega arith) h)

-- a number at a size of letters
pub magnified_bits : (letter_scale : ℕ) (number r : ℤ) → IsHeldNumber number → IsHeldNumber r → r ≡ magnified letter_scale (bits_64 number) → bits_64 r ≡ magnified letter_scale number
magnified_bits letter_scale number r h k is = held_bits r k ∙ is ∙ ap (magnified letter_scale) (held_bits number h)

pub scale_bits : (z : ℤ) → IsScale z → bits_64 z ≡ z
scale_bits z h = place_bits z (IsWithin-wider max_scale max_block_place z (omega arith) (scale_within z h))

pub long_place_bits : (z : ℤ) → IsWithin max_block_place z → bits_128 z ≡ z
long_place_bits z h = let f : FitsSigned w128 z = omega (arith, ints) in to_z-of_z f
