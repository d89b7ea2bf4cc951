use Rattle.std.proofs.Common.{◌≡◌, ◌∙◌, ℤ, ◌+ℤ◌, ap, ap₂, FitsSigned, w64, to_z-of_z, rules, arith}
use Rattle.std.proofs.lemmas.Int.{ints}
use Rattle.ass_num.specs.Limits.{IsWithin}
use Rattle.ass_num.proofs.LimitLemmas.{IsWithin-wider}
use Rattle.text_layout.specs.Limits.{max_block_place, max_framed}
use Rattle.text_layout.specs.Metrics.{held_extent}
use Rattle.text_layout.proofs.BitLemmas.{bits_64, bits_128, framed_bits, long_place_bits}
use Rattle.text_layout.proofs.extents.char_advance.Goals as goal

-- a sum of two lengths in 128 bits, the second of which came from 64 bits
sum_bits : (p s r : ℤ) → IsWithin max_framed p → IsWithin max_framed s → r ≡ bits_64 s → bits_128 (bits_128 p +ℤ bits_128 r) ≡ p +ℤ s
sum_bits p s r h k is =
    let x = long_place_bits p (IsWithin-wider max_framed max_block_place p (omega arith) h) in
    let y : bits_128 r ≡ s = ap bits_128 (is ∙ framed_bits s k) ∙ long_place_bits s (IsWithin-wider max_framed max_block_place s (omega arith) k) in
    ap bits_128 (ap₂ ◌+ℤ◌ x y) ∙ long_place_bits (p +ℤ s) (omega (arith, ints, h, k), omega (arith, ints, h, k))

pub returns-clause-value : goal.returns-clause-value
returns-clause-value c =
    let found = c.found_advance-advance in
    let sum = sum_bits found.result c.spacing_behind.result c.from.result found.ensures.within c.spacing_behind.ensures.within c.from.ensures in
    let fits : FitsSigned w64 c.held_extent.result = search rules in
    to_z-of_z fits ∙ c.held_extent.ensures.value ∙ ap held_extent (sum ∙ ap₂ ◌+ℤ◌ found.ensures.value c.spacing_behind.ensures.value)
