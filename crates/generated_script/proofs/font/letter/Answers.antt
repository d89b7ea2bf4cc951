use Rattle.std.proofs.Common.{◌≡◌, ◌∙◌, ◌+◌, ap₂, pos, ◌+ℤ◌, FitsSigned, w64, to_z, of_z, to_z-of_z, rules, arith}
use Rattle.std.proofs.lemmas.Int.{ints}
use Rattle.bdf_font.specs.Pixels.{bitmap_glyph}
use Rattle.generated_script.specs.Grid.{pixels}
use Rattle.generated_script.proofs.GridLemmas.{letter_bitmap}
use Rattle.generated_script.proofs.font.letter.Goals as goal

pub of_pixels-requires : goal.of_pixels-requires
of_pixels-requires c = rw c.in_ok-bits.ensures (letter_bitmap c.args.n)

code_is : (c : goal.After-of_pixels) → to_z w64 (of_z w64 (pos 97 +ℤ to_z w64 (of_z w64 c.from.result))) ≡ pos (97 + c.args.n)
code_is c =
    let n : c.from.result ≡ pos c.args.n = omega (arith, ints, c.from.ensures) in
    let from : FitsSigned w64 c.from.result = search rules in
    let sum : FitsSigned w64 (pos 97 +ℤ pos c.args.n) = omega (arith, ints, c.requires) in
    rw (to_z-of_z from, n, to_z-of_z sum) (omega (arith, ints))

pub returns : goal.returns
returns c = c.of_pixels.ensures ∙ ap₂ (λ code bits. bitmap_glyph code (pos 6) (pixels 5 7 bits)) (code_is c) c.in_ok-bits.ensures
