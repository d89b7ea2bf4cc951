use Rattle.std.proofs.Common.{FitsSigned, w64, to_z-of_z, refl, rules, arith}
use Rattle.std.proofs.lemmas.Int.{ints}
use Rattle.text_layout.proofs.BitLemmas.{place_bits}
use Rattle.text_layout.proofs.extents.char_extent.Goals as goal

pub returns-clause-value : goal.returns-clause-value
returns-clause-value c =
    let fits : FitsSigned w64 c.char_advance.result = search rules in
    let m = c.requires.metrics in
    rw (
      to_z-of_z fits,
      c.char_advance.ensures.value,
      place_bits c.args.metrics.now.ascent (omega (arith, ints, m.ascent), omega (arith, ints, m.ascent)),
      place_bits c.args.metrics.now.descent (omega (arith, ints, m.descent), omega (arith, ints, m.descent)),
    )
    refl
