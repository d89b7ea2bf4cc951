use Rattle.std.proofs.Common.{ℕ, ◌<◌, length, Option, sym, subst}
use Rattle.std.specs.Prelude.{IfSome}
use Rattle.bdf_font.proofs.PlaceLemmas.{glyph_within}
use Rattle.bdf_font.proofs.font.glyph.Goals as goal

pub returns-clause-within : goal.returns-clause-within
returns-clause-within c =
    let P : Option ℕ → Type 0 = λ o. IfSome o (λ k. k < length c.args.font.now.glyphs) in
    subst P (sym c.place_of.ensures) (glyph_within c.args.font.now c.args.c)
