use Rattle.std.proofs.Common.{◌≡◌, ◌∙◌, ℕ, ℤ, ap, to_z, of_z, to_z-of_z, refl}
use Rattle.ass_num.specs.Limits.{IsWithin}
use Rattle.cff_font.specs.Matrices.{area_behind, squared}
use Rattle.cff_font.specs.Reals.{max_decimal}
use Rattle.cff_font.proofs.RealLemmas.{decimal_fits}
use Rattle.cff_font.proofs.decimals.keeps_area.Goals as goal
use mir.Syntax.{w64}

squared_of : (z : ℤ) (n : ℕ) → IsWithin max_decimal z → n ≡ squared (to_z w64 (of_z w64 z)) → n ≡ squared z
squared_of z n within is = is ∙ ap squared (to_z-of_z (decimal_fits z within))

pub returns : goal.returns
returns c =
    let area : c.area_behind.result ≡ area_behind c.args.m = c.area_behind.ensures.value in
    rw (
      squared_of c.args.m.xx _ c.requires.xx c.squared.ensures.value,
      squared_of c.args.m.yx _ c.requires.yx c.squared-2.ensures.value,
      squared_of c.args.m.xy _ c.requires.xy c.squared-3.ensures.value,
      squared_of c.args.m.yy _ c.requires.yy c.squared-4.ensures.value,
      area,
    ) refl
