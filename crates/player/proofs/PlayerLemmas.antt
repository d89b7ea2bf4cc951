-- Sets of fonts with some more, and sizes that are one.
use Rattle.std.proofs.Common.{◌≡◌, true, ◌+◌, ◌≤◌, List, ◌++◌, length, length-append, sym, subst, arith}
use Rattle.std.specs.Prelude.{All}
use Rattle.std.specs.Cmp.{unsigned_Decides}
use Rattle.std.proofs.lemmas.List.Elements.{All-append}
use Rattle.ass_num.specs.contracts.size.SizePartialEq.TheImpl as size
use Rattle.ass_num.specs.declared.size.Size.{Size}
use Rattle.bdf_font.specs.Fonts.{FontValue}
use Rattle.bdf_font.specs.Limits.{max_fonts}
use Rattle.bdf_font.specs.Ranges.{IsFont}
use Rattle.mask_keys.specs.Outlines.{IsFontSet}

pub more_font_set : (fonts all more : List FontValue) → IsFontSet fonts → All IsFont more → length fonts + length more ≤ max_fonts → all ≡ fonts ++ more → IsFontSet all
more_font_set fonts all more set each few made = subst IsFontSet (sym made) (record {
  few = omega (arith, length-append fonts more, few);
  whole = All-append IsFont fonts more set.whole each;
})

-- sizes that are equal by `==` are one
pub size_same : (a b : Size) → size.ghosts.eq a b ≡ true → a ≡ b
size_same a b e = grind (arith, e, unsigned_Decides a.w b.w, unsigned_Decides a.h b.h)
