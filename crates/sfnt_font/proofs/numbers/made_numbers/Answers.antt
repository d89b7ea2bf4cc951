use Rattle.std.proofs.Common.{arith, rules, FitsSigned, to_z-of_z, w32}
use Rattle.std.proofs.lemmas.Int.{ints}
use Rattle.sfnt_font.proofs.RangeLemmas.{max_height}
use Rattle.sfnt_font.proofs.numbers.made_numbers.Goals as goal

pub returns-clause-numbers : goal.returns-clause-numbers
returns-clause-numbers c =
    let up : FitsSigned w32 c.max.result = search rules in
    let down : FitsSigned w32 c.max-2.result = search rules in
    let up_fits : FitsSigned w32 c.font_heights-heights.result.up = search rules in
    let down_fits : FitsSigned w32 c.font_heights-heights.result.down = search rules in
    let ascent = rw (to_z-of_z up_fits) at c.max.ensures.value in
    let descent = rw (to_z-of_z down_fits) at c.max-2.ensures.value in
    record {
      ascent = rw (to_z-of_z up) (omega (arith, ints, c.max.ensures.other_bound));
      ascent_most = rw (to_z-of_z up, ascent) (max_height c.font_heights-heights.result.up c.font_heights-heights.ensures.up);
      descent = rw (to_z-of_z down) (omega (arith, ints, c.max-2.ensures.other_bound));
      descent_most = rw (to_z-of_z down, descent) (max_height c.font_heights-heights.result.down c.font_heights-heights.ensures.down);
      underline = c.underline_of.ensures.bar;
      strikeout = c.strikeout_of.ensures.bar;
      bold_step = omega (arith, c.max-3.ensures);
      bold_most = omega (arith, c.max-3.type_inv);
      weight = c.weight_of.ensures.weight;
    }
