use Rattle.std.proofs.Common.{◌≡◌, ◌<◌, pos, ◌+ℤ◌, w32, w64, to_z, of_z, ◌∙◌, arith, rules}
use Rattle.std.proofs.lemmas.Int.{to_z-of_z}
use Rattle.std.specs.Int.{int_min, int_max}
use Rattle.std.specs.Int.RustNames.{FitsSigned}
use Rattle.mask_cover.proofs.ExtentLemmas.{joined_both, joined_short}
use Rattle.mask_cover.proofs.extent.joined.Goals as goal

pub len_to-requires-clause-short : goal.len_to-requires-clause-short
len_to-requires-clause-short c =
    let a_is : to_z w32 (of_z w32 c.args.a) ≡ c.args.a = to_z-of_z w32 c.args.a (search rules) in
    let b_is : to_z w32 (of_z w32 c.args.b) ≡ c.args.b = to_z-of_z w32 c.args.b (search rules) in
    let from_fits : FitsSigned w32 c.min-from.result = search rules in
    let end_fits : FitsSigned w64 c.end_of.result = search rules in
    let other_fits : FitsSigned w64 c.end_of-2.result = search rules in
    let to_fits : FitsSigned w64 c.max-to.result = search rules in
    let least : to_z w32 (of_z w32 c.min-from.result) ≡ int_min c.args.a c.args.b = to_z-of_z w32 c.min-from.result from_fits ∙ rw (a_is, b_is) at c.min-from.ensures.value in
    let most : to_z w64 (of_z w64 c.max-to.result) ≡ int_max (c.args.a +ℤ pos c.args.a_len) (c.args.b +ℤ pos c.args.b_len) =
    to_z-of_z w64 c.max-to.result to_fits ∙ rw (to_z-of_z w64 c.end_of.result end_fits, to_z-of_z w64 c.end_of-2.result other_fits, c.end_of.ensures, c.end_of-2.ensures, a_is, b_is) at c.max-to.ensures.value in
    rw (least, most) (joined_short c.args.a c.args.b c.args.a_len c.args.b_len c.requires.first c.requires.second)

pub returns : goal.returns
returns c =
    let a_is : to_z w32 (of_z w32 c.args.a) ≡ c.args.a = to_z-of_z w32 c.args.a (search rules) in
    let b_is : to_z w32 (of_z w32 c.args.b) ≡ c.args.b = to_z-of_z w32 c.args.b (search rules) in
    let from_fits : FitsSigned w32 c.min-from.result = search rules in
    let end_fits : FitsSigned w64 c.end_of.result = search rules in
    let other_fits : FitsSigned w64 c.end_of-2.result = search rules in
    let to_fits : FitsSigned w64 c.max-to.result = search rules in
    let least : to_z w32 (of_z w32 c.min-from.result) ≡ int_min c.args.a c.args.b = to_z-of_z w32 c.min-from.result from_fits ∙ rw (a_is, b_is) at c.min-from.ensures.value in
    let most : to_z w64 (of_z w64 c.max-to.result) ≡ int_max (c.args.a +ℤ pos c.args.a_len) (c.args.b +ℤ pos c.args.b_len) =
    to_z-of_z w64 c.max-to.result to_fits ∙ rw (to_z-of_z w64 c.end_of.result end_fits, to_z-of_z w64 c.end_of-2.result other_fits, c.end_of.ensures, c.end_of-2.ensures, a_is, b_is) at c.max-to.ensures.value in
    let one : 0 < c.args.a_len = omega (arith, c.if-a_len-eq0.false) in
    joined_both c.args.a c.args.a_len c.args.b c.args.b_len (to_z w32 (of_z w32 c.min-from.result)) c.len_to.result c.requires.first c.requires.second one c.requires.some least (c.len_to.ensures ∙ most)
