use Rattle.std.proofs.Common.{◌≡◌, ℕ, ◌*◌, List, length, get_or, w32, vec_len, sym, ap, ◌∙◌, rules}
use Rattle.std.proofs.lemmas.Int.{to_z-of_z}
use Rattle.std.specs.Int.RustNames.{FitsSigned}
use Rattle.ass_num.specs.Coverage.{PixelBox}
use Rattle.mask_cover.proofs.ExtentLemmas.{sum_mask}
use Rattle.mask_cover.proofs.RowSums.{value_zero, zeros}
use Rattle.mask_cover.proofs.sum.MaskSum.new.Goals as goal

pub invariant_of-result : goal.invariant_of-result
invariant_of-result c =
    let b : PixelBox = c.args.extent.now in
    let x : FitsSigned w32 c.x.result = search rules in
    let y : FitsSigned w32 c.y.result = search rules in
    let items : List ℕ = c.in_ok-vec.field-0.items in
    let n : vec_len c.in_ok-vec.field-0 ≡ length items = search rules in
    let count : length items ≡ b.w * b.h = sym n ∙ c.in_ok-vec.ensures.len ∙ ap (λ z. z * c.h-h.result) c.w-w.ensures ∙ ap (λ z. b.w * z) c.h-h.ensures in
    rw (to_z-of_z w32 c.x.result x, to_z-of_z w32 c.y.result y, c.x.ensures.x, c.y.ensures, c.w-w.ensures, c.h-h.ensures) (sum_mask b items c.x.ensures.extent count)

pub returns-clause-empty : goal.returns-clause-empty
returns-clause-empty c = λ x y.
    value_zero _ (λ k. ap (λ z. get_or z k 0) (c.in_ok-vec.ensures.items_if_clones_equal (λ z e. e)) ∙ zeros (c.w-w.result * c.h-h.result) k) x y
