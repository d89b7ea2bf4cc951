use Rattle.std.proofs.Common.{◌≡◌, ◌+◌, [], ◌∷◌, ◌++◌, take, ℤ, w32, sym, ap, ◌∙◌, subst, rules}
use Rattle.std.proofs.lemmas.Int.{to_z-of_z}
use Rattle.std.proofs.lemmas.List.{take_more, take_all}
use Rattle.std.specs.Int.RustNames.{FitsSigned}
use Rattle.ass_num.specs.Coverage.{PixelBox, InBox, IsMovedPixel}
use Rattle.ass_num.specs.Masks.{MaskValue}
use Rattle.mask_cover.specs.Sums.{HasSum, IsBoxOf}
use Rattle.mask_cover.proofs.sum.sum_of.Goals as goal

pub add-requires : goal.add-requires
add-requires c = λ i j pixel.
    let item : MaskValue × ℤ × ℤ = c.loop-mask-item.result in
    let dx : FitsSigned w32 item.1 = search rules in
    let dy : FitsSigned w32 item.2 = search rules in
    let P : PixelBox → Type 0 = λ z. InBox z i j in
    let moved : IsMovedPixel item i j = rw (to_z-of_z w32 item.1 dx, to_z-of_z w32 item.2 dy) at pixel in
    subst P (sym (c.loop-mask.invariant.place ∙ c.in_ok-sum.ensures.place)) (c.extent_of.ensures.has i j (c.loop-mask.mask-index, item, c.loop-mask-test.true, sym c.loop-mask-item.is, moved))

pub loop-mask-preserved : goal.loop-mask-preserved
loop-mask-preserved c =
    let item : MaskValue × ℤ × ℤ = c.loop-mask-item.result in
    let dx : FitsSigned w32 item.1 = search rules in
    let dy : FitsSigned w32 item.2 = search rules in
    let more : HasSum (take c.loop-mask.mask-index c.args.parts.now ++ item ∷ []) c.add.new.self = rw (to_z-of_z w32 item.1 dx, to_z-of_z w32 item.2 dy) at (c.add.ensures.sum (take c.loop-mask.mask-index c.args.parts.now) c.loop-mask.invariant.value) in
    let next : take (c.loop-mask.mask-index + 1) c.args.parts.now ≡ take c.loop-mask.mask-index c.args.parts.now ++ item ∷ [] =
    take_more c.args.parts.now c.loop-mask.mask-index item c.loop-mask-test.true ∙ ap (λ z. take c.loop-mask.mask-index c.args.parts.now ++ z ∷ []) (sym c.loop-mask-item.is) in
    record { place = c.add.ensures.place ∙ c.loop-mask.invariant.place; value = rw next more }

pub returns-clause-sum : goal.returns-clause-sum
returns-clause-sum c =
    let P : PixelBox → Type 0 = λ z. IsBoxOf c.args.parts.now z in
    c.into_mask.ensures.sum c.args.parts.now (subst P (sym (c.loop-mask.invariant.place ∙ c.in_ok-sum.ensures.place)) c.extent_of.ensures) (rw (take_all c.loop-mask.mask-index c.args.parts.now c.loop-mask-test.false) at c.loop-mask.invariant.value)

pub returns-clause-within : goal.returns-clause-within
returns-clause-within c =
    let P : PixelBox → Type 0 = λ z. IsBoxOf c.args.parts.now z in
    c.into_mask.ensures.within c.args.parts.now (subst P (sym (c.loop-mask.invariant.place ∙ c.in_ok-sum.ensures.place)) c.extent_of.ensures)
