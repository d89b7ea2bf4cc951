use Rattle.std.proofs.Common.{◌≡◌, ◌+◌, [], ◌∷◌, ◌++◌, take, ℤ, w32, sym, ap, ◌∙◌, rules}
use Rattle.std.proofs.lemmas.Int.{to_z-of_z}
use Rattle.std.proofs.lemmas.List.{take_more, take_all}
use Rattle.std.specs.Int.RustNames.{FitsSigned}
use Rattle.ass_num.specs.Masks.{MaskValue}
use Rattle.mask_cover.specs.Sums.{IsBoxOf}
use Rattle.mask_cover.proofs.sum.extent_of.Goals as goal

pub loop-mask-preserved : goal.loop-mask-preserved
loop-mask-preserved c =
    let item : MaskValue × ℤ × ℤ = c.loop-mask-item.result in
    let dx : FitsSigned w32 item.1 = search rules in
    let dy : FitsSigned w32 item.2 = search rules in
    let more : IsBoxOf (take c.loop-mask.mask-index c.args.parts.now ++ item ∷ []) c.with-extent.result = rw (to_z-of_z w32 item.1 dx, to_z-of_z w32 item.2 dy) at (c.with-extent.ensures (take c.loop-mask.mask-index c.args.parts.now) c.loop-mask.invariant) in
    let next : take (c.loop-mask.mask-index + 1) c.args.parts.now ≡ take c.loop-mask.mask-index c.args.parts.now ++ item ∷ [] =
    take_more c.args.parts.now c.loop-mask.mask-index item c.loop-mask-test.true ∙ ap (λ z. take c.loop-mask.mask-index c.args.parts.now ++ z ∷ []) (sym c.loop-mask-item.is) in
    rw next more

pub returns : goal.returns
returns c = rw (take_all c.loop-mask.mask-index c.args.parts.now c.loop-mask-test.false) at c.loop-mask.invariant
