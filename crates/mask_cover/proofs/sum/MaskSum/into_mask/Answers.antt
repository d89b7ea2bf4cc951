use Rattle.std.proofs.Common.{◌≡◌, ◌+◌, ◌*◌, true, w32, sym, subst, rules}
use Rattle.std.proofs.lemmas.Int.{to_z-of_z}
use Rattle.std.specs.Int.RustNames.{FitsSigned}
use Rattle.ass_num.specs.Limits.{IsMaskWithin}
use Rattle.ass_num.specs.Masks.{MaskValue, is_mask}
use Rattle.mask_cover.proofs.ReachLemmas.{sum_within}
use Rattle.mask_cover.proofs.sum.MaskSum.into_mask.Goals as goal

pub returns-clause-within : goal.returns-clause-within
returns-clause-within c = λ parts box corner side shift near.
    let x : FitsSigned w32 c.self.inside.x = search rules in
    let y : FitsSigned w32 c.self.inside.y = search rules in
    let P : MaskValue → Type 0 = λ z. is_mask z ≡ true in
    let W : MaskValue → Type 0 = λ z. IsMaskWithin (corner + shift) (2 * (corner + shift) + side) z in
    rw (c.new.ensures, to_z-of_z w32 c.self.inside.x x, to_z-of_z w32 c.self.inside.y y) (subst W (sym c.self.view_is) (sum_within parts c.args.self (subst P c.self.view_is c.self.invariant) box corner side shift near))
