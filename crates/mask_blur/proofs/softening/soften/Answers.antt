use Rattle.std.proofs.Common.{ℕ, true, ◌≡◌, ◌+◌, ◌*◌, sym, ◌∙◌}
use Rattle.ass_num.specs.Limits.{IsMaskWithin}
use Rattle.ass_num.specs.Masks.{value_at, is_mask}
use Rattle.mask_blur.specs.Shown.{Shows}
use Rattle.mask_blur.specs.Softening.{softened, IsSoftened}
use Rattle.mask_blur.proofs.GrowthLemmas.{copy_has, grown_within}
use Rattle.mask_blur.proofs.MaskLemmas.{mask_shows}
use Rattle.mask_blur.proofs.SoftenedLemmas.{none_softened, same_softened}
use Rattle.mask_blur.proofs.softening.soften.Goals as goal
use Rattle.mask_blur.proofs.softening.soften.Goals.{then-w-eq0-via-then-w-eq0, then-w-eq0-via-else-w-eq0+then-n-eq0}

pub returns-then-w-eq0 : goal.returns-then-w-eq0
returns-then-w-eq0 c =
    let m = c.args.mask.now in
    let kept : IsSoftened c.args.n m m = elim c.then-w-eq0.branch [
      | then-w-eq0-via-then-w-eq0 w ↦ none_softened c.args.n m c.copy_of.ensures.canonical (sym c.w.ensures ∙ w.if-w-eq0.true)
      | then-w-eq0-via-else-w-eq0+then-n-eq0 w ↦ same_softened c.args.n m w.if-n-eq0.true
    ] in
    record {
      softened = copy_has c.copy_of.result m (IsSoftened c.args.n m) c.copy_of.ensures.same kept;
      canonical = copy_has c.copy_of.result m (λ z. is_mask z ≡ true) c.copy_of.ensures.same c.copy_of.ensures.canonical;
      within = copy_has c.copy_of.result m (λ z. (corner side : ℕ) → IsMaskWithin corner side m → IsMaskWithin (corner + c.args.n) (side + 2 * c.args.n) z) c.copy_of.ensures.same (grown_within c.args.n m m kept.box);
    }

pub returns : goal.returns
returns c =
    let n = c.args.n in
    let m = c.args.mask.now in
    let shown : Shows (value_at m) m.x m.y c.w-2.result c.h.result c.bytes.result.now = rw (c.w-2.ensures, c.h.ensures, c.bytes.ensures.bytes) (mask_shows m) in
    let shows = rw (c.w-2.ensures, c.h.ensures) at (c.in_ok-bytes.ensures.softened (value_at m) m.x m.y shown) in
    record {
      softened = record { value = c.grown.ensures.value (softened n (value_at m)) shows; box = c.grown.ensures.place };
      canonical = c.grown.ensures.canonical;
      within = grown_within n m _ c.grown.ensures.place;
    }
