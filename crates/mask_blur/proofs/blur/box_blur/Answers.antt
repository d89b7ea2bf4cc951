use Rattle.std.proofs.Common.{ℕ, true, ◌≡◌, ◌+◌, ◌*◌, pos, ◌-ℤ◌, ap, sym, refl, ◌∙◌, arith}
use Rattle.ass_num.specs.Limits.{IsMaskWithin}
use Rattle.ass_num.specs.Masks.{value_at, is_mask}
use Rattle.mask_blur.specs.Shown.{Shows}
use Rattle.mask_blur.specs.Blur.{blurred, IsBlurred}
use Rattle.mask_blur.proofs.GrowthLemmas.{copy_has, grown_within}
use Rattle.mask_blur.proofs.MaskLemmas.{mask_shows}
use Rattle.mask_blur.proofs.ShownLemmas.{shows_at}
use Rattle.mask_blur.proofs.BlurLemmas.{none_blurred, same_blurred}
use Rattle.mask_blur.proofs.blur.box_blur.Goals as goal
use Rattle.mask_blur.proofs.blur.box_blur.Goals.{then-w-eq0-via-then-w-eq0, then-w-eq0-via-else-w-eq0+then-r-eq0}

pub returns-then-w-eq0 : goal.returns-then-w-eq0
returns-then-w-eq0 c =
    let m = c.args.mask.now in
    let kept : IsBlurred c.args.r m m = elim c.then-w-eq0.branch [
      | then-w-eq0-via-then-w-eq0 w ↦ none_blurred c.args.r m c.copy_of.ensures.canonical (sym c.w.ensures ∙ w.if-w-eq0.true)
      | then-w-eq0-via-else-w-eq0+then-r-eq0 w ↦ same_blurred c.args.r m w.if-r-eq0.true
    ] in
    record {
      blurred = copy_has c.copy_of.result m (IsBlurred c.args.r m) c.copy_of.ensures.same kept;
      canonical = copy_has c.copy_of.result m (λ z. is_mask z ≡ true) c.copy_of.ensures.same c.copy_of.ensures.canonical;
      within = copy_has c.copy_of.result m (λ z. (corner side : ℕ) → IsMaskWithin corner side m → IsMaskWithin (corner + 3 * c.args.r) (side + 2 * (3 * c.args.r)) z) c.copy_of.ensures.same (grown_within (3 * c.args.r) m m kept.box);
    }

pub grown-requires-clause-count : goal.grown-requires-clause-count
grown-requires-clause-count c =
    let r = c.args.r in
    let m = c.args.mask.now in
    let wide : c.w-2.result + 6 * c.new.result.radius ≡ m.w + 2 * (3 * r) = omega (arith, c.w-2.ensures, c.new.ensures) in
    let high : c.h.result + 6 * c.new.result.radius ≡ m.h + 2 * (3 * r) = omega (arith, c.h.ensures, c.new.ensures) in
    c.in_ok-bytes.ensures.count ∙ ap (λ n. n * (c.h.result + 6 * c.new.result.radius)) wide ∙ ap (λ n. (m.w + 2 * (3 * r)) * n) high

pub returns : goal.returns
returns c =
    let r = c.args.r in
    let m = c.args.mask.now in
    let shown : Shows (value_at m) m.x m.y c.w-2.result c.h.result c.bytes.result.now = rw (c.w-2.ensures, c.h.ensures, c.bytes.ensures.bytes) (mask_shows m) in
    let blurred_shown = rw (c.w-2.ensures, c.h.ensures, c.new.ensures) at (c.in_ok-bytes.ensures.blurred (value_at m) m.x m.y shown) in
    let shows = shows_at (blurred r (value_at m)) (m.x -ℤ pos (3 * r)) (m.y -ℤ pos (3 * r)) (m.x -ℤ pos (3 * r)) (m.y -ℤ pos (3 * r)) (m.w + 6 * r) (m.h + 6 * r) (m.w + 2 * (3 * r)) (m.h + 2 * (3 * r))
    c.in_ok-bytes.bytes.items blurred_shown refl refl (omega arith) (omega arith) in
    record {
      blurred = record { value = c.grown.ensures.value (blurred r (value_at m)) shows; box = c.grown.ensures.place };
      canonical = c.grown.ensures.canonical;
      within = grown_within (3 * r) m _ c.grown.ensures.place;
    }
