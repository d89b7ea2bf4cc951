use Rattle.std.proofs.Common.{◌≡◌, ◌*◌, ◌/◌, ◌∙◌, ℕ, length, map, ap, sym, subst, arith}
use Rattle.alpha_bands.proofs.BandRows.{rows-of}
use Rattle.alpha_bands.proofs.banding.paint_band.Goals as goal
use Rattle.alpha_canvas.specs.Alpha.{AreAlphaRows}
use Rattle.blend.specs.Images.{image_value}

pub overflow_cast-top : goal.overflow_cast-top
overflow_cast-top g c =
    let b = c.requires.rows in let small = b.small in
    let at : c.args.start / (4 * c.args.w) ≡ b.top = ap (λ (n : ℕ). n / (4 * c.args.w)) b.begins ∙ rows-of c.args.w b.top c.requires.some in
    omega (arith, at, small)

pub overflow_cast-h : goal.overflow_cast-h
overflow_cast-h g c =
    let b = c.requires.rows in let small = b.small in
    let at : length c.args.band.now / (4 * c.args.w) ≡ b.h = ap (λ (n : ℕ). n / (4 * c.args.w)) b.rows ∙ rows-of c.args.w b.h c.requires.some in
    omega (arith, at, small)

pub paint_alpha_rows-requires-clause-bytes : goal.paint_alpha_rows-requires-clause-bytes
paint_alpha_rows-requires-clause-bytes g c =
    let w = c.args.w in let b = c.requires.rows in
    let at : length c.args.band.now / (4 * w) ≡ b.h = ap (λ (n : ℕ). n / (4 * w)) b.rows ∙ rows-of w b.h c.requires.some in
    let turned : b.h * w ≡ w * b.h = omega arith in
    b.rows ∙ ap (λ (n : ℕ). 4 * n) (sym turned) ∙ ap (λ (n : ℕ). 4 * (n * w)) (sym at)

pub paint_alpha_rows-requires-clause-rows : goal.paint_alpha_rows-requires-clause-rows
paint_alpha_rows-requires-clause-rows g c =
    let b = c.requires.rows in let small = b.small in
    let top : c.args.start / (4 * c.args.w) ≡ b.top = ap (λ (n : ℕ). n / (4 * c.args.w)) b.begins ∙ rows-of c.args.w b.top c.requires.some in
    let h : length c.args.band.now / (4 * c.args.w) ≡ b.h = ap (λ (n : ℕ). n / (4 * c.args.w)) b.rows ∙ rows-of c.args.w b.h c.requires.some in
    omega (arith, top, h, small)

pub returns : goal.returns
returns g c = λ top h begins rows.
    let w = c.args.w in
    let images = map (image_value g.M.AsMask.mask) c.args.images.now in
    let at : c.args.start / (4 * w) ≡ top = ap (λ (n : ℕ). n / (4 * w)) begins ∙ rows-of w top c.requires.some in
    let many : length c.args.band.now / (4 * w) ≡ h = ap (λ (n : ℕ). n / (4 * w)) rows ∙ rows-of w h c.requires.some in
    subst (λ (k : ℕ). AreAlphaRows c.args.form images w k h c.paint_alpha_rows.new.bytes) at
    (subst (λ (k : ℕ). AreAlphaRows c.args.form images w (c.args.start / (4 * w)) k c.paint_alpha_rows.new.bytes) many c.paint_alpha_rows.ensures)
