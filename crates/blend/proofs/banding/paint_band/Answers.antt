use Rattle.std.proofs.Common.{◌≡◌, ◌*◌, ◌/◌, ℕ, length, map, ap, sym, subst, ◌∙◌}
use Rattle.blend.specs.Bands.{painted_all}
use Rattle.blend.specs.Images.{image_value}
use Rattle.blend.proofs.Bands.{rows-of}
use Rattle.blend.proofs.banding.paint_band.Goals as goal

pub paint_rows-requires-clause-bytes : goal.paint_rows-requires-clause-bytes
paint_rows-requires-clause-bytes g c =
    let w = c.args.size.now.w in let b = c.requires.band in
    let at : length c.args.pixels.now / (3 * w) ≡ b.h = ap (λ (n : ℕ). n / (3 * w)) b.rows ∙ rows-of w b.h c.requires.some in
    b.rows ∙ ap (λ (n : ℕ). 3 * (w * n)) (sym at)

pub returns : goal.returns
returns g c = λ top begins.
    let w = c.args.size.now.w in
    let at : c.args.start / (3 * w) ≡ top = ap (λ (n : ℕ). n / (3 * w)) begins ∙ rows-of w top c.requires.some in
    subst (λ (k : ℕ). c.paint_rows.new.pixels ≡ painted_all (map (image_value g.M.AsMask.mask) c.args.images.now) w (w * k) c.args.pixels.now) at c.paint_rows.ensures
