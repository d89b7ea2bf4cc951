use Rattle.std.proofs.Common.{◌*◌, ◌<◌, ℕ, length, map, ap, sym, subst, ◌∙◌, arith}
use Rattle.blend.specs.Bands.{painted_all}
use Rattle.blend.specs.Images.{image_value}
use Rattle.blend.proofs.Bands.{chunk-is-band, empty-drawn, pixels-drawn, some-bytes, some-chunk, some-rows, some-sides}
use Rattle.blend.proofs.banding.paint_pixels_in_bands.Goals as goal

pub returns-then-is_empty : goal.returns-then-is_empty
returns-then-is_empty g c =
    let e = c.is_empty.ensures in let t = c.if-is_empty.true in
    empty-drawn c.args.size.now (map (image_value g.M.AsMask.mask) c.args.images.now) c.args.pixels.now (grind arith)

pub for_each_chunk_mut-requires-clause-size : goal.for_each_chunk_mut-requires-clause-size
for_each_chunk_mut-requires-clause-size g c κs within =
    let s = c.args.size.now in
    let some = some-bytes c.is_empty.result (length c.args.pixels.now) (3 * (s.w * s.h)) c.is_empty.ensures c.if-is_empty.false c.requires.bytes in
    let sides = some-sides s.w s.h some in
    some-chunk s.w c.div_ceil-rows.result sides.0 (subst (λ (k : ℕ). 0 < k) (sym c.div_ceil-rows.ensures) (some-rows s.h c.args.bands sides.1))

pub for_each_chunk_mut-requires-clause-accepts : goal.for_each_chunk_mut-requires-clause-accepts
for_each_chunk_mut-requires-clause-accepts g c = λ lives well start p chunk.
    let s = c.args.size.now in
    let some = some-bytes c.is_empty.result (length c.args.pixels.now) (3 * (s.w * s.h)) c.is_empty.ensures c.if-is_empty.false c.requires.bytes in
    let wide = (some-sides s.w s.h some).0 in
    (c.requires.size, wide, chunk-is-band s c.div_ceil-rows.result start c.args.pixels.now p.now wide c.requires.bytes chunk)

pub returns : goal.returns
returns g c =
    let s = c.args.size.now in
    let images = map (image_value g.M.AsMask.mask) c.args.images.now in
    let some = some-bytes c.is_empty.result (length c.args.pixels.now) (3 * (s.w * s.h)) c.is_empty.ensures c.if-is_empty.false c.requires.bytes in
    let sides = some-sides s.w s.h some in
    let rows = subst (λ (k : ℕ). 0 < k) (sym c.div_ceil-rows.ensures) (some-rows s.h c.args.bands sides.1) in
    pixels-drawn s images c.div_ceil-rows.result c.args.pixels.now c.for_each_chunk_mut.new.s sides.0 sides.1 rows c.requires.bytes c.for_each_chunk_mut.auto.s
    (λ n top below begins.
    let k = c.for_each_chunk_mut.ensures.chunks n below in
    sym k.left ∙ (k.call top begins ∙ ap (painted_all images s.w (s.w * top)) k.argument_is))
