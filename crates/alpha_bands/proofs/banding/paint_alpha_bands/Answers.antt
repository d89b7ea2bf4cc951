use Rattle.std.proofs.Common.{◌≡◌, ◌*◌, ◌<◌, ◌∙◌, ◌^◌, ℕ, length, map, ap, sym, subst, arith}
use Rattle.alpha_bands.proofs.BandRows.{chunk-is-band, no-rows, rows-painted, some-chunk, some-sides}
use Rattle.alpha_bands.proofs.banding.paint_alpha_bands.Goals as goal
use Rattle.blend.proofs.Bands.{some-bytes, some-rows}
use Rattle.blend.specs.Images.{image_value}

pub returns-then-is_empty : goal.returns-then-is_empty
returns-then-is_empty g c =
    let e = c.is_empty.ensures in let t = c.if-is_empty.true in
    no-rows c.args.form (map (image_value g.M.AsMask.mask) c.args.images.now) c.args.size.now.w c.args.size.now.h c.args.bytes.now c.requires.bytes (grind arith)

pub for_each_chunk_mut-requires-clause-size : goal.for_each_chunk_mut-requires-clause-size
for_each_chunk_mut-requires-clause-size g c κs within =
    let s = c.args.size.now in
    let some = some-bytes c.is_empty.result (length c.args.bytes.now) (4 * (s.h * s.w)) c.is_empty.ensures c.if-is_empty.false c.requires.bytes in
    let sides = some-sides s.w s.h some in
    some-chunk s.w c.div_ceil-rows.result sides.0 (subst (λ (k : ℕ). 0 < k) (sym c.div_ceil-rows.ensures) (some-rows s.h c.args.bands sides.1))

pub for_each_chunk_mut-requires-clause-accepts : goal.for_each_chunk_mut-requires-clause-accepts
for_each_chunk_mut-requires-clause-accepts g c = λ lives well start p chunk.
    let s = c.args.size.now in
    let some = some-bytes c.is_empty.result (length c.args.bytes.now) (4 * (s.h * s.w)) c.is_empty.ensures c.if-is_empty.false c.requires.bytes in
    let wide = (some-sides s.w s.h some).0 in
    let high : s.h < 2 ^ 32 = grind arith in
    (c.requires.size, wide, chunk-is-band s c.div_ceil-rows.result start c.args.bytes.now p.now wide high c.requires.bytes chunk)

pub returns : goal.returns
returns g c =
    let s = c.args.size.now in
    let images = map (image_value g.M.AsMask.mask) c.args.images.now in
    let some = some-bytes c.is_empty.result (length c.args.bytes.now) (4 * (s.h * s.w)) c.is_empty.ensures c.if-is_empty.false c.requires.bytes in
    let wide = (some-sides s.w s.h some).0 in
    let high : s.h < 2 ^ 32 = grind arith in
    rows-painted c.args.form images s.w s.h c.args.bytes.now c.for_each_chunk_mut.new.s c.requires.bytes c.for_each_chunk_mut.auto.s
    (λ k below.
    let place = (c.for_each_chunk_mut.ensures.by_index k 0 below).1 in
    let band = chunk-is-band s c.div_ceil-rows.result place.start c.args.bytes.now place.argument.now wide high c.requires.bytes place.argument_is in
    let inside = place.offset_in_chunk in
    let rows = band.rows in (
      place.start,
      place.offset,
      band.top,
      band.h,
      place.after_call.now,
      place.start_plus_offset,
      band.begins,
      omega (arith, inside, rows),
      place.call band.top band.h band.begins band.rows,
      place.new_element,
    ))
