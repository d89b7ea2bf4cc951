use Rattle.std.proofs.Common.{◌≡◌, ◌*◌, ◌<◌, ◌⊎◌, pos, ◌+ℤ◌, ◌<ℤ◌, ◌≤ℤ◌, length, sym, arith, rules}
use Rattle.std.proofs.lemmas.Int.{ints}
use Rattle.ass_num.proofs.MaskLemmas.{cell_below, mask_length, value_inside, value_over}
use Rattle.mask_cover.proofs.reading.at.Goals as goal

pub returns-in_default-place : goal.returns-in_default-place
returns-in_default-place c =
    let m = c.args.mask.now in
    let out : (c.args.y <ℤ c.y.result) ⊎ ((c.y.result +ℤ pos c.h.result) ≤ℤ c.args.y) = search rules in
    sym (value_over m c.args.x c.args.y (rw (c.y.ensures, c.h.ensures) at out))

pub bounds-bytes-j : goal.bounds-bytes-j
bounds-bytes-j c =
    let m = c.args.mask.now in
    let i : c.in-Some.i < m.w = omega (arith, c.in-Some.ensures.inside.1, c.w.ensures) in
    let j : c.in-Some-place.j < m.h = omega (arith, c.in-Some-place.ensures.inside.1, c.h.ensures) in
    let size : length c.bytes.result.now ≡ m.w * m.h = rw c.bytes.ensures.bytes (mask_length m c.bytes.ensures.canonical) in
    rw (c.w-2.ensures, size) (cell_below c.in-Some.i c.in-Some-place.j m.w m.h i j)

pub returns : goal.returns
returns c =
    let m = c.args.mask.now in
    let i : c.in-Some.i < m.w = omega (arith, c.in-Some.ensures.inside.1, c.w.ensures) in
    let j : c.in-Some-place.j < m.h = omega (arith, c.in-Some-place.ensures.inside.1, c.h.ensures) in
    let e : c.args.x ≡ m.x +ℤ pos c.in-Some.i = omega (arith, ints, c.in-Some.ensures.inside.0, c.x.ensures) in
    let f : c.args.y ≡ m.y +ℤ pos c.in-Some-place.j = omega (arith, ints, c.in-Some-place.ensures.inside.0, c.y.ensures) in
    rw (c.w-2.ensures, c.bytes.ensures.bytes) (sym (value_inside m c.args.x c.args.y c.in-Some.i c.in-Some-place.j e f i j))
