use Rattle.std.proofs.Common.{rules, arith, ◌<◌, length, w32, to_z-of_z, FitsSigned}
use Rattle.std.proofs.lemmas.Int.{ints}
use Rattle.border_region.specs.Keys.{key_at}
use Rattle.border_region.proofs.SideLemmas.{adds_none, adds_more, side_added}
use Rattle.border_region.proofs.merge.Merge.add_side.Goals as goal

pub loop-k-init : goal.loop-k-init
loop-k-init c =
    rw (to_z-of_z c.ranges.key) (adds_none c.args.region.now c.args.upwards c.args.keys.now c.args.widths.now c.args.key c.count_up_to-k.result c.args.self.now.runs.items (rw (to_z-of_z c.ranges.key) at c.count_up_to-k.ensures) c.requires.ascends)

pub seen_row-requires-clause-high : goal.seen_row-requires-clause-high
seen_row-requires-clause-high c =
    let l : c.loop-k.k < length c.args.keys.now = omega (arith, c.count_up_to-end.ensures.within, c.loop-k-test.true) in
    let near = c.requires.keys.near c.loop-k.k l in
    omega (arith, ints, near.0, near.1)

pub bounds-widths-rows_between : goal.bounds-widths-rows_between
bounds-widths-rows_between c =
    let l : c.loop-k.k < length c.args.keys.now = omega (arith, c.count_up_to-end.ensures.within, c.loop-k-test.true) in
    let near = c.requires.keys.near c.loop-k.k l in
    let near0 = near.0 in
    let near1 = near.1 in
    let f : FitsSigned w32 (key_at c.args.keys.now c.loop-k.k) = omega (arith, ints) in
    let fl : FitsSigned w32 c.last_key.result = search rules in
    let g = rw (to_z-of_z c.ranges.key) at c.last_key.ensures in
    let before = rw (to_z-of_z fl) at (c.count_up_to-end.ensures.before c.loop-k.k c.loop-k-test.true) in
    let d = rw (to_z-of_z f, to_z-of_z c.ranges.key) at c.rows_between.ensures in
    let s = c.requires.widths.some in
    omega (arith, ints)

pub loop-k-preserved : goal.loop-k-preserved
loop-k-preserved c =
    let l : c.loop-k.k < length c.args.keys.now = omega (arith, c.count_up_to-end.ensures.within) in
    let near = c.requires.keys.near c.loop-k.k l in
    let near0 = near.0 in
    let near1 = near.1 in
    let f : FitsSigned w32 (key_at c.args.keys.now c.loop-k.k) = omega (arith, ints) in
    let fl : FitsSigned w32 c.last_key.result = search rules in
    let g = rw (to_z-of_z c.ranges.key) at c.last_key.ensures in
    let before = rw (to_z-of_z fl) at (c.count_up_to-end.ensures.before c.loop-k.k c.loop-k-test.true) in
    let d = rw (to_z-of_z f, to_z-of_z c.ranges.key) at c.rows_between.ensures in
    let s = c.requires.widths.some in
    rw (to_z-of_z c.ranges.key) (adds_more c.args.region.now c.args.upwards c.args.keys.now c.args.widths.now c.args.key c.loop-k.k c.rows_between.result c.seen_row.result.now c.args.self.now.runs.items c.loop-k.self.runs.items c.add.new.self.runs.items d (omega (arith, ints)) (λ i. rw (to_z-of_z f) at (c.seen_row.ensures.seen i)) (rw (to_z-of_z c.ranges.key) at c.loop-k.invariant) c.in_ok-add.ensures)

pub returns : goal.returns
returns c =
    let fl : FitsSigned w32 c.last_key.result = search rules in
    let g = rw (to_z-of_z c.ranges.key) at c.last_key.ensures in
    let up = rw (to_z-of_z fl, g) at c.count_up_to-end.ensures in
    side_added c.args.region.now c.args.upwards c.args.keys.now c.args.widths.now c.args.key c.count_up_to-end.result c.loop-k.k c.args.self.now.runs.items c.loop-k.self.runs.items c.requires.keys c.requires.widths c.requires.middle up c.loop-k-test.false (rw (to_z-of_z c.ranges.key) at c.loop-k.invariant)
