use Rattle.std.proofs.Common.{◌≡◌, ◌-◌, pos, ◌-ℤ◌, arith}
use Rattle.std.proofs.lemmas.Int.{ints}
use Rattle.blend.proofs.AreaLemmas.{place, values-inside}
use Rattle.blend.proofs.placed.cover.Goals as goal

pub piece-requires : goal.piece-requires
piece-requires c =
    let m = c.args.placed.mask.now in
    let column : pos c.args.left -ℤ c.args.placed.x -ℤ m.x ≡ pos c.offset-column.result = omega (arith, ints) in
    let row : pos c.args.j -ℤ c.args.placed.y -ℤ m.y ≡ pos c.offset-row.result = omega (arith, ints) in
    let inside = place m c.args.placed.x c.args.placed.y c.args.left c.args.right c.args.j _ _ c.bytes.ensures.canonical c.requires.columns c.requires.first c.requires.last column row in
    rw (c.w.ensures, c.bytes.ensures.bytes) inside.bytes

pub returns-clause-values : goal.returns-clause-values
returns-clause-values c = λ k less.
    let m = c.args.placed.mask.now in
    let column : pos c.args.left -ℤ c.args.placed.x -ℤ m.x ≡ pos c.offset-column.result = omega (arith, ints) in
    let row : pos c.args.j -ℤ c.args.placed.y -ℤ m.y ≡ pos c.offset-row.result = omega (arith, ints) in
    let inside = place m c.args.placed.x c.args.placed.y c.args.left c.args.right c.args.j _ _ c.bytes.ensures.canonical c.requires.columns c.requires.first c.requires.last column row in
    values-inside m c.args.placed.x c.args.placed.y c.args.left c.args.j _ _ (c.args.right - c.args.left) k _ inside column row
    (rw (c.w.ensures, c.bytes.ensures.bytes) at c.piece.ensures.bytes) less
