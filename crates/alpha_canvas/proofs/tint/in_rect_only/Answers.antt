use Rattle.std.proofs.Common.{pos, refl, sym, arith}
use Rattle.std.proofs.lemmas.Int.{ints}
use Rattle.alpha_canvas.proofs.TintLemmas.{in-rect-of}
use Rattle.alpha_canvas.proofs.tint.in_rect_only.Goals as goal

pub returns-then-inverse : goal.returns-then-inverse
returns-then-inverse c =
    let inside = in-rect-of _ c.args.x1 c.args.y1 c.args.x2 c.args.y2 _ _ _ _ (pos c.args.i) (pos c.args.j) c.if-inside.ensures (omega (arith, ints)) (omega (arith, ints)) (omega (arith, ints)) (omega (arith, ints)) in
    rw (sym inside, c.if-inverse.true) refl

pub returns-else-inverse : goal.returns-else-inverse
returns-else-inverse c =
    let inside = in-rect-of _ c.args.x1 c.args.y1 c.args.x2 c.args.y2 _ _ _ _ (pos c.args.i) (pos c.args.j) c.if-inside.ensures (omega (arith, ints)) (omega (arith, ints)) (omega (arith, ints)) (omega (arith, ints)) in
    rw (sym inside, c.if-inverse.false) refl

pub returns-then-inverse-2 : goal.returns-then-inverse-2
returns-then-inverse-2 c =
    let outside = in-rect-of _ c.args.x1 c.args.y1 c.args.x2 c.args.y2 _ _ _ _ (pos c.args.i) (pos c.args.j) c.if-inside.ensures (omega (arith, ints)) (omega (arith, ints)) (omega (arith, ints)) (omega (arith, ints)) in
    rw (sym outside, c.if-inverse-2.true) refl

pub returns-else-inverse-2 : goal.returns-else-inverse-2
returns-else-inverse-2 c =
    let outside = in-rect-of _ c.args.x1 c.args.y1 c.args.x2 c.args.y2 _ _ _ _ (pos c.args.i) (pos c.args.j) c.if-inside.ensures (omega (arith, ints)) (omega (arith, ints)) (omega (arith, ints)) (omega (arith, ints)) in
    rw (sym outside, c.if-inverse-2.false) refl
