use Rattle.std.proofs.Common.{◌≡◌, ◌++◌, length, take, min, ap, ◌∙◌, arith}
use Rattle.std.proofs.lemmas.List.{take_min}
use Rattle.drawing_path.proofs.sketch.close.Goals as goal

pub returns : goal.returns
returns c =
    let all : c.loop-k.k ≡ min 3 (length c.args.control.now) = omega arith in
    c.loop-k.invariant ∙ ap (λ n. c.args.control.now ++ take n c.args.control.now) all ∙ ap (λ z. c.args.control.now ++ z) (take_min 3 c.args.control.now)
