use Rattle.std.proofs.Common.{sym, ap, ◌∙◌, arith}
use Rattle.std.proofs.lemmas.Bool.{false≢true}
use Rattle.std.proofs.lemmas.List.{get_or_default}
use Rattle.frame_change.specs.Changes.{unplaced}
use Rattle.frame_change.proofs.DrawLemmas.{moved_at}
use Rattle.frame_change.proofs.kinds.are_same_but_moved.Goals as goal

pub returns-then-not-is_same_but_moved : goal.returns-then-not-is_same_but_moved
returns-then-not-is_same_but_moved c =
    let a = c.args.a.now in
    let b = c.args.b.now in
    let i = c.loop-i.i in
    let x = c.index-a-i.result in
    let y = c.index-b-i.result in
    let in_a = c.loop-i-test.true in (
      (λ e. absurd (false≢true e)),
      (λ same. (
          let here = moved_at a b i x same (omega (arith, in_a)) (omega (arith, in_a, c.if-a-b.false)) in
          c.if-not-is_same_but_moved.ensures.1 (ap unplaced c.index-a-i.is ∙ here ∙ ap unplaced (get_or_default b i x y (omega (arith, in_a, c.if-a-b.false)) ∙ sym c.index-b-i.is))
          )),
    )
