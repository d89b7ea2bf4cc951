use Rattle.std.proofs.Common.{sym, ap, ◌∙◌, arith}
use Rattle.std.proofs.lemmas.Bool.{false≢true}
use Rattle.std.proofs.lemmas.List.{get_or_default}
use Rattle.player.specs.Changes.{unplaced_plain}
use Rattle.player.proofs.ChangeLemmas.{alike_at}
use Rattle.player.proofs.changes.are_same_plains_but_moved.Goals as goal

pub returns-then-not-is_same_plain_but_moved : goal.returns-then-not-is_same_plain_but_moved
returns-then-not-is_same_plain_but_moved c =
    let a = c.args.a.now in
    let b = c.args.b.now in
    let i = c.loop-i.i in
    let x = c.index-a-i.result in
    let y = c.index-b-i.result in
    let in_a = c.loop-i-test.true in (
      (λ e. absurd (false≢true e)),
      (λ same. (
          let here = alike_at unplaced_plain a b i x same (omega (arith, in_a)) (omega (arith, in_a, c.if-a-b.false)) in
          c.if-not-is_same_plain_but_moved.ensures.1 (ap unplaced_plain c.index-a-i.is ∙ here ∙ ap unplaced_plain (get_or_default b i x y (omega (arith, in_a, c.if-a-b.false)) ∙ sym c.index-b-i.is))
          )),
    )
