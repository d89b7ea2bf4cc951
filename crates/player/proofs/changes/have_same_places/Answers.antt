use Rattle.std.proofs.Common.{sym, ap, ◌∙◌, arith}
use Rattle.std.proofs.lemmas.Bool.{false≢true}
use Rattle.std.proofs.lemmas.List.{get_or_default}
use Rattle.player.specs.Changes.{plain_place}
use Rattle.player.proofs.ChangeLemmas.{alike_at}
use Rattle.player.proofs.changes.have_same_places.Goals as goal

pub returns-then-not-has_same_place : goal.returns-then-not-has_same_place
returns-then-not-has_same_place c =
    let a = c.args.a.now in
    let b = c.args.b.now in
    let i = c.loop-i.i in
    let x = c.index-a-i.result in
    let y = c.index-b-i.result in
    let in_a = c.loop-i-test.true in (
      (λ e. absurd (false≢true e)),
      (λ same. (
          let here = alike_at plain_place a b i x same (omega (arith, in_a)) (omega (arith, in_a, c.if-a-b.false)) in
          c.if-not-has_same_place.ensures.1 (ap plain_place c.index-a-i.is ∙ here ∙ ap plain_place (get_or_default b i x y (omega (arith, in_a, c.if-a-b.false)) ∙ sym c.index-b-i.is))
          )),
    )
