use Rattle.std.proofs.Common.{◌≡◌, ◌+◌, Ok, refl, ◌∙◌, arith}
use Rattle.std.specs.Arc.{arc_value}
use Rattle.track_history.specs.declared.answers.TurnOut.{TurnOut}
use Rattle.track_history.proofs.Tries.{last-lost, last-offered, one-more, tried-none, tried-of}
use Rattle.track_history.proofs.track.Track.offer_within.Goals as goal

pub loop-lost-init : goal.loop-lost-init
loop-lost-init c = tried-none c.args.pass

pub try_offer-pass-requires-clause-cell : goal.try_offer-pass-requires-clause-cell
try_offer-pass-requires-clause-cell c = tried-of c.args.self.now c.args.pass c.loop-lost.waiting c.loop-lost._lost c.loop-lost.invariant c.requires.cell

pub loop-lost-preserved : goal.loop-lost-preserved
loop-lost-preserved c =
    let lost = rw c.in-Err.is at c.try_offer-pass.ensures.out in
    lost ∙ one-more c.args.pass c.loop-lost.waiting c.loop-lost._lost _ c.loop-lost.invariant refl

pub returns-in-Ok : goal.returns-in-Ok
returns-in-Ok c = record {
  fed = last-offered {E = TurnOut} c.args.pass c.loop-lost.waiting c.try_offer-pass.result.0 c.loop-lost._lost (arc_value c.args.event.now) c.loop-lost.invariant (Ok c.in-Ok.answer) (rw c.in-Ok.is at c.try_offer-pass.ensures.fed);
  out = tt;
}

pub try_offer-requires-clause-cell : goal.try_offer-requires-clause-cell
try_offer-requires-clause-cell c = tried-of c.args.self.now c.args.pass c.loop-lost.waiting c.loop-lost._lost c.loop-lost.invariant c.requires.cell

pub returns : goal.returns
returns c =
    let all : c.loop-lost._lost + 1 ≡ c.args.tries = omega (arith, c.requires.tries) in
    record {
      fed = last-offered {E = TurnOut} c.args.pass c.loop-lost.waiting c.try_offer.result.0 c.loop-lost._lost (arc_value c.args.event.now) c.loop-lost.invariant c.try_offer.result.1 c.try_offer.ensures.fed;
      out = last-lost c.args.pass c.loop-lost.waiting c.try_offer.result.0 c.loop-lost._lost (arc_value c.args.event.now) c.loop-lost.invariant c.args.tries all c.try_offer.result.1 c.try_offer.ensures.out;
    }
