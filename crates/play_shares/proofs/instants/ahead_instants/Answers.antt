use Rattle.std.proofs.Common.{◌+◌, ◌*◌, ◌≤◌, ◌∙◌, ap₂, arith, drop, FitsSigned, pos, rules, sym, take, to_z-of_z, w64}
use Rattle.play_shares.specs.Instants.{instants}
use Rattle.play_shares.proofs.InstantLemmas.{ahead_ends, ahead_more}
use Rattle.play_shares.proofs.instants.ahead_instants.Goals as goal

pub returns-in-None : goal.returns-in-None
returns-in-None c =
    let all = instants c.args.play.now in
    let place = c.loop-place.place in
    let first = (c.args.round + 1) * c.from-renderers.result in
    let count = c.from-count.result in
    let within : place ≤ first + count = (let test = c.loop-place-test.true in omega (arith, test)) in
    ahead_ends all first place c.loop-place.auto.place c.loop-place.ahead.items count (pos 0) c.loop-place.invariant (sym c.instant_at.ensures ∙ c.in-None.is) within
    ∙ ap₂ (λ n r. take n (drop ((c.args.round + 1) * r) all)) c.from-count.ensures c.from-renderers.ensures

pub loop-place-preserved : goal.loop-place-preserved
loop-place-preserved c =
    let t : FitsSigned w64 c.in-Some.t = search rules in
    let pushed = rw (to_z-of_z t) at c.in_ok-push-in-Some.ensures.items in
    ahead_more (instants c.args.play.now) ((c.args.round + 1) * c.from-renderers.result) c.loop-place.place c.loop-place.auto.place
    c.loop-place.ahead.items c.push.new.self.items c.in-Some.t c.loop-place.invariant (sym c.instant_at.ensures ∙ c.in-Some.is) pushed
