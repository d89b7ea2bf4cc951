use Rattle.std.proofs.Common.{arith}
use Rattle.event_draws.proofs.RunLemmas.{joined_more, no_placed, runs_front_at}
use Rattle.event_draws.proofs.runs.first_run.Goals as goal

pub loop-count-preserved : goal.loop-count-preserved
loop-count-preserved c =
    let inv = c.loop-count.invariant in
    record {
      least = omega arith;
      most = omega arith;
      joined = joined_more c.args.view.now c.args.items.now c.loop-count.count no_placed inv.least (omega arith) inv.joined (grind arith);
    }

pub returns-else-are_joined-clause-run : goal.returns-else-are_joined-clause-run
returns-else-are_joined-clause-run c =
    let inv = c.loop-count.invariant in
    runs_front_at c.args.view.now c.loop-count.count c.args.items.now no_placed inv.least inv.most inv.joined (λ h. grind arith)

pub returns-after-loop-count-clause-run : goal.returns-after-loop-count-clause-run
returns-after-loop-count-clause-run c =
    let inv = c.loop-count.invariant in
    runs_front_at c.args.view.now c.loop-count.count c.args.items.now no_placed inv.least inv.most inv.joined (λ h. absurd (omega arith))
