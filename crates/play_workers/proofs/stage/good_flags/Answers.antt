use Rattle.play_workers.proofs.Faults.{flags_more}
use Rattle.play_workers.proofs.stage.good_flags.Goals as goal

pub loop-i-preserved : goal.loop-i-preserved
loop-i-preserved c =
    flags_more c.args.script.now c.loop-i.i c.loop-i.good _ c.line_fault.result c.is_none.result c.loop-i.invariant c.line_fault.ensures c.is_none.ensures c.in_ok-push.ensures.ok
