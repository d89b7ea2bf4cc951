use Rattle.renderer_tests.proofs.calls.counted.Goals as goal

pub proof_idle-requires-clause-same : goal.proof_idle-requires-clause-same
proof_idle-requires-clause-same g c = (c.args.pass, c.requires.1, c.totals-after.ensures.holds)
