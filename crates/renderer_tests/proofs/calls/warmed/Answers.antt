use Rattle.renderer_tests.proofs.calls.warmed.Goals as goal

pub proof_idle-requires-clause-same : goal.proof_idle-requires-clause-same
proof_idle-requires-clause-same g c = (c.args.pass, c.requires.idle.1, c.warm-after.ensures.holds)
