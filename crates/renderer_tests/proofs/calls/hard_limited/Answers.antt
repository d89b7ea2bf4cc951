use Rattle.renderer_tests.proofs.calls.hard_limited.Goals as goal

pub proof_idle-requires-clause-same : goal.proof_idle-requires-clause-same
proof_idle-requires-clause-same g c = (c.args.pass, c.requires.idle.1, c.set_hard_limit-after.ensures.holds)
