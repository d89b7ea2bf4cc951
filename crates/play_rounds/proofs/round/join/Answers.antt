use Rattle.play_rounds.proofs.round.join.Goals as goal

pub join-requires-clause-given : goal.join-requires-clause-given
join-requires-clause-given c = let idle = c.requires.idle in c.frames_are_given_back.ensures.nothing c.args.renderer.now idle.0 c.args.pass idle.1 idle.2 c.proof_kept.ensures

pub returns-clause-nothing : goal.returns-clause-nothing
returns-clause-nothing c = let idle = c.requires.idle in c.frames_are_given_back.ensures.nothing c.args.renderer.now idle.0 c.args.pass idle.1 idle.2 c.proof_kept.ensures
