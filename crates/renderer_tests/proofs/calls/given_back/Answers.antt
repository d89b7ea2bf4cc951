use Rattle.renderer_tests.proofs.calls.given_back.Goals as goal

pub release-after-requires-clause-own : goal.release-after-requires-clause-own
release-after-requires-clause-own g c = c.requires.held.home

pub release-after-requires-clause-held : goal.release-after-requires-clause-held
release-after-requires-clause-held g c =
    let held = c.requires.held in c.frames_are_given_back.ensures.holds c.args.renderer.now held.begun c.args.pass c.args.frame held.more

pub returns : goal.returns
returns g c =
    let held = c.requires.held in let after = c.release-after.result in let renderer = c.args.renderer.now in let law = c.frames_are_given_back.ensures in
    let same = law.released renderer held.begun c.args.pass after c.args.frame held.more c.release-after.ensures.holds in
    (c.release-after.ensures.pass, law.nothing renderer held.begun after held.nothing same c.proof_kept.ensures)
