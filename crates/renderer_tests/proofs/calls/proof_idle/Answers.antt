use Rattle.renderer_tests.proofs.calls.proof_idle.Goals as goal

pub returns : goal.returns
returns c =
    let same = c.requires.same in
    (c.requires.pass, c.frames_are_given_back.ensures.nothing c.args.renderer.now same.0 c.args.pass.now same.1 same.2 c.proof_kept.ensures)
