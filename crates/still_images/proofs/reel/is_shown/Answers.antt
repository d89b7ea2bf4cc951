use Rattle.still_images.proofs.reel.is_shown.Goals as goal

pub returns-in-Some : goal.returns-in-Some
returns-in-Some c = λ same. (c.in-Some.last, c.in-Some.is, c.have_same_draws.ensures same)
