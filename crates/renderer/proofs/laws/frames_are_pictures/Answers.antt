use Rattle.renderer.proofs.Pictures.{frame-history, frame-picture}
use Rattle.renderer.proofs.laws.frames_are_pictures.Goals as goal

pub returns-clause-picture : goal.returns-clause-picture
returns-clause-picture c = frame-picture

pub returns-clause-turn : goal.returns-clause-turn
returns-clause-turn c = frame-history
