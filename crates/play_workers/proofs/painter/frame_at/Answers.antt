use Rattle.std.proofs.Common.{to_z-of_z}
use Rattle.play_workers.proofs.AskedFrames.{soon_asked}
use Rattle.play_workers.proofs.Later.{soon_later}
use Rattle.play_workers.proofs.Painted.{soon_follows}
use Rattle.play_workers.proofs.painter.frame_at.Goals as goal

pub returns-clause-track : goal.returns-clause-track
returns-clause-track g c =
    soon_follows c.args.stage.now.renderer c.args.pass c.try_then_frame.result.0 _ _ c.try_then_frame.result.1 c.try_then_frame.ensures.rendered

pub returns-clause-later : goal.returns-clause-later
returns-clause-later g c =
    soon_later c.args.stage.now.renderer c.args.pass c.try_then_frame.result.0 _ _ c.try_then_frame.result.1 c.try_then_frame.ensures.rendered

pub returns-clause-frame : goal.returns-clause-frame
returns-clause-frame g c =
    soon_asked c.args.stage.now.renderer c.args.pass c.try_then_frame.result.0 _ _ c.try_then_frame.result.1 c.proof_kept.ensures.numbered
    (rw (to_z-of_z c.ranges.t) at c.try_then_frame.ensures.rendered)
