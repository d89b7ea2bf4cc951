use Rattle.std.proofs.Common.{Ok, Err, refl, ap}
use Rattle.std.proofs.Math.Facts.{to_z-of_z}
use Rattle.renderer.specs.declared.trying.TryRefusal.{TryRefusal}
use Rattle.renderer.proofs.renderer.Renderer.frame_within.Goals as goal

pub returns-in-Ok : goal.returns-in-Ok
returns-in-Ok c =
    let came = c.frame_within_telling-pass.ensures in
    record {
      pass = came.pass;
      track = c.frame_within_telling-pass.ensures.track;
      tried = (Ok c.in-Ok.frame, rw (c.in-Ok.is, to_z-of_z c.ranges.t) at came.tried, refl);
      holds = rw c.in-Ok.is at came.holds;
      home = rw c.in-Ok.is at came.home;
    }

pub returns-in-Err : goal.returns-in-Err
returns-in-Err c =
    let came = c.frame_within_telling-pass.ensures in
    record {
      pass = came.pass;
      track = c.frame_within_telling-pass.ensures.track;
      tried = (Err c.in-Err.refusal, rw (c.in-Err.is, to_z-of_z c.ranges.t) at came.tried, ap (λ (r : TryRefusal). Err r) c.untold.ensures);
      holds = rw c.in-Err.is at came.holds;
      home = tt;
    }
