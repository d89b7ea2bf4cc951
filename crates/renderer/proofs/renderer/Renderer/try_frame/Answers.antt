use Rattle.std.proofs.Common.{ℤ, Ok, Err, refl, ap, subst}
use Rattle.std.proofs.Math.Facts.{to_z-of_z}
use Rattle.renderer.specs.Trying.{IsTried}
use Rattle.renderer.specs.declared.trying.TryRefusal.{TryRefusal}
use Rattle.renderer.proofs.renderer.Renderer.try_frame.Goals as goal

pub returns-in-Ok : goal.returns-in-Ok
returns-in-Ok c =
    let came = c.try_frame_telling-pass.ensures in
    record {
      pass = came.pass;
      history = rw (c.in-Ok.is, to_z-of_z c.ranges.t) at came.history;
      tried = (Ok c.in-Ok.frame, rw (c.in-Ok.is, to_z-of_z c.ranges.t) at came.tried, refl);
      holds = rw c.in-Ok.is at came.holds;
      home = rw c.in-Ok.is at came.home;
    }

pub returns-in-Err : goal.returns-in-Err
returns-in-Err c =
    let came = c.try_frame_telling-pass.ensures in
    let told = subst (λ (t : ℤ). IsTried c.args.self.now c.args.pass c.try_frame_telling-pass.result.0 t c.args.size.now (Err c.in-Err.refusal)) (to_z-of_z c.ranges.t) (rw c.in-Err.is at came.tried) in
    record {
      pass = came.pass;
      history = tt;
      tried = (Err c.in-Err.refusal, told, ap (λ (r : TryRefusal). Err r) c.untold.ensures);
      holds = rw c.in-Err.is at came.holds;
      home = tt;
    }
