use Rattle.std.proofs.Common.{OnOk, Result, Ok, Err, sym, subst}
use Rattle.drawing_path.specs.declared.command.Command.{Command}
use Rattle.drawing_path.specs.Sketches.{FollowsCommand}
use Rattle.drawing_path.proofs.sketch.Sketch.apply.Goals as goal

at_all : {T E X : Type 0} (P : X → Type 0) (result : Result T E) → OnOk result ((x : X) → P x) → (x : X) → OnOk result (P x)
at_all P (Ok _) holds x = holds x
at_all P (Err _) holds x = holds

pub returns-in-Close : goal.returns-in-Close
returns-in-Close c =
    let P : Command → Type 0 = λ z. OnOk c.close_spline.result (FollowsCommand c.args.self.now c.close_spline.new.self z c.args.points.now) in
    subst P (sym c.in-Close.is) (at_all _ c.close_spline.result c.close_spline.ensures c.args.points.now)
