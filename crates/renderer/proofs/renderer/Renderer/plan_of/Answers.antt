use Rattle.std.proofs.Common.{rules, to_z-of_z, w64}
use Rattle.std.specs.Arc.{arc_value}
use Rattle.std.specs.Int.RustNames.{FitsSigned}
use Rattle.renderer.proofs.Framed.{scene-few, scene-orders, scene-plan}
use Rattle.renderer.proofs.renderer.Renderer.plan_of.Goals as goal

pub plan_of_spans-requires-clause-few : goal.plan_of_spans-requires-clause-few
plan_of_spans-requires-clause-few c = let s = c.requires.scene in rw c.as_slice.ensures (scene-few s.0 c.args.scene.now.t c.args.scene.now s.2 s.1)

pub plan_of_spans-requires-clause-orders : goal.plan_of_spans-requires-clause-orders
plan_of_spans-requires-clause-orders c = let s = c.requires.scene in rw c.as_slice.ensures (scene-orders s.0 c.args.scene.now.t c.args.scene.now s.2 s.1)

pub plan_of_spans-requires-clause-near : goal.plan_of_spans-requires-clause-near
plan_of_spans-requires-clause-near c =
    let s = c.requires.scene in
    let fits : FitsSigned w64 c.args.scene.now.t = search rules in
    rw (c.as_slice-spans.ensures, c.as_slice.ensures, to_z-of_z fits) s.2.spans

pub returns-clause-draws : goal.returns-clause-draws
returns-clause-draws c = λ history h.
    let fits : FitsSigned w64 c.args.scene.now.t = search rules in
    let are = rw (c.deref.ensures, c.deref-2.ensures, c.as_slice.ensures, c.plain.ensures.value, to_z-of_z fits) at c.plan_of_spans.ensures.draws in
    rw (← c.self.view_is) (scene-plan history c.args.scene.now.t c.args.scene.now h (arc_value c.self.inside.script) (arc_value c.self.inside.fonts).fonts c.args.size.now c.plan_of_spans.result are)

pub plan_of_spans-requires-clause-setting : goal.plan_of_spans-requires-clause-setting
plan_of_spans-requires-clause-setting c =
    record { script = rw c.deref.ensures c.self.invariant.script; fonts = rw c.deref-2.ensures c.self.invariant.fonts; frame = c.plain.ensures.range c.requires.size }
