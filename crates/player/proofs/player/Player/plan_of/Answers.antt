use Rattle.std.proofs.Common.{rules, to_z-of_z, w64}
use Rattle.std.specs.Int.RustNames.{FitsSigned}
use Rattle.std.proofs.lemmas.Result.{IfOk-weaker}
use Rattle.mask_keys.specs.declared.plans.Plan.{Plan}
use Rattle.picture_plan.specs.Pictures.{AreDraws}
use Rattle.std.specs.Arc.{arc_value}
use Rattle.std.specs.Prelude.{map}
use Rattle.ass_events.specs.Histories.{live}
use Rattle.player.proofs.SceneLemmas.{looked_draws, looked_few, looked_orders}
use Rattle.player.proofs.player.Player.plan_of.Goals as goal

pub plan_with-requires-clause-few : goal.plan_with-requires-clause-few
plan_with-requires-clause-few c = let s = c.requires.scene in rw c.as_slice.ensures (looked_few s.0 c.args.scene.now.t c.args.scene.now s.2 s.1)

pub plan_with-requires-clause-orders : goal.plan_with-requires-clause-orders
plan_with-requires-clause-orders c = let s = c.requires.scene in rw c.as_slice.ensures (looked_orders s.0 c.args.scene.now.t c.args.scene.now s.2 s.1)

pub plan_with-requires-clause-spans : goal.plan_with-requires-clause-spans
plan_with-requires-clause-spans c =
    let s = c.requires.scene in
    let fits : FitsSigned w64 c.args.scene.now.t = search rules in
    rw (c.as_slice-spans.ensures, c.as_slice.ensures, to_z-of_z fits) s.2.spans

pub returns-clause-draws : goal.returns-clause-draws
returns-clause-draws c = λ history h.
    let p = c.args.self.now in
    let fits : FitsSigned w64 c.args.scene.now.t = search rules in
    let are = rw (c.as_slice.ensures, to_z-of_z fits) at c.plan_with.ensures.draws in
    IfOk-weaker c.plan_with.result (λ (plan : Plan). AreDraws p.script p.fonts (map arc_value c.args.scene.now.events) c.args.scene.now.t c.args.frame.now plan.draws)
    (λ (plan : Plan). AreDraws p.script p.fonts (live history) c.args.scene.now.t c.args.frame.now plan.draws)
    (λ plan. looked_draws history c.args.scene.now.t c.args.scene.now h p.script p.fonts c.args.frame.now plan.draws) are
