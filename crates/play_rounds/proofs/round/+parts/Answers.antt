use Rattle.std.proofs.Common.{◌≡◌, ℕ, ◌<◌, List, length, arith, rules, subst}
use Rattle.std.specs.List.{All, slice_index_or}
use Rattle.std.proofs.lemmas.List.Elements.{All-head, All-rest}
use Rattle.play_workers.specs.Parts.{HasPass, HasWorked}
use Rattle.play_workers.specs.Roles.{IsRoleOf}
use Rattle.play_workers.specs.declared.worker.Worker.{Worker}
use Rattle.play_rounds.proofs.Apart.{all_worked}
use Rattle.play_rounds.proofs.round.+parts.Goals as goal

pub work_all-work_permitted-requires-clause-pass : goal.work_all-work_permitted-requires-clause-pass
work_all-work_permitted-requires-clause-pass g t c κs within =
    All-head (HasPass c.args.stage.now.renderer) c.in-Some.worker.now c.in-Some.rest.now (subst (All (HasPass c.args.stage.now.renderer)) c.in-Some.ensures.cases.0 c.requires.passes)

pub work_all-work_permitted-requires-clause-role : goal.work_all-work_permitted-requires-clause-role
work_all-work_permitted-requires-clause-role g t c κs within =
    All-head (λ (w : Worker). IsRoleOf c.args.stage.now.job w.role) c.in-Some.worker.now c.in-Some.rest.now (subst (All (λ (w : Worker). IsRoleOf c.args.stage.now.job w.role)) c.in-Some.ensures.cases.0 c.requires.roles)

pub work_all-returns-then-is_empty : goal.work_all-returns-then-is_empty
work_all-returns-then-is_empty g t c =
    let none : length c.in-Some.rest.now ≡ 0 = search rules in
    all_worked c.args.stage.now c.args.round c.args.workers.now c.in-Some.worker.now c.work_permitted.new.worker c.in-Some.rest.now c.in-Some.rest.now c.in-Some.ensures.cases.0 c.work_permitted.ensures (λ i d lt. absurd (omega (arith, lt, none)))

pub work_all-work_apart-requires-clause-pass : goal.work_all-work_apart-requires-clause-pass
work_all-work_apart-requires-clause-pass g t c κs within =
    All-head (HasPass c.args.stage.now.renderer) c.in-Some.worker.now c.in-Some.rest.now (subst (All (HasPass c.args.stage.now.renderer)) c.in-Some.ensures.cases.0 c.requires.passes)

pub work_all-work_apart-requires-clause-role : goal.work_all-work_apart-requires-clause-role
work_all-work_apart-requires-clause-role g t c κs within =
    All-head (λ (w : Worker). IsRoleOf c.args.stage.now.job w.role) c.in-Some.worker.now c.in-Some.rest.now (subst (All (λ (w : Worker). IsRoleOf c.args.stage.now.job w.role)) c.in-Some.ensures.cases.0 c.requires.roles)

pub work_all-work_apart-requires-clause-passes : goal.work_all-work_apart-requires-clause-passes
work_all-work_apart-requires-clause-passes g t c κs within =
    All-rest (HasPass c.args.stage.now.renderer) c.in-Some.worker.now c.in-Some.rest.now c.args.workers.now c.in-Some.ensures.cases.0 c.requires.passes

pub work_all-work_apart-requires-clause-roles : goal.work_all-work_apart-requires-clause-roles
work_all-work_apart-requires-clause-roles g t c κs within =
    All-rest (λ (w : Worker). IsRoleOf c.args.stage.now.job w.role) c.in-Some.worker.now c.in-Some.rest.now c.args.workers.now c.in-Some.ensures.cases.0 c.requires.roles

pub work_all-returns : goal.work_all-returns
work_all-returns g t c =
    all_worked c.args.stage.now c.args.round c.args.workers.now c.in-Some.worker.now c.work_apart.new.worker c.in-Some.rest.now c.work_apart.new.rest c.in-Some.ensures.cases.0 c.work_apart.ensures.worker c.work_apart.ensures.rest

pub work_apart-returns-clause-rest : goal.work_apart-returns-clause-rest
work_apart-returns-clause-rest g t c =
    subst (λ (ws : List Worker). (i : ℕ) (d : Worker) → i < length c.args.rest.now → HasWorked c.args.stage.now c.args.round (slice_index_or c.args.rest.now i d) (slice_index_or ws i d)) {x = c.join_mut.new.g.5.now}
    (search rules) c.join_mut.ensures.1.met.1
