-- How many lines, images and workers there are at most.
use Rattle.std.proofs.Common.{◌≡◌, ◌*◌, ◌<◌, ◌≤◌, List, length, sym, ap, subst, ◌∙◌, arith}
use Rattle.std.specs.Arc.{arc_value}
use Rattle.std.specs.List.{All}
use Rattle.std.proofs.lemmas.List.{length-map}
use Rattle.std.proofs.lemmas.List.Elements.{All-map}
use Rattle.std.proofs.lemmas.Nat.{mul-le}
use Rattle.ass_script.specs.Limits.{max_lines}
use Rattle.play_shares.specs.Instants.{instant_count}
use Rattle.run_words.specs.declared.job.PlayJob.{PlayJob}
use Rattle.play_shares.proofs.RoundPlaces.{few_painters, some_painters}
use Rattle.play_model.proofs.JoinedPasses.{All_unmap}
use Rattle.play_model.proofs.Shares.{flags_long}
use Rattle.play_workers.specs.Limits.{max_rounds}
use Rattle.play_workers.specs.Roles.{IsRoleOf}
use Rattle.play_workers.specs.Stages.{IsPlayStage}
use Rattle.play_workers.specs.declared.stage.PlayStage.{PlayStage}
use Rattle.play_workers.specs.declared.worker.Worker.{Worker}
use Rattle.play_rounds.specs.Rounds.{worker_roles}
use Rattle.play_rounds.specs.Limits.{max_crew}
use Rattle.play_rounds.specs.Shifts.{crew_of}
use Rattle.play_rounds.specs.declared.shift.Shift.{Shift}
use Rattle.play_rounds.proofs.Crews.{crew_few, crew_fits, crew_some}

-- ---- workers of the same roles

pub as_many : (workers others : List Worker) → worker_roles others ≡ worker_roles workers → length others ≡ length workers
as_many workers others same = sym (length-map others (λ (w : Worker). w.role)) ∙ (ap length same ∙ length-map workers (λ (w : Worker). w.role))

pub still_fit : (job : PlayJob) (workers others : List Worker) → worker_roles others ≡ worker_roles workers → All (λ (w : Worker). IsRoleOf job w.role) workers → All (λ (w : Worker). IsRoleOf job w.role) others
still_fit job workers others same fit = All_unmap (IsRoleOf job) (λ (w : Worker). w.role) others
    (subst (All (IsRoleOf job)) (sym same) (All-map (IsRoleOf job) (λ (w : Worker). w.role) workers fit))

module _ (stage : PlayStage) (is_stage : IsPlayStage stage) where
  pub lines_are : length stage.good ≡ length (arc_value stage.script).lines
  lines_are = ap length is_stage.good ∙ flags_long (arc_value stage.script)

  pub lines_few : length stage.good ≤ max_lines
  lines_few = let all = lines_are in let few = is_stage.playable.script.few_lines in omega (arith, all, few)

  pub instants_few : instant_count stage.job ≤ max_rounds
  instants_few =
      let some = is_stage.playable.job.times.0 in let few = is_stage.playable.frames in
      let once : 1 * instant_count stage.job ≤ stage.job.times * instant_count stage.job = mul-le 1 (instant_count stage.job) stage.job.times (instant_count stage.job) some (omega arith) in
      omega (arith, once, few)

  -- ---- the crew of a shift

  module _ (shift : Shift) (workers : List Worker) (crew : worker_roles workers ≡ crew_of stage.job shift) where
    as_crew : length workers ≡ length (crew_of stage.job shift)
    as_crew = sym (length-map workers (λ (w : Worker). w.role)) ∙ ap length crew

    pub crew_at_most : length workers ≤ max_crew
    crew_at_most =
        let same = as_crew in
        let few = crew_few stage.job shift in let f = is_stage.playable.job.feeders.1 in let p = few_painters stage.job is_stage.playable.job in omega (arith, same, few, f, p)

    pub crew_at_least : 0 < length workers
    crew_at_least =
        let same = as_crew in
        let f = is_stage.playable.job.feeders.0 in
        let some = crew_some stage.job shift (omega (arith, f)) (some_painters stage.job is_stage.playable.job) in omega (arith, same, some)

    pub crew_is_fit : All (λ (w : Worker). IsRoleOf stage.job w.role) workers
    crew_is_fit = All_unmap (IsRoleOf stage.job) (λ (w : Worker). w.role) workers (subst (All (IsRoleOf stage.job)) (sym crew) (crew_fits stage.job shift))
