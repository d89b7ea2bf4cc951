use Rattle.std.proofs.Common.{◌≡◌, length, arith, rules}
use Rattle.play_workers.specs.Parts.{HasPass}
use Rattle.play_rounds.proofs.WholeRounds.{all_at, home_after, idle_passes, next_after, roles_after, roles_same, split_itself, whole_round}
use Rattle.play_rounds.proofs.round.play_round.Goals as goal

pub work_all-requires-clause-passes : goal.work_all-requires-clause-passes
work_all-requires-clause-passes g c κs within =
    let long : length c.hand_out-first.new.workers ≡ length c.args.workers.now = search rules in
    all_at (HasPass c.args.stage.now.renderer) c.hand_out-first.new.workers (λ i d lt. c.hand_out-first.ensures.have i d (omega (arith, lt, long)))

pub work_all-requires-clause-roles : goal.work_all-requires-clause-roles
work_all-requires-clause-roles g c κs within =
    roles_same c.args.stage.now.job c.args.workers.now c.hand_out-first.new.workers (search rules) c.hand_out-first.ensures.roles c.requires.roles

pub take_back-requires-clause-itself : goal.take_back-requires-clause-itself
take_back-requires-clause-itself g c =
    let long : length c.hand_out-first.new.workers ≡ length c.args.workers.now = search rules in
    split_itself c.args.stage.now c.args.round c.args.first c.hand_out-first.result c.hand_out-first.new.workers c.work_all.new.workers (length c.args.workers.now) long (search rules)
    c.hand_out-first.ensures.have c.hand_out-first.ensures.passes (λ i d lt. c.work_all.ensures i d (omega (arith, lt, long))) c.requires.home

pub take_back-requires-clause-passes : goal.take_back-requires-clause-passes
take_back-requires-clause-passes g c =
    let long : length c.hand_out-first.new.workers ≡ length c.args.workers.now = search rules in
    idle_passes c.args.stage.now c.args.round c.args.first c.hand_out-first.result c.hand_out-first.new.workers c.work_all.new.workers (length c.args.workers.now) long (search rules)
    c.hand_out-first.ensures.have c.hand_out-first.ensures.passes (λ i d lt. c.work_all.ensures i d (omega (arith, lt, long)))

pub returns-clause-round : goal.returns-clause-round
returns-clause-round g c =
    let long : length c.hand_out-first.new.workers ≡ length c.args.workers.now = search rules in
    whole_round c.args.stage.now c.args.round c.args.first c.hand_out-first.result c.hand_out-first.new.workers c.work_all.new.workers (length c.args.workers.now) long (search rules)
    c.hand_out-first.ensures.have c.hand_out-first.ensures.passes (λ i d lt. c.work_all.ensures i d (omega (arith, lt, long)))
    c.take_back.new.workers c.take_back.result (search rules) c.take_back.ensures.joined c.take_back.ensures.stay

pub returns-clause-roles : goal.returns-clause-roles
returns-clause-roles g c =
    let long : length c.hand_out-first.new.workers ≡ length c.args.workers.now = search rules in
    roles_after c.args.stage.now c.args.round c.args.first c.hand_out-first.result c.hand_out-first.new.workers c.work_all.new.workers (length c.args.workers.now) long (search rules)
    c.hand_out-first.ensures.have c.hand_out-first.ensures.passes (λ i d lt. c.work_all.ensures i d (omega (arith, lt, long)))
    c.args.workers.now c.take_back.new.workers (search rules) (search rules) c.hand_out-first.ensures.roles c.take_back.ensures.stay

pub returns-clause-home : goal.returns-clause-home
returns-clause-home g c = home_after c.args.stage.now c.args.round c.args.first c.take_back.new.workers c.take_back.result c.requires.home (returns-clause-round g c) c.take_back.ensures.pass

pub returns-clause-drawn : goal.returns-clause-drawn
returns-clause-drawn g c =
    let long : length c.take_back.new.workers ≡ length c.args.workers.now = search rules in
    let next = next_after c.args.stage.now c.args.round c.args.first c.take_back.new.workers c.take_back.result c.requires.home (returns-clause-round g c) in
    omega (arith, next, long)
