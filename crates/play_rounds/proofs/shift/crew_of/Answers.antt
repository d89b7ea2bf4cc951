use Rattle.play_rounds.specs.Shifts.{feeders_of, painters_of}
use Rattle.play_rounds.proofs.Crews.{hired_both, hired_first}
use Rattle.play_rounds.proofs.shift.crew_of.Goals as goal

pub returns-in_ok-feeders-in-Both-clause-roles : goal.returns-in_ok-feeders-in-Both-clause-roles
returns-in_ok-feeders-in-Both-clause-roles c =
    rw c.in-Both.is (hired_both c.args.stage.now.job c.new-nobody.result.items c.in_ok-feeders-in-Both.feeders.items c.new-nobody.ensures.items c.in_ok-feeders-in-Both.ensures.roles c.hire_painters.result (λ v. v.items) c.hire_painters.ensures.roles)

pub returns-in-Feed-clause-roles : goal.returns-in-Feed-clause-roles
returns-in-Feed-clause-roles c =
    rw c.in-Feed.is (hired_first (feeders_of c.args.stage.now.job) c.new-nobody.result.items c.new-nobody.ensures.items c.hire_feeders-in-Feed.result (λ v. v.items) c.hire_feeders-in-Feed.ensures.roles)

pub returns-in-Paint-clause-roles : goal.returns-in-Paint-clause-roles
returns-in-Paint-clause-roles c =
    rw c.in-Paint.is (hired_first (painters_of c.args.stage.now.job) c.new-nobody.result.items c.new-nobody.ensures.items c.hire_painters-in-Paint.result (λ v. v.items) c.hire_painters-in-Paint.ensures.roles)
