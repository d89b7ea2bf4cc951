use Rattle.std.proofs.Common.{◌≡◌, pos, length, replicate, rules}
use Rattle.mask_cover.proofs.StepLemmas.{cleared}
use Rattle.mask_cover.proofs.steps.clear.Goals as goal

pub returns : goal.returns
returns c = λ n.
    let zeros : c.fill.new.self ≡ replicate (length c.args.steps.now) (pos 0) = search rules in
    cleared c.fill.new.self (length c.args.steps.now) n zeros
