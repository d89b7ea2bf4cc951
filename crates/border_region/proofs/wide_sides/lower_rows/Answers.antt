use Rattle.std.proofs.Common.{arith, refl, ℕ, ◌≡◌, ◌+◌, ◌-◌, ◌∙◌, length, take, drop, to_z-of_z}
use Rattle.std.proofs.lemmas.List.{length-drop, length-take-le}
use Rattle.border_region.proofs.PartLemmas.{lowered}
use Rattle.border_region.proofs.wide_sides.lower_rows.Goals as goal

-- the lowered part is as long as the rows of the profile
pub returns : goal.returns
returns c =
    let w : ℕ = (c.args.k + c.args.end) - (c.args.k + c.args.first) in
    let rest = length-drop (c.args.k + c.args.first) c.args.wide.now in
    let n : length (take w (drop (c.args.k + c.args.first) c.args.wide.now)) ≡ w = length-take-le w (drop (c.args.k + c.args.first) c.args.wide.now) (omega arith) in
    let is = rw (to_z-of_z c.ranges.side) at c.lower.ensures in
    lowered c.args.profile.now c.args.wide.now c.lower.new.numbers c.args.side c.args.k c.args.first c.args.end w (c.args.k + c.args.first) w (c.args.end - c.args.first) c.requires.ascends c.requires.room refl (omega arith) refl (omega arith) (c.lower.auto.numbers ∙ n)
    (λ q l. is q (rw n l))
