use Rattle.std.proofs.Common.{rules, ◌∙◌, FitsSigned, w32, to_z-of_z, to_z, of_z, pos, inl, inr, ap}
use Rattle.ass_num.specs.Regions.{RegionValue, member}
use Rattle.region_rows.proofs.GrowthLemmas.{members_some, canonical}
use Rattle.region_rows.proofs.growth.Growth.finish.Goals as goal

pub new-requires : goal.new-requires
new-requires c = rw (c.shrink_to_fit.ensures, c.truncate.ensures) (canonical c.args.self.rows c.args.self.filled c.requires (pos 0) (λ e. search rules))

pub new-requires-2 : goal.new-requires-2
new-requires-2 c = rw (c.shrink_to_fit.ensures, c.truncate.ensures) (canonical c.args.self.rows c.args.self.filled c.requires (to_z w32 (of_z w32 c.args.self.top)) (λ e. absurd (c.if-filled-eq0.false e)))

pub returns-then-filled-eq0-clause-samples : goal.returns-then-filled-eq0-clause-samples
returns-then-filled-eq0-clause-samples c = λ wanted last w h i j.
    ap (λ (r : RegionValue). member r.top r.rows i j) c.new.ensures ∙ rw (c.shrink_to_fit.ensures, c.truncate.ensures) (members_some wanted last c.args.self.top c.args.self.rows c.args.self.filled w h (pos 0) (inr c.if-filled-eq0.true) i j)

pub returns-clause-samples : goal.returns-clause-samples
returns-clause-samples c = λ wanted last w h i j.
    let f : FitsSigned w32 c.args.self.top = search rules in
    ap (λ (r : RegionValue). member r.top r.rows i j) c.new-2.ensures ∙ rw (c.shrink_to_fit.ensures, c.truncate.ensures) (members_some wanted last c.args.self.top c.args.self.rows c.args.self.filled w h (to_z w32 (of_z w32 c.args.self.top)) (inl (to_z-of_z f)) i j)
