use Rattle.std.proofs.Common.{arith, ap, ◌∙◌, ◌≡◌, ◌++◌, ◌∷◌, [], ℤ, pos, neg_ℤ, ◌-ℤ◌, FitsSigned, w32, to_z-of_z}
use Rattle.std.proofs.lemmas.Int.{ints}
use Rattle.border_region.proofs.strips.Strip.push.Goals as goal

pub overflow_sub-run : goal.overflow_sub-run
overflow_sub-run c =
    let left = c.requires.within.left in
    let right = c.requires.within.right in
    let full = c.requires.full in
    let f : FitsSigned w32 c.args.run.to = omega (arith, ints) in
    rw (to_z-of_z f) (omega (arith, ints))

pub returns-clause-rights : goal.returns-clause-rights
returns-clause-rights c =
    let left = c.requires.within.left in
    let right = c.requires.within.right in
    let full = c.requires.full in
    let f : FitsSigned w32 c.args.run.to = omega (arith, ints) in
    let g : FitsSigned w32 (pos 0 -ℤ c.args.run.to) = omega (arith, ints) in
    let e = simp to_z-of_z at c.in_ok-push-2.ensures.items in
    let z : pos 0 -ℤ c.args.run.to ≡ neg_ℤ c.args.run.to = omega (arith, ints) in
    e ∙ ap (λ (v : ℤ). c.args.self.now.rights.items ++ v ∷ []) z
