use Rattle.std.proofs.Common.{◌+◌, ◌*◌, ℕ, nat_le, sym, ap, ◌∙◌, subst, arith}
use Rattle.std.proofs.lemmas.Bool.{lt-leb}
use Rattle.std.proofs.lemmas.Nat.{mul-le}
use Rattle.evict_core.specs.Machine.{IsHardLimit, is_held}
use Rattle.evict_core.proofs.HardLemmas.{left-held}
use Rattle.evict_core.proofs.hard_limit.is_held.Goals as goal

pub overflow_mul-made : goal.overflow_mul-made
overflow_mul-made c =
    let set = subst IsHardLimit c.in-Some.is c.requires in
    let product = mul-le c.in-Some.hard.making c.from.result 4294967296 4294967295 set.1 (omega (arith, c.from.ensures)) in
    omega (arith, product)

pub returns-then-cost-hard : goal.returns-then-cost-hard
returns-then-cost-hard c =
    let limit = c.in-Some.hard in
    left-held c.args.cost (limit.making * c.from.result) limit.cost c.if-cost-hard.true
    ∙ (ap (λ (n : ℕ). nat_le (c.args.cost + limit.making * n) limit.cost) c.from.ensures ∙ ap (λ h. is_held h c.args.cost c.args.makings) (sym c.in-Some.is))

pub returns-else-cost-hard : goal.returns-else-cost-hard
returns-else-cost-hard c =
    let limit = c.in-Some.hard in
    lt-leb c.args.cost limit.cost c.if-cost-hard.false
    ∙ (sym (lt-leb (c.args.cost + limit.making * c.args.makings) limit.cost (omega (arith, c.if-cost-hard.false))) ∙ ap (λ h. is_held h c.args.cost c.args.makings) (sym c.in-Some.is))
