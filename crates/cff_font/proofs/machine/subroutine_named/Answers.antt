use Rattle.std.proofs.Common.{◌≡◌, pos, ◌+ℤ◌, ◌≤ℤ◌, ◌∙◌, ap, rules}
use Rattle.std.specs.Prelude.{unsigned_abs}
use Rattle.std.specs.Int.{int_div_euclid, int_rem_euclid}
use Rattle.cff_font.specs.Indexes.{item_at}
use Rattle.cff_font.specs.Machines.{bias_of}
use Rattle.cff_font.proofs.MachineLemmas.{named-there}
use Rattle.cff_font.proofs.machine.subroutine_named.Goals as goal

pub returns-clause-value : goal.returns-clause-value
returns-clause-value c =
    let k = c.div_euclid.result +ℤ c.bias_of.result in
    let whole : int_rem_euclid c.args.operand (pos 65536) ≡ pos 0 = search rules in
    let is : k ≡ int_div_euclid c.args.operand (pos 65536) +ℤ pos (bias_of c.args.index.now.count) = search rules in
    let least : pos 0 ≤ℤ k = search rules in
    let same : c.unsigned_abs.result ≡ unsigned_abs k = search rules in
    c.item_at.ensures.value ∙ (ap (item_at c.args.bytes.now c.args.index.now) same ∙ named-there c.args.bytes.now c.args.index.now c.args.operand k whole is least)
