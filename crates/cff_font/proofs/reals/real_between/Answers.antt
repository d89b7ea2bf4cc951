use Rattle.std.proofs.Common.{◌≤◌, ◌+◌, ◌*◌, ◌/◌, ◌^◌, ◌∙◌, refl, ap, sym, to_z-of_z, FitsSigned, w64, arith, rules}
use Rattle.cff_font.specs.Reals.{first_real, half_read, byte_read, value_of_real}
use Rattle.cff_font.proofs.KeptLemmas.{kept_twice, real_of}
use Rattle.cff_font.proofs.RealLemmas.{bytes_spent, bytes_next}
use Rattle.cff_font.proofs.reals.real_between.Goals as goal

pub loop-i-init : goal.loop-i-init
loop-i-init c = (omega arith, (first_real, (c.first_real-real.ensures (2 * c.args.at), refl)))

pub half_read-requires : goal.half_read-requires
half_read-requires c = real_of (2 * c.loop-i.i) c.loop-i.invariant.1.0 c.loop-i.real (omega arith) c.loop-i.invariant.1.1.0

pub half_read-real-requires : goal.half_read-real-requires
half_read-real-requires c =
    let first = c.half_read.ensures (2 * c.loop-i.i) c.loop-i.invariant.1.0 c.loop-i.invariant.1.1.0 in
    real_of (2 * c.loop-i.i + 1) (half_read c.loop-i.invariant.1.0 (c.u8_at-b.result / 16)) c.half_read.result (omega arith) first

pub loop-i-preserved : goal.loop-i-preserved
loop-i-preserved c =
    let exact = c.loop-i.invariant.1.0 in
    let b = c.u8_at-b.result in
    let read = byte_read exact b in
    let twice = kept_twice c.loop-i.i exact c.loop-i.real c.half_read.result c.half_read-real.result b c.loop-i.invariant.1.1.0
    (c.half_read.ensures (2 * c.loop-i.i) exact) (c.half_read-real.ensures (2 * c.loop-i.i + 1) (half_read exact (b / 16))) in
    (omega arith, (read, (twice, bytes_next c.args.bytes.now c.args.behind c.loop-i.i exact read c.loop-i-test.true (ap (byte_read exact) c.u8_at-b.ensures) ∙ c.loop-i.invariant.1.1.1)))

pub returns-clause-value : goal.returns-clause-value
returns-clause-value c =
    let fits : FitsSigned w64 c.value_of_real.result = search rules in
    let exact = c.loop-i.invariant.1.0 in
    let few : 2 * c.loop-i.i ≤ 2 ^ 66 = omega (arith, c.loop-i.invariant.0) in
    to_z-of_z fits ∙ (c.value_of_real.ensures.value (2 * c.loop-i.i) exact few c.loop-i.invariant.1.1.0
    ∙ ap value_of_real (sym (bytes_spent c.args.bytes.now c.args.behind c.loop-i.i exact c.loop-i-test.false) ∙ c.loop-i.invariant.1.1.1))

pub value_of_real-requires : goal.value_of_real-requires
value_of_real-requires c =
    let few : 2 * c.loop-i.i ≤ 2 ^ 66 = omega (arith, c.loop-i.invariant.0) in
    real_of (2 * c.loop-i.i) c.loop-i.invariant.1.0 c.loop-i.real few c.loop-i.invariant.1.1.0
