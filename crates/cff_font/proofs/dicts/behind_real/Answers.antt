use Rattle.std.proofs.Common.{◌≡◌, false, sym, ap, ◌∙◌, arith}
use Rattle.font_bytes.specs.Bytes.{u8_at}
use Rattle.cff_font.specs.Dicts.{ends_real}
use Rattle.cff_font.proofs.Turns.{real-next, real-spent}
use Rattle.cff_font.proofs.dicts.behind_real.Goals as goal

pub loop-i-preserved : goal.loop-i-preserved
loop-i-preserved c =
    let fails : ends_real (u8_at c.args.bytes.now c.loop-i.i) ≡ false = ap ends_real (sym c.u8_at.ensures) ∙ (sym c.ends_real.ensures ∙ c.if-ends_real.false) in
    real-next c.args.bytes.now c.args.stop c.loop-i.i c.loop-i-test.true fails ∙ c.loop-i.invariant

pub returns : goal.returns
returns c = sym (real-spent c.args.bytes.now c.args.stop c.loop-i.i (omega arith)) ∙ c.loop-i.invariant
