use Rattle.std.proofs.Common.{◌≡◌, ◌+◌, ◌*◌, ap, ◌∙◌}
use Rattle.font_bytes.specs.Bytes.{u16_at}
use Rattle.sfnt_font.specs.Names.{wide_unit}
use Rattle.sfnt_font.proofs.Steps.{unit-next}
use Rattle.sfnt_font.proofs.names.wide_units.Goals as goal

pub loop-k-preserved : goal.loop-k-preserved
loop-k-preserved c =
    let unit : c.u16_at.result ≡ wide_unit c.args.bytes.now c.args.at c.loop-k.k = c.u16_at.ensures ∙ ap (λ n. u16_at c.args.bytes.now (c.args.at + 2 * n)) c.from-in-loop-k.ensures in
    c.in_ok-push.ensures.ok ∙ unit-next (wide_unit c.args.bytes.now c.args.at) c.loop-k.units c.loop-k.k c.u16_at.result c.loop-k.invariant unit
