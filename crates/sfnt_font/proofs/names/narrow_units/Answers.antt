use Rattle.std.proofs.Common.{◌≡◌, ◌+◌, ap, ◌∙◌}
use Rattle.font_bytes.specs.Bytes.{u8_at}
use Rattle.sfnt_font.specs.Names.{mac_character, narrow_unit}
use Rattle.sfnt_font.proofs.Steps.{unit-next}
use Rattle.sfnt_font.proofs.names.narrow_units.Goals as goal

pub loop-k-preserved : goal.loop-k-preserved
loop-k-preserved c =
    let unit : c.mac_character.result ≡ narrow_unit c.args.bytes.now c.args.at c.loop-k.k = c.mac_character.ensures ∙ ap mac_character (c.u8_at.ensures ∙ ap (λ n. u8_at c.args.bytes.now (c.args.at + n)) c.from-in-loop-k.ensures) in
    c.in_ok-push.ensures.ok ∙ unit-next (narrow_unit c.args.bytes.now c.args.at) c.loop-k.units c.loop-k.k c.mac_character.result c.loop-k.invariant unit
