use Rattle.std.proofs.Common.{ap, ◌∙◌}
use Rattle.std.specs.Arc.{arc_value}
use Rattle.bdf_font.specs.declared.sets.FontSet.{FontSet}
use Rattle.mask_keys.specs.Values.{outline_value}
use Rattle.mask_caches.proofs.PlainValues.{plain-value}
use Rattle.mask_caches.proofs.caches.Caches.make_outline.Goals as goal

pub returns : goal.returns
returns c =
    let of_fonts = ap (λ (s : FontSet). outline_value s.fonts c.args.key.now.outline) c.deref.ensures in
    c.in_ok-new.ensures.ok ∙ (c.in_ok-region.ensures.value ∙ (of_fonts ∙ plain-value (arc_value c.args.self.now.fonts).fonts c.args.key.now c.requires.outline))
