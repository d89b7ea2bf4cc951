use Rattle.std.proofs.Common.{◌∙◌, ap}
use Rattle.ass_script.specs.Scripts.{style_for}
use Rattle.ass_script.specs.declared.style.Style.{Style}
use Rattle.text_layout.specs.Anchors.{event_margin_or}
use Rattle.text_layout.specs.declared.anchors.Margins.{Margins}
use Rattle.text_layout.proofs.AnchorLemmas.{margin_bits, margin_within}
use Rattle.text_layout.proofs.anchors.margins_of.Goals as goal

pub returns-clause-value : goal.returns-clause-value
returns-clause-value c =
    let event = c.args.event.now in
    let style = c.style_named-style.result.now in
    let s = c.style_named-style.ensures.range c.requires.styles in
    let named = c.style_named-style.ensures.style ∙ ap (λ name. style_for name c.args.script.now) c.as_str.ensures in
    let made : Style → Margins =
    λ (t : Style). record { left = event_margin_or event.margin_l t.margin_l; right = event_margin_or event.margin_r t.margin_r; vertical = event_margin_or event.margin_v t.margin_v } in
    rw (
      margin_bits event.margin_l style.margin_l c.margin_or.result c.requires.event.margin_l s.margin_l c.margin_or.ensures,
      margin_bits event.margin_r style.margin_r c.margin_or-2.result c.requires.event.margin_r s.margin_r c.margin_or-2.ensures,
      margin_bits event.margin_v style.margin_v c.margin_or-3.result c.requires.event.margin_v s.margin_v c.margin_or-3.ensures,
    )
    (ap made named)

pub returns-clause-range : goal.returns-clause-range
returns-clause-range c =
    let event = c.args.event.now in
    let style = c.style_named-style.result.now in
    let s = c.style_named-style.ensures.range c.requires.styles in
    record {
      left = rw (margin_bits event.margin_l style.margin_l c.margin_or.result c.requires.event.margin_l s.margin_l c.margin_or.ensures) (margin_within event.margin_l style.margin_l c.requires.event.margin_l s.margin_l);
      right = rw (margin_bits event.margin_r style.margin_r c.margin_or-2.result c.requires.event.margin_r s.margin_r c.margin_or-2.ensures) (margin_within event.margin_r style.margin_r c.requires.event.margin_r s.margin_r);
      vertical = rw (margin_bits event.margin_v style.margin_v c.margin_or-3.result c.requires.event.margin_v s.margin_v c.margin_or-3.ensures) (margin_within event.margin_v style.margin_v c.requires.event.margin_v s.margin_v);
    }
