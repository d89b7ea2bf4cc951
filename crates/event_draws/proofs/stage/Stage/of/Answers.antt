use Rattle.std.proofs.Common.{◌≡◌, ◌∙◌, ap, FitsSigned, w64, to_z-of_z, rules}
use Rattle.ass_script.specs.declared.script.Header.{Header}
use Rattle.tag_state.specs.Views.{elapsed_at}
use Rattle.text_layout.specs.Anchors.{block_corner}
use Rattle.text_layout.specs.LineScales.{line_scales}
use Rattle.event_draws.specs.Stages.{moved_down}
use Rattle.event_draws.proofs.StageLemmas.{stage_is}
use Rattle.event_draws.proofs.stage.Stage.of.Goals as goal

pub returns-clause-value : goal.returns-clause-value
returns-clause-value c =
    let at = c.anchor-at.result in
    let view = c.args.view.now in
    let laid = c.args.laid.now in
    let corner : c.corner_of.result ≡ moved_down (block_corner at view.align laid.width laid.height) c.args.shift = search rules in
    let moved : c.moved_down.result ≡ moved_down at c.args.shift = search rules in
    let elapsed : c.elapsed_of.result ≡ elapsed_at c.args.event.now c.args.t = search rules in
    let fits : FitsSigned w64 c.elapsed_of.result = search rules in
    let inside = c.setting.inside in
    let scales : c.line_scales-scales.result ≡ line_scales inside.script.now.header inside.frame view =
    c.line_scales-scales.ensures.value ∙ ap (λ (h : Header). line_scales h inside.frame view) c.header.ensures in
    rw (to_z-of_z fits, ← c.setting.view_is)
    (stage_is inside.script.now c.args.event.now c.args.t inside.frame view laid c.args.shift c.line_scales-scales.result at c.corner_of.result c.moved_down.result c.origin_of.result
    c.elapsed_of.result scales c.anchor-at.ensures.value corner moved c.origin_of.ensures.value elapsed)
