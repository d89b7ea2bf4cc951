use Rattle.std.proofs.Common.{◌≡◌, ◌∙◌, ap, subst}
use Rattle.std.specs.Result.{IfOk}
use Rattle.ass_script.specs.declared.script.Header.{Header}
use Rattle.frame_view.specs.declared.scales.Scales.{Scales}
use Rattle.text_layout.specs.Layouts.{IsLaidBy}
use Rattle.text_layout.specs.LineScales.{line_scales}
use Rattle.text_layout.proofs.layouts.layout.Goals as goal

pub returns-clause-laid : goal.returns-clause-laid
returns-clause-laid c =
    let inside = c.setting.inside in
    let view = c.args.view.now in
    let scales : c.line_scales-scales.result ≡ line_scales inside.script.now.header inside.frame view =
    c.line_scales-scales.ensures.value ∙ ap (λ (h : Header). line_scales h inside.frame view) c.header.ensures in
    rw (← c.setting.view_is)
    (subst (λ (z : Scales). IfOk c.layout_by.result (IsLaidBy inside.script.now inside.fonts.now.fonts c.args.event.now view z)) scales c.layout_by.ensures.laid)
