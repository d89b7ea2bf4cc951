use Rattle.std.proofs.Common.{◌≡◌, ◌∙◌, ℕ, List, length, ℤ, sym, ap, ap₂, subst, FitsSigned, w64, to_z-of_z, rules}
use Rattle.std.proofs.lemmas.List.{length-map}
use Rattle.std.proofs.lemmas.Result.{IfOk-weaker}
use Rattle.std.specs.List.{All}
use Rattle.std.specs.Result.{IfOk}
use Rattle.frame_view.specs.declared.scales.Scales.{Scales}
use Rattle.ass_script.specs.Scripts.{ScriptValue}
use Rattle.ass_events.specs.declared.event.Event.{Event}
use Rattle.bdf_font.specs.Fonts.{FontValue}
use Rattle.line_layout.specs.Breaks.{IsItemWidth}
use Rattle.override_tags.specs.Views.{IsShownItem}
use Rattle.override_tags.specs.declared.view.EventView.{EventView}
use Rattle.override_tags.specs.declared.view.Shown.{Shown}
use Rattle.text_layout.specs.declared.anchors.Margins.{Margins}
use Rattle.text_layout.specs.declared.extents.Extent.{Extent}
use Rattle.text_layout.specs.declared.laid.Laid.{Laid}
use Rattle.text_layout.specs.declared.metrics.Metrics.{Metrics}
use Rattle.text_layout.specs.declared.spans.Span.{Span}
use Rattle.text_layout.specs.Anchors.{margins_of, wrapping_width}
use Rattle.text_layout.specs.Extents.{IsItemExtent, item_extents}
use Rattle.text_layout.specs.Kinds.{roles_of}
use Rattle.text_layout.specs.Layouts.{IsLaidBy, IsWithinBlock, laid_out}
use Rattle.text_layout.specs.Lines.{advances_of}
use Rattle.text_layout.specs.Metrics.{IsMetrics, all_metrics, state_metrics}
use Rattle.text_layout.specs.Spans.{AreLines, paragraphs_of}
use Rattle.text_layout.proofs.BlockLemmas.{advances-within}
use Rattle.text_layout.proofs.layouts.layout_by.Goals as goal

-- a view has metrics for each of its states
metrics_count : (scales : Scales) (fonts : List FontValue) (view : EventView) → length (all_metrics scales fonts view) ≡ length view.states
metrics_count scales fonts view = length-map view.states (state_metrics scales fonts view.names)

-- a layout by the stages before it
laid_by : (script : ScriptValue) (fonts : List FontValue) (event : Event) (view : EventView) (scales : Scales) (metrics : List Metrics) (extents : List Extent) (advances : List ℤ)
    (items : List Shown) (max : ℤ) (spans shown : List Span) (laid : Laid) → metrics ≡ all_metrics scales fonts view
    → extents ≡ item_extents fonts (all_metrics scales fonts view) view.wrap view.items
    → advances ≡ advances_of (item_extents fonts (all_metrics scales fonts view) view.wrap view.items) → items ≡ view.items
    → max ≡ wrapping_width (margins_of script event) scales → shown ≡ spans
    → AreLines view.wrap (roles_of view.wrap items) advances max (paragraphs_of (roles_of view.wrap items)) spans
    → laid ≡ laid_out view metrics extents shown → IsLaidBy script fonts event view scales laid
laid_by script fonts event view scales metrics extents advances items max spans shown laid m e a i w s lines is =
    let all = all_metrics scales fonts view in
    let each = item_extents fonts all view.wrap view.items in
    let width = wrapping_width (margins_of script event) scales in
    let lines_by = λ (xs : List Shown) (ws : List ℤ) (z : ℤ). AreLines view.wrap (roles_of view.wrap xs) ws z (paragraphs_of (roles_of view.wrap xs)) spans in (
      spans,
      subst (λ (xs : List Shown). lines_by xs (advances_of each) width) i
          (subst (λ (z : ℤ). lines_by items (advances_of each) z) w (subst (λ (ws : List ℤ). lines_by items ws max) a lines)),
      is ∙ ap₂ (λ (x : List Metrics) (y : List Extent). laid_out view x y shown) m e ∙ ap (laid_out view all each) s,
    )

pub line_spans-requires-clause-widths : goal.line_spans-requires-clause-widths
line_spans-requires-clause-widths c =
    subst (All IsItemWidth) (sym (c.as_slice-3.ensures.value ∙ c.in_ok-advances.ensures))
    (advances-within c.as_slice-2.result.now (subst (All IsItemExtent) (sym c.as_slice-2.ensures.value) c.in_ok-extents.ensures.range))

pub laid_out-requires-clause-metrics : goal.laid_out-requires-clause-metrics
laid_out-requires-clause-metrics c = subst (All IsMetrics) (sym c.as_slice-4.ensures.value) c.in_ok-metrics.ensures.range

pub laid_out-requires-clause-items : goal.laid_out-requires-clause-items
laid_out-requires-clause-items c =
    let view = c.args.view.now in
    let count = ap length (c.as_slice-4.ensures.value ∙ c.in_ok-metrics.ensures.value) ∙ metrics_count c.args.scales.now c.args.fonts.now.fonts view in
    subst (λ (n : ℕ). All (IsShownItem n) view.items) (sym count) c.requires.view.items

pub laid_out-requires-clause-extents : goal.laid_out-requires-clause-extents
laid_out-requires-clause-extents c = subst (All IsItemExtent) (sym c.as_slice-5.ensures.value) c.in_ok-extents.ensures.range

pub returns-clause-laid : goal.returns-clause-laid
returns-clause-laid c =
    let script = c.args.script.now in
    let fonts = c.args.fonts.now.fonts in
    let view = c.args.view.now in
    let scales = c.args.scales.now in
    let metrics = c.in_ok-metrics.ensures.value in
    let extents =
    c.in_ok-extents.ensures.value ∙ ap₂ (λ (ms : List Metrics) (xs : List Shown). item_extents fonts ms view.wrap xs) (c.as_slice.ensures.value ∙ metrics) c.as_slice-items.ensures in
    let advances = c.as_slice-3.ensures.value ∙ c.in_ok-advances.ensures ∙ ap advances_of (c.as_slice-2.ensures.value ∙ extents) in
    let fits : FitsSigned w64 c.wrapping_width-max.result = search rules in
    let max = to_z-of_z fits ∙ c.wrapping_width-max.ensures ∙ ap (λ (m : Margins). wrapping_width m scales) c.margins_of.ensures.value in
    IfOk-weaker c.laid_out.result _ _ (λ laid is. laid_by script fonts c.args.event.now view scales c.as_slice-4.result.now c.as_slice-5.result.now c.as_slice-3.result.now
    c.as_slice-items.result.now _ c.in_ok-spans.spans.items c.as_slice-6.result.now laid (c.as_slice-4.ensures.value ∙ metrics) (c.as_slice-5.ensures.value ∙ extents) advances
    c.as_slice-items.ensures max c.as_slice-6.ensures.value c.in_ok-spans.ensures.lines is) c.laid_out.ensures.value

pub returns-clause-within : goal.returns-clause-within
returns-clause-within c =
    let count = ap length c.as_slice-5.ensures.value ∙ c.in_ok-extents.ensures.count ∙ ap length c.as_slice-items.ensures in
    subst (λ (n : ℕ). IfOk c.laid_out.result (IsWithinBlock n)) count c.laid_out.ensures.within
