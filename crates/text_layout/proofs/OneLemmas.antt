-- There is one layout.
use Rattle.std.proofs.Common.{◌≡◌, ℕ, ◌+◌, ◌≤◌, List, [], ◌∷◌, ◌++◌, map, slice_range, ℤ, inl, inr, sym, ap, ap₂, ◌∙◌}
use Rattle.frame_view.specs.declared.view.FrameView.{FrameView}
use Rattle.ass_script.specs.Scripts.{ScriptValue}
use Rattle.ass_events.specs.declared.event.Event.{Event}
use Rattle.bdf_font.specs.Fonts.{FontValue}
use Rattle.line_layout.proofs.OneLemmas.{one_best, one_filling}
use Rattle.override_tags.specs.declared.view.EventView.{EventView}
use Rattle.text_layout.specs.declared.kinds.BreakRole.{BreakRole}
use Rattle.text_layout.specs.declared.kinds.BreakRole.TheVariants.{Space}
use Rattle.text_layout.specs.declared.laid.Laid.{Laid}
use Rattle.text_layout.specs.declared.spans.Span.{Span}
use Rattle.text_layout.specs.Extents.{item_extents}
use Rattle.text_layout.specs.Kinds.{roles_of}
use Rattle.text_layout.specs.Anchors.{margins_of, wrapping_width}
use Rattle.text_layout.specs.LineScales.{line_scales}
use Rattle.text_layout.specs.Layouts.{IsLaid, laid_out}
use Rattle.text_layout.specs.Lines.{advances_of}
use Rattle.text_layout.specs.Metrics.{all_metrics}
use Rattle.text_layout.specs.Spans.{AreChosen, AreLines, AreLinesOf, paragraphs_of, places_of, spans_between}
use Rattle.text_layout.proofs.SpanLemmas.{unbroken, wrap_cases}

one_chosen : (wrap : ℕ) (widths : List ℤ) (spaces : List ℕ) (max : ℤ) (xs ys : List ℕ) → wrap ≤ 3 → AreChosen wrap widths spaces max xs → AreChosen wrap widths spaces max ys → xs ≡ ys
one_chosen wrap widths spaces max xs ys style h k =
    elim (wrap_cases wrap style) [
      | inl e ↦ one_best widths spaces max _ xs ys (h.greatest e) (k.greatest e)
      | inr (inl e) ↦ one_filling widths spaces max 0 xs ys (h.filled e) (k.filled e)
      | inr (inr (inl e)) ↦ unbroken wrap widths spaces max xs e h ∙ sym (unbroken wrap widths spaces max ys e k)
      | inr (inr (inr e)) ↦ one_best widths spaces max _ xs ys (h.least e) (k.least e)
    ]

one_paragraph : (wrap : ℕ) (roles : List BreakRole) (advances : List ℤ) (max : ℤ) (p : Span) (xs ys : List Span) → wrap ≤ 3
    → AreLinesOf wrap roles advances max p xs → AreLinesOf wrap roles advances max p ys → xs ≡ ys
one_paragraph wrap roles advances max p xs ys style h k =
    let places = one_chosen wrap (slice_range advances p.first p.last) (places_of Space (slice_range roles p.first p.last)) max h.0 k.0 style h.1 k.1 in
    h.2 ∙ ap (λ (l : List ℕ). spans_between p.first p.last (map (λ place. p.first + place) l)) places ∙ sym k.2

pub one_set_of_lines : (wrap : ℕ) (roles : List BreakRole) (advances : List ℤ) (max : ℤ) (ps xs ys : List Span) → wrap ≤ 3
    → AreLines wrap roles advances max ps xs → AreLines wrap roles advances max ps ys → xs ≡ ys
one_set_of_lines wrap roles advances max [] xs ys style h k = h ∙ sym k
one_set_of_lines wrap roles advances max (p ∷ ps) xs ys style h k =
    let front = one_paragraph wrap roles advances max p h.0 k.0 style h.2 k.2 in
    let rest = one_set_of_lines wrap roles advances max ps h.1 k.1 style h.3 k.3 in
    h.4 ∙ ap₂ (λ (a b : List Span). a ++ b) front rest ∙ sym k.4

pub one_laid : (script : ScriptValue) (fonts : List FontValue) (event : Event) (view : EventView) (frame : FrameView) (a b : Laid) → view.wrap ≤ 3
    → IsLaid script fonts event view frame a → IsLaid script fonts event view frame b → a ≡ b
one_laid script fonts event view frame a b style h k =
    let scales = line_scales script.header frame view in
    let metrics = all_metrics scales fonts view in
    let items = item_extents fonts metrics view.wrap view.items in
    let roles = roles_of view.wrap view.items in
    let max = wrapping_width (margins_of script event) scales in
    let spans = one_set_of_lines view.wrap roles (advances_of items) max (paragraphs_of roles) h.0 k.0 style h.1 k.1 in
    h.2 ∙ ap (laid_out view metrics items) spans ∙ sym k.2
