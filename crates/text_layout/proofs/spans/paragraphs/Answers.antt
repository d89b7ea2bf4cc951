use Rattle.std.proofs.Common.{◌≡◌, ◌∙◌, ◌+◌, ◌++◌, length, map, sym, ap, ap₂, subst}
use Rattle.std.proofs.lemmas.List.{length-map}
use Rattle.override_tags.specs.declared.view.Shown.{Shown}
use Rattle.text_layout.specs.Kinds.{role_of}
use Rattle.text_layout.specs.Spans.{AreSpans, spans_between}
use Rattle.text_layout.proofs.SpanLemmas.{AreSpans-between, map-zero}
use Rattle.text_layout.proofs.spans.paragraphs.Goals as goal

cut : (c : goal.After-drop-breaks-2) → c.add_spans.new.spans.items ≡ spans_between 0 (length c.args.items.now) c.in_ok-breaks.breaks.items
cut c =
    c.in_ok-add_spans.ensures.value
    ∙ ap (λ l. l ++ spans_between 0 (length c.args.items.now) (map (λ place. 0 + place) c.as_slice.result.now)) c.in_ok-paragraphs.ensures.items
    ∙ ap (spans_between 0 (length c.args.items.now)) (map-zero c.as_slice.result.now ∙ c.as_slice.ensures.value)

pub returns-clause-value : goal.returns-clause-value
returns-clause-value c =
    cut c ∙ ap₂ (spans_between 0) (sym (length-map c.args.items.now (λ (shown : Shown). role_of c.args.wrap shown.kind))) c.in_ok-breaks.ensures.value

pub returns-clause-order : goal.returns-clause-order
returns-clause-order c =
    subst (AreSpans 0 (length c.args.items.now + 1)) (sym (cut c)) (AreSpans-between 0 (length c.args.items.now) c.in_ok-breaks.breaks.items c.in_ok-breaks.ensures.order)
