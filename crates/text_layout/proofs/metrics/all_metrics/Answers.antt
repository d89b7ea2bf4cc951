use Rattle.std.proofs.Common.{false, None, [], pos, sym, subst}
use Rattle.std.proofs.lemmas.List.Elements.{All-push}
use Rattle.std.specs.List.{All}
use Rattle.override_tags.specs.declared.view.State.{State}
use Rattle.text_layout.specs.Metrics.{HasFont, IsMetrics, state_metrics}
use Rattle.text_layout.proofs.ImageLemmas.{mapped_more}
use Rattle.text_layout.proofs.metrics.all_metrics.Goals as goal

-- the state that stands where there is none
abbrev no_state : State
no_state = record {
  font = 0;
  size = pos 0;
  colours = [];
  bold = false;
  italic = false;
  underline = false;
  strikeout = false;
  scale_x = pos 0;
  scale_y = pos 0;
  spacing = pos 0;
  angle = pos 0;
  border_style = 0;
  border_x = pos 0;
  border_y = pos 0;
  shadow_x = pos 0;
  shadow_y = pos 0;
  edges = pos 0;
  blur = pos 0;
  draw = 0;
  offset = pos 0;
  sung = None;
}

pub loop-state-preserved : goal.loop-state-preserved
loop-state-preserved c =
    let fonts = c.args.fonts.now.fonts in
    let inv = c.loop-state.invariant in
    let state = c.state_metrics in
    let pushed = c.in_ok-push.ensures.items in
    record {
      value = mapped_more (state_metrics c.args.scales.now fonts c.args.view.now.names) c.as_slice-state-items.result.now c.loop-state.state-index no_state c.loop-state.metrics.items
          c.push.new.self.items state.result c.loop-state-test.true inv.value pushed state.ensures.value;
      range = subst (All IsMetrics) (sym pushed) (All-push IsMetrics c.loop-state.metrics.items state.result inv.range state.ensures.range);
      fonts = subst (All (HasFont fonts)) (sym pushed) (All-push (HasFont fonts) c.loop-state.metrics.items state.result inv.fonts state.ensures.font);
    }
