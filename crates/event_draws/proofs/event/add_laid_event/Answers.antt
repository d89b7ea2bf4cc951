use Rattle.std.proofs.Common.{◌≡◌, ℕ, List, length, All, ap, rules, arith}
use Rattle.std.proofs.lemmas.Grind.{common_steps}
use Rattle.std.proofs.lemmas.List.Elements.{All-weaker}
use Rattle.std.proofs.lemmas.Result.{on_ok_weaker}
use Rattle.override_tags.specs.Views.{IsState}
use Rattle.override_tags.specs.declared.view.State.{State}
use Rattle.event_draws.specs.EventDraws.{event_draws}
use Rattle.event_draws.specs.MovedDraws.{HaveFourColours}
use Rattle.event_draws.specs.Stages.{stage_at}
use Rattle.event_draws.specs.declared.stage.Stage.{Stage}
use Rattle.event_draws.proofs.LayoutLemmas.{drawn_layout}
use Rattle.event_draws.proofs.event.add_laid_event.Goals as goal

four_colours : (names : ℕ) (states : List State) → All (IsState names) states → HaveFourColours states
four_colours names states h = All-weaker (IsState names) (λ (state : State). length state.colours ≡ 4) (λ state k. k.colours) states h

pub add_event_draws-requires-clause-laid : goal.add_event_draws-requires-clause-laid
add_event_draws-requires-clause-laid c =
    drawn_layout c.setting.inside.script.now c.setting.inside.fonts.now.fonts c.args.event.now c.args.view.now c.setting.inside.frame c.args.laid.now c.requires.view.wrap
    (rw (← c.setting.view_is) at c.requires.laid_out) c.requires.within

pub returns-clause-draws : goal.returns-clause-draws
returns-clause-draws c =
    let setting = c.setting.inside in
    let fonts = setting.fonts.now.fonts in
    let view = c.args.view.now in
    let laid = c.args.laid.now in
    let placed : c.of-stage.result ≡ stage_at c.args.setting.now.script c.args.event.now c.args.t c.args.setting.now.frame view laid c.args.shift = first_of (search rules, grind (arith, common_steps)) in
    let stands : c.of-stage.result ≡ stage_at setting.script.now c.args.event.now c.args.t setting.frame view laid c.args.shift = rw (← c.setting.view_is) at placed in
    rw (← c.setting.view_is)
    (on_ok_weaker c.add_event_draws.result
    (λ e. record {
      added = event_draws c.of-stage.result fonts view laid;
      whole = e;
      drawn =
          record {
            view = view;
            shows = rw (← c.setting.view_is) at c.requires.shows;
            colours = four_colours (length view.names) view.states c.requires.view.states;
            laid = laid;
            laid_out = rw (← c.setting.view_is) at c.requires.laid_out;
            value = ap (λ (stage : Stage). event_draws stage fonts view laid) stands;
          };
    })
    c.add_event_draws.ensures.draws)

pub returns-clause-valid : goal.returns-clause-valid
returns-clause-valid c = rw (← c.setting.view_is) c.add_event_draws.ensures.valid
