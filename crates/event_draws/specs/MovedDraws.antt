-- Public: the draws of an event at an instant, moved by a shift.
use Rattle.std.specs.Prelude.{◌≡◌, List, ◌++◌, length, All, ℤ}
use Rattle.frame_view.specs.declared.view.FrameView.{FrameView}
use Rattle.ass_events.specs.declared.event.Event.{Event}
use Rattle.ass_script.specs.Scripts.{ScriptValue}
use Rattle.bdf_font.specs.Fonts.{FontValue}
use Rattle.mask_keys.specs.declared.plans.Draw.{Draw}
use Rattle.override_tags.specs.declared.view.EventView.{EventView}
use Rattle.override_tags.specs.declared.view.State.{State}
use Rattle.tag_state.specs.Views.{IsViewOf}
use Rattle.text_layout.specs.Layouts.{IsLaid}
use Rattle.text_layout.specs.declared.laid.Laid.{Laid}
use Rattle.event_draws.specs.EventDraws.{event_draws}
use Rattle.event_draws.specs.Stages.{stage_at}

-- each state has four colours and no more
abbrev pub HaveFourColours : List State → Type 0
HaveFourColours states = All (λ (state : State). length state.colours ≡ 4) states

-- These are the draws of an event at t that is moved down by a shift: it is laid out as it shows then.
pub record AreMovedDraws (script : ScriptValue) (fonts : List FontValue) (event : Event) (t : ℤ) (frame : FrameView) (shift : ℤ) (draws : List Draw) : Type 0 where
  pub view : EventView
  pub shows : IsViewOf script event t view
  pub colours : HaveFourColours view.states
  pub laid : Laid
  pub laid_out : IsLaid script fonts event view frame laid
  pub value : draws ≡ event_draws (stage_at script event t frame view laid shift) fonts view laid

-- They stand behind those that there were before.
pub record AddsMovedDraws (script : ScriptValue) (fonts : List FontValue) (event : Event) (t : ℤ) (frame : FrameView) (shift : ℤ) (old new : List Draw) : Type 0 where
  pub added : List Draw
  pub whole : new ≡ old ++ added
  pub drawn : AreMovedDraws script fonts event t frame shift added
