-- Public: the events that chunks give.
use Rattle.std.specs.Prelude.{◌≡◌, ℕ, ◌+◌, ◌≤◌, true, false, List, length, All}
use Rattle.std.specs.Str.{IsUtf8}
use Rattle.ass_num.specs.Limits.{IsWithin, max_whole}
use Rattle.ass_events.specs.declared.event.Event.{Event}
use Rattle.ass_num.specs.Blanks.{trimmed}
use Rattle.ass_script.specs.Words.{is_comma}
use Rattle.ass_events.specs.Events.{is_time}

-- a text without a comma, and without blanks at its ends
pub record IsName (name : List ℕ) : Type 0 where
  pub utf8 : IsUtf8 name
  pub no_comma : All (λ c. is_comma c ≡ false) name
  pub bare : trimmed name ≡ name

-- An event that some chunk gives.
pub record IsEvent (event : Event) : Type 0 where
  pub order : event.order ≤ max_whole
  pub layer : IsWithin max_whole event.layer
  pub style : IsName event.style
  pub name : IsName event.name
  pub margin_l : IsWithin max_whole event.margin_l
  pub margin_r : IsWithin max_whole event.margin_r
  pub margin_v : IsWithin max_whole event.margin_v
  pub effect : IsName event.effect
  pub text : IsUtf8 event.text
  pub start : is_time event.start ≡ true
  pub duration : is_time event.duration ≡ true

-- how many bytes the texts of an event have together
abbrev pub text_bytes : Event → ℕ
text_bytes event = length event.style + length event.name + length event.effect + length event.text
