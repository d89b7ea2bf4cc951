-- Public: texts that show the same at every instant (docs/TAGS.md).
use Rattle.std.specs.Prelude.{ℤ, Bool, true, false, List}
use Rattle.ass_script.specs.Scripts.{ScriptValue}
use Rattle.ass_events.specs.declared.event.Event.{Event}
use Rattle.override_tags.specs.Readings.{IsTextReading}
use Rattle.override_tags.specs.declared.item.Item.{Item}
use Rattle.override_tags.specs.declared.item.ItemKind.{ItemKind}
use Rattle.override_tags.specs.declared.item.ItemKind.TheVariants as item
use Rattle.override_tags.specs.declared.tag.Tag.TheVariants.{Move, Fad, Fade, Transform}
use Rattle.override_tags.specs.declared.view.EventView.{EventView}
use Rattle.tag_state.specs.Views.{IsViewOf}

-- Of all items the tags that move, fade or transform alone look at the instant.
abbrev pub stays : ItemKind → Bool
stays (item.Tag (Move _ _ _)) = false
stays (item.Tag (Fad _ _)) = false
stays (item.Tag (Fade _)) = false
stays (item.Tag (Transform _ _ _)) = false
stays _ = true

-- An event with a text of these items shows the same at every instant.
abbrev pub IsStill : List Item → Type 0
IsStill items = (script : ScriptValue) (event : Event) (a b : ℤ) (view : EventView) → IsTextReading event.text items → IsViewOf script event a view → IsViewOf script event b view
