use Rattle.std.proofs.Common.{◌≡◌, ℕ, ◌-◌, ◌<◌, ◌≤◌, length, Some}
use Rattle.std.specs.Prelude.{slice_get}
use Rattle.override_tags.specs.declared.item.Item.{Item}
use Rattle.tag_state.specs.Looks.{IsShownText}
use Rattle.tag_state.proofs.walk.text_end.Given as goal

abbrev pub invariant-loop-end : goal.invariant-loop-end
invariant-loop-end l = (l.place < l.end) × (l.end ≤ length l.items) × ((k : ℕ) (i : Item) → l.place ≤ k → k < l.end → slice_get l.items k ≡ Some i → IsShownText i)

abbrev pub decreases-loop-end : goal.decreases-loop-end
decreases-loop-end l = length l.items - l.end
