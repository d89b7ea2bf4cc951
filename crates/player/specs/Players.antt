-- Public: what a player is to its callers.
use Rattle.std.specs.Prelude.{◌≡◌, ℕ, ◌≤◌, List, [], length, map, sum_by, Option, IfSome}
use Rattle.track_history.specs.LocalTracks.{LocalTrackView, new_track}
use Rattle.ass_script.specs.Ranges.{IsScript}
use Rattle.ass_script.specs.Scripts.{ScriptValue}
use Rattle.local_caches.specs.LocalParts.{LocalCachesView}
use Rattle.bdf_font.specs.Fonts.{FontValue}
use Rattle.evict_core.specs.Machine.{max_budget}
use Rattle.mask_keys.specs.Outlines.{IsFontSet}
use Rattle.mask_keys.specs.Pictures.{image_of_draw}
use Rattle.plain_images.specs.PlainImages.{ArePlainImages}
use Rattle.plain_images.specs.declared.plain.PlainImage.{PlainImage}
use Rattle.ass_events.specs.LineLaws.{HasShortLines}
use Rattle.player.specs.declared.player.Listed.{Listed}

-- A player: its script and fonts, the budget of each of its caches, its track, and the images that were listed last, the lowest first.
-- What its caches keep is not seen.
pub record PlayerView : Type 0 where
  pub script : ScriptValue
  pub fonts : List FontValue
  pub budget : ℕ
  pub track : LocalTrackView
  pub images : List PlainImage

-- a player of a script that was just opened
abbrev pub new_player : ScriptValue → ℕ → PlayerView
new_player script budget = record { script = script; fonts = []; budget = budget; track = new_track; images = [] }

-- how many bytes the masks of plain images have together
abbrev pub mask_bytes : List PlainImage → ℕ
mask_bytes images = sum_by (λ (image : PlainImage). length image.mask.bytes) images

-- What is kept belongs together: the caches have these fonts and this budget, and the images are those of the plan that is kept beside them.
pub record IsPlayer (script : ScriptValue) (fonts : List FontValue) (local : LocalCachesView) (budget : ℕ) (listed : Option Listed) (images : List PlainImage) (bytes : ℕ) : Type 0 where
  pub is_script : IsScript script
  pub short : HasShortLines script
  pub font_set : IsFontSet fonts
  pub local_fonts : local.fonts ≡ fonts
  pub local_budget : local.budget ≡ budget
  pub within : budget ≤ max_budget
  pub are_listed : IfSome listed (λ l. ArePlainImages l.size (map (image_of_draw fonts) l.plan.draws) images)
  pub counted : bytes ≡ mask_bytes images
