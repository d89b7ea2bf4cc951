-- Public: which state a world tells, and which steps may be asked of it.
use Rattle.std.specs.Prelude.{◌≡◌, ◌≤◌, ◌<◌, ℕ, List, length, All, Option, Some, None}
use Rattle.std.specs.Arc.{arc_value}
use Rattle.std.specs.BTreeMap.{get}
use Rattle.std.specs.Ordering.{nat_cmp}
use Rattle.std.specs.declared.alloc.Global.{Global}
use Rattle.std.specs.declared.sync.Arc.{Arc}
use Rattle.ass_num.specs.Limits.{IsFrameSize, IsWithin, max_instant, max_text_bytes}
use Rattle.ass_events.specs.Histories.{live}
use Rattle.ass_script.specs.Ranges.{IsScript}
use Rattle.ass_script.specs.Scripts.{ScriptValue}
use Rattle.bdf_font.specs.Fonts.{FontValue}
use Rattle.bdf_font.specs.declared.sets.FontSet.{FontSet}
use Rattle.evict_core.specs.Machine.{max_entries, max_budget}
use Rattle.flight_cache.specs.Meaning.{shard_count}
use Rattle.mask_keys.specs.Keys.{IsValidRegion, IsValidMask, IsValidComposite}
use Rattle.mask_keys.specs.Outlines.{glyph_counts}
use Rattle.frame_view.specs.FrameViews.{plain_frame}
use Rattle.picture_plan.specs.Pictures.{AreDraws}
use Rattle.text_layout.specs.Fonts.{IsLayoutFontSet}
use Rattle.track_history.specs.Tellings as track
use Rattle.world_core.specs.declared.holding.Holding.{Holding}
use Rattle.world_core.specs.Caches.{ActorCachesView}
use Rattle.world_core.specs.Keys.{IsValidWorldKey, world_shards}
use Rattle.world_core.specs.States.{LookState, WorldState}
use Rattle.world_core.specs.declared.world_keys.WorldKey.{WorldKey}
use Rattle.world_core.specs.declared.world_keys.WorldValue.{WorldValue}
use Rattle.world_core.specs.declared.steps.Step.{Step}
use Rattle.world_core.specs.declared.steps.Step.TheVariants.{Feed, Flush, Look, AskOutline, AskMask, AskComposite, Fill, Fail, Unpin, Limits, Show}
use Rattle.world_core.specs.declared.looking.ActorLook.{ActorLook}
use Rattle.world_core.specs.declared.world.World.{World}

-- the fonts that values are made from
abbrev pub WorldTag : Type 0
WorldTag = Arc FontSet Global

-- a step whose keys, instant, size, shard and limits are in their ranges
abbrev pub IsValidStep : List FontValue → Step → Type 0
IsValidStep fonts (Feed actor chunk) = length chunk.bytes ≤ max_text_bytes
IsValidStep fonts (Flush actor) = Unit {0}
IsValidStep fonts (Look actor instant size) = IsWithin max_instant instant × IsFrameSize size
IsValidStep fonts (AskOutline actor k) = IsValidRegion (glyph_counts fonts) k
IsValidStep fonts (AskMask actor k) = IsValidMask (glyph_counts fonts) k
IsValidStep fonts (AskComposite actor k) = IsValidComposite (glyph_counts fonts) k
IsValidStep fonts (Fill actor i) = Unit {0}
IsValidStep fonts (Fail actor i) = Unit {0}
IsValidStep fonts (Unpin actor i) = Unit {0}
IsValidStep fonts (Limits kind shard entries budget) = (shard < shard_count) × (1 ≤ entries) × (entries ≤ max_entries) × (budget ≤ max_budget)
IsValidStep fonts (Show actor) = Unit {0}

-- what is kept of a look: how many entries it saw, the size, and the draws of its picture
pub record TellsLook (script : ScriptValue) (fonts : List FontValue) (kept : ActorLook) (look : LookState) : Type 0 where
  pub n : kept.n ≡ length look.history
  pub size : kept.size ≡ look.size
  pub frame : IsFrameSize look.size
  pub draws : AreDraws script fonts (live look.history) look.instant (plain_frame look.size) kept.plan.draws

abbrev pub TellsLastLook : ScriptValue → List FontValue → Option ActorLook → Option LookState → Type 0
TellsLastLook script fonts None None = Unit {0}
TellsLastLook script fonts None (Some look) = ⊥
TellsLastLook script fonts (Some kept) None = ⊥
TellsLastLook script fonts (Some kept) (Some look) = TellsLook script fonts kept look

-- There are twelve shards, with values made from these fonts, and each ticket is of a valid key
pub record AreWorldCaches (fonts : WorldTag) (caches : ActorCachesView WorldKey WorldValue WorldTag) : Type 0 where
  pub tag : caches.tag ≡ fonts
  pub shards : length caches.shards ≡ world_shards
  pub keys : All (λ (h : Holding WorldKey). IsValidWorldKey (glyph_counts (arc_value fonts).fonts) h.key) caches.tickets

-- the world tells of this state
pub record TellsWorld (world : World) (s : WorldState WorldTag) : Type 0 where
  pub script : IsScript (arc_value world.script)
  pub fonts : IsLayoutFontSet (arc_value world.fonts).fonts
  pub sound : track.IsSound world.track
  pub history : track.Tells world.track s.history
  pub caches : world.caches ≡ s.caches
  pub shards : AreWorldCaches world.fonts s.caches
  pub looks : (actor : ℕ) → TellsLastLook (arc_value world.script) (arc_value world.fonts).fonts (get nat_cmp world.looks actor) (s.looks actor)

-- it tells of some state
abbrev pub IsWorld : World → Type 0
IsWorld world = (s : WorldState WorldTag) × TellsWorld world s

-- its fonts
abbrev pub fonts_of : World → List FontValue
fonts_of world = (arc_value world.fonts).fonts
