-- Public: a renderer with its passes, and what calls make of them that ask for no picture.
use Rattle.std.specs.Prelude.{◌≡◌, ℕ, List, []}
use Rattle.std.specs.Arc.{arc_value}
use Rattle.ass_script.specs.Ranges.{IsScript}
use Rattle.ass_script.specs.Scripts.{ScriptValue}
use Rattle.bdf_font.specs.Fonts.{FontValue}
use Rattle.mask_caches.specs.Caches.{AreJoined, AreNew, HasAllGivenBack, IsPassOf, IsSamePass, IsSplit}
use Rattle.mask_caches.specs.declared.caches.Caches.{Caches}
use Rattle.mask_caches.specs.declared.passes.CachesPass.{CachesPass}
use Rattle.text_layout.specs.Fonts.{IsLayoutFontSet}
use Rattle.track_history.specs.Calls.{TrackView}
use Rattle.turn_cell.specs.History.{IsBelow, IsPrefix}
use Rattle.turn_cell.specs.Passes.{CellView, Extends, IsOf, first_pass, joined_pass, mine, new_pass, split_pass}

-- a renderer: its script and its fonts, the cell of its track, and its caches
pub record RendererView : Type 0 where
  pub script : ScriptValue
  pub fonts : List FontValue
  pub track : CellView (Unit {0})
  pub caches : Caches

-- a pass of a renderer: a pass of its track, and one of its caches
pub record RenderView : Type 0 where
  pub track : TrackView
  pub caches : CachesPass

-- the script and the fonts have their ranges, and the caches' values are made from the same fonts
pub record IsWholeRenderer (renderer : RendererView) : Type 0 where
  pub script : IsScript renderer.script
  pub fonts : IsLayoutFontSet renderer.fonts
  pub same_fonts : (arc_value renderer.caches.fonts).fonts ≡ renderer.fonts

-- the two passes have one number, and drew as many numbers
pub record GoTogether (pass : RenderView) : Type 0 where
  pub number : pass.caches.regions.first.number ≡ pass.track.number
  pub next : pass.caches.regions.first.next ≡ pass.track.next

-- the pass comes from the renderer
pub record IsPassOfRenderer (renderer : RendererView) (pass : RenderView) : Type 0 where
  pub track : IsOf renderer.track pass.track
  pub caches : IsPassOf renderer.caches pass.caches

-- it is the first pass
abbrev pub IsFirstPass : RenderView → Type 0
IsFirstPass pass = pass.track.number ≡ 0

-- the pass holds no pin and has no claim open
abbrev pub HoldsNothing : RendererView → RenderView → Type 0
HoldsNothing renderer pass = HasAllGivenBack renderer.caches pass.caches

-- a new renderer: no event was accepted, no value is kept, and the pass is the first one
pub record IsNewRenderer (renderer : RendererView) (pass : RenderView) (budget : ℕ) : Type 0 where
  pub is_of : IsPassOfRenderer renderer pass
  pub track : pass.track ≡ first_pass renderer.track
  pub caches : AreNew renderer.caches pass.caches budget
  pub nothing : HoldsNothing renderer pass

-- one pass is what the other was
pub record IsUnchanged (pass after : RenderView) : Type 0 where
  pub track : after.track ≡ pass.track
  pub caches : IsSamePass pass.caches after.caches

-- a pass of the track is split: into itself with one number drawn more, and a new one that gave nothing and has seen as much
pub record IsTrackSplit (pass first new : TrackView) : Type 0 where
  pub first_is : first ≡ split_pass pass
  pub new_is : new ≡ new_pass pass
  pub nothing : mine new ≡ []
  pub new_below : IsBelow new.number new.seen
  pub first_below : IsBelow first.next first.seen

pub record IsRenderSplit (renderer : RendererView) (pass first new : RenderView) : Type 0 where
  pub first_of : IsPassOfRenderer renderer first
  pub new_of : IsPassOfRenderer renderer new
  pub track : IsTrackSplit pass.track first.track new.track
  pub caches : IsSplit renderer.caches pass.caches first.caches new.caches
  pub nothing : HoldsNothing renderer new

-- two passes of the track are joined: the first has seen what both had, and gave what it gave before
pub record AreTracksJoined (pass other joined : TrackView) : Type 0 where
  pub is : joined ≡ joined_pass pass other
  pub begins : IsPrefix pass.seen joined.seen
  pub begins_other : IsPrefix other.seen joined.seen
  pub own : mine joined ≡ mine pass
  pub itself : Extends joined joined.seen

pub record IsRenderJoined (renderer : RendererView) (pass other joined : RenderView) : Type 0 where
  pub is_of : IsPassOfRenderer renderer joined
  pub track : AreTracksJoined pass.track other.track joined.track
  pub caches : AreJoined renderer.caches pass.caches other.caches joined.caches
