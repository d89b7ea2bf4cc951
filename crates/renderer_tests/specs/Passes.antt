-- Inner: passes between calls.
use Rattle.std.specs.Prelude.{IfSome}
use Rattle.renderer.specs.Holding.{HoldsFrameMore, IsHomeFrame}
use Rattle.renderer.specs.Passes.{HoldsNothing, IsFirstPass, IsPassOfRenderer, RenderView, RendererView}
use Rattle.renderer.specs.declared.frames.Frame.{Frame}
use Rattle.renderer_tests.specs.declared.crew.Four.{Four}
use Rattle.renderer_tests.specs.declared.crew.Pair.{Pair}

-- the pass comes from the renderer and holds nothing
abbrev pub IsIdle : RendererView → RenderView → Type 0
IsIdle renderer pass = IsPassOfRenderer renderer pass × HoldsNothing renderer pass

-- it is the first pass of the renderer
abbrev pub IsFirstOfRenderer : RendererView → RenderView → Type 0
IsFirstOfRenderer renderer pass = IsPassOfRenderer renderer pass × IsFirstPass pass

-- just the frame's pins are held, and they are the renderer's
pub record HoldsFrameAlone (renderer : RendererView) (pass : RenderView) (frame : Frame) : Type 0 where
  pub begun : RenderView
  pub nothing : HoldsNothing renderer begun
  pub more : HoldsFrameMore renderer begun pass frame
  pub home : IsHomeFrame renderer frame

-- the passes that two threads have, and four, hold nothing
abbrev pub IsPairIdle : RendererView → Pair → Type 0
IsPairIdle renderer pair = IfSome pair.left.pass (IsIdle renderer) × IfSome pair.right.pass (IsIdle renderer)

abbrev pub AreFourIdle : RendererView → Four → Type 0
AreFourIdle renderer four = IsPairIdle renderer four.left × IsPairIdle renderer four.right
