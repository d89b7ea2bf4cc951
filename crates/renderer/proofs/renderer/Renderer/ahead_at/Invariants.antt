use Rattle.std.proofs.Common.{take, All}
use Rattle.mask_keys.specs.Keys.{IsValidComposite}
use Rattle.mask_keys.specs.Outlines.{glyph_counts}
use Rattle.turn_cell.specs.Passes.{IsOf}
use Rattle.renderer.proofs.Warmed.{WereSeen}
use Rattle.renderer.proofs.renderer.Renderer.ahead_at.Given as goal

abbrev pub invariant-loop-t : goal.invariant-loop-t
invariant-loop-t g l = record {
  of : IsOf l.self.track l.pass;
  seen : WereSeen l.self l.size l.fn.pass l.pass (take l.t-index l.instants) l.ahead;
  valid : All (IsValidComposite (glyph_counts l.self.fonts)) l.ahead.keys;
}
