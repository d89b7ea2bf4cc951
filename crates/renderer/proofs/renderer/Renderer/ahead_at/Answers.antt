use Rattle.std.proofs.Common.{◌<◌, ℤ, length, get_or, pos, None, arith, subst, sym, to_z-of_z, w64}
use Rattle.std.proofs.lemmas.Int.{ints}
use Rattle.std.proofs.lemmas.List.Elements.{All-nil}
use Rattle.std.specs.Int.RustNames.{FitsSigned}
use Rattle.std.specs.List.{All}
use Rattle.ass_num.specs.Limits.{IsWithin, max_instant}
use Rattle.mask_keys.specs.Keys.{IsValidComposite}
use Rattle.mask_keys.specs.Outlines.{glyph_counts}
use Rattle.mask_caches.specs.Aheads.{AheadView}
use Rattle.renderer.proofs.Together.{turn-of}
use Rattle.renderer.proofs.Warmed.{none-seen, seen-more}
use Rattle.renderer.proofs.renderer.Renderer.ahead_at.Goals as goal

instant-fits : (t : ℤ) → IsWithin max_instant t → FitsSigned w64 t
instant-fits t within = omega (arith, ints)

pub loop-t-init : goal.loop-t-init
loop-t-init g c =
    let valid = IsValidComposite (glyph_counts c.args.self.now.fonts) in let is = c.open-ahead.ensures in
    record {
      of = c.requires.pass;
      seen = none-seen c.args.self.now c.args.size.now c.args.pass c.open-ahead.result is;
      valid = subst (λ (a : AheadView). All valid a.keys) (sym is) (All-nil valid);
    }

pub loop-t-preserved : goal.loop-t-preserved
loop-t-preserved g c =
    let kept = c.loop-t.invariant in let e = c.add_instant-next.ensures in
    let before = c.loop-t.pass in let after = c.add_instant-next.result.0 in
    let there : c.loop-t.t-index < length c.args.instants.now = c.loop-t-test.true in
    let adds = rw c.in_default.is at e.keys in
    let fits = instant-fits (get_or c.args.instants.now c.loop-t.t-index (pos 0)) (c.requires.instants c.loop-t.t-index (pos 0) there) in
    record {
      of = turn-of c.args.self.now before after None kept.of e.turn;
      seen = seen-more c.args.self.now c.args.size.now c.args.pass before after _ c.loop-t.ahead c.add_instant-next.new.ahead e.turn adds e.place c.args.instants.now c.loop-t.t-index (pos 0) there (to_z-of_z fits) kept.seen;
      valid = e.valid;
    }
