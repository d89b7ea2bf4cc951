use Rattle.std.proofs.Common.{◌≡◌, ◌+◌, ◌∷◌, [], Ok, Err, refl, arith}
use Rattle.std.proofs.Math.Facts.{to_z-of_z}
use Rattle.turn_cell.proofs.Passes.{Follows_same, Follows_trans}
use Rattle.mask_caches.proofs.KeysWarmed.{before-itself, before-then}
use Rattle.renderer.specs.declared.trying.TryRefusal.TheVariants as refusal
use Rattle.renderer.proofs.TriedWithin.{had-within, tried-alone}
use Rattle.renderer.proofs.renderer.Renderer.frame_within_telling.Goals as goal

pub loop-refused-init : goal.loop-refused-init
loop-refused-init c = record {
  of = c.requires.pass;
  refused = ([], refl, refl);
  track = Follows_same c.args.pass.track;
  holds = before-itself c.args.self.now.caches c.args.pass.caches;
}

pub loop-refused-preserved : goal.loop-refused-preserved
loop-refused-preserved c =
    let renderer = c.args.self.now in let before = c.loop-refused.waiting in let after = c.try_frame_telling-pass.result.0 in let kept = c.loop-refused.invariant in
    let tried = rw (c.in-Err.is, c.in-Again.is) at c.try_frame_telling-pass.ensures.tried in
    let same = rw c.in-Err.is at c.try_frame_telling-pass.ensures.holds in
    let r = kept.refused in
    record {
      of = c.try_frame_telling-pass.ensures.pass;
      refused = (c.in-Again.field-0 ∷ r.0, omega (arith, r.1), (before, r.2, tried));
      track = Follows_trans c.args.pass.track before.track after.track [] [] kept.track (tried-alone renderer before after _ c.args.size.now (Err (refusal.Again c.in-Again.field-0)) tried);
      holds = before-then renderer.caches c.args.pass.caches before.caches after.caches kept.holds same;
    }

pub returns-in-Ok : goal.returns-in-Ok
returns-in-Ok c =
    let renderer = c.args.self.now in let before = c.loop-refused.waiting in let after = c.try_frame_telling-pass.result.0 in let kept = c.loop-refused.invariant in
    let h = had-within renderer _ c.args.size.now c.args.pass before after c.args.tries c.loop-refused._refused (Ok c.in-Ok.frame) kept.refused (omega (arith, c.loop-refused-test.true)) (λ no. absurd cc) kept.track kept.holds
    c.try_frame_telling-pass.ensures.pass (rw c.in-Ok.is at c.try_frame_telling-pass.ensures.tried) (rw c.in-Ok.is at c.try_frame_telling-pass.ensures.history) (rw c.in-Ok.is at c.try_frame_telling-pass.ensures.holds) (rw c.in-Ok.is at c.try_frame_telling-pass.ensures.home) in
    record { pass = h.of; track = h.track; tried = rw (to_z-of_z c.ranges.t) at h.tried; holds = h.holds; home = h.home }

pub returns-in-OutOfMemory : goal.returns-in-OutOfMemory
returns-in-OutOfMemory c =
    let renderer = c.args.self.now in let before = c.loop-refused.waiting in let after = c.try_frame_telling-pass.result.0 in let kept = c.loop-refused.invariant in
    let h = had-within renderer _ c.args.size.now c.args.pass before after c.args.tries c.loop-refused._refused (Err refusal.OutOfMemory) kept.refused (omega (arith, c.loop-refused-test.true)) (λ no. absurd cc) kept.track kept.holds
    c.try_frame_telling-pass.ensures.pass (rw (c.in-Err.is, c.in-OutOfMemory.is) at c.try_frame_telling-pass.ensures.tried) tt (rw c.in-Err.is at c.try_frame_telling-pass.ensures.holds) tt in
    record { pass = h.of; track = h.track; tried = rw (to_z-of_z c.ranges.t) at h.tried; holds = h.holds; home = h.home }

pub returns : goal.returns
returns c =
    let renderer = c.args.self.now in let before = c.loop-refused.waiting in let after = c.try_frame_telling.result.0 in let kept = c.loop-refused.invariant in
    let all : c.args.tries ≡ c.loop-refused._refused + 1 = omega (arith, c.requires.tries) in
    let h = had-within renderer _ c.args.size.now c.args.pass before after c.args.tries c.loop-refused._refused c.try_frame_telling.result.1 kept.refused (omega (arith, all)) (λ again. all) kept.track kept.holds
    c.try_frame_telling.ensures.pass c.try_frame_telling.ensures.tried c.try_frame_telling.ensures.history c.try_frame_telling.ensures.holds c.try_frame_telling.ensures.home in
    record { pass = h.of; track = h.track; tried = rw (to_z-of_z c.ranges.t) at h.tried; holds = h.holds; home = h.home }
