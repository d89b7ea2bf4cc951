use Rattle.std.specs.Arc.{arc_value}
use Rattle.renderer.specs.Passes.{RendererView}
use Rattle.mask_caches.proofs.KeysWarmed.{before-then}
use Rattle.renderer.proofs.Warmed.{WereSeen, warmed-all}
use Rattle.renderer.proofs.renderer.Renderer.warm.Goals as goal

pub warm-caches-requires-clause-keys : goal.warm-caches-requires-clause-keys
warm-caches-requires-clause-keys g c =
    let valid = rw (c.in-Ok.is, ← c.self.view_is) at c.ahead_at-track.ensures.valid in
    rw c.self.invariant.same_fonts valid

pub returns-in-Ok-clause-holds : goal.returns-in-Ok-clause-holds
returns-in-Ok-clause-holds g c =
    rw (← c.self.view_is, ← c.pass.view_is) (before-then c.self.inside.caches c.pass.inside.caches c.composite_budgets-caches.result.0 c.warm-caches.result.0 c.composite_budgets-caches.ensures.holds c.warm-caches.ensures.holds)

pub returns-in-Ok-clause-warmed : goal.returns-in-Ok-clause-warmed
returns-in-Ok-clause-warmed g c =
    let in_it = c.self.inside in
    let renderer : RendererView = record { script = arc_value in_it.script; fonts = (arc_value in_it.fonts).fonts; track = in_it.track; caches = in_it.caches } in
    let track = c.pass.inside.track in let later = c.ahead_at-track.result.0 in let ahead = c.in-Ok.ahead in let size = c.args.size.now in let instants = c.args.instants.now in
    let turns = rw c.in-Ok.is at c.ahead_at-track.ensures.turns in
    let keys = rw (c.in-Ok.is, ← c.self.view_is) at c.ahead_at-track.ensures.keys in
    let were : WereSeen renderer size track later instants ahead = record { follows = c.ahead_at-track.ensures.track; turns = turns; plans = keys.0; are_plans = keys.1; keys = keys.2 } in
    let e = c.warm-caches.ensures in let b = c.composite_budgets-caches.ensures in
    rw (← c.self.view_is, ← c.pass.view_is) (warmed-all renderer track later c.pass.inside.caches c.composite_budgets-caches.result.0 c.warm-caches.result.0 instants size ahead c.warm-caches.new.self b.adds c.left-left.result c.composite_budgets-caches.result.1 c.warm-caches.result.1 were c.left-left.ensures.left b.composites b.budgets e.count e.unkept e.refused e.warmed)
