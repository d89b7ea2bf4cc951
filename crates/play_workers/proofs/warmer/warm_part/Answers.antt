use Rattle.std.proofs.Common.{◌∙◌, refl, subst, sym}
use Rattle.std.specs.List.{All}
use Rattle.ass_num.specs.Limits.{IsWithin, max_instant}
use Rattle.play_workers.proofs.Later.{caches_same, warmed_later, warmed_track}
use Rattle.play_workers.proofs.Shared.{ahead_within}
use Rattle.play_workers.proofs.warmer.warm_part.Goals as goal

pub warm-requires-clause-instants : goal.warm-requires-clause-instants
warm-requires-clause-instants g c =
    subst (All (IsWithin max_instant)) (sym (c.as_slice.ensures.value ∙ c.in-Ok.ensures)) (ahead_within c.args.stage.now.job c.requires.stage.playable.job c.args.round)

pub returns-in-Ok-clause-later : goal.returns-in-Ok-clause-later
returns-in-Ok-clause-later g c = warmed_later c.args.stage.now.renderer c.args.pass c.warm.result.0 _ _ c.warm.result.1 c.warm.ensures.warmed

pub returns-in-Ok-clause-track : goal.returns-in-Ok-clause-track
returns-in-Ok-clause-track g c = warmed_track c.args.stage.now.renderer c.args.pass c.warm.result.0 _ _ c.warm.result.1 c.warm.ensures.warmed

pub returns-in-Err-clause-later : goal.returns-in-Err-clause-later
returns-in-Err-clause-later g c = caches_same c.args.pass.caches c.args.pass.caches refl
