use Rattle.std.proofs.Common.{refl}
use Rattle.std.specs.Arc.{arc_value}
use Rattle.std.proofs.lemmas.List.Elements.{All-nil}
use Rattle.world_core.specs.Keys.{world_meaning}
use Rattle.world_core.proofs.Looks.{no-looks}
use Rattle.world_core.proofs.Recording.{opening-recorded}
use Rattle.world_core.proofs.world.open.Goals as goal

pub returns-clause-state : goal.returns-clause-state
returns-clause-state c = record {
  script = c.requires.script;
  fonts = c.requires.fonts;
  sound = c.new-track.ensures.sound;
  history = c.new-track.ensures.history;
  caches = c.in_ok-caches.ensures;
  shards = record { tag = refl; shards = refl; keys = All-nil _ };
  looks = no-looks (arc_value c.args.script) (arc_value c.args.fonts).fonts c.new-looks.result c.new-looks.ensures.empty;
}

pub returns-clause-recorded : goal.returns-clause-recorded
returns-clause-recorded c = opening-recorded world_meaning c.args.fonts c.args.budget
