use Rattle.std.proofs.Common.{◌≡◌, ◌+◌, ◌-◌, ◌*◌, ◌<◌, ◌^◌}
use Rattle.sfnt_font.specs.Maps.{best_map, no_choice}
use Rattle.sfnt_font.proofs.maps.best_map.Given as goal

abbrev pub invariant-loop-k : goal.invariant-loop-k
invariant-loop-k l = record {
  read : best_map l.bytes l.cmap (l.first + 8 * l.k) (l.n - l.k) l.best ≡ best_map l.bytes l.cmap l.first l.n no_choice;
  place : l.best.place < 2 ^ 33;
}
