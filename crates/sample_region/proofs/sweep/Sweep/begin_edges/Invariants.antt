use Rattle.std.proofs.Common.{◌≡◌, ◌≤ℤ◌, take, All}
use Rattle.sample_region.specs.Carried.{AreCarriedTo, live_edges}
use Rattle.sample_region.specs.Edges.{unended}
use Rattle.sample_region.proofs.sweep.Sweep.begin_edges.Given as goal

abbrev pub invariant-loop-k : goal.invariant-loop-k
invariant-loop-k l = record {
  begun : l.self.begun ≡ l.k;
  active : live_edges l.self.active.items ≡ unended l.y (take l.k l.edges);
  carried : AreCarriedTo l.y l.self.active.items;
  above : All (λ e. e.upper.y ≤ℤ l.y) (take l.k l.edges);
}
