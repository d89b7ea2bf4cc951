use Rattle.std.proofs.Common.{◌≡◌, []}
use Rattle.std.specs.Option.{IfSome}
use Rattle.turn_cell.specs.Passes.{IsOf, Follows}
use Rattle.flight_cache.proofs.shard.Shard.ask.Given as goal

abbrev pub invariant-loop : goal.invariant-loop
invariant-loop g l =
    (goal.iterator-loop g).can_next l.iterator' × (goal.iterator-loop g).is_finite l.iterator'
    × IsOf l.self l.waiting × Follows l.fn.pass l.waiting [] × (l.own ≡ l.key) × IfSome l.spare (λ c. c ≡ l.own)
