use Rattle.flight_cache.proofs.Four.{alike-pinned}
use Rattle.flight_cache.proofs.cache.Cache.pin_all.Goals as goal

pub invariant_of-result : goal.invariant_of-result
invariant_of-result g c =
    alike-pinned g.M.Key.PartialEq.eq g.met.M.Key.Eq.laws g.met.M.Made.same_key g.M.Made.meaning
    (record { shards = record { first = c.self.inside.first; second = c.self.inside.second; third = c.self.inside.third; fourth = c.self.inside.fourth }; tag = c.self.inside.first.tag.tag.value }) c.args.keys.now.items c.args.holds
    (record { first = c.pin_all.result; second = c.pin_all-2.result; third = c.pin_all-3.result; fourth = c.pin_all-4.result })
    (record { first = c.pin_all.ensures; second = c.pin_all-2.ensures; third = c.pin_all-3.ensures; fourth = c.pin_all-4.ensures }) c.requires.held.alike
