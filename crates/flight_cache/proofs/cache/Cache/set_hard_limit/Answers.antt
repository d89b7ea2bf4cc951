use Rattle.std.proofs.Common.{◌&&◌, refl, rules}
use Rattle.flight_cache.proofs.HardSets.{alike-set}
use Rattle.flight_cache.proofs.cache.Cache.set_hard_limit.Goals as goal

pub invariant_of-pass : goal.invariant_of-pass
invariant_of-pass g c =
    alike-set g.M.Key.PartialEq.eq g.M.Made.meaning
    (record { first = c.self.inside.first; second = c.self.inside.second; third = c.self.inside.third; fourth = c.self.inside.fourth })
    (record { first = c.pass.inside.first; second = c.pass.inside.second; third = c.pass.inside.third; fourth = c.pass.inside.fourth })
    (record { first = c.set_hard_limit-first.result.0; second = c.set_hard_limit-second.result.0; third = c.set_hard_limit-third.result.0; fourth = c.set_hard_limit-fourth.result.0 })
    c.args.hard (c.set_hard_limit-first.result.1 && c.set_hard_limit-second.result.1 && c.set_hard_limit-third.result.1 && c.set_hard_limit-fourth.result.1)
    (record {
      sets = record {
        first = c.set_hard_limit-first.result.1;
        second = c.set_hard_limit-second.result.1;
        third = c.set_hard_limit-third.result.1;
        fourth = c.set_hard_limit-fourth.result.1;
      };
      first = rw c.hard_part.ensures.part at c.set_hard_limit-first.ensures;
      second = rw c.hard_part-2.ensures.part at c.set_hard_limit-second.ensures;
      third = rw c.hard_part-3.ensures.part at c.set_hard_limit-third.ensures;
      fourth = rw c.hard_part-4.ensures.part at c.set_hard_limit-fourth.ensures;
      all = refl;
    })
    c.pass.invariant

pub returns : goal.returns
returns g c = rw (← c.self.view_is, ← c.pass.view_is) record {
  sets = record {
    first = c.set_hard_limit-first.result.1;
    second = c.set_hard_limit-second.result.1;
    third = c.set_hard_limit-third.result.1;
    fourth = c.set_hard_limit-fourth.result.1;
  };
  first = rw c.hard_part.ensures.part at c.set_hard_limit-first.ensures;
  second = rw c.hard_part-2.ensures.part at c.set_hard_limit-second.ensures;
  third = rw c.hard_part-3.ensures.part at c.set_hard_limit-third.ensures;
  fourth = rw c.hard_part-4.ensures.part at c.set_hard_limit-fourth.ensures;
  all = search rules;
}
