use Rattle.mask_caches.proofs.Homes.{ask-home}
use Rattle.mask_caches.proofs.Asking.{ask-key, ask-new, ask-short, ask-steps}
use Rattle.mask_caches.proofs.lending.ask.Goals as goal

pub returns : goal.returns
returns g c =
    let answer = c.ask.result.1 in let asked = c.ask.ensures.asked in
    record {
      steps = ask-steps g.M.Key.PartialEq.eq g.met.M.Key.Eq.laws g.met.M.Made.same_key g.M.Made.meaning c.args.cache.now c.args.key.now c.args.pass c.ask.result.0 answer asked c.ask.ensures.others;
      asked = ask-key g.M.Key.PartialEq.eq g.met.M.Key.Eq.laws g.met.M.Made.same_key g.M.Made.meaning c.args.cache.now c.args.key.now c.args.pass c.ask.result.0 answer asked c.ask.ensures.value;
      home = ask-home g.M.Made.meaning c.args.cache.now c.args.key.now answer
          (ask-key g.M.Key.PartialEq.eq g.met.M.Key.Eq.laws g.met.M.Made.same_key g.M.Made.meaning c.args.cache.now c.args.key.now c.args.pass c.ask.result.0 answer asked c.ask.ensures.value) c.ask.ensures.home;
      short = ask-short g.M.Key.PartialEq.eq g.met.M.Key.Eq.laws g.met.M.Made.same_key g.M.Made.meaning c.args.cache.now c.args.key.now c.args.pass c.ask.result.0 answer asked;
      new = ask-new g.M.Key.PartialEq.eq g.met.M.Key.Eq.laws g.met.M.Made.same_key g.M.Made.meaning c.args.cache.now c.args.key.now c.args.pass c.ask.result.0 answer asked;
    }
