use Rattle.mask_caches.proofs.Adding.{adds-fail}
use Rattle.mask_caches.proofs.lending.fail.Goals as goal

pub returns : goal.returns
returns g c = adds-fail g.M.Key.PartialEq.eq g.met.M.Made.same_key g.M.Made.meaning c.args.cache.now c.args.ticket.key c.args.pass c.fail.result (c.fail.ensures.fail, c.fail.ensures.others)
