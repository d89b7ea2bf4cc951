use Rattle.renderer.proofs.Leasing.{lent-by, unlent-by}
use Rattle.renderer.proofs.images.lend_mask.Goals as goal

pub returns-clause-lent : goal.returns-clause-lent
returns-clause-lent g c = lent-by c.args.caches.now c.args.pass c.composite.result.0 c.args.key.now c.composite.result.1 c.composite.ensures.pass c.composite.ensures.composed c.composite.ensures.holds c.composite.ensures.home

pub returns-clause-refused : goal.returns-clause-refused
returns-clause-refused g c = unlent-by c.args.caches.now c.args.pass c.composite.result.0 c.args.key.now c.composite.result.1 c.composite.ensures.pass c.composite.ensures.composed c.composite.ensures.holds
