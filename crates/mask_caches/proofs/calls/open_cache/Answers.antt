use Rattle.mask_caches.proofs.Free.{opened-free}
use Rattle.mask_caches.proofs.Opening.{opened-new, opened-pass}
use Rattle.mask_caches.proofs.calls.open_cache.Goals as goal

pub returns : goal.returns
returns g c =
    let new = opened-new c.open.result c.args.tag c.entry_limit-entries.result c.args.budget c.entry_limit-entries.ensures.value c.open.ensures.tag c.open.ensures.shards c.open.ensures.limits c.open.ensures.pass in
    record {
      tag = c.open.ensures.tag;
      new = new;
      pass = opened-pass c.open.result c.open.ensures.pass;
      free = opened-free g.M.Key.PartialEq.eq g.M.Made.meaning c.open.result c.args.budget new;
    }
