use Rattle.std.proofs.Common.{map, take, rules}
use Rattle.mask_caches.proofs.Firsts.{begins-before, list-more, on-err}
use Rattle.mask_caches.proofs.first_keys.add_draws.Goals as goal

pub loop-key-preserved : goal.loop-key-preserved
loop-key-preserved c =
    list-more c.args.known.now.keys (λ k. k.now) c.as_slice-key-items.result.now c.loop-key.key-index c.key-item.result c.loop-key.known.keys c.add_key.new.known.keys (search rules) c.key-item.is c.loop-key.invariant c.in_ok-add_key.ensures.ok

pub returns-in_err-add_key-clause-err : goal.returns-in_err-add_key-clause-err
returns-in_err-add_key-clause-err c =
    on-err c.from_residual-in_err-add_key.result (begins-before c.args.known.now.keys (map (λ k. k.now) (take c.loop-key.key-index c.as_slice-key-items.result.now)) c.loop-key.known.keys c.add_key.new.known.keys c.loop-key.invariant c.in_err-add_key.ensures.err)
