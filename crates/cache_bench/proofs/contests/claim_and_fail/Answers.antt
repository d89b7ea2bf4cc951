use Rattle.std.proofs.Common.{◌==◌, [], ◌∷◌}
use Rattle.std.specs.Cmp.{nat_eq_equiv}
use Rattle.evict_core.specs.Machine.{Ask, Hit, Claim}
use Rattle.flight_cache.specs.Meaning.{shard_of}
use Rattle.flight_cache.specs.Shards.{at}
use Rattle.flight_cache.proofs.Asking.{short-follows}
use Rattle.flight_cache.proofs.Visits.{call-stays, given-lower, home-by, hit-held, claim-open, after-hit, after-fail, after-crowded, after-nothing}
use Rattle.cache_bench.specs.Doubled.{doubled}
use Rattle.cache_bench.proofs.contests.claim_and_fail.Goals as goal

pub ask-pass-requires-clause-order : goal.ask-pass-requires-clause-order
ask-pass-requires-clause-order g c = given-lower (◌==◌) doubled c.args.cache.now c.args.pass c.args.key c.requires.given

pub unpin-requires-clause-cell : goal.unpin-requires-clause-cell
unpin-requires-clause-cell g c =
    let asked = rw c.in-Hit.is at c.ask-pass.ensures.asked in
    call-stays (◌==◌) nat_eq_equiv doubled c.args.cache.now c.args.key c.args.pass c.ask-pass.result.0 (Ask c.args.key Hit ∷ []) c.requires.cell (asked.0, c.ask-pass.ensures.others)

pub unpin-requires-clause-held : goal.unpin-requires-clause-held
unpin-requires-clause-held g c =
    let asked = rw c.in-Hit.is at c.ask-pass.ensures.asked in
    hit-held (◌==◌) nat_eq_equiv doubled c.args.cache.now c.args.key c.in-Hit.pin.key c.args.pass c.ask-pass.result.0 asked.1 (asked.0, c.ask-pass.ensures.others)

pub returns-in-Hit : goal.returns-in-Hit
returns-in-Hit g c =
    let asked = rw c.in-Hit.is at c.ask-pass.ensures.asked in
    after-hit (◌==◌) nat_eq_equiv doubled c.args.cache.now c.args.key c.in-Hit.pin.key c.args.pass c.ask-pass.result.0 c.unpin.result asked.1 c.requires.cell (asked.0, c.ask-pass.ensures.others) (c.unpin.ensures.unpin, c.unpin.ensures.others)

pub fail-requires-clause-cell : goal.fail-requires-clause-cell
fail-requires-clause-cell g c =
    let asked = rw (c.in-Make.is, c.in-Some.is) at c.ask-pass.ensures.asked in
    call-stays (◌==◌) nat_eq_equiv doubled c.args.cache.now c.args.key c.args.pass c.ask-pass.result.0 (Ask c.args.key Claim ∷ []) c.requires.cell (asked.0, c.ask-pass.ensures.others)

pub fail-requires-clause-open : goal.fail-requires-clause-open
fail-requires-clause-open g c =
    let asked = rw (c.in-Make.is, c.in-Some.is) at c.ask-pass.ensures.asked in
    claim-open (◌==◌) nat_eq_equiv doubled c.args.cache.now c.args.key c.in-Some.ticket.key c.args.pass c.ask-pass.result.0 asked.1 (asked.0, c.ask-pass.ensures.others)

pub returns-in-Some : goal.returns-in-Some
returns-in-Some g c =
    let asked = rw (c.in-Make.is, c.in-Some.is) at c.ask-pass.ensures.asked in
    after-fail (◌==◌) nat_eq_equiv doubled c.args.cache.now c.args.key c.in-Some.ticket.key c.args.pass c.ask-pass.result.0 c.fail.result asked.1 c.requires.cell (asked.0, c.ask-pass.ensures.others) (c.fail.ensures.fail, c.fail.ensures.others)

pub returns-in-None : goal.returns-in-None
returns-in-None g c =
    let asked = rw (c.in-Make.is, c.in-None.is) at c.ask-pass.ensures.asked in
    after-crowded (◌==◌) nat_eq_equiv doubled c.args.cache.now c.args.key c.args.pass c.ask-pass.result.0 c.requires.cell (asked, c.ask-pass.ensures.others)

pub returns-in-OutOfMemory : goal.returns-in-OutOfMemory
returns-in-OutOfMemory g c =
    let asked = rw c.in-OutOfMemory.is at c.ask-pass.ensures.asked in
    let n = shard_of (c.args.key ∷ []) in
    let none = short-follows (◌==◌) doubled (at c.args.cache.now.shards n) (at c.args.pass n) (at c.ask-pass.result.0 n) c.args.key asked in
    after-nothing (◌==◌) nat_eq_equiv doubled c.args.cache.now c.args.key c.args.pass c.ask-pass.result.0 c.requires.cell none c.ask-pass.ensures.others

pub unpin-requires-clause-own : goal.unpin-requires-clause-own
unpin-requires-clause-own g c =
    let asked = rw c.in-Hit.is at c.ask-pass.ensures.asked in
    home-by doubled c.args.cache.now c.args.key c.in-Hit.pin.key c.in-Hit.pin.cell asked.1 (rw c.in-Hit.is at c.ask-pass.ensures.home)

pub fail-requires-clause-own : goal.fail-requires-clause-own
fail-requires-clause-own g c =
    let asked = rw (c.in-Make.is, c.in-Some.is) at c.ask-pass.ensures.asked in
    home-by doubled c.args.cache.now c.args.key c.in-Some.ticket.key c.in-Some.ticket.cell asked.1 (rw (c.in-Make.is, c.in-Some.is) at c.ask-pass.ensures.home)
