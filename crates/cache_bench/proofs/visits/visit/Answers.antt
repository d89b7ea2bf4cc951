use Rattle.std.proofs.Common.{◌==◌, [], ◌∷◌, ◌∙◌}
use Rattle.std.specs.Cmp.{nat_eq_equiv}
use Rattle.evict_core.specs.Machine.{Ask, Hit, Claim}
use Rattle.flight_cache.specs.Meaning.{shard_of}
use Rattle.flight_cache.specs.Shards.{at}
use Rattle.flight_cache.proofs.Asking.{short-follows}
use Rattle.flight_cache.proofs.Visits.{call-stays, given-lower, home-by, hit-held, fill-held, claim-open, after-hit, after-fail, after-spill, after-fill, after-crowded, after-nothing}
use Rattle.cache_bench.specs.Doubled.{doubled}
use Rattle.cache_bench.proofs.visits.visit.Goals as goal

pub ask-pass-requires-clause-order : goal.ask-pass-requires-clause-order
ask-pass-requires-clause-order g c = given-lower (◌==◌) doubled c.args.cache.now c.args.pass c.args.key c.requires.given

pub unpin-pass-requires-clause-cell : goal.unpin-pass-requires-clause-cell
unpin-pass-requires-clause-cell g c =
    let asked = rw c.in-Hit.is at c.ask-pass.ensures.asked in
    call-stays (◌==◌) nat_eq_equiv doubled c.args.cache.now c.args.key c.args.pass c.ask-pass.result.0 (Ask c.args.key Hit ∷ []) c.requires.cell (asked.0, c.ask-pass.ensures.others)

pub unpin-pass-requires-clause-held : goal.unpin-pass-requires-clause-held
unpin-pass-requires-clause-held g c =
    let asked = rw c.in-Hit.is at c.ask-pass.ensures.asked in
    hit-held (◌==◌) nat_eq_equiv doubled c.args.cache.now c.args.key c.in-Hit.pin.key c.args.pass c.ask-pass.result.0 asked.1 (asked.0, c.ask-pass.ensures.others)

pub returns-in-Hit : goal.returns-in-Hit
returns-in-Hit g c =
    let asked = rw c.in-Hit.is at c.ask-pass.ensures.asked in
    after-hit (◌==◌) nat_eq_equiv doubled c.args.cache.now c.args.key c.in-Hit.pin.key c.args.pass c.ask-pass.result.0 c.unpin-pass.result asked.1 c.requires.cell (asked.0, c.ask-pass.ensures.others) (c.unpin-pass.ensures.unpin, c.unpin-pass.ensures.others)

pub fail-pass-requires-clause-cell : goal.fail-pass-requires-clause-cell
fail-pass-requires-clause-cell g c =
    let asked = rw (c.in-Make.is, c.in-Some.is) at c.ask-pass.ensures.asked in
    call-stays (◌==◌) nat_eq_equiv doubled c.args.cache.now c.args.key c.args.pass c.ask-pass.result.0 (Ask c.args.key Claim ∷ []) c.requires.cell (asked.0, c.ask-pass.ensures.others)

pub fail-pass-requires-clause-open : goal.fail-pass-requires-clause-open
fail-pass-requires-clause-open g c =
    let asked = rw (c.in-Make.is, c.in-Some.is) at c.ask-pass.ensures.asked in
    claim-open (◌==◌) nat_eq_equiv doubled c.args.cache.now c.args.key c.in-Some.ticket.key c.args.pass c.ask-pass.result.0 asked.1 (asked.0, c.ask-pass.ensures.others)

pub returns-in_default : goal.returns-in_default
returns-in_default g c =
    let asked = rw (c.in-Make.is, c.in-Some.is) at c.ask-pass.ensures.asked in
    after-fail (◌==◌) nat_eq_equiv doubled c.args.cache.now c.args.key c.in-Some.ticket.key c.args.pass c.ask-pass.result.0 c.fail-pass.result asked.1 c.requires.cell (asked.0, c.ask-pass.ensures.others) (c.fail-pass.ensures.fail, c.fail-pass.ensures.others)

pub unpin-pass-requires-in-Ok-filled-clause-held : goal.unpin-pass-requires-in-Ok-filled-clause-held
unpin-pass-requires-in-Ok-filled-clause-held g c =
    let fill = rw c.in-Ok-filled.is at c.fill-pass.ensures.fill in
    let pin = rw c.in-Ok-filled.is at c.fill-pass.ensures.pin in
    fill-held (◌==◌) nat_eq_equiv doubled c.args.cache.now c.in-Some.ticket.key c.in-Ok-filled.pin.key _ _ c.ask-pass.result.0 c.fill-pass.result.0 pin.0 (fill, c.fill-pass.ensures.others)

pub returns-in-Ok-filled : goal.returns-in-Ok-filled
returns-in-Ok-filled g c =
    let fill = rw c.in-Ok-filled.is at c.fill-pass.ensures.fill in
    let pin = rw c.in-Ok-filled.is at c.fill-pass.ensures.pin in
    let asked = rw (c.in-Make.is, c.in-Some.is) at c.ask-pass.ensures.asked in
    after-fill (◌==◌) nat_eq_equiv doubled c.args.cache.now c.args.key c.in-Some.ticket.key c.in-Ok-filled.pin.key _ _ c.args.pass c.ask-pass.result.0 c.fill-pass.result.0 c.unpin-pass-in-Ok-filled.result
    asked.1 (pin.0 ∙ asked.1) c.requires.cell (asked.0, c.ask-pass.ensures.others) (fill, c.fill-pass.ensures.others) (c.unpin-pass-in-Ok-filled.ensures.unpin, c.unpin-pass-in-Ok-filled.ensures.others)

pub returns-in-Err : goal.returns-in-Err
returns-in-Err g c =
    let spilled = rw c.in-Err.is at c.fill-pass.ensures.spilled in
    let asked = rw (c.in-Make.is, c.in-Some.is) at c.ask-pass.ensures.asked in
    after-spill (◌==◌) nat_eq_equiv doubled c.args.cache.now c.args.key c.in-Some.ticket.key _ c.args.pass c.ask-pass.result.0 c.fill-pass.result.0 asked.1 c.requires.cell (asked.0, c.ask-pass.ensures.others) (spilled, c.fill-pass.ensures.others)

pub returns-in-None : goal.returns-in-None
returns-in-None g c =
    let asked = rw (c.in-Make.is, c.in-None.is) at c.ask-pass.ensures.asked in
    after-crowded (◌==◌) nat_eq_equiv doubled c.args.cache.now c.args.key c.args.pass c.ask-pass.result.0 c.requires.cell (asked, c.ask-pass.ensures.others)

pub returns-in-OutOfMemory : goal.returns-in-OutOfMemory
returns-in-OutOfMemory g c =
    let asked = rw c.in-OutOfMemory.is at c.ask-pass.ensures.asked in
    let n = shard_of (c.args.key ∷ []) in
    let none = short-follows (◌==◌) doubled (at c.args.cache.now.shards n) (at c.args.pass n) (at c.ask-pass.result.0 n) c.args.key asked in
    after-nothing (◌==◌) nat_eq_equiv doubled c.args.cache.now c.args.key c.args.pass c.ask-pass.result.0 c.requires.cell none c.ask-pass.ensures.others

pub unpin-pass-requires-clause-own : goal.unpin-pass-requires-clause-own
unpin-pass-requires-clause-own g c =
    let asked = rw c.in-Hit.is at c.ask-pass.ensures.asked in
    home-by doubled c.args.cache.now c.args.key c.in-Hit.pin.key c.in-Hit.pin.cell asked.1 (rw c.in-Hit.is at c.ask-pass.ensures.home)

pub fail-pass-requires-clause-own : goal.fail-pass-requires-clause-own
fail-pass-requires-clause-own g c =
    let asked = rw (c.in-Make.is, c.in-Some.is) at c.ask-pass.ensures.asked in
    home-by doubled c.args.cache.now c.args.key c.in-Some.ticket.key c.in-Some.ticket.cell asked.1 (rw (c.in-Make.is, c.in-Some.is) at c.ask-pass.ensures.home)

pub fill-pass-requires-clause-own : goal.fill-pass-requires-clause-own
fill-pass-requires-clause-own g c =
    let asked = rw (c.in-Make.is, c.in-Some.is) at c.ask-pass.ensures.asked in
    home-by doubled c.args.cache.now c.args.key c.in-Some.ticket.key c.in-Some.ticket.cell asked.1 (rw (c.in-Make.is, c.in-Some.is) at c.ask-pass.ensures.home)

pub unpin-pass-requires-in-Ok-filled-clause-own : goal.unpin-pass-requires-in-Ok-filled-clause-own
unpin-pass-requires-in-Ok-filled-clause-own g c =
    let pin = rw c.in-Ok-filled.is at c.fill-pass.ensures.pin in
    let asked = rw (c.in-Make.is, c.in-Some.is) at c.ask-pass.ensures.asked in
    let own = home-by doubled c.args.cache.now c.args.key c.in-Some.ticket.key c.in-Some.ticket.cell asked.1 (rw (c.in-Make.is, c.in-Some.is) at c.ask-pass.ensures.home) in
    home-by doubled c.args.cache.now c.in-Some.ticket.key c.in-Ok-filled.pin.key c.in-Ok-filled.pin.cell pin.0 (pin.2 ∙ own)
