use Rattle.std.proofs.Common.{◌≡◌, rules}
use Rattle.run_status.proofs.AskedLemmas.{got, too_large}
use Rattle.ass_io.specs.Fetches.{fetch_change}
use Rattle.run_status.proofs.FetchLemmas.{fetched_failed, fetched_got, fetched_missing, fetched_too_large, fetched_wanting}
use Rattle.run_status.proofs.files.fetch_file.Goals as goal

pub returns-in-Got-clause-read : goal.returns-in-Got-clause-read
returns-in-Got-clause-read g c =
    let read = c.in-Got.ensures.fetched in
    let same : c.from_vec.result ≡ c.fetch.new.into.items = search rules in
    let name : c.as_str-2.result.now ≡ c.args.name.now = search rules in
    rw (same, ← name) (got (g.S.Shelf.told c.args.shelf.now c.as_str-2.result.now) c.as_str-2.result.now c.fetch.new.into.items read.0 read.1)

pub returns-in-TooLarge-clause-read : goal.returns-in-TooLarge-clause-read
returns-in-TooLarge-clause-read g c =
    let name : c.as_str-2.result.now ≡ c.args.name.now = search rules in
    rw (← name) (too_large (g.S.Shelf.told c.args.shelf.now c.as_str-2.result.now) c.as_str-2.result.now c.in-TooLarge.ensures.fetched.0)

pub returns-in-Got-clause-fetched : goal.returns-in-Got-clause-fetched
returns-in-Got-clause-fetched g c =
    let same : c.from_vec.result ≡ c.fetch.new.into.items = search rules in
    let name : c.as_str-2.result.now ≡ c.args.name.now = search rules in
    rw (same, ← name)
    (fetched_got c.as_str-2.result.now c.fetch.new.into.items (fetch_change (g.S.Shelf.log c.args.shelf.now) (g.S.Shelf.log c.fetch.new.self)) c.in-Got.ensures.fetched.1 c.in-Got.ensures.logged)

pub returns-in-Missing-clause-fetched : goal.returns-in-Missing-clause-fetched
returns-in-Missing-clause-fetched g c =
    let name : c.as_str-2.result.now ≡ c.args.name.now = search rules in
    let owned : c.in_ok-name.name ≡ c.as_str-2.result.now = search rules in
    rw (owned, ← name)
    (fetched_missing c.as_str-2.result.now c.fetch.new.into.items (fetch_change (g.S.Shelf.log c.args.shelf.now) (g.S.Shelf.log c.fetch.new.self)) c.in-Missing.ensures.logged)

pub returns-in-Failed-clause-fetched : goal.returns-in-Failed-clause-fetched
returns-in-Failed-clause-fetched g c =
    let name : c.as_str-2.result.now ≡ c.args.name.now = search rules in
    let owned : c.in_ok-name.name ≡ c.as_str-2.result.now = search rules in
    rw (owned, ← name)
    (fetched_failed c.as_str-2.result.now c.fetch.new.into.items (fetch_change (g.S.Shelf.log c.args.shelf.now) (g.S.Shelf.log c.fetch.new.self)) c.in-Failed.ensures.logged)

pub returns-in-TooLarge-clause-fetched : goal.returns-in-TooLarge-clause-fetched
returns-in-TooLarge-clause-fetched g c =
    let name : c.as_str-2.result.now ≡ c.args.name.now = search rules in
    rw (← name)
    (fetched_too_large c.as_str-2.result.now c.fetch.new.into.items (fetch_change (g.S.Shelf.log c.args.shelf.now) (g.S.Shelf.log c.fetch.new.self)) c.in-TooLarge.ensures.logged)

pub returns-in-OutOfMemory-clause-fetched : goal.returns-in-OutOfMemory-clause-fetched
returns-in-OutOfMemory-clause-fetched g c =
    let name : c.as_str-2.result.now ≡ c.args.name.now = search rules in
    rw (← name)
    (fetched_wanting c.as_str-2.result.now c.fetch.new.into.items (fetch_change (g.S.Shelf.log c.args.shelf.now) (g.S.Shelf.log c.fetch.new.self)) c.in-OutOfMemory.ensures.logged)
