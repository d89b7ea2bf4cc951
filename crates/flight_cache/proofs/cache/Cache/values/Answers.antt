use Rattle.std.proofs.Common.{◌≡◌, ℕ, ◌<◌, ◌++◌, ◌∷◌, [], List, length, get_or, map, take, option_map, sym, ap, subst, ◌∙◌, rules}
use Rattle.std.specs.Arc.{arc_value}
use Rattle.std.proofs.lemmas.List.{map_push, map_more}
use Rattle.flight_cache.specs.Meaning.{shard_of, shard_count}
use Rattle.flight_cache.specs.Holds.{held_value}
use Rattle.flight_cache.specs.declared.holds.Hold.{Hold}
use Rattle.flight_cache.proofs.Places.{shard-at, some-of}
use Rattle.flight_cache.proofs.Four.{value-made}
use Rattle.flight_cache.proofs.Refusing.{below-four}
use Rattle.flight_cache.proofs.cache.Cache.values.Goals as goal

pub of-requires : goal.of-requires
of-requires g c =
    let lt : c.loop-i.i < length c.args.keys.now.items = search rules in
    let xs = c.args.keys.now.items in
    let d = some-of xs c.loop-i.i lt in
    subst (λ (m : ℕ). m < shard_count) (shard-at (λ (k : g.row.M-Key.Denot). shard_of (g.M.Made.meaning.numbers k)) xs c.args.shards.now.items c.loop-i.i c.index.result.now d lt c.requires.shards c.index.ensures) (below-four (g.M.Made.meaning.numbers (get_or xs c.loop-i.i d)))

pub loop-i-preserved : goal.loop-i-preserved
loop-i-preserved g c =
    let lt : c.loop-i.i < length c.args.keys.now.items = search rules in
    let xs = c.args.keys.now.items in
    let made = g.M.Made.meaning.made c.args.self.now.tag in
    let k = c.index-in-loop-i.result.now in
    let n = c.index.result.now in
    let below : n < shard_count = subst (λ (m : ℕ). m < shard_count) (shard-at (λ (k : g.row.M-Key.Denot). shard_of (g.M.Made.meaning.numbers k)) xs c.args.shards.now.items c.loop-i.i n k lt c.requires.shards c.index.ensures) (below-four (g.M.Made.meaning.numbers (get_or xs c.loop-i.i k))) in
    let value : arc_value c.in-Some.value ≡ made k = value-made g.M.Key.PartialEq.eq g.met.M.Key.Eq.laws g.met.M.Made.same_key g.M.Made.meaning c.args.self.now c.proof_numbered.ensures c.args.holds.now c.requires.held n below k (arc_value c.in-Some.value)
    (ap (λ (h : Hold g.row.M.Denot g.row.M-Key.Denot g.row.M-Value.Denot g.row.M-Tag.Denot). held_value g.M.Key.PartialEq.eq h k) (sym c.of.ensures) ∙ (sym c.in_ok-value.ensures ∙ ap (option_map arc_value) c.in-Some.is)) in
    ap (map arc_value) c.in_ok-push.ensures.items ∙ (map_push arc_value c.loop-i.values.items c.in-Some.value
    ∙ (ap (λ (l : List g.row.M-Value.Denot). l ++ arc_value c.in-Some.value ∷ []) c.loop-i.invariant
    ∙ (ap (λ (z : g.row.M-Value.Denot). map made (take c.loop-i.i xs) ++ z ∷ []) (value ∙ ap made c.index-in-loop-i.ensures) ∙ sym (map_more made xs c.loop-i.i k lt))))
