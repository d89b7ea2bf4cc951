use Rattle.std.proofs.Common.{◌≡◌, ℕ, ◌+◌, ◌<◌, [], ◌∷◌, length, get_or, take, map, reverse, refl, sym, ap, ◌∙◌, arith}
use Rattle.std.specs.Arc.{arc_value}
use Rattle.std.proofs.lemmas.List.{length-append, length-map, map_push}
use Rattle.flight_cache.specs.Calls.{PinView, ShardPassView}
use Rattle.flight_cache.specs.Meaning.{shard_of}
use Rattle.flight_cache.specs.Shards.{at}
use Rattle.flight_cache.proofs.Moved.{all-moved, first-more, moved}
use Rattle.flight_cache.proofs.pinning.pins_with.Goals as goal

pub loop-key-preserved : goal.loop-key-preserved
loop-key-preserved g c =
    let cell-of = λ (n : ℕ). (at c.args.pass.now n).cell in
    let fewer : length c.loop-key.keys.items ≡ length c.pop.new.self.items + 1 = ap length c.in-Some.ensures.items ∙ length-append c.pop.new.self.items (c.in-Some.key ∷ []) in
    let less : length c.loop-key.values.items ≡ length c.pop-in-Some.new.self.items + 1 = ap length c.in-Some-pop.ensures.items ∙ length-append c.pop-in-Some.new.self.items (c.in-Some-pop.value ∷ []) in
    let whole = ap length c.loop-key.invariant.keys in
    let parts = length-append c.loop-key.keys.items (map (λ (p : PinView g.row.M-Key.Denot g.row.M-Value.Denot). p.key) (reverse c.loop-key.pins.items)) in
    let named = ap length c.requires.shards ∙ length-map c.args.keys.items (λ (k : g.row.M-Key.Denot). shard_of (g.M.Made.meaning.numbers k)) in
    let short : length c.pop.new.self.items < length c.args.shards.now.items = omega (arith, whole, parts, named, fewer) in
    let place : c.len.result ≡ length c.pop.new.self.items = c.len.ensures ∙ c.pop.new.self.ok.0 in
    let own : c.index-shard.result.now ≡ get_or c.args.shards.now.items (length c.pop.new.self.items) c.index-shard.result.now
    = c.index-shard.ensures ∙ ap (λ (n : ℕ). get_or c.args.shards.now.items n c.index-shard.result.now) place in
    record {
      keys = moved (λ (p : PinView g.row.M-Key.Denot g.row.M-Value.Denot). p.key) c.args.keys.items c.pop.new.self.items c.loop-key.keys.items c.in-Some.key c.loop-key.pins.items c.push_reserved.new.self.items _
          c.in-Some.ensures.items c.push_reserved.ensures.items refl c.loop-key.invariant.keys;
      values = moved (λ (p : PinView g.row.M-Key.Denot g.row.M-Value.Denot). p.value) (map arc_value c.args.values.items) (map arc_value c.pop-in-Some.new.self.items) (map arc_value c.loop-key.values.items) (arc_value c.in-Some-pop.value) c.loop-key.pins.items c.push_reserved.new.self.items _
          (ap (map arc_value) c.in-Some-pop.ensures.items ∙ map_push arc_value c.pop-in-Some.new.self.items c.in-Some-pop.value) c.push_reserved.ensures.items refl c.loop-key.invariant.values;
      cells = moved (λ (p : PinView g.row.M-Key.Denot g.row.M-Value.Denot). p.cell) (map cell-of c.args.shards.now.items) (map cell-of (take (length c.pop.new.self.items) c.args.shards.now.items)) (map cell-of (take (length c.loop-key.keys.items) c.args.shards.now.items))
          (cell-of (get_or c.args.shards.now.items (length c.pop.new.self.items) c.index-shard.result.now)) c.loop-key.pins.items c.push_reserved.new.self.items _
          (first-more cell-of c.args.shards.now.items (length c.loop-key.keys.items) (length c.pop.new.self.items) c.index-shard.result.now fewer short) c.push_reserved.ensures.items (ap (λ (q : ShardPassView g.row.M-Key.Denot g.row.M-Tag.Denot). q.cell) c.home_of-home.ensures ∙ ap cell-of own) c.loop-key.invariant.cells;
      many = omega (arith, fewer, less, c.loop-key.invariant.many);
      room = omega (arith, fewer, c.loop-key.invariant.room, c.push_reserved.ensures.len, c.push_reserved.ensures.capacity);
    }

pub returns-clause-values : goal.returns-clause-values
returns-clause-values g c =
    let none = length-map c.loop-key.values.items arc_value ∙ (c.loop-key.invariant.many ∙ (sym c.loop-key.keys.ok.0 ∙ c.in_default.ensures.cases.0)) in
    all-moved (λ (p : PinView g.row.M-Key.Denot g.row.M-Value.Denot). p.value) (map arc_value c.loop-key.values.items) (map arc_value c.args.values.items) c.loop-key.pins.items c.reverse.new.self.items none c.reverse.ensures.items c.loop-key.invariant.values

pub returns-clause-cells : goal.returns-clause-cells
returns-clause-cells g c =
    let cell-of = λ (n : ℕ). (at c.args.pass.now n).cell in
    let none = ap (λ (n : ℕ). length (map cell-of (take n c.args.shards.now.items))) (sym c.loop-key.keys.ok.0 ∙ c.in_default.ensures.cases.0) in
    all-moved (λ (p : PinView g.row.M-Key.Denot g.row.M-Value.Denot). p.cell) (map cell-of (take (length c.loop-key.keys.items) c.args.shards.now.items)) (map cell-of c.args.shards.now.items) c.loop-key.pins.items c.reverse.new.self.items none c.reverse.ensures.items c.loop-key.invariant.cells
