use Rattle.std.proofs.Common.{◌≡◌, ◌<◌, ◌+◌, List, length, get_or, drop, true, false, sym, ap, subst, ◌∙◌, rules}
use Rattle.std.proofs.lemmas.Bool.{eq-eqb}
use Rattle.turn_cell.specs.Passes.{TurnView}
use Rattle.evict_core.specs.Machine.{State, HitsEach, hit, hit_all}
use Rattle.flight_cache.specs.Meaning.{shard_of}
use Rattle.flight_cache.specs.Histories.{is_in}
use Rattle.flight_cache.specs.Calls.{ShardView}
use Rattle.flight_cache.specs.Pinning.{keys_in}
use Rattle.flight_cache.specs.declared.kept.Kept.{Kept}
use Rattle.flight_cache.specs.declared.kept.Entry.{Entry}
use Rattle.flight_cache.specs.declared.kept.Opening.{Opening}
use Rattle.flight_cache.proofs.Places.{hit-here, all-here, none-here, not-equal, shard-at, some-of}
use Rattle.flight_cache.proofs.shard.Shard.pin_keys.Goals as goal
use Rattle.flight_cache.proofs.shard.Shard.pin_keys.Goals.{then-index-self, else-index-self}

pub loop-i-preserved : goal.loop-i-preserved
loop-i-preserved g c =
    let lt : c.loop-i.i < length c.args.keys.now.items = search rules in
    let xs = c.args.keys.now.items in
    let i = c.loop-i.i in
    let p = is_in g.M.Made.meaning c.args.self.now.tag in
    let s = c.loop-i.turn.value.entries in
    let later = keys_in g.M.Made.meaning c.args.self.now (drop (i + 1) xs) in
    let number : c.self.inside.number ≡ c.args.self.now.tag.shard = sym c.self.invariant ∙ ap (λ (s : ShardView g.row.M-Tag.Denot). s.tag.shard) c.self.view_is in
    elim c.if-index-self.branch [
      | then-index-self w ↦
          let d = w.index-then-index-self.result.now in
          let fk : shard_of (g.M.Made.meaning.numbers (get_or xs i d)) ≡ c.index.result.now = shard-at (λ (k : g.row.M-Key.Denot). shard_of (g.M.Made.meaning.numbers k)) xs c.args.shards.now.items i c.index.result.now d lt c.requires.shards c.index.ensures in
          let t : p (get_or xs i d) ≡ true = eq-eqb _ _ (fk ∙ (w.if-index-self.true ∙ number)) in
          let pinned : w.pin.new.self ≡ hit g.M.Key.PartialEq.eq s (get_or xs i d) = w.pin.ensures 0 ∙ (ap (λ (z : Kept g.row.M.Denot g.row.M-Key.Denot g.row.M-Value.Denot g.row.M-Tag.Denot). hit g.M.Key.PartialEq.eq z.entries d) w.value_mut.ensures.value ∙ ap (hit g.M.Key.PartialEq.eq s) w.index-then-index-self.ensures) in
          record {
            ready = subst (λ (t : TurnView (Kept g.row.M.Denot g.row.M-Key.Denot g.row.M-Value.Denot g.row.M-Tag.Denot) (Entry g.row.M-Key.Denot) (Opening g.row.M-Tag.Denot)). HitsEach g.M.Key.PartialEq.eq t.value.entries later) (sym w.turn-is) (subst (λ (z : State g.row.M-Key.Denot g.row.M-Value.Denot). HitsEach g.M.Key.PartialEq.eq z later) (sym pinned) (hit-here g.M.Key.PartialEq.eq p s xs i d lt t c.loop-i.invariant.ready).1);
            hits = ap (λ (t : TurnView (Kept g.row.M.Denot g.row.M-Key.Denot g.row.M-Value.Denot g.row.M-Tag.Denot) (Entry g.row.M-Key.Denot) (Opening g.row.M-Tag.Denot)). hit_all g.M.Key.PartialEq.eq t.value.entries later) w.turn-is ∙ (ap (λ (z : State g.row.M-Key.Denot g.row.M-Value.Denot). hit_all g.M.Key.PartialEq.eq z later) pinned ∙ (sym (all-here g.M.Key.PartialEq.eq p s xs i d lt t) ∙ c.loop-i.invariant.hits));
            rest = w.turn-is ∙ (ap (λ (t : TurnView (Kept g.row.M.Denot g.row.M-Key.Denot g.row.M-Value.Denot g.row.M-Tag.Denot) (Entry g.row.M-Key.Denot) (Opening g.row.M-Tag.Denot)). record t { value = record { entries = w.pin.new.self } }) c.loop-i.invariant.rest ∙ ap (λ (t : TurnView (Kept g.row.M.Denot g.row.M-Key.Denot g.row.M-Value.Denot g.row.M-Tag.Denot) (Entry g.row.M-Key.Denot) (Opening g.row.M-Tag.Denot)). record c.args.turn.now { value = t.value }) (sym w.turn-is));
          }
      | else-index-self w ↦
          let d = some-of xs i lt in
          let fk : shard_of (g.M.Made.meaning.numbers (get_or xs i d)) ≡ c.index.result.now = shard-at (λ (k : g.row.M-Key.Denot). shard_of (g.M.Made.meaning.numbers k)) xs c.args.shards.now.items i c.index.result.now d lt c.requires.shards c.index.ensures in
          let t : p (get_or xs i d) ≡ false = not-equal _ _ (λ e. w.if-index-self.false (sym fk ∙ (e ∙ sym number))) in
          record {
            ready = subst (λ (t : TurnView (Kept g.row.M.Denot g.row.M-Key.Denot g.row.M-Value.Denot g.row.M-Tag.Denot) (Entry g.row.M-Key.Denot) (Opening g.row.M-Tag.Denot)). HitsEach g.M.Key.PartialEq.eq t.value.entries later) (sym w.turn-is) (subst (λ (l : List g.row.M-Key.Denot). HitsEach g.M.Key.PartialEq.eq s l) (none-here g.M.Key.PartialEq.eq p s xs i d lt t) c.loop-i.invariant.ready);
            hits = ap (λ (t : TurnView (Kept g.row.M.Denot g.row.M-Key.Denot g.row.M-Value.Denot g.row.M-Tag.Denot) (Entry g.row.M-Key.Denot) (Opening g.row.M-Tag.Denot)). hit_all g.M.Key.PartialEq.eq t.value.entries later) w.turn-is ∙ (ap (hit_all g.M.Key.PartialEq.eq s) (sym (none-here g.M.Key.PartialEq.eq p s xs i d lt t)) ∙ c.loop-i.invariant.hits);
            rest = w.turn-is ∙ (c.loop-i.invariant.rest ∙ ap (λ (t : TurnView (Kept g.row.M.Denot g.row.M-Key.Denot g.row.M-Value.Denot g.row.M-Tag.Denot) (Entry g.row.M-Key.Denot) (Opening g.row.M-Tag.Denot)). record c.args.turn.now { value = t.value }) (sym w.turn-is));
          }
    ]
