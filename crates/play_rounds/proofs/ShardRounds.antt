-- What a round makes of the first pass of a shard.
use Rattle.std.proofs.Common.{◌≡◌, ℕ, ◌+◌, ◌-◌, ◌<◌, Bool, List, [], ◌++◌, length, map, refl, sym, ap, subst, ◌∙◌, arith, append-nil, lt_of_not-le}
use Rattle.std.specs.List.{All, Contains, sum_by}
use Rattle.std.proofs.lemmas.List.Elements.{All-contains, All-contains_itself, All-map, All-weaker}
use mathlib.Core.Logic.{dite}
use native.Mathlib.Decide.{ℕ_discrete, dec_le}
use Rattle.mask_caches.specs.Balance.{AllGaveBack, GaveAllBack}
use Rattle.flight_cache.specs.Calls.{HasGivenBack, ShardPassView, ShardView}
use Rattle.flight_cache.specs.Histories.{step_of}
use Rattle.flight_cache.specs.Meaning.{Meaning}
use Rattle.flight_cache.specs.declared.kept.Entry.{Entry}
use Rattle.turn_cell.specs.History.{History, entries_of, numbers_of}
use Rattle.turn_cell.specs.Passes.{Extends, Follows, IsWholePass, PassView, first_pass, mine}
use Rattle.turn_cell.proofs.Histories.{entries_of_below}
use Rattle.turn_cell.proofs.Passes.{length_whole, whole_first, whole_follows}
use Rattle.play_model.specs.Interleavings.{IsInterleaving, all_entries}
use Rattle.play_model.specs.Joining.{ArePassesJoined, ArePassesSplit}
use Rattle.play_model.proofs.JoinedPasses.{joined_round}
use Rattle.play_rounds.specs.Passes.{IsShardHome}
use Rattle.play_rounds.proofs.Shards.{first_itself, same_list}

-- What holds of the entries of each number before a round, and of what each pass of the round gave, holds of the entries of each number behind it.
pub each_number : {E T : Type 0} (first after : PassView E T) (count : ℕ) (passes : ℕ → PassView E T) (P : List E → Type 0) → first.number ≡ 0 → Extends first first.seen → IsWholePass first
    → ArePassesJoined (record first { next = first.next + count }) count passes after → ((i : ℕ) → i < count → (passes i).number ≡ first.next + i)
    → P [] → ((n : ℕ) → P (entries_of n first.seen)) → ((i : ℕ) → i < count → P (mine (passes i))) → (n : ℕ) → P (entries_of n after.seen)
each_number {E = E} first after count passes P zeroth ex whole joined numbers none before gave n =
    let zeroth' : after.number ≡ 0 = joined.number ∙ zeroth in
    let next : after.next ≡ first.next + count = joined.next in
    let kept : All (λ pair. entries_of pair.0 after.seen ≡ pair.1) after.past = joined.itself.joined zeroth' in
    let known : All (λ pair. entries_of pair.0 first.seen ≡ pair.1) first.past = ex.joined zeroth in
    let Same : ℕ → Type 0 = λ m. entries_of m after.seen ≡ entries_of m first.seen in
    let own : Same 0 = subst (λ (z : ℕ × ℕ). entries_of z.0 after.seen ≡ entries_of z.1 first.seen) (λ i. (zeroth' i, zeroth i)) joined.mine_is in
    let old : All Same (numbers_of first.past) = All-map Same (λ (pair : ℕ × List E). pair.0) first.past (All-weaker (Contains first.past) (λ (pair : ℕ × List E). Same pair.0)
    (λ pair there. All-contains (λ (p : ℕ × List E). entries_of p.0 after.seen ≡ p.1) after.past pair kept (joined.past pair there)
    ∙ sym (All-contains (λ (p : ℕ × List E). entries_of p.0 first.seen ≡ p.1) first.past pair known there)) first.past (All-contains_itself first.past)) in
    dite (dec_le first.next n)
    (λ le. dite (dec_le (first.next + count) n)
    (λ out. subst P (sym (entries_of_below after.next n after.seen (joined.itself.below zeroth') (omega (arith, next, out)))) none)
    (λ no. let i : ℕ = n - first.next in let lt : n < first.next + count = lt_of_not-le no in
    let number : (passes i).number ≡ n = numbers i (omega (arith, le, lt)) ∙ omega (arith, le) in
    let is : entries_of n after.seen ≡ mine (passes i) = subst (λ (z : ℕ). entries_of z after.seen ≡ mine (passes i)) number
    (All-contains (λ (p : ℕ × List E). entries_of p.0 after.seen ≡ p.1) after.past ((passes i).number, mine (passes i)) kept (joined.joined i (omega (arith, le, lt)))) in
    subst P (sym is) (gave i (omega (arith, le, lt)))))
    (λ no. let lt : n < first.next = lt_of_not-le no in
    let is : Same n = dite (ℕ_discrete n 0) (λ zero. subst Same (sym zero) own) (λ some. All-contains Same (numbers_of first.past) n old (whole n (omega (arith, some)) lt)) in
    subst P (sym is) (before n))

-- a whole pass that gave nothing has seen nothing new
pub nothing_seen : {E T : Type 0} (first after : PassView E T) → first.number ≡ 0 → IsWholePass first → Extends first first.seen → Follows first after [] → Extends after after.seen → after.seen ≡ first.seen
nothing_seen {E = E} first after zeroth whole ex follows itself =
    let now = length_whole first first.seen zeroth whole ex in
    let then = length_whole after after.seen (follows.number ∙ zeroth) (whole_follows first after [] whole follows) itself in
    let own : length (mine after) ≡ length (mine first) = ap length (follows.mine ∙ append-nil (mine first)) in
    let past : sum_by (λ (pair : ℕ × List E). length pair.1) after.past ≡ sum_by (λ (pair : ℕ × List E). length pair.1) first.past = ap (sum_by (λ (pair : ℕ × List E). length pair.1)) follows.past in
    same_list first.seen after.seen follows.seen.0 follows.seen.1 (omega (arith, now, then, own, past))

module _ {K V T : Type 0} (eq : K → K → Bool) (meaning : Meaning K V T) (shard : ShardView T) where
  abbrev IsGiven : List (Entry K) → Type 0
  IsGiven entries = GaveAllBack eq (map (step_of meaning shard.tag) entries)

  nothing_given : IsGiven []
  nothing_given = record { pins = λ key. refl; claims = λ key. refl }

  module _ (first split after : ShardPassView K T) (count : ℕ) (begun passes : ℕ → ShardPassView K T) (home : IsShardHome eq meaning shard first) (are_split : ArePassesSplit first count begun split)
      (joined : ArePassesJoined split count passes after) (numbers : (i : ℕ) → i < count → (passes i).number ≡ (begun i).number) where
    joined_first : ArePassesJoined (record first { next = first.next + count }) count passes after
    joined_first = subst (λ (p : ShardPassView K T). ArePassesJoined p count passes after) are_split.first_is joined

    number_in : (i : ℕ) → i < count → (passes i).number ≡ first.next + i
    number_in i lt = numbers i lt ∙ ap (λ (p : ShardPassView K T). p.number) (are_split.each i lt)

    -- what is new in the shard's history is an interleaving of what the passes gave
    pub shard_news : (rest : List (Entry K)) × (all_entries first.seen ++ rest ≡ all_entries after.seen) × IsInterleaving count (λ i. mine (passes i)) rest × IsWholePass after
    shard_news = joined_round first after count passes home.number home.itself home.whole joined_first number_in

    pub shard_home : ((i : ℕ) → i < count → HasGivenBack eq meaning shard (passes i)) → IsShardHome eq meaning shard after
    shard_home given = record {
      number = joined_first.number ∙ home.number;
      some = let next : after.next ≡ first.next + count = joined_first.next in omega (arith, next, home.some);
      itself = joined_first.itself;
      whole = shard_news.3;
      given = each_number first after count passes IsGiven home.number home.itself home.whole joined_first number_in nothing_given home.given
          (λ i lt. let back = given i lt in record { pins = back.pins; claims = back.claims });
    }

    -- a pass that is split off gave nothing
    pub begun_nothing : (i : ℕ) → i < count → mine (begun i) ≡ []
    begun_nothing i lt = ap (λ (p : ShardPassView K T). mine p) (are_split.each i lt) ∙ entries_of_below first.next (first.next + i) first.seen (home.itself.below home.number) (omega arith)

  -- calls of the first pass that gave nothing
  pub shard_turn : (first after : ShardPassView K T) → IsShardHome eq meaning shard first → Follows first after [] → Extends after after.seen → IsShardHome eq meaning shard after
  shard_turn first after home follows itself = record {
    number = follows.number ∙ home.number;
    some = subst (λ (n : ℕ). 0 < n) (sym follows.next) home.some;
    itself = itself;
    whole = whole_follows first after [] home.whole follows;
    given = subst (λ (history : History (Entry K)). AllGaveBack eq meaning shard.tag history) (sym (nothing_seen first after home.number home.whole home.itself follows itself)) home.given;
  }

  -- the pass of a new shard
  pub shard_new : (pass : ShardPassView K T) → pass ≡ first_pass shard → IsShardHome eq meaning shard pass
  shard_new pass is = record {
    number = ap (λ (p : ShardPassView K T). p.number) is;
    some = let next : pass.next ≡ 1 = ap (λ (p : ShardPassView K T). p.next) is in omega (arith, next);
    itself = first_itself shard pass is;
    whole = whole_first shard pass is;
    given = subst (λ (p : ShardPassView K T). AllGaveBack eq meaning shard.tag p.seen) (sym is) (λ n. nothing_given);
  }
