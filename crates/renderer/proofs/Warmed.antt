-- Plans at instants in a row, their keys, and what warming all of these gives.
use Rattle.std.proofs.Common.{◌≡◌, ℕ, ℤ, ◌+◌, ◌<◌, List, [], ◌∷◌, ◌++◌, flat_map, length, take, get_or, None, Result, Ok, Err, All, sym, ap, subst, ◌∙◌, append-nil, arith}
use Rattle.std.specs.Option.{option_to_list}
use Rattle.std.specs.Result.{IfOk, OnErr, OnOk}
use Rattle.std.proofs.Math.Seq.{take-length}
use Rattle.std.proofs.lemmas.Grind.{flat_map-append}
use Rattle.std.proofs.lemmas.List.{length-append, take_more}
use Rattle.ass_events.specs.Histories.{live}
use Rattle.ass_num.specs.declared.size.Size.{Size}
use Rattle.mask_keys.specs.Equality.{equal_composites}
use Rattle.mask_keys.proofs.Equal.{composite_same}
use Rattle.mask_keys.specs.contracts.composite_key.CompositeKeyEq.TheImpl.Laws as composite_laws
use Rattle.mask_keys.specs.declared.composite_key.CompositeKey.{CompositeKey}
use Rattle.mask_keys.specs.declared.plans.Draw.{Draw}
use Rattle.mask_caches.specs.declared.passes.CachesPass.{CachesPass}
use Rattle.frame_view.specs.FrameViews.{plain_frame}
use Rattle.picture_plan.specs.Pictures.{AreDraws}
use Rattle.track_history.specs.Calls.{IsTurn, TrackView, history_of}
use Rattle.track_history.specs.declared.answers.LookRefusal.TheVariants as look
use Rattle.track_history.specs.declared.answers.TrackEntry.{TrackEntry}
use Rattle.track_history.proofs.LawLemmas.{tried_follows}
use Rattle.turn_cell.specs.History.{History, IsPrefix}
use Rattle.turn_cell.specs.Passes.{Follows}
use Rattle.turn_cell.proofs.Passes.{Follows_same, Follows_trans}
use Rattle.mask_caches.specs.Aheads.{AheadView, next_count, next_keys}
use Rattle.mask_keys.specs.PlanKeys.{plan_keys}
use Rattle.mask_caches.specs.Firsts.{firsts}
use Rattle.mask_caches.specs.Warming.{AddsWarming, AreWarmed}
use Rattle.mask_caches.specs.Keeping.{unkept_in}
use Rattle.mask_caches.specs.declared.caches.Caches.{Caches}
use Rattle.mask_caches.specs.declared.warming.Prefetched.{Prefetched}
use Rattle.mask_caches.proofs.KeysWarmed.{warming-then}
use Rattle.cache_kinds.specs.Kinds.{composite_meaning}
use Rattle.flight_cache.specs.Budgets.{shown_budgets}
use Rattle.flight_cache.specs.Shards.{EachGives, Shards}
use Rattle.mask_caches.proofs.Firsts.{firsts-again}
use Rattle.renderer.specs.Passes.{RendererView}
use Rattle.renderer.specs.Warming.{ArePlansSeen, IsWarmed, IsWarmedTo, Next, None as NoneSeen, Refused, keys_ahead}
use Rattle.renderer.proofs.Together.{pass_of}

-- ---- plans

-- one instant more
pub plans-more : {renderer : RendererView} {size : Size} (seen last shown : History TrackEntry) (instants : List ℤ) (plans : List (List Draw)) (t : ℤ) (plan : List Draw)
    → ArePlansSeen renderer size seen instants plans last → IsPrefix last shown → AreDraws renderer.script renderer.fonts (live (history_of shown)) t (plain_frame size) plan
    → ArePlansSeen renderer size seen (instants ++ t ∷ []) (plans ++ plan ∷ []) shown
plans-more _ _ shown _ _ t plan (NoneSeen seen) begins draws = Next seen shown shown t [] plan [] begins draws (NoneSeen shown)
plans-more _ _ shown _ _ t plan (Next seen first last u later before plans p d rest) begins draws =
    Next seen first shown u (later ++ t ∷ []) before (plans ++ plan ∷ []) p d (plans-more first last shown later plans t plan rest begins draws)

-- the keys of one plan more
pub keys-more : (plans : List (List Draw)) (plan : List Draw) → firsts equal_composites (keys_ahead plans ++ plan_keys plan) ≡ keys_ahead (plans ++ plan ∷ [])
keys-more plans plan =
    firsts-again equal_composites composite_laws.laws-law composite_same (flat_map plan_keys plans) (plan_keys plan)
    ∙ ap (firsts equal_composites) (sym (flat_map-append plan_keys plans (plan ∷ []) ∙ ap (λ (l : List CompositeKey). flat_map plan_keys plans ++ l) (append-nil (plan_keys plan))))

-- ---- turns

pub turn-alone : (pass later : TrackView) (t : ℤ) → IsTurn pass later None → Follows pass later []
turn-alone pass later t turn = tried_follows pass later t (Err look.OutOfMemory) turn

pub turn-more : (pass later after : TrackView) (t : ℤ) → Follows pass later [] → IsTurn later after None → Follows pass after []
turn-more pass later after t follows turn = Follows_trans pass later after [] [] follows (turn-alone later after t turn)

-- ---- instants in a row

-- what an addition leaves of keys, where the keys that it was given and those that it adds are such
pub kept-valid : {E : Type 0} (P : CompositeKey → Type 0) (old new : AheadView) (added : Result ℕ E) → All P old.keys → OnOk added (All P new.keys) → OnErr added (new ≡ old) → All P new.keys
kept-valid P old new (Ok n) had ok err = ok
kept-valid P old new (Err refused) had ok err = subst (λ (a : AheadView). All P a.keys) (sym err) had

ahead-is : (ahead : AheadView) (keys : List CompositeKey) (place : ℕ) → ahead.keys ≡ keys → ahead.place ≡ place → ahead ≡ record { keys = keys; place = place }
ahead-is ahead keys place k p =
    let with_keys = λ (ks : List CompositeKey). let a : AheadView = record { keys = ks; place = ahead.place } in a in
    let with_place = λ (n : ℕ). let a : AheadView = record { keys = keys; place = n } in a in
    ap with_keys k ∙ ap with_place p

module _ (renderer : RendererView) (size : Size) (pass : TrackView) where
  -- what looks at instants in a row leave of a pass, and the keys of what they showed
  pub record WereSeen (later : TrackView) (instants : List ℤ) (ahead : AheadView) : Type 0 where
    pub follows : Follows pass later []
    pub turns : later.turns ≡ pass.turns + length instants
    pub plans : List (List Draw)
    pub are_plans : ArePlansSeen renderer size pass.seen instants plans later.seen
    pub keys : ahead ≡ record { keys = keys_ahead plans; place = 0 }

  pub none-seen : (ahead : AheadView) → ahead ≡ record { keys = []; place = 0 } → WereSeen pass [] ahead
  none-seen ahead is = record { follows = Follows_same pass; turns = omega arith; plans = []; are_plans = NoneSeen pass.seen; keys = is }

  module _ (later after : TrackView) (t : ℤ) (ahead next : AheadView) (turn : IsTurn later after None)
      (adds : (plan : List Draw) × AreDraws renderer.script renderer.fonts (live (history_of after.seen)) t (plain_frame size) plan × (next.keys ≡ firsts equal_composites (ahead.keys ++ plan_keys plan)))
      (place : next.place ≡ ahead.place) where
    seen-one : (instants : List ℤ) → WereSeen later instants ahead → WereSeen after (instants ++ t ∷ []) next
    seen-one instants were =
        let plan = adds.0 in
        let keys : next.keys ≡ keys_ahead (were.plans ++ plan ∷ []) =
        adds.2 ∙ (ap (λ (a : AheadView). firsts equal_composites (a.keys ++ plan_keys plan)) were.keys ∙ keys-more were.plans plan) in
        let one = turn.turn.turns in let before = were.turns in
        record {
          follows = turn-more pass later after t were.follows turn;
          turns = omega (arith, one, before, length-append instants (t ∷ []));
          plans = were.plans ++ plan ∷ [];
          are_plans = plans-more pass.seen later.seen after.seen instants were.plans t plan were.are_plans (turn-alone later after t turn).seen adds.1;
          keys = ahead-is next (keys_ahead (were.plans ++ plan ∷ [])) 0 keys (place ∙ ap (λ (a : AheadView). a.place) were.keys);
        }

    -- the instant at a place
    pub seen-more : (instants : List ℤ) (n : ℕ) (other : ℤ) → n < length instants → t ≡ get_or instants n other → WereSeen later (take n instants) ahead → WereSeen after (take (n + 1) instants) next
    seen-more instants n other there is were =
        let more : take (n + 1) instants ≡ take n instants ++ t ∷ [] = take_more instants n other there ∙ ap (λ (u : ℤ). take n instants ++ u ∷ []) (sym is) in
        subst (λ (ts : List ℤ). WereSeen after ts next) (sym more) (seen-one (take n instants) were)

-- ---- warming

-- what a call to warm all keys asks for
next-all : (ahead : AheadView) (most : ℕ) → ahead.place ≡ 0 → ahead.place + most ≡ length ahead.keys → (next_count most ahead ≡ length ahead.keys) × (next_keys most ahead ≡ ahead.keys)
next-all ahead most first left =
    let all : most ≡ length ahead.keys = omega (arith, first, left) in
    let count : next_count most ahead ≡ length ahead.keys = rw (first, all) (grind arith) in
    (count, rw (count, first) (take-length ahead.keys))

-- what warming adds behind turns that added nothing
warmed-behind : (caches : Caches) (old begun new : CachesPass) (keys : List CompositeKey) (n : ℕ) → AddsWarming caches old begun [] → AreWarmed caches begun keys new n → AreWarmed caches old keys new n
warmed-behind caches old begun new keys n nothing w = record {
  warmed = w.warmed;
  refused = w.refused;
  count = w.count;
  keys_are = w.keys_are;
  each = w.each;
  had = w.had;
  whole = w.whole;
  failed = w.failed;
  adds = warming-then caches old begun new [] (w.warmed ++ option_to_list w.refused) nothing w.adds;
}

module _ (renderer : RendererView) (track later : TrackView) (old begun new : CachesPass) (instants : List ℤ) (size : Size) (ahead after : AheadView) (nothing : AddsWarming renderer.caches old begun []) where
  -- the first n of the keys of all instants were warmed
  warmed-to : (most n : ℕ) (were : WereSeen renderer size track later instants ahead) → ahead.place + most ≡ length ahead.keys → AreWarmed renderer.caches begun (next_keys most ahead) new n
      → IsWarmedTo renderer (pass_of track old) (pass_of later new) instants size were.plans n
  warmed-to most n were left warmed =
      let first = ap (λ (a : AheadView). a.place) were.keys in
      let keys = (next-all ahead most first left).1 ∙ ap (λ (a : AheadView). a.keys) were.keys in
      record {
        track = were.follows;
        turns = were.turns;
        are_plans = were.are_plans;
        warmed = subst (λ (ks : List CompositeKey). AreWarmed renderer.caches old ks new n) keys (warmed-behind renderer.caches old begun new (next_keys most ahead) n nothing warmed);
      }

  pub warmed-all : {E : Type 0} (most : ℕ) (budgets : Shards ℕ) (had : Result Prefetched E) → WereSeen renderer size track later instants ahead → ahead.place + most ≡ length ahead.keys
      → EachGives equal_composites composite_meaning renderer.caches.composites.shards old.composites begun.composites (λ n. [])
      → budgets ≡ shown_budgets equal_composites composite_meaning renderer.caches.composites begun.composites
      → IfOk had (λ w. (w.count ≡ next_count most ahead) × (after.place ≡ ahead.place + w.count)) → IfOk had (λ w. w.unkept ≡ unkept_in renderer.caches.composites.tag budgets (next_keys most ahead))
      → OnErr had (after.place < ahead.place + next_count most ahead) → ((n : ℕ) × (after.place ≡ ahead.place + n) × AreWarmed renderer.caches begun (next_keys most ahead) new n)
      → IsWarmed renderer (pass_of track old) (pass_of later new) instants size had
  warmed-all most budgets (Ok w) were left looked shown ok unkept err warmed =
      let first = ap (λ (a : AheadView). a.place) were.keys in
      let all = ap (λ (a : AheadView). length a.keys) were.keys in
      let next = next-all ahead most first left in
      let keys = next.1 ∙ ap (λ (a : AheadView). a.keys) were.keys in
      let same : warmed.0 ≡ w.count = omega (arith, ok.1, warmed.1) in (
        were.plans,
        ok.0 ∙ (next.0 ∙ all),
        subst (IsWarmedTo renderer (pass_of track old) (pass_of later new) instants size were.plans) same (warmed-to most warmed.0 were left warmed.2),
        record {
          begun = begun;
          looked = looked;
          unkept_is = unkept ∙ (ap (unkept_in renderer.caches.composites.tag budgets) keys ∙ ap (λ (b : Shards ℕ). unkept_in renderer.caches.composites.tag b (keys_ahead were.plans)) shown);
        },
      )
  warmed-all most budgets (Err refused) were left looked shown ok unkept err warmed =
      let first = ap (λ (a : AheadView). a.place) were.keys in
      let all = ap (λ (a : AheadView). length a.keys) were.keys in
      let counted = (next-all ahead most first left).0 in
      let fewer : warmed.0 < length (keys_ahead were.plans) = omega (arith, err, warmed.1, counted, all) in
      Refused were.plans warmed.0 fewer (warmed-to most warmed.0 were left warmed.2)
