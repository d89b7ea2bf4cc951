-- The three steps of a round, and what the round adds to the history.
use Rattle.std.proofs.Common.{◌≡◌, ℕ, suc, ◌+◌, ◌<◌, List, [], ◌∷◌, ◌++◌, length, map, Option, Some, None, refl, sym, ap, ap₂, subst, ◌∙◌, arith}
use Rattle.std.specs.List.{All, slice_index_or}
use Rattle.std.proofs.lemmas.List.{get_or_default}
use Rattle.std.proofs.lemmas.List.Elements.{All-from_get_or, All-get_or}
use Rattle.cache_kinds.specs.Kinds.{composite_meaning, mask_meaning, region_meaning}
use Rattle.mask_keys.specs.Equality.{equal_composites, equal_masks, equal_regions}
use Rattle.renderer.specs.Passes.{HoldsNothing, IsPassOfRenderer, RenderView}
use Rattle.turn_cell.specs.Passes.{Extends, IsWholePass, mine, new_pass}
use Rattle.turn_cell.proofs.Histories.{entries_of_below}
use Rattle.track_history.specs.Calls.{TrackView}
use Rattle.track_history.specs.declared.answers.TrackEntry.{TrackEntry}
use Rattle.play_model.specs.Interleavings.{IsInterleaving, all_entries, sum_below}
use Rattle.play_model.specs.Joining.{ArePassesJoined}
use Rattle.play_model.proofs.JoinedPasses.{joined_round}
use Rattle.run_words.specs.declared.job.PlayJob.{PlayJob}
use Rattle.play_workers.specs.Asks.{masks_asked, masks_seen}
use Rattle.play_workers.specs.Parts.{HasPass, HasWorked, IsDone}
use Rattle.play_workers.specs.Roles.{IsRoleOf}
use Rattle.play_workers.specs.declared.stage.PlayStage.{PlayStage}
use Rattle.play_workers.specs.declared.worker.Outcome.TheVariants.{Idle}
use Rattle.play_workers.specs.declared.worker.Role.{Role}
use Rattle.play_workers.specs.declared.worker.Role.TheVariants.{Warmer}
use Rattle.play_workers.specs.declared.worker.Worker.{Worker}
use Rattle.play_rounds.specs.Passes.{AreRendersJoined, AreRendersSplit, ExtendsItself, HasIdlePass, IsAllJoined}
use Rattle.play_rounds.specs.Rounds.{AreHandedOut, IsRound, worker_roles}
use Rattle.play_rounds.proofs.Hands.{some_same}
use Rattle.play_rounds.proofs.CacheAsks.{begun_asks, cache_asks}
use Rattle.play_rounds.proofs.CacheRounds.{cache_home}
use Rattle.play_rounds.proofs.Splits.{caches_itself_later, extends_later}

-- lists that agree at each place
pub map_at : {X Y : Type 0} (f : X → Y) (xs ys : List X) → length xs ≡ length ys → ((i : ℕ) (d : X) → i < length xs → f (slice_index_or xs i d) ≡ f (slice_index_or ys i d)) → map f xs ≡ map f ys
map_at f [] [] long same = refl
map_at f [] (y ∷ ys) long same = absurd (omega arith)
map_at f (x ∷ xs) [] long same = absurd (omega arith)
map_at f (x ∷ xs) (y ∷ ys) long same = ap₂ (λ a b. a ∷ b) (same 0 x (omega arith)) (map_at f xs ys (omega arith) (λ i d lt. same (suc i) d (omega arith)))

abbrev pub nobody : Worker
nobody = record { role = Warmer; pass = None; outcome = Idle }

pub all_at : (P : Worker → Type 0) (workers : List Worker) → ((i : ℕ) (d : Worker) → i < length workers → P (slice_index_or workers i d)) → All P workers
all_at P workers each = All-from_get_or P workers nobody (λ i lt. each i nobody lt)

pub roles_same : (job : PlayJob) (workers others : List Worker) → length others ≡ length workers → ((i : ℕ) (d : Worker) → i < length workers → (slice_index_or others i d).role ≡ (slice_index_or workers i d).role)
    → All (λ (w : Worker). IsRoleOf job w.role) workers → All (λ (w : Worker). IsRoleOf job w.role) others
roles_same job workers others long same roles = all_at (λ (w : Worker). IsRoleOf job w.role) others (λ i d lt.
    subst (IsRoleOf job) (sym (same i d (omega (arith, lt, long)))) (All-get_or (λ (w : Worker). IsRoleOf job w.role) workers i d (omega (arith, lt, long)) roles))

abbrev pass_in : RenderView → Option RenderView → RenderView
pass_in first None = first
pass_in first (Some pass) = pass

-- the passes of workers that have them
abbrev pub passes_of : RenderView → List Worker → ℕ → RenderView
passes_of first workers i = pass_in first (slice_index_or workers i nobody).pass

named_by : (first : RenderView) (workers : List Worker) (i : ℕ) (d : Worker) (pass : RenderView) → i < length workers → (slice_index_or workers i d).pass ≡ Some pass
    → (slice_index_or workers i d).pass ≡ Some (passes_of first workers i)
named_by first workers i d pass lt is =
    let here : (slice_index_or workers i nobody).pass ≡ Some pass = ap (λ (z : Worker). z.pass) (get_or_default workers i nobody d lt) ∙ is in
    is ∙ ap Some (sym (ap (pass_in first) here))

module _ (stage : PlayStage) (round : ℕ) (first split : RenderView) (handed worked : List Worker) (count : ℕ) (long : length handed ≡ count) (long' : length worked ≡ count)
    (have : (i : ℕ) (d : Worker) → i < count → HasPass stage.renderer (slice_index_or handed i d))
    (are_split : (passes : ℕ → RenderView) → AreHandedOut passes handed → AreRendersSplit stage.renderer first count passes split)
    (done : (i : ℕ) (d : Worker) → i < count → HasWorked stage round (slice_index_or handed i d) (slice_index_or worked i d)) where
  abbrev begun : ℕ → RenderView
  begun = passes_of first handed

  begun_named : AreHandedOut begun handed
  begun_named i d lt = let h = have i d (omega (arith, lt, long)) in named_by first handed i d h.pass lt h.is

  begun_split : AreRendersSplit stage.renderer first count begun split
  begun_split = are_split begun begun_named

  pub split_itself : IsAllJoined stage.renderer first → ExtendsItself split
  split_itself home = record {
    track = subst (λ (p : TrackView). Extends p p.seen) (sym begun_split.track.first_is) (extends_later first.track count home.itself);
    regions = caches_itself_later first.caches.regions split.caches.regions count (λ i. (begun i).caches.regions) begun_split.regions (λ n. (home.regions n).itself);
    masks = caches_itself_later first.caches.masks split.caches.masks count (λ i. (begun i).caches.masks) begun_split.masks (λ n. (home.masks n).itself);
    composites = caches_itself_later first.caches.composites split.caches.composites count (λ i. (begun i).caches.composites) begun_split.composites (λ n. (home.composites n).itself);
  }

  abbrev ended : ℕ → RenderView
  ended = passes_of first worked

  ended_named : AreHandedOut ended worked
  ended_named i d lt = let w = done i d (omega (arith, lt, long')) in named_by first worked i d w.pass_after lt w.is_after

  -- a pass holds after its part what it held before, which was nothing
  pub idle_passes : All (HasIdlePass stage.renderer) worked
  idle_passes = all_at (HasIdlePass stage.renderer) worked (λ i d lt.
      let w = done i d (omega (arith, lt, long')) in
      let before : w.pass ≡ begun i = some_same (slice_index_or handed i d).pass w.pass (begun i) w.is (begun_named i d (omega (arith, lt, long, long'))) in record {
        pass = w.pass_after;
        is = w.is_after;
        is_of = w.done.is_of;
        begun = w.pass;
        nothing = subst (HoldsNothing stage.renderer) (sym before) (begun_split.nothing i (omega (arith, lt, long')));
        same = w.done.holds;
      })

  pub whole_round : (taken : List Worker) (after : RenderView) → length taken ≡ count
      → ((passes : ℕ → RenderView) → AreHandedOut passes worked → AreRendersJoined stage.renderer split (length worked) passes after)
      → ((i : ℕ) (d : Worker) → i < length worked → ((slice_index_or taken i d).role ≡ (slice_index_or worked i d).role) × ((slice_index_or taken i d).outcome ≡ (slice_index_or worked i d).outcome))
      → IsRound stage round first taken after
  whole_round taken after long'' joined stay = record {
    begun = begun;
    split = split;
    are_split = subst (λ (n : ℕ). AreRendersSplit stage.renderer first n begun split) (sym long'') begun_split;
    passes = ended;
    done = λ i d lt.
        let inside : i < count = omega (arith, lt, long'') in
        let inside' : i < length worked = omega (arith, inside, long') in
        let w = done i d inside in
        let before : w.pass ≡ begun i = some_same (slice_index_or handed i d).pass w.pass (begun i) w.is (begun_named i d (omega (arith, inside, long))) in
        let now : w.pass_after ≡ ended i = some_same (slice_index_or worked i d).pass w.pass_after (ended i) w.is_after (ended_named i d inside') in
        let kept = stay i d inside' in
        let role : (slice_index_or handed i d).role ≡ (slice_index_or taken i d).role = sym (kept.0 ∙ w.role) in
        subst (IsDone stage round (slice_index_or taken i d).role (begun i) (ended i)) (sym kept.1)
        (subst (λ (r : Role). IsDone stage round r (begun i) (ended i) (slice_index_or worked i d).outcome) role
        (subst (λ (p : RenderView). IsDone stage round (slice_index_or handed i d).role (begun i) p (slice_index_or worked i d).outcome) now
        (subst (λ (p : RenderView). IsDone stage round (slice_index_or handed i d).role p w.pass_after (slice_index_or worked i d).outcome) before w.done)));
    joined = subst (λ (n : ℕ). AreRendersJoined stage.renderer split n ended after) (long' ∙ sym long'') (joined ended ended_named);
  }

  -- roles stay
  pub roles_after : (workers taken : List Worker) → length workers ≡ count → length taken ≡ count → ((i : ℕ) (d : Worker) → i < count → (slice_index_or handed i d).role ≡ (slice_index_or workers i d).role)
      → ((i : ℕ) (d : Worker) → i < length worked → ((slice_index_or taken i d).role ≡ (slice_index_or worked i d).role) × ((slice_index_or taken i d).outcome ≡ (slice_index_or worked i d).outcome))
      → worker_roles taken ≡ worker_roles workers
  roles_after workers taken all all' same stay = map_at (λ (w : Worker). w.role) taken workers (all' ∙ sym all) (λ i d lt.
      let inside : i < count = omega (arith, lt, all') in
      (stay i d (omega (arith, inside, long'))).0 ∙ ((done i d inside).role ∙ same i d inside))

-- ---- what a round adds

module _ (stage : PlayStage) (round : ℕ) (first : RenderView) (workers : List Worker) (after : RenderView) (home : IsAllJoined stage.renderer first) (one : IsRound stage round first workers after) where
  pub begun_is : (i : ℕ) → i < length workers → (one.begun i).track ≡ new_pass (record first.track { next = first.track.next + i })
  begun_is i lt = one.are_split.track.each i lt

  number_of : (i : ℕ) → i < length workers → (one.passes i).track.number ≡ first.track.next + i
  number_of i lt = (one.done i nobody lt).follows.number ∙ ap (λ (p : TrackView). p.number) (begun_is i lt)

  pub joined_track : ArePassesJoined (record first.track { next = first.track.next + length workers }) (length workers) (λ i. (one.passes i).track) after.track
  joined_track = subst (λ (p : TrackView). ArePassesJoined p (length workers) (λ i. (one.passes i).track) after.track) one.are_split.track.first_is one.joined.track

  pub news : (rest : List TrackEntry) × (all_entries first.track.seen ++ rest ≡ all_entries after.track.seen) × IsInterleaving (length workers) (λ i. mine (one.passes i).track) rest × IsWholePass after.track
  news = joined_round first.track after.track (length workers) (λ i. (one.passes i).track) home.number home.itself home.whole joined_track number_of

  -- what a worker gave
  abbrev pub given_of : ℕ → List TrackEntry
  given_of i = mine (one.passes i).track

  pub gave : (i : ℕ) (lt : i < length workers) → given_of i ≡ (one.done i nobody lt).given
  gave i lt =
      let done = one.done i nobody lt in
      let none : mine (one.begun i).track ≡ [] = ap (λ (p : TrackView). mine p) (begun_is i lt) ∙ entries_of_below first.track.next (first.track.next + i) first.track.seen (home.itself.below home.number) (omega arith) in
      done.follows.mine ∙ ap (λ z. z ++ done.given) none

  pub home_after : IsPassOfRenderer stage.renderer after → IsAllJoined stage.renderer after
  home_after is_of = let caches = stage.renderer.caches in record {
    is_of = is_of;
    number = joined_track.number ∙ home.number;
    some = let next = joined_track.next in let some = home.some in omega (arith, next, some);
    itself = joined_track.itself;
    whole = news.3;
    regions = cache_home equal_regions region_meaning caches.regions first.caches.regions one.split.caches.regions after.caches.regions (length workers) (λ i. (one.begun i).caches.regions) (λ i. (one.passes i).caches.regions)
        home.regions one.are_split.regions one.joined.regions (λ i lt. (one.done i nobody lt).later.regions) (λ i lt. (one.joined.nothing i lt).regions);
    masks = cache_home equal_masks mask_meaning caches.masks first.caches.masks one.split.caches.masks after.caches.masks (length workers) (λ i. (one.begun i).caches.masks) (λ i. (one.passes i).caches.masks)
        home.masks one.are_split.masks one.joined.masks (λ i lt. (one.done i nobody lt).later.masks) (λ i lt. (one.joined.nothing i lt).masks);
    composites = cache_home equal_composites composite_meaning caches.composites first.caches.composites one.split.caches.composites after.caches.composites (length workers) (λ i. (one.begun i).caches.composites) (λ i. (one.passes i).caches.composites)
        home.composites one.are_split.composites one.joined.composites (λ i lt. (one.done i nobody lt).later.composites) (λ i lt. (one.joined.nothing i lt).composites);
  }

  pub next_after : after.track.next ≡ first.track.next + length workers
  next_after = joined_track.next

  -- so many composed masks more were asked for as the workers asked for
  pub masks_after : masks_seen stage.renderer after ≡ masks_seen stage.renderer first + sum_below (length workers) (λ i. masks_asked stage.renderer (one.passes i))
  masks_after = cache_asks equal_composites composite_meaning stage.renderer.caches.composites first.caches.composites one.split.caches.composites after.caches.composites (length workers)
      (λ i. (one.begun i).caches.composites) (λ i. (one.passes i).caches.composites) home.composites one.are_split.composites one.joined.composites (λ i lt. (one.done i nobody lt).later.composites)

  -- each of them began with none
  pub no_masks_begun : (i : ℕ) → i < length workers → masks_asked stage.renderer (one.begun i) ≡ 0
  no_masks_begun = begun_asks equal_composites composite_meaning stage.renderer.caches.composites first.caches.composites one.split.caches.composites after.caches.composites (length workers)
      (λ i. (one.begun i).caches.composites) (λ i. (one.passes i).caches.composites) home.composites one.are_split.composites one.joined.composites (λ i lt. (one.done i nobody lt).later.composites)
