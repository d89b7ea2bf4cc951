-- Crews.
use Rattle.std.proofs.Common.{◌≡◌, ℕ, zero, suc, ◌+◌, ◌-◌, ◌<◌, ◌≤◌, Bool, true, false, List, [], ◌∷◌, ◌++◌, length, map, refl, sym, ap, subst, ◌∙◌, arith, append-nil, append_assoc, length-append, Result}
use Rattle.std.specs.Prelude.{nat_lt, if◌then◌else◌}
use Rattle.std.specs.List.{All, range_with_len, slice_index_or}
use Rattle.std.specs.Result.{IfOk}
use Rattle.std.proofs.lemmas.List.{get_or-append_right, get_or_append_left}
use Rattle.std.proofs.lemmas.List.Elements.{All-append, All-cons, All-get_or, All-nil}
use Rattle.std.proofs.lemmas.List.FromFn.{get_or-map-range_with_len, length-map-range_with_len, map-range_with_len_more}
use Rattle.run_words.specs.declared.job.PlayJob.{PlayJob}
use Rattle.play_shares.specs.Renderers.{painter_count}
use Rattle.play_workers.specs.Roles.{IsRoleOf}
use Rattle.play_workers.specs.declared.worker.Role.{Role}
use Rattle.play_workers.specs.declared.worker.Role.TheVariants.{Feeder, Painter, Warmer}
use Rattle.play_workers.specs.declared.worker.Worker.{Worker}
use Rattle.play_rounds.specs.Rounds.{worker_roles}
use Rattle.play_rounds.specs.Shifts.{crew_of, feeders_of, painters_of}
use Rattle.play_rounds.specs.declared.shift.Shift.{Shift}
use Rattle.play_rounds.specs.declared.shift.Shift.TheVariants.{Both, Feed, Paint}

abbrev pub FeedsNothing : Role → Type 0
FeedsNothing (Feeder f) = ⊥
FeedsNothing (Painter p) = Unit {0}
FeedsNothing Warmer = Unit {0}

-- the painters come in order, from this one on
abbrev pub IsNext : ℕ → Role → Type 0
IsNext p (Feeder f) = Unit {0}
IsNext p (Painter k) = k ≡ p
IsNext p Warmer = Unit {0}

abbrev pub next_painter : ℕ → Role → ℕ
next_painter p (Feeder f) = p
next_painter p (Painter k) = p + 1
next_painter p Warmer = p

abbrev pub ArePaintersFrom : ℕ → List Role → Type 0
ArePaintersFrom p [] = Unit {0}
ArePaintersFrom p (role ∷ roles) = IsNext p role × ArePaintersFrom (next_painter p role) roles

abbrev pub painter_after : ℕ → List Role → ℕ
painter_after p [] = p
painter_after p (role ∷ roles) = painter_after (next_painter p role) roles

-- ---- feeders

feeders_from : (p a n : ℕ) (roles : List Role) → ArePaintersFrom p roles → ArePaintersFrom p (map Feeder (range_with_len a n) ++ roles)
feeders_from p a zero roles are = are
feeders_from p a (suc n) roles are = (tt, feeders_from p (a + 1) n roles are)

feeders_after : (p a n : ℕ) (roles : List Role) → painter_after p (map Feeder (range_with_len a n) ++ roles) ≡ painter_after p roles
feeders_after p a zero roles = refl
feeders_after p a (suc n) roles = feeders_after p (a + 1) n roles

feeders_fit : (job : PlayJob) (a n : ℕ) → a + n ≤ job.feeders → All (IsRoleOf job) (map Feeder (range_with_len a n))
feeders_fit job a zero le = All-nil (IsRoleOf job)
feeders_fit job a (suc n) le = All-cons (IsRoleOf job) (Feeder a) (map Feeder (range_with_len (a + 1) n)) (omega (arith, le)) (feeders_fit job (a + 1) n (omega (arith, le)))

-- ---- painters

painters_from : (p n : ℕ) (roles : List Role) → ArePaintersFrom (p + n) roles → ArePaintersFrom p (map Painter (range_with_len p n) ++ roles)
painters_from p zero roles are = let same : p + zero ≡ p = omega arith in subst (λ (k : ℕ). ArePaintersFrom k roles) same are
painters_from p (suc n) roles are = let same : p + suc n ≡ (p + 1) + n = omega arith in (refl, painters_from (p + 1) n roles (subst (λ (k : ℕ). ArePaintersFrom k roles) same are))

painters_after : (p n : ℕ) (roles : List Role) → painter_after p (map Painter (range_with_len p n) ++ roles) ≡ painter_after (p + n) roles
painters_after p zero roles = let same : p ≡ p + zero = omega arith in ap (λ (k : ℕ). painter_after k roles) same
painters_after p (suc n) roles = let same : (p + 1) + n ≡ p + suc n = omega arith in painters_after (p + 1) n roles ∙ ap (λ (k : ℕ). painter_after k roles) same

painters_fit : (job : PlayJob) (a n : ℕ) → a + n ≤ painter_count job → All (IsRoleOf job) (map Painter (range_with_len a n))
painters_fit job a zero le = All-nil (IsRoleOf job)
painters_fit job a (suc n) le = All-cons (IsRoleOf job) (Painter a) (map Painter (range_with_len (a + 1) n)) (omega (arith, le)) (painters_fit job (a + 1) n (omega (arith, le)))

painters_feed_nothing : (a n : ℕ) → All FeedsNothing (map Painter (range_with_len a n))
painters_feed_nothing a zero = All-nil FeedsNothing
painters_feed_nothing a (suc n) = All-cons FeedsNothing (Painter a) (map Painter (range_with_len (a + 1) n)) tt (painters_feed_nothing (a + 1) n)

abbrev warmers : Bool → List Role
warmers b = if b then Warmer ∷ [] else []

warmers_from : (p : ℕ) (b : Bool) → ArePaintersFrom p (warmers b)
warmers_from p true = (tt, tt)
warmers_from p false = tt

warmers_after : (p : ℕ) (b : Bool) → painter_after p (warmers b) ≡ p
warmers_after p true = refl
warmers_after p false = refl

warmers_fit : (job : PlayJob) (b : Bool) → All (IsRoleOf job) (warmers b)
warmers_fit job true = All-cons (IsRoleOf job) Warmer [] tt (All-nil (IsRoleOf job))
warmers_fit job false = All-nil (IsRoleOf job)

warmers_feed_nothing : (b : Bool) → All FeedsNothing (warmers b)
warmers_feed_nothing true = All-cons FeedsNothing Warmer [] tt (All-nil FeedsNothing)
warmers_feed_nothing false = All-nil FeedsNothing

warmers_few : (b : Bool) → length (warmers b) ≤ 1
warmers_few true = omega arith
warmers_few false = omega arith

module _ (job : PlayJob) where
  abbrev painters : ℕ
  painters = painter_count job

  abbrev warms : Bool
  warms = nat_lt 0 job.ahead

  all_painters : ArePaintersFrom 0 (painters_of job)
  all_painters = painters_from 0 painters (warmers warms) (warmers_from (0 + painters) warms)

  last_painter : painter_after 0 (painters_of job) ≡ painters
  last_painter = painters_after 0 painters (warmers warms) ∙ (warmers_after (0 + painters) warms ∙ omega arith)

  pub painters_are_fit : All (IsRoleOf job) (painters_of job)
  painters_are_fit = All-append (IsRoleOf job) (map Painter (range_with_len 0 painters)) (warmers warms) (painters_fit job 0 painters (omega arith)) (warmers_fit job warms)

  pub feeders_are_fit : All (IsRoleOf job) (feeders_of job)
  feeders_are_fit = feeders_fit job 0 job.feeders (omega arith)

  pub long_feeders : length (feeders_of job) ≡ job.feeders
  long_feeders = length-map-range_with_len Feeder 0 job.feeders

  pub long_painters : (painters ≤ length (painters_of job)) × (length (painters_of job) ≤ painters + 1)
  long_painters =
      let all = length-append (map Painter (range_with_len 0 painters)) (warmers warms) in
      let some = length-map-range_with_len Painter 0 painters in
      let few = warmers_few warms in (omega (arith, all, some), omega (arith, all, some, few))

  none_fed : All FeedsNothing (painters_of job)
  none_fed = All-append FeedsNothing (map Painter (range_with_len 0 painters)) (warmers warms) (painters_feed_nothing 0 painters) (warmers_feed_nothing warms)

  feeder_at : (i : ℕ) (d : Role) → i < job.feeders → slice_index_or (feeders_of job) i d ≡ Feeder i
  feeder_at i d lt = get_or-map-range_with_len Feeder 0 job.feeders i i d lt (omega arith)

  -- ---- of shifts

  pub crew_fits : (shift : Shift) → All (IsRoleOf job) (crew_of job shift)
  crew_fits Both = All-append (IsRoleOf job) (feeders_of job) (painters_of job) feeders_are_fit painters_are_fit
  crew_fits Feed = feeders_are_fit
  crew_fits Paint = painters_are_fit

  abbrev pub feeders_in : Shift → ℕ
  feeders_in Both = job.feeders
  feeders_in Feed = job.feeders
  feeders_in Paint = 0

  pub feeders_within : (shift : Shift) → feeders_in shift ≤ length (crew_of job shift)
  feeders_within Both = let all = length-append (feeders_of job) (painters_of job) in let some = long_feeders in omega (arith, all, some)
  feeders_within Feed = let some = long_feeders in omega (arith, some)
  feeders_within Paint = omega arith

  pub crew_feeds : (shift : Shift) (i : ℕ) (d : Role) → i < feeders_in shift → slice_index_or (crew_of job shift) i d ≡ Feeder i
  crew_feeds Both i d lt = get_or_append_left (feeders_of job) (painters_of job) d i (let some = long_feeders in omega (arith, lt, some)) ∙ feeder_at i d lt
  crew_feeds Feed i d lt = feeder_at i d lt
  crew_feeds Paint i d lt = absurd (omega (arith, lt))

  pub crew_rests : (shift : Shift) (i : ℕ) (d : Role) → feeders_in shift ≤ i → i < length (crew_of job shift) → FeedsNothing (slice_index_or (crew_of job shift) i d)
  crew_rests Both i d le lt =
      let all = length-append (feeders_of job) (painters_of job) in let some = long_feeders in
      subst FeedsNothing (sym (get_or-append_right (feeders_of job) (painters_of job) job.feeders i d long_feeders le))
      (All-get_or FeedsNothing (painters_of job) (i - job.feeders) d (omega (arith, le, lt, all, some)) none_fed)
  crew_rests Feed i d le lt = absurd (let some = long_feeders in omega (arith, le, lt, some))
  crew_rests Paint i d le lt = All-get_or FeedsNothing (painters_of job) i d lt none_fed

  pub crew_paints : (shift : Shift) → ArePaintersFrom 0 (crew_of job shift)
  crew_paints Both = feeders_from 0 0 job.feeders (painters_of job) all_painters
  crew_paints Feed = subst (ArePaintersFrom 0) (append-nil (feeders_of job)) (feeders_from 0 0 job.feeders [] tt)
  crew_paints Paint = all_painters

  pub both_paint : painter_after 0 (crew_of job Both) ≡ painters
  both_paint = feeders_after 0 0 job.feeders (painters_of job) ∙ last_painter

  pub paint_paints : painter_after 0 (crew_of job Paint) ≡ painters
  paint_paints = last_painter

  pub crew_few : (shift : Shift) → length (crew_of job shift) ≤ job.feeders + (painters + 1)
  crew_few Both = let all = length-append (feeders_of job) (painters_of job) in let some = long_feeders in let few = long_painters.1 in omega (arith, all, some, few)
  crew_few Feed = let some = long_feeders in omega (arith, some)
  crew_few Paint = let few = long_painters.1 in omega (arith, few)

  pub crew_some : (shift : Shift) → 0 < job.feeders → 0 < painters → 0 < length (crew_of job shift)
  crew_some Both f r = let all = length-append (feeders_of job) (painters_of job) in let some = long_feeders in omega (arith, all, some, f)
  crew_some Feed f r = let some = long_feeders in omega (arith, some, f)
  crew_some Paint f r = let most = long_painters.0 in omega (arith, most, r)

-- ---- hiring

module _ (role : ℕ → Role) (before : List Role) where
  pub hired_none : (roles : List Role) → roles ≡ before → roles ≡ before ++ map role (range_with_len 0 0)
  hired_none roles is = is ∙ sym (append-nil before)

  pub hired_more : (n : ℕ) (roles next : List Role) → roles ≡ before ++ map role (range_with_len 0 n) → next ≡ roles ++ role n ∷ [] → next ≡ before ++ map role (range_with_len 0 (n + 1))
  hired_more n roles next so_far is = is ∙ (ap (λ z. z ++ role n ∷ []) so_far ∙ (append_assoc before (map role (range_with_len 0 n)) (role n ∷ [])
      ∙ ap (λ z. before ++ z) (sym (map-range_with_len_more role 0 n n (omega arith)))))

-- whom nobody came before
pub hired_first : {X E : Type 0} (roles : List Role) (nobody : List Worker) → nobody ≡ [] → (hired : Result X E) (items : X → List Worker)
    → IfOk hired (λ x. worker_roles (items x) ≡ worker_roles nobody ++ roles) → IfOk hired (λ x. worker_roles (items x) ≡ roles)
hired_first roles nobody none hired items crew =
    subst (λ (before : List Role). IfOk hired (λ x. worker_roles (items x) ≡ before)) (ap (λ (ws : List Worker). worker_roles ws ++ roles) none) crew

pub hired_both : {X E : Type 0} (job : PlayJob) (nobody feeders : List Worker) → nobody ≡ [] → worker_roles feeders ≡ worker_roles nobody ++ feeders_of job → (hired : Result X E) (items : X → List Worker)
    → IfOk hired (λ x. worker_roles (items x) ≡ worker_roles feeders ++ painters_of job) → IfOk hired (λ x. worker_roles (items x) ≡ crew_of job Both)
hired_both job nobody feeders none fed hired items crew =
    subst (λ (before : List Role). IfOk hired (λ x. worker_roles (items x) ≡ before))
    (ap (λ (roles : List Role). roles ++ painters_of job) (fed ∙ ap (λ (ws : List Worker). worker_roles ws ++ feeders_of job) none)) crew
