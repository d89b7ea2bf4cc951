-- What holds of all calls, and of what is near.
use Rattle.std.proofs.Common.{◌≡◌, ◌≢◌, ℕ, ◌+◌, ℤ, ◌≤◌, List, [], ◌∷◌, ◌++◌, length, map, get_or, refl, sym, ap, subst, ◌∙◌, arith, ⊎_elim, length-append, Option, Some, None, Result, Ok, Err}
use Rattle.std.specs.Option.{option_map, option_to_list}
use Rattle.std.specs.List.{All, Contains}
use Rattle.std.proofs.lemmas.List.Elements.{All-head, All-tail, All-contains, Contains-get_or, Contains-append_left, Contains-append_right, Contains-append_cases}
use Rattle.std.proofs.lemmas.List.{append-nil}
use Rattle.turn_cell.specs.History.{entry_list}
use Rattle.turn_cell.specs.Passes.{Follows}
use Rattle.turn_cell.proofs.Passes.{Follows_same, Follows_tries}
use Rattle.ass_events.specs.declared.event.Event.{Event}
use Rattle.ass_events.specs.declared.event.ChunkRefusal.{ChunkRefusal}
use Rattle.ass_events.specs.Events.{event_of}
use Rattle.ass_events.specs.Histories.{Entry, HaveOwnOrders, IsHistory, Pairwise, live, max_live}
use Rattle.ass_events.specs.NearEvents.{AreNear, IsEarlier, Span, span_of}
use Rattle.track_history.specs.declared.answers.TrackEntry.{TrackEntry}
use Rattle.track_history.specs.declared.answers.Feed.{Feed}
use Rattle.track_history.specs.declared.answers.LookRefusal.{LookRefusal}
use Rattle.track_history.specs.declared.answers.LookRefusal.TheVariants as look
use Rattle.track_history.specs.declared.scene.Scene.{Scene}
use Rattle.track_history.specs.ShortEvents.{IsShortEvent, HaveShortEvents}
use Rattle.track_history.specs.Answers.{chunk_entry, entry_of, fed_entry}
use Rattle.track_history.specs.Calls.{IsFed, IsFedBy, IsTriedLook, IsTurn, TrackView}
use Rattle.track_history.proofs.Histories.{live_short}
use Rattle.near_events.proofs.Pairs.{Contains-nil, Contains-head, Contains-tail, Contains-cons_cases, Pairwise-weaker}
use Rattle.near_events.proofs.NearSpans.{near_there}
use Rattle.near_events.proofs.Orders.{not_both_earlier}

-- ---- calls
given_list : (given : Option TrackEntry) → map entry_of (entry_list given) ≡ option_to_list (option_map entry_of given)
given_list None = refl
given_list (Some x) = refl

pub turn_follows : (pass later : TrackView) (entry : Option Entry) → IsTurn pass later entry → (given : List TrackEntry) × (map entry_of given ≡ option_to_list entry) × Follows pass later given
turn_follows pass later entry h = (entry_list h.given, given_list h.given ∙ ap option_to_list h.is_entry, h.turn.follows)

same_follows : (pass later : TrackView) → later ≡ pass → Follows pass later []
same_follows pass later e = subst (λ (z : TrackView). Follows pass z []) (sym e) (Follows_same pass)

by_event : (r : Result Event ChunkRefusal) (pass later : TrackView) (answer : Feed) → IsFedBy r pass later answer
    → (given : List TrackEntry) × (map entry_of given ≡ option_to_list (chunk_entry r answer)) × Follows pass later given
by_event (Ok event) pass later answer h =
    ⊎_elim (λ none. ([], ap (λ a. option_to_list (fed_entry event a)) (sym none.0), same_follows pass later none.1)) (λ turn. turn_follows pass later (fed_entry event answer) turn.turn) h
by_event (Err refusal) pass later answer h = ([], refl, same_follows pass later h.0)

pub none_given : (given : Option TrackEntry) → option_map entry_of given ≡ None → given ≡ None
none_given None e = refl
none_given (Some x) e = let some : Some (entry_of x) ≡ None = e in absurd (cc)

pub turn_alone : (pass later : TrackView) → IsTurn pass later None → Follows pass later []
turn_alone pass later h = subst (λ (given : Option TrackEntry). Follows pass later (entry_list given)) (none_given h.given h.is_entry) h.turn.follows

pub tried_follows : (pass later : TrackView) (t : ℤ) (answer : Result Scene LookRefusal) → IsTriedLook pass t later answer → Follows pass later []
tried_follows pass later t (Ok scene) h = turn_alone pass later h.0
tried_follows pass later t (Err look.TurnOut) h = Follows_tries pass later (pass.lost + 1) (omega arith) h
tried_follows pass later t (Err look.OutOfMemory) h = turn_alone pass later h

pub fed_gives : (bytes : List ℕ) (start duration : ℤ) (pass later : TrackView) (answer : Feed) → IsFed bytes start duration pass later answer
    → (given : List TrackEntry) × (map entry_of given ≡ option_to_list (chunk_entry (event_of bytes start duration) answer)) × Follows pass later given
fed_gives bytes start duration pass later answer h = by_event (event_of bytes start duration) pass later answer h

pub fed_follows : (bytes : List ℕ) (start duration : ℤ) (pass later : TrackView) (answer : Feed) → IsFed bytes start duration pass later answer → (given : List TrackEntry) × Follows pass later given
fed_follows bytes start duration pass later answer h = let gives = fed_gives bytes start duration pass later answer h in (gives.0, gives.2)

-- ---- what is near
module _ {E : Type 0} (span : E → Span) where
  tail_within : (x : E) (xs ys : List E) → All (λ b. IsEarlier (span x) (span b)) xs → ((e : E) → Contains (x ∷ xs) e → Contains (x ∷ ys) e) → (e : E) → Contains xs e → Contains ys e
  tail_within x xs ys above within e c =
      ⊎_elim (λ is. let later = All-contains (λ b. IsEarlier (span x) (span b)) xs e above c in
      let itself = subst (λ z. IsEarlier (span x) (span z)) (sym is) later in absurd (not_both_earlier (span x) (span x) itself itself))
      (λ there. there) (Contains-cons_cases x ys e (within e (Contains-tail x xs e c)))

  pub same_sorted : (xs ys : List E) → Pairwise (λ a b. IsEarlier (span a) (span b)) xs → Pairwise (λ a b. IsEarlier (span a) (span b)) ys
      → ((e : E) → Contains xs e → Contains ys e) → ((e : E) → Contains ys e → Contains xs e) → xs ≡ ys
  same_sorted [] [] p q there back = refl
  same_sorted [] (y ∷ ys) p q there back = absurd (Contains-nil y (back y (Contains-head y ys)))
  same_sorted (x ∷ xs) [] p q there back = absurd (Contains-nil x (there x (Contains-head x xs)))
  same_sorted (x ∷ xs) (y ∷ ys) p q there back =
      let same : x ≡ y = ⊎_elim (λ is. sym is)
      (λ later. ⊎_elim (λ is. is)
      (λ earlier. absurd (not_both_earlier (span x) (span y) (All-contains (λ b. IsEarlier (span x) (span b)) xs y p.0 earlier) (All-contains (λ b. IsEarlier (span y) (span b)) ys x q.0 later)))
      (Contains-cons_cases x xs y (back y (Contains-head y ys))))
      (Contains-cons_cases y ys x (there x (Contains-head x xs))) in
      let there_x : (e : E) → Contains (x ∷ xs) e → Contains (x ∷ ys) e = λ e c. subst (λ z. Contains (z ∷ ys) e) (sym same) (there e c) in
      let back_x : (e : E) → Contains (x ∷ ys) e → Contains (x ∷ xs) e = λ e c. back e (subst (λ z. Contains (z ∷ ys) e) same c) in
      let above : All (λ b. IsEarlier (span x) (span b)) ys = subst (λ z. All (λ b. IsEarlier (span z) (span b)) ys) (sym same) q.0 in
      let rest = same_sorted xs ys p.1 q.1 (tail_within x xs ys p.0 there_x) (tail_within x ys xs above back_x) in
      ap (λ z. z ∷ xs) same ∙ ap (λ zs. y ∷ zs) rest

pub near_once : (events a b : List Event) (t : ℤ) → AreNear span_of events t a → AreNear span_of events t b → a ≡ b
near_once events a b t p q = same_sorted span_of a b p.sorted q.sorted (λ e c. (q.members e).1 ((p.members e).0 c)) (λ e c. (p.members e).1 ((q.members e).0 c))

-- ---- what is near is live
pub near_live : (events near : List Event) (t : ℤ) → AreNear span_of events t near → All (Contains events) near
near_live events near t h = λ k d lt. near_there span_of events t (get_or near k d) ((h.members (get_or near k d)).0 (Contains-get_or near k d lt))

-- events with different ReadOrders: two with the same are one
same_event : (events : List Event) (a b : Event) → HaveOwnOrders events → Contains events a → Contains events b → a.order ≡ b.order → a ≡ b
same_event [] a b own ca cb same = absurd (Contains-nil a ca)
same_event (e ∷ es) a b own ca cb same =
    let order = λ (z : Event). z.order in
    let others = λ (z : Event) (c : Contains es z). All-contains (λ (f : Event). e.order ≢ f.order) es z own.0 c in
    ⊎_elim
    (λ ea. ⊎_elim (λ eb. sym ea ∙ eb) (λ lb. absurd (others b lb (ap order ea ∙ same))) (Contains-cons_cases e es b cb))
    (λ la. ⊎_elim (λ eb. absurd (others a la (ap order eb ∙ sym same))) (λ lb. same_event es a b own.1 la lb same) (Contains-cons_cases e es b cb))
    (Contains-cons_cases e es a ca)

own_orders : (events near : List Event) → HaveOwnOrders events → All (Contains events) near → Pairwise (λ a b. IsEarlier (span_of a) (span_of b)) near → HaveOwnOrders near
own_orders events [] own inside sorted = tt
own_orders events (e ∷ es) own inside sorted =
    let rest = All-tail (Contains events) e es inside in (
      (λ k d lt same.
          let f = get_or es k d in
          let is = same_event events e f own (All-head (Contains events) e es inside) (rest k d lt) same in
          let itself = subst (λ (z : Event). IsEarlier (span_of e) (span_of z)) (sym is) (sorted.0 k d lt) in
          not_both_earlier (span_of e) (span_of e) itself itself),
      own_orders events es own rest sorted.1,
    )

module _ {X : Type 0} where
  split_at : (xs : List X) (x : X) → Contains xs x → (front : List X) × (back : List X) × (xs ≡ front ++ x ∷ back)
  split_at [] x c = absurd (Contains-nil x c)
  split_at (y ∷ ys) x c =
      ⊎_elim (λ is. ([], ys, ap (λ z. z ∷ ys) is)) (λ later. let cut = split_at ys x later in (y ∷ cut.0, cut.1, ap (λ zs. y ∷ zs) cut.2))
      (Contains-cons_cases y ys x c)

  -- different members of a list are no more than it has
  length-inside : (xs ys : List X) → Pairwise (λ a b. a ≢ b) xs → All (Contains ys) xs → length xs ≤ length ys
  length-inside [] ys differ inside = omega arith
  length-inside (x ∷ xs) ys differ inside =
      let cut = split_at ys x (All-head (Contains ys) x xs inside) in
      let front = cut.0 in let back = cut.1 in
      let rest : All (Contains (front ++ back)) xs = λ k d lt.
      let e = get_or xs k d in
      ⊎_elim (λ a. Contains-append_left front back e a)
      (λ b. ⊎_elim (λ is. absurd (differ.0 k d lt is)) (λ later. Contains-append_right front back e later) (Contains-cons_cases x back e b))
      (Contains-append_cases front (x ∷ back) e (subst (λ z. Contains z e) cut.2 (All-tail (Contains ys) x xs inside k d lt))) in
      let fewer = length-inside xs (front ++ back) differ.1 rest in
      let whole : length ys ≡ length (front ++ x ∷ back) = ap length cut.2 in
      omega (arith, fewer, whole, length-append front back, length-append front (x ∷ back))

pub near_orders : (history : List Entry) (near : List Event) (t : ℤ) → IsHistory history → AreNear span_of (live history) t near → HaveOwnOrders near
near_orders history near t legal h = own_orders (live history) near (legal.orders history [] (append-nil history)) (near_live (live history) near t h) h.sorted

pub near_few : (history : List Entry) (near : List Event) (t : ℤ) → IsHistory history → AreNear span_of (live history) t near → length near ≤ max_live
near_few history near t legal h =
    let differ = Pairwise-weaker (λ (a b : Event). a.order ≢ b.order) (λ a b. a ≢ b) (λ a b other same. other (ap (λ (z : Event). z.order) same)) near (near_orders history near t legal h) in
    let inside = length-inside near (live history) differ (near_live (live history) near t h) in let few = legal.few history [] (append-nil history) in
    omega (arith, inside, few)

pub near_short : (history : List Entry) (near : List Event) (t : ℤ) → HaveShortEvents history → AreNear span_of (live history) t near → All IsShortEvent near
near_short history near t short h = λ k d lt. All-contains IsShortEvent (live history) (get_or near k d) (live_short history short) (near_live (live history) near t h k d lt)
