-- What feeders add to a history in a round.
use Rattle.std.proofs.Common.{◌≡◌, ◌≢◌, ℕ, ◌+◌, ◌<◌, ◌≤◌, List, [], ◌∷◌, ◌++◌, length, map, refl, sym, ap, subst, ◌∙◌, arith, length-append, ◌⊎◌, ⊎_elim, inl, inr}
use Rattle.std.specs.List.{All, Contains}
use Rattle.std.proofs.lemmas.List.{length-map, map-append}
use Rattle.std.proofs.lemmas.List.Elements.{All-nil, All-cons, All-head, All-tail, All-append, All-map, All-weaker, All-contains, All-contains_itself, Contains-append_left, Contains-append_right, Contains-append_cases}
use Rattle.turn_cell.specs.History.{IsDistinct, entry_list}
use Rattle.ass_events.specs.Histories.{Entry, Chunk, Flush, flushes_of, max_live}
use Rattle.ass_events.specs.declared.event.Event.{Event}
use Rattle.track_history.specs.Answers.{fed_entry, read_orders}
use Rattle.track_history.specs.declared.answers.Feed.{Feed}
use Rattle.track_history.specs.declared.answers.Feed.TheVariants.{Accepted, Repeated, Malformed, Full, OutOfMemory}
use Rattle.play_model.specs.Feeding.{Has, FeedAnswer, repeats, accepted_of, repeated_of, IsKnownOf, IsKnown, AreFedTwice}
use Rattle.play_model.specs.Interleavings.{IsInterleaving, sum_below}
use Rattle.play_model.proofs.JoinedPasses.{Contains_here, Contains_map, All_unmap, Contains_cons_cases, not_in_nil}
use Rattle.play_model.proofs.Labels.{IsInterleaving-append, IsInterleaving_all, IsInterleaving_list, IsInterleaving_item, IsInterleaving_renamed, length_interleaving, sum_below_less}

-- chunks alone
abbrev pub IsChunk : Entry → Type 0
IsChunk x = (e : Event) × (x ≡ Chunk e)

pub all_chunks : (es : List Event) → All IsChunk (map Chunk es)
all_chunks es = All-map IsChunk Chunk es (All-weaker (Contains es) (λ e. IsChunk (Chunk e)) (λ e there. (e, refl)) es (All-contains_itself es))

chunk_of_feed : (e : Event) (f : Feed) → All IsChunk (entry_list (fed_entry e f))
chunk_of_feed e (Accepted place) = All-cons IsChunk (Chunk e) [] (e, refl) (All-nil IsChunk)
chunk_of_feed e (Repeated place) = All-nil IsChunk
chunk_of_feed e (Malformed field place) = All-nil IsChunk
chunk_of_feed e (Full most) = All-nil IsChunk
chunk_of_feed e OutOfMemory = All-nil IsChunk

accepted_chunks : (answers : List FeedAnswer) → All IsChunk (accepted_of answers)
accepted_chunks [] = All-nil IsChunk
accepted_chunks (a ∷ answers) = All-append IsChunk (entry_list (fed_entry a.0 a.1)) (accepted_of answers) (chunk_of_feed a.0 a.1) (accepted_chunks answers)

flush_no_chunk : (e : Event) → Flush ≡ Chunk e → ⊥
flush_no_chunk e is = cc

pub flushes_of_chunks : (xs : List Entry) → All IsChunk xs → flushes_of xs ≡ 0
flushes_of_chunks [] all = refl
flushes_of_chunks (Chunk e ∷ xs) all = flushes_of_chunks xs (All-tail IsChunk (Chunk e) xs all)
flushes_of_chunks (Flush ∷ xs) all = let h = All-head IsChunk Flush xs all in absurd (flush_no_chunk h.0 h.1)

-- an event that was accepted is repeated
repeats_one : (before after : List Entry) (e : Event) (f : Feed) → flushes_of after ≡ 0 → Has before e.order → IsKnownOf before after e f → (entry_list (fed_entry e f) ≡ []) × (repeats f ≡ 1)
repeats_one before after e (Accepted place) none has known = absurd (known none has)
repeats_one before after e (Repeated place) none has known = (refl, refl)
repeats_one before after e (Malformed field place) none has known = absurd known
repeats_one before after e (Full most) none has known = absurd ((known none).1 has)
repeats_one before after e OutOfMemory none has known = absurd known

all_repeat : (before after : List Entry) (answers : List FeedAnswer) → flushes_of after ≡ 0 → All (λ a. Has before a.0.order) answers → All (IsKnown before after) answers
    → (accepted_of answers ≡ []) × (repeated_of answers ≡ length answers)
all_repeat before after [] none has known = (refl, refl)
all_repeat before after (a ∷ answers) none has known =
    let one = repeats_one before after a.0 a.1 none (All-head (λ (a : FeedAnswer). Has before a.0.order) a answers has) (All-head (IsKnown before after) a answers known) in
    let rest = all_repeat before after answers none (All-tail (λ (a : FeedAnswer). Has before a.0.order) a answers has) (All-tail (IsKnown before after) a answers known) in
    let first = one.1 in let others = rest.1 in
    (ap (λ z. z ++ accepted_of answers) one.0 ∙ rest.0, omega arith)

abbrev IsAcceptedFeed : Feed → Type 0
IsAcceptedFeed (Accepted place) = Unit {0}
IsAcceptedFeed (Repeated place) = ⊥
IsAcceptedFeed (Malformed field place) = ⊥
IsAcceptedFeed (Full most) = ⊥
IsAcceptedFeed OutOfMemory = ⊥

feed_cases : (e : Event) (f : Feed) → (IsAcceptedFeed f × (entry_list (fed_entry e f) ≡ Chunk e ∷ []) × (repeats f ≡ 0)) ⊎ ((IsAcceptedFeed f → ⊥) × (entry_list (fed_entry e f) ≡ []))
feed_cases e (Accepted place) = inl (tt, refl, refl)
feed_cases e (Repeated place) = inr (λ h. h, refl)
feed_cases e (Malformed field place) = inr (λ h. h, refl)
feed_cases e (Full most) = inr (λ h. h, refl)
feed_cases e OutOfMemory = inr (λ h. h, refl)

length_accepted : (answers : List FeedAnswer) → length (accepted_of answers) ≤ length answers
length_accepted [] = omega arith
length_accepted (a ∷ answers) = let rest = length_accepted answers in let parts = length-append (entry_list (fed_entry a.0 a.1)) (accepted_of answers) in
    ⊎_elim (λ h. let one : length (entry_list (fed_entry a.0 a.1)) ≡ 1 = ap length h.1 in omega arith) (λ h. let one : length (entry_list (fed_entry a.0 a.1)) ≡ 0 = ap length h.1 in omega arith) (feed_cases a.0 a.1)

-- all were accepted, or one was not, and then fewer were accepted than fed
all_or_less : (answers : List FeedAnswer) → ((accepted_of answers ≡ map Chunk (map (λ a. a.0) answers)) × (repeated_of answers ≡ 0))
    ⊎ ((a : FeedAnswer) × Contains answers a × (IsAcceptedFeed a.1 → ⊥) × (length (accepted_of answers) < length answers))
all_or_less [] = inl (refl, refl)
all_or_less (a ∷ answers) = let parts = length-append (entry_list (fed_entry a.0 a.1)) (accepted_of answers) in let most = length_accepted answers in
    ⊎_elim
    (λ one. let first = one.2 in let single : length (entry_list (fed_entry a.0 a.1)) ≡ 1 = ap length one.1 in ⊎_elim
    (λ rest. let others = rest.1 in inl (ap (λ z. z ++ accepted_of answers) one.1 ∙ ap (λ z. Chunk a.0 ∷ z) rest.0, omega arith))
    (λ rest. let less : length (accepted_of answers) < length answers = rest.3 in inr (rest.0, Contains-append_right (a ∷ []) answers rest.0 rest.1, rest.2, omega arith))
    (all_or_less answers))
    (λ other. let nothing : length (entry_list (fed_entry a.0 a.1)) ≡ 0 = ap length other.1 in inr (a, Contains_here a answers, other.0, omega arith))
    (feed_cases a.0 a.1)

accepted_one : (e : Event) (f : Feed) → All (λ x. (e' : Event) → x ≡ Chunk e' → (e ≡ e') × IsAcceptedFeed f) (entry_list (fed_entry e f))
accepted_one e (Accepted place) = All-cons (λ x. (e' : Event) → x ≡ Chunk e' → (e ≡ e') × IsAcceptedFeed (Accepted place)) (Chunk e) [] (λ e' is. (let same : e ≡ e' = cc in same, tt)) (All-nil (λ x. (e' : Event) → x ≡ Chunk e' → (e ≡ e') × IsAcceptedFeed (Accepted place)))
accepted_one e (Repeated place) = All-nil (λ x. (e' : Event) → x ≡ Chunk e' → (e ≡ e') × IsAcceptedFeed (Repeated place))
accepted_one e (Malformed field place) = All-nil (λ x. (e' : Event) → x ≡ Chunk e' → (e ≡ e') × IsAcceptedFeed (Malformed field place))
accepted_one e (Full most) = All-nil (λ x. (e' : Event) → x ≡ Chunk e' → (e ≡ e') × IsAcceptedFeed (Full most))
accepted_one e OutOfMemory = All-nil (λ x. (e' : Event) → x ≡ Chunk e' → (e ≡ e') × IsAcceptedFeed OutOfMemory)

-- an entry that was given was accepted
abbrev ComesFrom : List FeedAnswer → Entry → Type 0
ComesFrom answers x = (e : Event) → x ≡ Chunk e → (a : FeedAnswer) × Contains answers a × (a.0 ≡ e) × IsAcceptedFeed a.1

given_accepted : (answers : List FeedAnswer) → All (ComesFrom answers) (accepted_of answers)
given_accepted [] = All-nil (ComesFrom [])
given_accepted (a ∷ answers) = All-append (ComesFrom (a ∷ answers)) (entry_list (fed_entry a.0 a.1)) (accepted_of answers)
    (All-weaker (λ x. (e' : Event) → x ≡ Chunk e' → (a.0 ≡ e') × IsAcceptedFeed a.1) (ComesFrom (a ∷ answers)) (λ x h e is. let t = h e is in (a, Contains_here a answers, t.0, t.1)) (entry_list (fed_entry a.0 a.1)) (accepted_one a.0 a.1))
    (All-weaker (ComesFrom answers) (ComesFrom (a ∷ answers)) (λ x h e is. let t = h e is in (t.0, Contains-append_right (a ∷ []) answers t.0 t.1, t.2, t.3)) (accepted_of answers) (given_accepted answers))

distinct_left : (ns ms : List ℕ) → IsDistinct (ns ++ ms) → IsDistinct ns
distinct_left [] ms d = tt
distinct_left (n ∷ ns) ms d = (
  All-weaker (Contains ns) (λ m. m ≢ n) (λ m there. All-contains (λ (k : ℕ). k ≢ n) (ns ++ ms) m d.0 (Contains-append_left ns ms m there)) ns (All-contains_itself ns),
  distinct_left ns ms d.1,
)

distinct_right : (ns ms : List ℕ) → IsDistinct (ns ++ ms) → IsDistinct ms
distinct_right [] ms d = d
distinct_right (n ∷ ns) ms d = distinct_right ns ms d.1

distinct_apart : (ns ms : List ℕ) (n : ℕ) → IsDistinct (ns ++ ms) → Contains ns n → Contains ms n → ⊥
distinct_apart [] ms n d there there' = not_in_nil n there
distinct_apart (k ∷ ns) ms n d there there' = ⊎_elim
    (λ is. All-contains (λ (m : ℕ). m ≢ k) (ns ++ ms) n d.0 (Contains-append_right ns ms n there') (sym is))
    (λ h. distinct_apart ns ms n d.1 h there') (Contains_cons_cases k ns n there)

abbrev order_of : FeedAnswer → ℕ
order_of a = a.0.order

-- of distinct ReadOrders one has one answer
distinct_same : (answers : List FeedAnswer) (a b : FeedAnswer) → IsDistinct (map order_of answers) → Contains answers a → Contains answers b → order_of a ≡ order_of b → a ≡ b
distinct_same [] a b d there there' e = absurd (not_in_nil a there)
distinct_same (x ∷ xs) a b d there there' e = ⊎_elim
    (λ is. ⊎_elim (λ is'. sym is ∙ is')
    (λ h. absurd (All-contains (λ (m : ℕ). m ≢ order_of x) (map order_of xs) (order_of b) d.0 (Contains_map order_of xs b h) (sym e ∙ ap order_of (sym is)))) (Contains_cons_cases x xs b there'))
    (λ h. ⊎_elim (λ is'. absurd (All-contains (λ (m : ℕ). m ≢ order_of x) (map order_of xs) (order_of a) d.0 (Contains_map order_of xs a h) (e ∙ ap order_of (sym is'))))
    (λ h'. distinct_same xs a b d.1 h h' e) (Contains_cons_cases x xs b there')) (Contains_cons_cases x xs a there)

-- the orders of what is before a round, of its batch and of the rest
orders_parts : (old batch tail : List Event) → IsDistinct (read_orders (old ++ (batch ++ tail))) → IsDistinct (read_orders old ++ (read_orders batch ++ read_orders tail))
orders_parts old batch tail d = subst IsDistinct (map-append (λ (e : Event). e.order) old (batch ++ tail)
    ∙ ap (λ z. read_orders old ++ z) (map-append (λ (e : Event). e.order) batch tail)) d

orders_of_answers : (answers : List FeedAnswer) → map order_of answers ≡ read_orders (map (λ a. a.0) answers)
orders_of_answers [] = refl
orders_of_answers (a ∷ answers) = ap (λ z. order_of a ∷ z) (orders_of_answers answers)

chunk_same : (e e' : Event) → Chunk e ≡ Chunk e' → e ≡ e'
chunk_same e e' is = cc

pub unchunk : (es : List Event) (e : Event) → Contains (map Chunk es) (Chunk e) → Contains es e
unchunk es e there =
    let P : Entry → Type 0 = λ x. (e' : Event) → x ≡ Chunk e' → Contains es e' in
    All-contains P (map Chunk es) (Chunk e) (All-map P Chunk es (All-weaker (Contains es) (λ z. P (Chunk z)) (λ z in' e' is. subst (Contains es) (chunk_same z e' is) in') es (All-contains_itself es))) there e refl

-- an answer that is no Accepted
refused : (before after : List Entry) (e : Event) (f : Feed) → flushes_of after ≡ 0 → (IsAcceptedFeed f → ⊥) → IsKnownOf before after e f → Has after e.order ⊎ (max_live ≤ length after)
refused before after e (Accepted place) none not known = absurd (not tt)
refused before after e (Repeated place) none not known = inl (known none)
refused before after e (Malformed field place) none not known = absurd known
refused before after e (Full most) none not known = inr (known none).0
refused before after e OutOfMemory none not known = absurd known

-- What feeders have: events with ReadOrders of their own, those before a round, its batch and the rest; and what is offered once more is before it.
pub record AreApart (count : ℕ) (old batch tail again : ℕ → List Event) : Type 0 where
  pub apart : (f g : ℕ) (a b : Event) → Contains (old f ++ (batch f ++ tail f)) a → Contains (old g ++ (batch g ++ tail g)) b → a.order ≡ b.order → f ≡ g
  pub distinct : (f : ℕ) → IsDistinct (read_orders (old f ++ (batch f ++ tail f)))
  pub few : sum_below count (λ f. length (old f ++ (batch f ++ tail f))) ≤ max_live
  pub before : (f : ℕ) → All (Contains (old f)) (again f)

module _ (count : ℕ) (old batch tail again : ℕ → List Event) (fair : AreApart count old batch tail again) (before rest : List Entry) (given : ℕ → List Entry) (repeated : ℕ → ℕ) where
  abbrev pub lines : ℕ → List Event
  lines feeder = old feeder ++ (batch feeder ++ tail feeder)

  in_before : (f : ℕ) (e : Event) → Contains (old f) e → Contains (lines f) e
  in_before f e there = Contains-append_left (old f) (batch f ++ tail f) e there

  in_batch : (f : ℕ) (e : Event) → Contains (batch f) e → Contains (lines f) e
  in_batch f e there = Contains-append_right (old f) (batch f ++ tail f) e (Contains-append_left (batch f) (tail f) e there)

  -- what is known of a round: what was there, what is new, and how each feeder fed
  pub record IsRoundFed : Type 0 where
    pub there : IsInterleaving count (λ feeder. map Chunk (old feeder)) before
    pub new : IsInterleaving count given rest
    pub fed : (feeder : ℕ) → feeder < count → AreFedTwice before (again feeder) (batch feeder) (before ++ rest) (given feeder) (repeated feeder)

  none_flushed : IsRoundFed → flushes_of (before ++ rest) ≡ 0
  none_flushed r = flushes_of_chunks (before ++ rest) (All-append IsChunk before rest
      (IsInterleaving_all IsChunk count (λ feeder. map Chunk (old feeder)) before r.there (λ i lt. all_chunks (old i)))
      (IsInterleaving_all IsChunk count given rest r.new (λ i lt. let two = r.fed i lt in
      subst (All IsChunk) (sym two.given_are) (All-append IsChunk two.first_given two.second_given
      (subst (All IsChunk) (sym two.first.given_are) (accepted_chunks two.first.answers))
      (subst (All IsChunk) (sym two.second.given_are) (accepted_chunks two.second.answers))))))

  -- the lines that were fed once more were repeated
  again_repeated : (r : IsRoundFed) (i : ℕ) (lt : i < count) → ((r.fed i lt).first_given ≡ []) × ((r.fed i lt).first_repeated ≡ length (again i))
  again_repeated r i lt =
      let two = r.fed i lt in
      let HasOrder : Event → Type 0 = λ e. Has before e.order in
      let held : All HasOrder (again i) = All-weaker (Contains (old i)) HasOrder
      (λ e in'. record { event = e; there = IsInterleaving_item count (λ feeder. map Chunk (old feeder)) before i (Chunk e) r.there lt (Contains_map Chunk (old i) e in'); is = refl })
      (again i) (fair.before i) in
      let has : All (λ a. Has before a.0.order) two.first.answers = All_unmap HasOrder (λ (a : FeedAnswer). a.0) two.first.answers (subst (All HasOrder) (sym two.first.events_are) held) in
      let all = all_repeat before (before ++ rest) two.first.answers (none_flushed r) has two.first.known in
      (two.first.given_are ∙ all.0, two.first.repeated_are ∙ (all.1 ∙ (sym (length-map two.first.answers (λ (a : FeedAnswer). a.0)) ∙ ap length two.first.events_are)))

  given_second : (r : IsRoundFed) (i : ℕ) (lt : i < count) → given i ≡ accepted_of (r.fed i lt).second.answers
  given_second r i lt = let two = r.fed i lt in two.given_are ∙ (ap (λ z. z ++ two.second_given) (again_repeated r i lt).0 ∙ two.second.given_are)

  -- what a feeder gave it accepted
  from_given : (r : IsRoundFed) (i : ℕ) (lt : i < count) (e : Event) → Contains (given i) (Chunk e)
      → (a : FeedAnswer) × Contains (r.fed i lt).second.answers a × (a.0 ≡ e) × IsAcceptedFeed a.1
  from_given r i lt e there = let answers = (r.fed i lt).second.answers in
      All-contains (ComesFrom answers) (accepted_of answers) (Chunk e) (given_accepted answers) (subst (λ (z : List Entry). Contains z (Chunk e)) (given_second r i lt) there) e refl

  in_lines : (r : IsRoundFed) (i : ℕ) (lt : i < count) (a : FeedAnswer) → Contains (r.fed i lt).second.answers a → Contains (batch i) a.0
  in_lines r i lt a in' = let second = (r.fed i lt).second in subst (λ (z : List Event). Contains z a.0) second.events_are (Contains_map (λ (x : FeedAnswer). x.0) second.answers a in')

  -- no line of a batch was there before it was accepted
  not_there : (r : IsRoundFed) (i : ℕ) (lt : i < count) (a : FeedAnswer) → Contains (r.fed i lt).second.answers a → (IsAcceptedFeed a.1 → ⊥) → Has (before ++ rest) a.0.order → ⊥
  not_there r i lt a in' not has =
      let second = (r.fed i lt).second in
      let mine : Contains (batch i) a.0 = in_lines r i lt a in' in
      let order : Event → ℕ = λ e. e.order in
      let others : List ℕ = read_orders (tail i) in
      let apart = orders_parts (old i) (batch i) (tail i) (fair.distinct i) in
      ⊎_elim
      (λ one. let t = IsInterleaving_list count (λ feeder. map Chunk (old feeder)) before (Chunk has.event) r.there one in
      let held : Contains (old t.0) has.event = unchunk (old t.0) has.event t.2 in
      let same : t.0 ≡ i = fair.apart t.0 i has.event a.0 (in_before t.0 has.event held) (in_batch i a.0 mine) has.is in
      let held' : Contains (old i) has.event = subst (λ (z : ℕ). Contains (old z) has.event) same held in
      distinct_apart (read_orders (old i)) (read_orders (batch i) ++ others) a.0.order apart
      (subst (Contains (read_orders (old i))) has.is (Contains_map order (old i) has.event held'))
      (Contains-append_left (read_orders (batch i)) others a.0.order (Contains_map order (batch i) a.0 mine)))
      (λ one. let t = IsInterleaving_list count given rest (Chunk has.event) r.new one in
      let from = from_given r t.0 t.1 has.event t.2 in
      let held : Contains (batch t.0) has.event = subst (Contains (batch t.0)) from.2 (in_lines r t.0 t.1 from.0 from.1) in
      let same : t.0 ≡ i = fair.apart t.0 i has.event a.0 (in_batch t.0 has.event held) (in_batch i a.0 mine) has.is in
      let came = from_given r i lt has.event (subst (λ (z : ℕ). Contains (given z) (Chunk has.event)) same t.2) in
      let distinct : IsDistinct (map order_of second.answers) = subst IsDistinct (sym (orders_of_answers second.answers ∙ ap read_orders second.events_are))
      (distinct_left (read_orders (batch i)) others (distinct_right (read_orders (old i)) (read_orders (batch i) ++ others) apart)) in
      let is : a ≡ came.0 = distinct_same second.answers a came.0 distinct in' came.1 (sym (ap order came.2 ∙ has.is)) in
      not (subst (λ (z : FeedAnswer). IsAcceptedFeed z.1) (sym is) came.3))
      (Contains-append_cases before rest (Chunk has.event) has.there)

  -- how many entries a feeder has after the round
  after_round : (r : IsRoundFed) (i : ℕ) (lt : i < count) → (length (map Chunk (old i) ++ given i) + length (batch i) ≤ length (lines i) + length (accepted_of (r.fed i lt).second.answers))
  after_round r i lt =
      let parts = length-append (map Chunk (old i)) (given i) in let same = length-map (old i) Chunk in
      let gave : length (given i) ≡ length (accepted_of (r.fed i lt).second.answers) = ap length (given_second r i lt) in
      let rest' : List Event = tail i in
      let whole : length (old i) + length (batch i ++ rest') ≡ length (lines i) = sym (length-append (old i) (batch i ++ rest')) in
      let more = length-append (batch i) rest' in omega arith

  answers_batch : (r : IsRoundFed) (i : ℕ) (lt : i < count) → length (r.fed i lt).second.answers ≡ length (batch i)
  answers_batch r i lt = let second = (r.fed i lt).second in sym (length-map second.answers (λ (a : FeedAnswer). a.0)) ∙ ap length second.events_are

  not_full : (r : IsRoundFed) (i : ℕ) (lt : i < count) → length (accepted_of (r.fed i lt).second.answers) < length (r.fed i lt).second.answers → max_live ≤ length (before ++ rest) → ⊥
  not_full r i lt fewer full =
      let both = IsInterleaving-append count (λ feeder. map Chunk (old feeder)) given before rest r.there r.new in
      let all : length (before ++ rest) ≡ sum_below count (λ feeder. length (map Chunk (old feeder) ++ given feeder)) = length_interleaving count (λ feeder. map Chunk (old feeder) ++ given feeder) (before ++ rest) both in
      let each : (f : ℕ) → f < count → length (map Chunk (old f) ++ given f) ≤ length (lines f) = λ f lf.
      let room = after_round r f lf in let most = length_accepted (r.fed f lf).second.answers in let same = answers_batch r f lf in omega arith in
      let less : length (map Chunk (old i) ++ given i) < length (lines i) = let room = after_round r i lt in let same = answers_batch r i lt in omega arith in
      let strict = sum_below_less count i (λ feeder. length (map Chunk (old feeder) ++ given feeder)) (λ feeder. length (lines feeder)) each lt less in
      let few = fair.few in omega arith

  -- each feeder gave just its batch, and all lines that were fed once more were repeated
  pub batch_accepted : (r : IsRoundFed) (i : ℕ) → i < count → (given i ≡ map Chunk (batch i)) × (repeated i ≡ length (again i))
  batch_accepted r i lt =
      let two = r.fed i lt in
      ⊎_elim
      (λ all. let none : two.second_repeated ≡ 0 = two.second.repeated_are ∙ all.1 in let once = (again_repeated r i lt).1 in let both = two.repeated_are in
      (given_second r i lt ∙ (all.0 ∙ ap (map Chunk) two.second.events_are), omega arith))
      (λ less. let a = less.0 in absurd (⊎_elim (λ has. not_there r i lt a less.1 less.2 has) (λ full. not_full r i lt less.3 full)
      (refused before (before ++ rest) a.0 a.1 (none_flushed r) less.2 (All-contains (IsKnown before (before ++ rest)) two.second.answers a two.second.known less.1))))
      (all_or_less two.second.answers)

  -- the history after the round
  pub history_after : IsRoundFed → IsInterleaving count (λ feeder. map Chunk (old feeder ++ batch feeder)) (before ++ rest)
  history_after r = IsInterleaving_renamed count (λ feeder. map Chunk (old feeder) ++ given feeder) (λ feeder. map Chunk (old feeder ++ batch feeder)) (before ++ rest)
      (λ i lt. ap (λ z. map Chunk (old i) ++ z) (batch_accepted r i lt).0 ∙ sym (map-append Chunk (old i) (batch i)))
      (IsInterleaving-append count (λ feeder. map Chunk (old feeder)) given before rest r.there r.new)
