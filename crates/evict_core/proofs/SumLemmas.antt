-- What each edit of the entries does to their sums.
use Rattle.std.proofs.Common.{◌≡◌, IsSome, ℕ, suc, ◌+◌, ◌-◌, ◌*◌, ◌<◌, ◌≤◌, Bool, true, false, cond, ◌==◌, eqb, nat_lt, List, [], ◌∷◌, length, Option, Some, None, option_map, refl, sym, ap, ◌∙◌, true≢false, arith}
use Rattle.std.specs.Cmp.{IsEquivalence}
use Rattle.std.specs.Map.{lookup, lookup_entry, remove_entry}
use Rattle.std.specs.Option.{option_map_or}
use Rattle.std.proofs.lemmas.Bool.{eqb-true, or_parts, lt-ltb, le-ltb}
use Rattle.evict_core.specs.Machine.{max_entries, max_cost, Status, Flying, Ready, is_idle, has_idle, idle_cost, held_cost, unpinned, pinned, pins_in, maker_in, one_pin_more, one_pin_less}
use Rattle.evict_core.specs.Recency.{total, some_passes, without_last, to_front, change}
use Rattle.evict_core.specs.Sums.{idle_one, excess, AreSums, IsIdleAt, IsBusyAt}
use Rattle.evict_core.proofs.RecencyLemmas.{length-without_last, lookup-change}

-- what a look-up weighs
abbrev pub weight_in : {X : Type 0} → (X → ℕ) → Option X → ℕ
weight_in w None = 0
weight_in w (Some x) = w x

module _ {K X : Type 0} (w : X → ℕ) where
  pub total-change : (test : K → Bool) (f : X → X) (es : List (K × X)) → total w (change test f es) + weight_in w (lookup test es) ≡ total w es + weight_in w (option_map f (lookup test es))
  total-change test f [] = refl
  total-change test f (e ∷ es) = elim (test e.0) as (λ b. total w (cond b ((e.0, f e.1) ∷ es) (e ∷ change test f es)) + weight_in w (cond b (Some e.1) (lookup test es)) ≡ w e.1 + total w es + weight_in w (option_map f (cond b (Some e.1) (lookup test es)))) [
    | true ↦ omega arith
    | false ↦ omega (arith, total-change test f es)
  ]

  pub total-remove : (test : K → Bool) (es : List (K × X)) → total w (remove_entry test es) + weight_in w (lookup test es) ≡ total w es
  total-remove test [] = refl
  total-remove test (e ∷ es) = elim (test e.0) as (λ b. total w (cond b es (e ∷ remove_entry test es)) + weight_in w (cond b (Some e.1) (lookup test es)) ≡ w e.1 + total w es) [
    | true ↦ omega arith
    | false ↦ omega (arith, total-remove test es)
  ]

  entry-item : (test : K → Bool) (es : List (K × X)) → lookup test es ≡ option_map (λ e. e.1) (lookup_entry test es)
  entry-item test [] = refl
  entry-item test (e ∷ es) = elim (test e.0) as (λ b. cond b (Some e.1) (lookup test es) ≡ option_map (λ p. p.1) (cond b (Some e) (lookup_entry test es))) [
    | true ↦ refl
    | false ↦ entry-item test es
  ]

  pub total-to_front : (test : K → Bool) (f : X → X) (es : List (K × X)) → total w (to_front test f es) + weight_in w (lookup test es) ≡ total w es + weight_in w (option_map f (lookup test es))
  total-to_front test f es = by (lookup_entry test es) refl
    where
      by : (r : Option (K × X)) → lookup_entry test es ≡ r → total w (option_map_or (λ e. (e.0, f e.1) ∷ remove_entry test es) r es) + weight_in w (lookup test es) ≡ total w es + weight_in w (option_map f (lookup test es))
      by None h = let none : lookup test es ≡ None = entry-item test es ∙ ap (option_map (λ e. e.1)) h in rw none
      by (Some e) h = let some : lookup test es ≡ Some e.1 = entry-item test es ∙ ap (option_map (λ e. e.1)) h in
          let removed = rw some at (total-remove test es) in rw some (omega (arith, removed))

  pub total-found : (test : K → Bool) (es : List (K × X)) → weight_in w (lookup test es) ≤ total w es
  total-found test es = omega (arith, total-remove test es)

  -- what weighs nothing where it passes is left whole
  pub total-without_last : (test : X → Bool) → ((x : X) → test x ≡ true → w x ≡ 0) → (es : List (K × X)) → total w (without_last test es) ≡ total w es
  total-without_last test light [] = refl
  total-without_last test light (e ∷ es) = elim (some_passes test es) as (λ b. total w (cond b (e ∷ without_last test es) (cond (test e.1) es (e ∷ es))) ≡ w e.1 + total w es) [
    | true ↦ ap (λ (n : ℕ). w e.1 + n) (total-without_last test light es)
    | false ↦ (elim (test e.1) as (λ b. test e.1 ≡ b → total w (cond b es (e ∷ es)) ≡ w e.1 + total w es) [
      | true ↦ λ t. omega (arith, light e.1 t)
      | false ↦ λ t. refl
    ]) refl
  ]

  -- and nothing weighs more afterwards
  pub total-without_last-le : (test : X → Bool) (es : List (K × X)) → total w (without_last test es) ≤ total w es
  total-without_last-le test [] = omega arith
  total-without_last-le test (e ∷ es) = elim (some_passes test es) as (λ b. total w (cond b (e ∷ without_last test es) (cond (test e.1) es (e ∷ es))) ≤ w e.1 + total w es) [
    | true ↦ omega (arith, total-without_last-le test es)
    | false ↦ elim (test e.1) as (λ b. total w (cond b es (e ∷ es)) ≤ w e.1 + total w es) [ true ↦ omega arith | false ↦ omega arith ]
  ]

pub length-total : {K X : Type 0} (es : List (K × X)) → total (λ _. 1) es ≡ length es
length-total [] = refl
length-total (e ∷ es) = omega (arith, length-total es)

pub length-to_front : {K X : Type 0} (test : K → Bool) (f : X → X) (es : List (K × X)) → length (to_front test f es) ≡ length es
length-to_front test f es = by (lookup test es) refl
  where
    by : (o : Option _) → lookup test es ≡ o → length (to_front test f es) ≡ length es
    by None h = let t = rw h at (total-to_front (λ _. 1) test f es) in omega (arith, length-total (to_front test f es), length-total es, t)
    by (Some x) h = let t = rw h at (total-to_front (λ _. 1) test f es) in omega (arith, length-total (to_front test f es), length-total es, t)

pub length-remove : {K X : Type 0} (test : K → Bool) (es : List (K × X)) → length (remove_entry test es) ≤ length es
length-remove test es = omega (arith, total-remove (λ _. 1) test es, length-total (remove_entry test es), length-total es)

pub length-change : {K X : Type 0} (test : K → Bool) (f : X → X) (es : List (K × X)) → length (change test f es) ≡ length es
length-change test f [] = refl
length-change test f (e ∷ es) = elim (test e.0) as (λ b. length (cond b ((e.0, f e.1) ∷ es) (e ∷ change test f es)) ≡ suc (length es)) [
  | true ↦ refl
  | false ↦ ap suc (length-change test f es)
]

module _ {K V : Type 0} where
  none-counted : (es : List (K × Status V)) → has_idle es ≡ false → total idle_one es ≡ 0
  none-counted [] h = refl
  none-counted (e ∷ es) h = let parts = or_parts (has_idle es) (is_idle e.1) h in rw (parts.1, none-counted es parts.0)

  some-counted : (es : List (K × Status V)) → has_idle es ≡ true → 0 < total idle_one es
  some-counted [] h = absurd (true≢false (sym h))
  some-counted (e ∷ es) h = (elim (has_idle es) as (λ b. has_idle es ≡ b → 0 < total idle_one (e ∷ es)) [
    | true ↦ λ t. omega (arith, some-counted es t)
    | false ↦ λ t. let here : is_idle e.1 ≡ true = rw t at h in rw here (omega arith)
  ]) refl

  -- some entry may be evicted exactly where one is counted
  pub idle-counted : (es : List (K × Status V)) → nat_lt 0 (total idle_one es) ≡ has_idle es
  idle-counted es = (elim (has_idle es) as (λ b. has_idle es ≡ b → nat_lt 0 (total idle_one es) ≡ b) [
    | true ↦ λ h. lt-ltb 0 (total idle_one es) (some-counted es h)
    | false ↦ λ h. le-ltb 0 (total idle_one es) (omega (arith, none-counted es h))
  ]) refl

module _ {V : Type 0} where
  abbrev pub price : Status V → ℕ
  price st = idle_cost st + held_cost st

  price-bound : (st : Status V) → idle_cost st + held_cost st ≤ max_cost + excess st
  price-bound (Flying n) = omega arith
  price-bound (Ready pins cost value) = elim (pins == 0) as (λ b. cond b cost 0 + cond b 0 cost ≤ max_cost + (cost - max_cost)) [ true ↦ omega arith | false ↦ omega arith ]

  idle-one-bound : (st : Status V) → idle_one st ≤ 1
  idle-one-bound st = elim (is_idle st) as (λ b. cond b 1 0 ≤ 1) [ true ↦ omega arith | false ↦ omega arith ]

  -- an entry that may be evicted, before and after one more pin
  pub record IdleFacts (st : Status V) : Type 0 where
    pub held : held_cost st ≡ 0
    pub one : idle_one st ≡ 1
    pub then_held : held_cost (one_pin_more st) ≡ idle_cost st
    pub then_idle : idle_cost (one_pin_more st) ≡ 0
    pub then_one : idle_one (one_pin_more st) ≡ 0
    pub same : excess (one_pin_more st) ≡ excess st

  pub idle-facts : (st : Status V) → is_idle st ≡ true → IdleFacts st
  idle-facts (Flying n) idle = absurd (true≢false (sym idle))
  idle-facts (Ready pins cost value) idle = let none = eqb-true pins 0 idle in record {
    held = rw idle;
    one = rw idle;
    then_held = rw none;
    then_idle = rw none;
    then_one = rw none;
    same = refl;
  }

  held-light : (st : Status V) → is_idle st ≡ true → held_cost st ≡ 0
  held-light st idle = (idle-facts st idle).held

  pub record BusyFacts (st : Status V) : Type 0 where
    pub idle : idle_cost st ≡ 0
    pub one : idle_one st ≡ 0
    pub then_held : held_cost (one_pin_more st) ≡ held_cost st
    pub then_idle : idle_cost (one_pin_more st) ≡ 0
    pub then_one : idle_one (one_pin_more st) ≡ 0
    pub same : excess (one_pin_more st) ≡ excess st

  pub busy-facts : (st : Status V) → is_idle st ≡ false → BusyFacts st
  busy-facts (Flying n) busy = record { idle = refl; one = refl; then_held = refl; then_idle = refl; then_one = refl; same = refl }
  busy-facts (Ready pins cost value) busy = let more : eqb (pins + 1) 0 ≡ false = grind arith in record {
    idle = rw busy;
    one = rw busy;
    then_held = rw (busy, more);
    then_idle = rw more;
    then_one = rw more;
    same = refl;
  }

  -- an entry that a pin holds is one with a pin more than after it is given back
  pub held-again : (st : Status V) → 1 ≤ pins_in (Some st) → one_pin_more (one_pin_less st) ≡ st
  held-again (Flying n) some = refl
  held-again (Ready pins cost value) some = ap (λ (n : ℕ). Ready n cost value) (omega arith)

module _ {K V : Type 0} where
  prices-bound : (es : List (K × Status V)) → unpinned es + pinned es ≤ max_cost * length es + total excess es
  prices-bound [] = omega arith
  prices-bound (e ∷ es) = omega (arith, prices-bound es, price-bound e.1)

  ones-bound : (es : List (K × Status V)) → total idle_one es ≤ length es
  ones-bound [] = omega arith
  ones-bound (e ∷ es) = omega (arith, ones-bound es, idle-one-bound e.1)

  -- the sums fit
  pub sums-fit : (es : List (K × Status V)) (u p i : ℕ) → AreSums es u p i → (u + p ≤ 281479271677952) × (i ≤ max_entries + 1)
  sums-fit es u p i sums = (omega (arith, prices-bound es, sums.unpinned_is, sums.pinned_is, sums.cheap, sums.few), omega (arith, ones-bound es, sums.idle_is, sums.few))

  -- one entry's status went from o to o'
  sums-moved : (es new : List (K × Status V)) (u p i u' p' i' : ℕ) (o o' : Option (Status V)) → AreSums es u p i
      → ((w : Status V → ℕ) → total w new + weight_in w o ≡ total w es + weight_in w o') → length new ≤ length es
      → u' + weight_in idle_cost o ≡ u + weight_in idle_cost o' → p' + weight_in held_cost o ≡ p + weight_in held_cost o' → i' + weight_in idle_one o ≡ i + weight_in idle_one o'
      → weight_in excess o' ≤ weight_in excess o → AreSums new u' p' i'
  sums-moved es new u p i u' p' i' o o' sums moved len du dp di dx = record {
    unpinned_is = omega (arith, moved idle_cost, sums.unpinned_is, du);
    pinned_is = omega (arith, moved held_cost, sums.pinned_is, dp);
    idle_is = omega (arith, moved idle_one, sums.idle_is, di);
    cheap = omega (arith, moved excess, sums.cheap, dx);
    few = omega (arith, len, sums.few);
  }

  module _ (eq : K → K → Bool) (es : List (K × Status V)) (u p i : ℕ) (sums : AreSums es u p i) (k : K) where
    pub add-idle : (cost : ℕ) → IsIdleAt (lookup (eq k) es) cost → (cost ≤ u) × (1 ≤ i) × AreSums (to_front (eq k) one_pin_more es) (u - cost) (p + cost) (i - 1)
    add-idle cost idle = by (lookup (eq k) es) refl idle
      where
        by : (o : Option (Status V)) → lookup (eq k) es ≡ o → IsIdleAt o cost → (cost ≤ u) × (1 ≤ i) × AreSums (to_front (eq k) one_pin_more es) (u - cost) (p + cost) (i - 1)
        by None h idle = absurd idle
        by (Some st) h idle =
            let f = idle-facts st idle.0 in
            let enough : cost ≤ u = let t = rw h at (total-found idle_cost (eq k) es) in omega (arith, t, idle.1, sums.unpinned_is) in
            let one : 1 ≤ i = let t = rw h at (total-found idle_one (eq k) es) in omega (arith, t, f.one, sums.idle_is) in (
              enough,
              one,
              sums-moved es (to_front (eq k) one_pin_more es) u p i (u - cost) (p + cost) (i - 1) (Some st) (Some (one_pin_more st)) sums
                  (λ w. rw h at (total-to_front w (eq k) one_pin_more es)) (omega (arith, length-to_front (eq k) one_pin_more es))
                  (omega (arith, f.then_idle, idle.1, enough)) (omega (arith, f.held, f.then_held, idle.1)) (omega (arith, f.one, f.then_one, one)) (omega (arith, f.same)),
            )

    pub add-busy : IsBusyAt (lookup (eq k) es) → AreSums (to_front (eq k) one_pin_more es) u p i
    add-busy busy = by (lookup (eq k) es) refl busy
      where
        by : (o : Option (Status V)) → lookup (eq k) es ≡ o → IsBusyAt o → AreSums (to_front (eq k) one_pin_more es) u p i
        by None h busy = sums-moved es (to_front (eq k) one_pin_more es) u p i u p i None None sums
            (λ w. rw h at (total-to_front w (eq k) one_pin_more es)) (omega (arith, length-to_front (eq k) one_pin_more es)) refl refl refl (omega arith)
        by (Some st) h busy =
            let f = busy-facts st busy in
            sums-moved es (to_front (eq k) one_pin_more es) u p i u p i (Some st) (Some (one_pin_more st)) sums
            (λ w. rw h at (total-to_front w (eq k) one_pin_more es)) (omega (arith, length-to_front (eq k) one_pin_more es))
            (omega (arith, f.idle, f.then_idle)) (omega (arith, f.then_held)) (omega (arith, f.one, f.then_one)) (omega (arith, f.same))

    module _ (laws : IsEquivalence eq) (some : 1 ≤ pins_in (lookup (eq k) es)) where
      after-drop : lookup (eq k) (change (eq k) one_pin_less es) ≡ option_map one_pin_less (lookup (eq k) es)
      after-drop = let is = lookup-change eq laws k one_pin_less k es in rw (laws.refl k) at is

      pub drop-idle : (cost : ℕ) → IsIdleAt (lookup (eq k) (change (eq k) one_pin_less es)) cost → (cost ≤ p) × AreSums (change (eq k) one_pin_less es) (u + cost) (p - cost) (i + 1)
      drop-idle cost idle = by (lookup (eq k) es) refl some (rw after-drop at idle)
        where
          by : (o : Option (Status V)) → lookup (eq k) es ≡ o → 1 ≤ pins_in o → IsIdleAt (option_map one_pin_less o) cost → (cost ≤ p) × AreSums (change (eq k) one_pin_less es) (u + cost) (p - cost) (i + 1)
          by None h some idle = absurd idle
          by (Some st) h some idle =
              let f = idle-facts (one_pin_less st) idle.0 in
              let again = held-again st some in
              let held : held_cost st ≡ cost = ap held_cost (sym again) ∙ (f.then_held ∙ sym idle.1) in
              let none : idle_cost st ≡ 0 = ap idle_cost (sym again) ∙ f.then_idle in
              let zero-one : idle_one st ≡ 0 = ap idle_one (sym again) ∙ f.then_one in
              let same : excess st ≡ excess (one_pin_less st) = ap excess (sym again) ∙ f.same in
              let enough : cost ≤ p = let t = rw h at (total-found held_cost (eq k) es) in omega (arith, t, held, sums.pinned_is) in (
                enough,
                sums-moved es (change (eq k) one_pin_less es) u p i (u + cost) (p - cost) (i + 1) (Some st) (Some (one_pin_less st)) sums
                    (λ w. rw h at (total-change w (eq k) one_pin_less es)) (omega (arith, length-change (eq k) one_pin_less es))
                    (omega (arith, none, idle.1)) (omega (arith, held, f.held, enough)) (omega (arith, zero-one, f.one)) (omega (arith, same)),
              )

      pub drop-busy : IsBusyAt (lookup (eq k) (change (eq k) one_pin_less es)) → AreSums (change (eq k) one_pin_less es) u p i
      drop-busy busy = by (lookup (eq k) es) refl some (rw after-drop at busy)
        where
          by : (o : Option (Status V)) → lookup (eq k) es ≡ o → 1 ≤ pins_in o → IsBusyAt (option_map one_pin_less o) → AreSums (change (eq k) one_pin_less es) u p i
          by None h some busy = absurd (omega arith)
          by (Some st) h some busy =
              let f = busy-facts (one_pin_less st) busy in
              let again = held-again st some in
              let held : held_cost st ≡ held_cost (one_pin_less st) = ap held_cost (sym again) ∙ f.then_held in
              let none : idle_cost st ≡ 0 = ap idle_cost (sym again) ∙ f.then_idle in
              let zero-one : idle_one st ≡ 0 = ap idle_one (sym again) ∙ f.then_one in
              let same : excess st ≡ excess (one_pin_less st) = ap excess (sym again) ∙ f.same in
              sums-moved es (change (eq k) one_pin_less es) u p i u p i (Some st) (Some (one_pin_less st)) sums
              (λ w. rw h at (total-change w (eq k) one_pin_less es)) (omega (arith, length-change (eq k) one_pin_less es))
              (omega (arith, none, f.idle)) (omega (arith, held)) (omega (arith, zero-one, f.one)) (omega (arith, same))

    -- what a key weighs that is being made
    pub fill-sums : (cost : ℕ) (value : V) → (m : ℕ) → maker_in (lookup (eq k) es) ≡ Some m → cost ≤ max_cost → AreSums (to_front (eq k) (λ _. Ready 1 cost value) es) u (p + cost) i
    fill-sums cost value m made cheap = by (lookup (eq k) es) refl made
      where
        by : (o : Option (Status V)) → lookup (eq k) es ≡ o → maker_in o ≡ Some m → AreSums (to_front (eq k) (λ _. Ready 1 cost value) es) u (p + cost) i
        by None h made = cc
        by (Some (Ready pins c v)) h made = cc
        by (Some (Flying n)) h made = sums-moved es (to_front (eq k) (λ _. Ready 1 cost value) es) u p i u (p + cost) i (Some (Flying n)) (Some (Ready 1 cost value)) sums
            (λ w. rw h at (total-to_front w (eq k) (λ _. Ready 1 cost value) es)) (omega (arith, length-to_front (eq k) (λ _. Ready 1 cost value) es))
            (omega arith) (omega arith) (omega arith) (omega arith)

    pub remove-sums : (m : ℕ) → maker_in (lookup (eq k) es) ≡ Some m → AreSums (remove_entry (eq k) es) u p i
    remove-sums m made = by (lookup (eq k) es) refl made
      where
        by : (o : Option (Status V)) → lookup (eq k) es ≡ o → maker_in o ≡ Some m → AreSums (remove_entry (eq k) es) u p i
        by None h made = cc
        by (Some (Ready pins c v)) h made = cc
        by (Some (Flying n)) h made = sums-moved es (remove_entry (eq k) es) u p i u p i (Some (Flying n)) None sums
            (λ w. omega (arith, rw h at (total-remove w (eq k) es))) (length-remove (eq k) es) (omega arith) (omega arith) (omega arith) (omega arith)

  one-fewer : (es : List (K × Status V)) → has_idle es ≡ true → total idle_one (without_last is_idle es) + 1 ≡ total idle_one es
  one-fewer [] h = absurd (true≢false (sym h))
  one-fewer (e ∷ es) h = (elim (has_idle es) as (λ b. has_idle es ≡ b → total idle_one (cond b (e ∷ without_last is_idle es) (cond (is_idle e.1) es (e ∷ es))) + 1 ≡ idle_one e.1 + total idle_one es) [
    | true ↦ λ t. omega (arith, one-fewer es t)
    | false ↦ λ t. let here : is_idle e.1 ≡ true = rw t at h in rw here (omega arith)
  ]) refl

  pub evict-sums : (es : List (K × Status V)) (u p i cost : ℕ) → AreSums es u p i → has_idle es ≡ true → unpinned es ≡ cost + unpinned (without_last is_idle es)
      → (cost ≤ u) × (1 ≤ i) × AreSums (without_last is_idle es) (u - cost) p (i - 1)
  evict-sums es u p i cost sums some price =
      let one = one-fewer es some in (
        omega (arith, price, sums.unpinned_is),
        omega (arith, one, sums.idle_is),
        record {
          unpinned_is = omega (arith, price, sums.unpinned_is);
          pinned_is = sums.pinned_is ∙ sym (total-without_last held_cost is_idle held-light es);
          idle_is = omega (arith, one, sums.idle_is);
          cheap = omega (arith, total-without_last-le excess is_idle es, sums.cheap);
          few = omega (arith, length-without_last is_idle es some, sums.few);
        },
      )

pub some-of : {A : Type 0} (o : Option A) → IsSome o → (x : A) × (o ≡ Some x)
some-of None h = absurd (true≢false (sym h))
some-of (Some x) h = (x, refl)

pub length-without_last-le : {K X : Type 0} (test : X → Bool) (es : List (K × X)) → length (without_last test es) ≤ length es
length-without_last-le test es = omega (arith, total-without_last-le (λ _. 1) test es, length-total (without_last test es), length-total es)
