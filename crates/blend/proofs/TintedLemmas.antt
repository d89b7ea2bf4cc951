-- Lemmas on tinted pixels.
use Rattle.std.proofs.Common.{◌≡◌, ℕ, suc, ◌+◌, ◌-◌, ◌*◌, ◌<◌, ◌≤◌, ◌⊎◌, ◌&&◌, nat_le, nat_lt, if◌then◌else◌, List, [], ◌∷◌, ◌++◌, length, take, drop, set, get_or, refl, sym, ap, ◌∙◌, inl, inr, ⊎_elim, arith, length-take, length-drop}
use Rattle.std.proofs.lemmas.List.{take-append-drop}
use Rattle.std.proofs.lemmas.Bool.{cases_lt}
use Rattle.std.proofs.lemmas.Bool.Decides.{nat_tests}
use borrow.Rule.Slice.PartMut.{put_mid}
use Rattle.ass_num.specs.declared.colour.Rgba.{Rgba}
use Rattle.blend.specs.Areas.{no_tint}
use Rattle.blend.specs.Blending.{Tint, by_255, blended, tint_of, tinted}

-- Two tints do the same: they are equal, or neither has a weight.
abbrev pub IsSame : Tint → Tint → Type 0
IsSame t u = (t ≡ u) ⊎ ((t.weight ≡ 0) × (u.weight ≡ 0))

-- The third tint does what the first two do, of which one has no weight.
abbrev pub IsJoined : Tint → Tint → Tint → Type 0
IsJoined t u v = ((u.weight ≡ 0) × IsSame t v) ⊎ ((t.weight ≡ 0) × IsSame u v)

-- no weight leaves a byte as it is
pub blended-none : (under over : ℕ) → blended under over 0 ≡ under
blended-none under over = omega arith

pub blended-clear : (t : Tint) (channel : Rgba → ℕ) (d : ℕ) → t.weight ≡ 0 → blended d (channel t.colour) t.weight ≡ d
blended-clear t channel d e = ap (λ k. blended d (channel t.colour) k) e ∙ blended-none d (channel t.colour)

pub blended-same : (t u : Tint) (channel : Rgba → ℕ) (d : ℕ) → IsSame t u → blended d (channel t.colour) t.weight ≡ blended d (channel u.colour) u.weight
blended-same t u channel d (inl e) = ap (λ (v : Tint). blended d (channel v.colour) v.weight) e
blended-same t u channel d (inr e) = blended-clear t channel d e.0 ∙ sym (blended-clear u channel d e.1)

blended-joined : (t u v : Tint) (channel : Rgba → ℕ) (d : ℕ) → IsJoined t u v → blended (blended d (channel t.colour) t.weight) (channel u.colour) u.weight ≡ blended d (channel v.colour) v.weight
blended-joined t u v channel d (inl e) = blended-clear u channel (blended d (channel t.colour) t.weight) e.0 ∙ blended-same t v channel d e.1
blended-joined t u v channel d (inr e) =
    ap (λ k. blended k (channel u.colour) u.weight) (blended-clear t channel d e.0) ∙ blended-same u v channel d e.1

pub length-tinted : (tint : ℕ → Tint) (n : ℕ) (s : List ℕ) → length (tinted tint n s) ≡ length s
length-tinted tint n [] = refl
length-tinted tint n (a ∷ []) = refl
length-tinted tint n (a ∷ b ∷ []) = refl
length-tinted tint n (r ∷ g ∷ b ∷ s) = ap (λ k. suc (suc (suc k))) (length-tinted tint (n + 1) s)

-- pixels one after another
pub tinted-append : (tint : ℕ → Tint) (n c : ℕ) (s t : List ℕ) → length s ≡ 3 * c → tinted tint n (s ++ t) ≡ tinted tint n s ++ tinted tint (n + c) t
tinted-append tint n c [] t e = ap (λ k. tinted tint k t) (let h : n ≡ n + c = omega arith in h)
tinted-append tint n c (a ∷ []) t e = absurd (omega arith)
tinted-append tint n c (a ∷ b ∷ []) t e = absurd (omega arith)
tinted-append tint n c (r ∷ g ∷ b ∷ s) t e =
    let more = tinted-append tint (n + 1) (c - 1) s t (omega arith) in
    let place : n + 1 + (c - 1) ≡ n + c = omega arith in
    ap (λ (rest : List ℕ). blended r (tint n).colour.r (tint n).weight ∷ blended g (tint n).colour.g (tint n).weight ∷ blended b (tint n).colour.b (tint n).weight ∷ rest)
    (more ∙ ap (λ k. tinted tint (n + 1) s ++ tinted tint k t) place)

-- three bytes and the rest are the same
pub cons-same : (a b c d e f : ℕ) (s t : List ℕ) → a ≡ d → b ≡ e → c ≡ f → s ≡ t → a ∷ b ∷ c ∷ s ≡ d ∷ e ∷ f ∷ t
cons-same a b c d e f s t p q r h = cc

-- the same tints at other numbers
pub tinted-shift : (f g : ℕ → Tint) (m n c : ℕ) (s : List ℕ) → length s ≤ 3 * c → ((k : ℕ) → k < c → IsSame (f (m + k)) (g (n + k))) → tinted f m s ≡ tinted g n s
tinted-shift f g m n c [] few same = refl
tinted-shift f g m n c (a ∷ []) few same = refl
tinted-shift f g m n c (a ∷ b ∷ []) few same = refl
tinted-shift f g m n c (r ∷ w ∷ b ∷ s) few same =
    let first : IsSame (f m) (g n) = let p : m + 0 ≡ m = omega arith in let q : n + 0 ≡ n = omega arith in rw (p, q) at (same 0 (omega arith)) in
    let rest : (k : ℕ) → k < c - 1 → IsSame (f (m + 1 + k)) (g (n + 1 + k)) =
    λ k h. let p : m + (k + 1) ≡ m + 1 + k = omega arith in let q : n + (k + 1) ≡ n + 1 + k = omega arith in rw (p, q) at (same (k + 1) (omega arith)) in
    cons-same _ _ _ _ _ _ _ _
    (blended-same (f m) (g n) (λ (c : Rgba). c.r) r first)
    (blended-same (f m) (g n) (λ (c : Rgba). c.g) w first)
    (blended-same (f m) (g n) (λ (c : Rgba). c.b) b first)
    (tinted-shift f g (m + 1) (n + 1) (c - 1) s (omega arith) rest)

-- no weight anywhere leaves the pixels as they are
pub tinted-none : (f : ℕ → Tint) (n c : ℕ) (s : List ℕ) → length s ≤ 3 * c → ((k : ℕ) → k < c → (f (n + k)).weight ≡ 0) → tinted f n s ≡ s
tinted-none f n c [] few none = refl
tinted-none f n c (a ∷ []) few none = refl
tinted-none f n c (a ∷ b ∷ []) few none = refl
tinted-none f n c (r ∷ w ∷ b ∷ s) few none =
    let first : (f n).weight ≡ 0 = let p : n + 0 ≡ n = omega arith in rw p at (none 0 (omega arith)) in
    let rest : (k : ℕ) → k < c - 1 → (f (n + 1 + k)).weight ≡ 0 =
    λ k h. let p : n + (k + 1) ≡ n + 1 + k = omega arith in rw p at (none (k + 1) (omega arith)) in
    cons-same _ _ _ _ _ _ _ _
    (blended-clear (f n) (λ (c : Rgba). c.r) r first)
    (blended-clear (f n) (λ (c : Rgba). c.g) w first)
    (blended-clear (f n) (λ (c : Rgba). c.b) b first)
    (tinted-none f (n + 1) (c - 1) s (omega arith) rest)

-- tints of pixels apart, one after the other
pub tinted-tinted : (f g h : ℕ → Tint) (n : ℕ) (s : List ℕ) → ((k : ℕ) → n ≤ k → IsJoined (f k) (g k) (h k)) → tinted g n (tinted f n s) ≡ tinted h n s
tinted-tinted f g h n [] joined = refl
tinted-tinted f g h n (a ∷ []) joined = refl
tinted-tinted f g h n (a ∷ b ∷ []) joined = refl
tinted-tinted f g h n (r ∷ w ∷ b ∷ s) joined =
    let first : IsJoined (f n) (g n) (h n) = joined n (omega arith) in
    cons-same _ _ _ _ _ _ _ _
    (blended-joined (f n) (g n) (h n) (λ (c : Rgba). c.r) r first)
    (blended-joined (f n) (g n) (h n) (λ (c : Rgba). c.g) w first)
    (blended-joined (f n) (g n) (h n) (λ (c : Rgba). c.b) b first)
    (tinted-tinted f g h (n + 1) s (λ k l. joined k (omega arith)))

-- the tints of the numbers from low to high, and none elsewhere
abbrev pub only : ℕ → ℕ → (ℕ → Tint) → ℕ → Tint
only low high tint k = if nat_le low k && nat_lt k high then tint k else no_tint

only-inside : (low high : ℕ) (tint : ℕ → Tint) (k : ℕ) → low ≤ k → k < high → only low high tint k ≡ tint k
only-inside low high tint k p q = grind (arith, nat_tests)

only-before : (low high : ℕ) (tint : ℕ → Tint) (k : ℕ) → k < low → only low high tint k ≡ no_tint
only-before low high tint k p = grind (arith, nat_tests)

only-after : (low high : ℕ) (tint : ℕ → Tint) (k : ℕ) → high ≤ k → only low high tint k ≡ no_tint
only-after low high tint k p = grind (arith, nat_tests)

pub weightless : (t : Tint) → t ≡ no_tint → t.weight ≡ 0
weightless t e = ap (λ (u : Tint). u.weight) e

-- The pixels from a on, of which there are c, get the tints f: that makes the tints h of the tints g.
tinted-part : (f g : ℕ → Tint) (n a c : ℕ) (s t : List ℕ) → 3 * (a + c) ≤ length s → t ≡ tinted f 0 (take (3 * c) (drop (3 * a) s))
    → ((k : ℕ) → k < c → IsSame (f k) (g (n + a + k))) → ((k : ℕ) → k < a → (g (n + k)).weight ≡ 0) → ((k : ℕ) → (g (n + a + c + k)).weight ≡ 0)
    → put_mid (3 * a) (3 * c) s t ≡ tinted g n s
tinted-part f g n a c s t fits is inside before after =
    let front : List ℕ = take (3 * a) s in
    let back : List ℕ = drop (3 * a) s in
    let mid : List ℕ = take (3 * c) back in
    let post : List ℕ = drop (3 * c) back in
    let front_len : length front ≡ 3 * a = omega (arith, length-take (3 * a) s) in
    let mid_len : length mid ≡ 3 * c = omega (arith, length-take (3 * c) back, length-drop (3 * a) s) in
    let split : tinted g n (front ++ back) ≡ tinted g n front ++ tinted g (n + a) back = tinted-append g n a front back front_len in
    let split_more : tinted g (n + a) (mid ++ post) ≡ tinted g (n + a) mid ++ tinted g (n + a + c) post = tinted-append g (n + a) c mid post mid_len in
    let at_front : tinted g n front ≡ front = tinted-none g n a front (omega arith) before in
    let at_post : tinted g (n + a + c) post ≡ post = tinted-none g (n + a + c) (length post) post (omega arith) (λ k _. after k) in
    let at_mid : tinted f 0 mid ≡ tinted g (n + a) mid =
    tinted-shift f g 0 (n + a) c mid (omega arith) (λ k h. let p : 0 + k ≡ k = omega arith in rw p (inside k h)) in
    let whole : front ++ back ≡ s = take-append-drop (3 * a) s in
    let whole_back : mid ++ post ≡ back = take-append-drop (3 * c) back in
    cc

pub tinted-write : (f g h : ℕ → Tint) (n a c at len : ℕ) (first s t : List ℕ) → at ≡ 3 * a → len ≡ 3 * c → s ≡ tinted g n first → 3 * (a + c) ≤ length first
    → t ≡ tinted f 0 (take len (drop at s))
    → ((k : ℕ) → k < c → IsSame (f k) (h (n + a + k))) → ((k : ℕ) → n + a ≤ k → k < n + a + c → (g k).weight ≡ 0)
    → ((k : ℕ) → n ≤ k → k < n + a → IsSame (g k) (h k)) → ((k : ℕ) → n + a + c ≤ k → IsSame (g k) (h k))
    → put_mid at len s t ≡ tinted h n first
tinted-write f g h n a c at len first s t at_is len_is was fits is inside free before after =
    let m : ℕ → Tint = only (n + a) (n + a + c) h in
    let count : length s ≡ length first = ap length was ∙ length-tinted g n first in
    let is_at : t ≡ tinted f 0 (take (3 * c) (drop (3 * a) s)) = rw (at_is, len_is) at is in
    let written : put_mid (3 * a) (3 * c) s t ≡ tinted m n s =
    tinted-part f m n a c s t (omega arith) is_at
    (λ k l. rw (only-inside (n + a) (n + a + c) h (n + a + k) (omega arith) (omega arith)) (inside k l))
    (λ k l. weightless (m (n + k)) (only-before (n + a) (n + a + c) h (n + k) (omega arith)))
    (λ k. weightless (m (n + a + c + k)) (only-after (n + a) (n + a + c) h (n + a + c + k) (omega arith))) in
    let joined : (k : ℕ) → n ≤ k → IsJoined (g k) (m k) (h k) =
    λ k l. ⊎_elim
    (λ low. inl (weightless (m k) (only-before (n + a) (n + a + c) h k low), before k l low))
    (λ from. ⊎_elim
    (λ inner. inr (free k from inner, inl (only-inside (n + a) (n + a + c) h k from inner)))
    (λ past. inl (weightless (m k) (only-after (n + a) (n + a + c) h k past), after k past))
    (cases_lt k (n + a + c)))
    (cases_lt k (n + a)) in
    rw (at_is, len_is) (written ∙ (ap (tinted m n) was ∙ tinted-tinted g m h n first joined))

-- one pixel
pub tinted-pixel : (tint : Tint) (s : List ℕ) (x y z : ℕ) → length s ≡ 3 → x ≡ blended (get_or s 0 0) tint.colour.r tint.weight
    → y ≡ blended (get_or (set s 0 x) 1 0) tint.colour.g tint.weight → z ≡ blended (get_or (set (set s 0 x) 1 y) 2 0) tint.colour.b tint.weight
    → set (set (set s 0 x) 1 y) 2 z ≡ tinted (λ _. tint) 0 s
tinted-pixel tint [] x y z len p q h = absurd (omega arith)
tinted-pixel tint (a ∷ []) x y z len p q h = absurd (omega arith)
tinted-pixel tint (a ∷ b ∷ []) x y z len p q h = absurd (omega arith)
tinted-pixel tint (a ∷ b ∷ c ∷ []) x y z len p q h = cons-same _ _ _ _ _ _ _ _ p q h refl
tinted-pixel tint (a ∷ b ∷ c ∷ d ∷ s) x y z len p q h = absurd (omega arith)

-- the tints of the numbers below i, and none from it on
abbrev pub below : ℕ → (ℕ → Tint) → ℕ → Tint
below i tint k = if nat_lt k i then tint k else no_tint

pub below-less : (i : ℕ) (tint : ℕ → Tint) (k : ℕ) → k < i → below i tint k ≡ tint k
below-less i tint k p = grind (arith, nat_tests)

pub below-past : (i : ℕ) (tint : ℕ → Tint) (k : ℕ) → i ≤ k → below i tint k ≡ no_tint
below-past i tint k p = grind (arith, nat_tests)

pub tinted-start : (tint : ℕ → Tint) (s : List ℕ) → s ≡ tinted (below 0 tint) 0 s
tinted-start tint s = sym (tinted-none (below 0 tint) 0 (length s) s (omega arith) (λ k l. weightless (below 0 tint (0 + k)) (below-past 0 tint (0 + k) (omega arith))))

pub tinted-end : (tint : ℕ → Tint) (c : ℕ) (s t : List ℕ) → length s ≡ 3 * c → t ≡ tinted (below c tint) 0 s → t ≡ tinted tint 0 s
tinted-end tint c s t len was = was ∙ tinted-shift (below c tint) tint 0 0 c s (omega arith) (λ k l. inl (below-less c tint (0 + k) (omega arith)))

-- so many more pixels
pub below-part : (f tint : ℕ → Tint) (i c at len : ℕ) (first s p : List ℕ) → at ≡ 3 * i → len ≡ 3 * c → s ≡ tinted (below i tint) 0 first → 3 * (i + c) ≤ length first
    → p ≡ tinted f 0 (take len (drop at s)) → ((k : ℕ) → k < c → f k ≡ tint (i + k)) → put_mid at len s p ≡ tinted (below (i + c) tint) 0 first
below-part f tint i c at len first s p at_is len_is was fits is same =
    tinted-write f (below i tint) (below (i + c) tint) 0 i c at len first s p at_is len_is was fits is
    (λ k l. let e : 0 + i + k ≡ i + k = omega arith in inl (rw e (same k l ∙ sym (below-less (i + c) tint (i + k) (omega arith)))))
    (λ k l m. weightless (below i tint k) (below-past i tint k (omega arith)))
    (λ k l m. inl (below-less i tint k (omega arith) ∙ sym (below-less (i + c) tint k (omega arith))))
    (λ k l. inl (below-past i tint k (omega arith) ∙ sym (below-past (i + c) tint k (omega arith))))

-- one more pixel
pub below-step : (tint : ℕ → Tint) (t : Tint) (i at len : ℕ) (first s p : List ℕ) → at ≡ 3 * i → len ≡ 3 * 1 → s ≡ tinted (below i tint) 0 first → 3 * (i + 1) ≤ length first
    → p ≡ tinted (λ _. t) 0 (take len (drop at s)) → t ≡ tint i → put_mid at len s p ≡ tinted (below (i + 1) tint) 0 first
below-step tint t i at len first s p at_is len_is was fits is same =
    below-part (λ _. t) tint i 1 at len first s p at_is len_is was fits is
    (λ k l. let e : i + k ≡ i = omega arith in rw e same)

-- a colour of the weight that its coverage gives
pub tint_of-weight : (colour : Rgba) (m weight : ℕ) → weight ≡ by_255 (m * (255 - colour.a)) → (let t : Tint = record { colour = colour; weight = weight } in t) ≡ tint_of colour m
tint_of-weight colour m weight e = ap (λ (k : ℕ). let t : Tint = record { colour = colour; weight = k } in t) e

pub tint_of-none : (colour : Rgba) (m : ℕ) → m ≡ 0 → (tint_of colour m).weight ≡ 0
tint_of-none colour m e = rw e (let h : by_255 (0 * (255 - colour.a)) ≡ 0 = omega arith in h)

pub by_255-none : (m k : ℕ) → m ≡ 0 → by_255 (m * k) ≡ 0
by_255-none m k e = rw e (omega arith)
