-- Tints one after the other, of which at most one has a weight at each pixel.
use Rattle.std.proofs.Common.{◌≡◌, ℕ, ◌+◌, ◌-◌, ◌*◌, ◌<◌, ◌≤◌, ◌⊎◌, List, [], ◌∷◌, length, refl, sym, ap, ◌∙◌, inl, inr, arith}
use Rattle.ass_num.specs.declared.colour.Rgba.{Rgba}
use Rattle.blend.specs.Blending.{Tint, blended, tinted}
use Rattle.blend.proofs.TintedLemmas.{IsSame, blended-clear, blended-same, cons-same}

-- None of these tints has a weight.
abbrev pub AreClear : {P : Type 0} → (P → Tint) → List P → Type 0
AreClear tint [] = Unit {0}
AreClear tint (p ∷ ps) = ((tint p).weight ≡ 0) × AreClear tint ps

-- The tint v does what these do, of which at most one has a weight.
abbrev pub AreJoined : {P : Type 0} → (P → Tint) → List P → Tint → Type 0
AreJoined tint [] v = v.weight ≡ 0
AreJoined tint (p ∷ ps) v = (((tint p).weight ≡ 0) × AreJoined tint ps v) ⊎ (IsSame (tint p) v × AreClear tint ps)

-- the bytes of pixels under tints one after the other
abbrev pub tinted_all : {P : Type 0} → (P → ℕ → Tint) → List P → ℕ → List ℕ → List ℕ
tinted_all tint [] n s = s
tinted_all tint (p ∷ ps) n s = tinted_all tint ps n (tinted (tint p) n s)

-- a channel under tints one after the other
abbrev blended_all : {P : Type 0} → (P → Tint) → (Rgba → ℕ) → List P → ℕ → ℕ
blended_all tint channel [] d = d
blended_all tint channel (p ∷ ps) d = blended_all tint channel ps (blended d (channel (tint p).colour) (tint p).weight)

all_clear : {P : Type 0} → (tint : P → Tint) (channel : Rgba → ℕ) (ps : List P) (d : ℕ) → AreClear tint ps → blended_all tint channel ps d ≡ d
all_clear tint channel [] d h = refl
all_clear tint channel (p ∷ ps) d h = ap (blended_all tint channel ps) (blended-clear (tint p) channel d h.0) ∙ all_clear tint channel ps d h.1

all_joined : {P : Type 0} → (tint : P → Tint) (channel : Rgba → ℕ) (ps : List P) (v : Tint) (d : ℕ) → AreJoined tint ps v
    → blended_all tint channel ps d ≡ blended d (channel v.colour) v.weight
all_joined tint channel [] v d h = sym (blended-clear v channel d h)
all_joined tint channel (p ∷ ps) v d (inl h) = ap (blended_all tint channel ps) (blended-clear (tint p) channel d h.0) ∙ all_joined tint channel ps v d h.1
all_joined tint channel (p ∷ ps) v d (inr h) =
    all_clear tint channel ps (blended d (channel (tint p).colour) (tint p).weight) h.1 ∙ blended-same (tint p) v channel d h.0

-- pixel by pixel
none_of : {P : Type 0} → (tint : P → ℕ → Tint) (ps : List P) (n : ℕ) → tinted_all tint ps n [] ≡ []
none_of tint [] n = refl
none_of tint (p ∷ ps) n = none_of tint ps n

one_of : {P : Type 0} → (tint : P → ℕ → Tint) (ps : List P) (n a : ℕ) → tinted_all tint ps n (a ∷ []) ≡ a ∷ []
one_of tint [] n a = refl
one_of tint (p ∷ ps) n a = one_of tint ps n a

two_of : {P : Type 0} → (tint : P → ℕ → Tint) (ps : List P) (n a b : ℕ) → tinted_all tint ps n (a ∷ b ∷ []) ≡ a ∷ b ∷ []
two_of tint [] n a b = refl
two_of tint (p ∷ ps) n a b = two_of tint ps n a b

first_of : {P : Type 0} → (tint : P → ℕ → Tint) (ps : List P) (n r g b : ℕ) (s : List ℕ) → tinted_all tint ps n (r ∷ g ∷ b ∷ s)
    ≡ blended_all (λ p. tint p n) (λ (c : Rgba). c.r) ps r ∷ blended_all (λ p. tint p n) (λ (c : Rgba). c.g) ps g
    ∷ blended_all (λ p. tint p n) (λ (c : Rgba). c.b) ps b ∷ tinted_all tint ps (n + 1) s
first_of tint [] n r g b s = refl
first_of tint (p ∷ ps) n r g b s = first_of tint ps n _ _ _ (tinted (tint p) (n + 1) s)

-- Where at each of c pixels v does what these tints do, drawing with v is drawing with them one after the other.
pub tinted_all-joined : {P : Type 0} → (tint : P → ℕ → Tint) (ps : List P) (v : ℕ → Tint) (n c : ℕ) (s : List ℕ) → length s ≤ 3 * c
    → ((k : ℕ) → k < c → AreJoined (λ p. tint p (n + k)) ps (v (n + k))) → tinted_all tint ps n s ≡ tinted v n s
tinted_all-joined tint ps v n c [] few joined = none_of tint ps n
tinted_all-joined tint ps v n c (a ∷ []) few joined = one_of tint ps n a
tinted_all-joined tint ps v n c (a ∷ b ∷ []) few joined = two_of tint ps n a b
tinted_all-joined tint ps v n c (r ∷ w ∷ b ∷ s) few joined =
    let here : AreJoined (λ p. tint p n) ps (v n) = let e : n + 0 ≡ n = omega arith in rw e at (joined 0 (omega arith)) in
    let rest : (k : ℕ) → k < c - 1 → AreJoined (λ p. tint p (n + 1 + k)) ps (v (n + 1 + k)) =
    λ k h. let e : n + (k + 1) ≡ n + 1 + k = omega arith in rw e at (joined (k + 1) (omega arith)) in
    first_of tint ps n r w b s
    ∙ cons-same _ _ _ _ _ _ _ _
    (all_joined (λ p. tint p n) (λ (c : Rgba). c.r) ps (v n) r here)
    (all_joined (λ p. tint p n) (λ (c : Rgba). c.g) ps (v n) w here)
    (all_joined (λ p. tint p n) (λ (c : Rgba). c.b) ps (v n) b here)
    (tinted_all-joined tint ps v (n + 1) (c - 1) s (omega arith) rest)
