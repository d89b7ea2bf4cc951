-- Images drawn one after the other.
use Rattle.std.proofs.Common.{◌≡◌, ◌+◌, ◌<◌, ℕ, zero, suc, List, [], ◌∷◌, length, map, take, get_or, ap, ◌∙◌, add-one, arith}
use Rattle.blend.specs.Bands.{painted_all}
use Rattle.blend.specs.Blending.{Image, painted}

-- one image more
drawn-next : {A : Type 0} (f : A → Image) (xs : List A) (i w n : ℕ) (x : A) (first before after : List ℕ) → i < length xs → x ≡ get_or xs i x → before ≡ painted_all (map f (take i xs)) w n first
    → after ≡ painted (f x) w n before → after ≡ painted_all (map f (take (suc i) xs)) w n first
drawn-next f [] i w n x first before after below is so step = absurd (omega arith)
drawn-next f (y ∷ ys) zero w n x first before after below is so step = step ∙ (ap (painted (f x) w n) so ∙ ap (λ z. painted (f z) w n first) is)
drawn-next f (y ∷ ys) (suc i) w n x first before after below is so step = drawn-next f ys i w n x (painted (f y) w n first) before after (omega arith) is so step

pub drawn-more : {A : Type 0} (f : A → Image) (xs : List A) (i w n : ℕ) (x : A) (first before after : List ℕ) → i < length xs → x ≡ get_or xs i x → before ≡ painted_all (map f (take i xs)) w n first
    → after ≡ painted (f x) w n before → after ≡ painted_all (map f (take (i + 1) xs)) w n first
drawn-more f xs i w n x first before after below is so step = rw add-one (drawn-next f xs i w n x first before after below is so step)
