-- A key is put into the map and the list.
use Rattle.std.proofs.Common.{◌≡◌, ℕ, ◌+◌, ◌-◌, ◌<◌, ◌≤◌, Bool, nat_eq, List, [], ◌∷◌, ◌++◌, ◌^◌, slice_get, length, take, Option, Some, None, refl, sym, ap, ◌∙◌, subst, arith}
use Rattle.std.specs.Cmp.{IsEquivalence, nat_eq_equiv}
use Rattle.std.specs.List.{IsDistinct}
use Rattle.std.specs.Map.{lookup, lookup_entry, remove_entry, keys_of}
use Rattle.std.specs.Option.{option_map, option_map_or}
use Rattle.std.proofs.lemmas.List.{take_all}
use Rattle.std.proofs.Math.Seq.{take-append_seam}
use Rattle.indexmap.specs.IndexMap.{IndexMap, insert_entry}
use Rattle.indexmap.proofs.CallerLemmas.{insert_entry-new}
use Rattle.lru.specs.LruCache.{LruCache, put_entries}
use Rattle.evict_core.specs.Places.{shown, Ties}
use Rattle.evict_core.proofs.RecencyLemmas.{lookup-entry}
use Rattle.evict_core.proofs.TieLemmas.{missing-in-map, ties-pushed, shown-pushed, push-new}

put-fresh : {P : Type 0} (c : LruCache ℕ P) (n : ℕ) (p : P) → lookup (nat_eq n) c.entries ≡ None → length c.entries ≤ c.cap - 1 → put_entries nat_eq c n p ≡ (n, p) ∷ c.entries
put-fresh {P} c n p none fits = by (lookup_entry (nat_eq n) c.entries) refl
  where
    by : (r : Option (ℕ × P)) → lookup_entry (nat_eq n) c.entries ≡ r → option_map_or (λ e. (e.0, p) ∷ remove_entry (nat_eq n) c.entries) r ((n, p) ∷ take (c.cap - 1) c.entries) ≡ (n, p) ∷ c.entries
    by None h = ap (λ l. (n, p) ∷ l) (take_all (c.cap - 1) c.entries fits)
    by (Some e) h = let wrong : None ≡ Some e.1 = sym none ∙ (lookup-entry nat_eq nat_eq_equiv n c.entries ∙ ap (option_map (λ x. x.1)) h) in cc

module _ {K P X S : Type 0} (index : P → ℕ) (view : P → X) (eq : K → K → Bool) (laws : IsEquivalence eq) (m : IndexMap K ℕ S) (c : LruCache ℕ P) (next : ℕ) (tied : Ties index eq m.entries c.entries next)
    (k : K) (missing : lookup (eq k) (shown index view m.entries c.entries) ≡ None) (es' : List (K × ℕ)) (inserted : es' ≡ insert_entry eq m.entries k next) where
  pushed : es' ≡ m.entries ++ (k, next) ∷ []
  pushed = inserted ∙ insert_entry-new eq m k next (missing-in-map index view eq laws m.entries c.entries next tied k missing)

  -- cut back, the map has its old entries
  pub undone : (n : ℕ) → n ≡ length m.entries → take n es' ≡ m.entries
  undone n len = ap (λ l. take n l) pushed ∙ (ap (λ i. take i (m.entries ++ (k, next) ∷ [])) len ∙ take-append_seam m.entries ((k, next) ∷ []))

  module _ (x : P) (at : index x ≡ length m.entries) (distinct : IsDistinct eq (keys_of es')) (fits : length c.entries < 2 ^ 63) (cap : c.cap ≡ 18446744073709551615) (os' : List (ℕ × P)) (put : os' ≡ put_entries nat_eq c next x) where
    ties-new : Ties index eq (m.entries ++ (k, next) ∷ []) ((next, x) ∷ c.entries) (next + 1)
    ties-new = ties-pushed index view eq laws m.entries c.entries next tied k x at (subst (λ l. IsDistinct eq (keys_of l)) pushed distinct)

    is-first : os' ≡ (next, x) ∷ c.entries
    is-first = put ∙ put-fresh c next x ties-new.numbers.0 (rw cap (omega arith))

    pub ties-put : Ties index eq es' os' (next + 1)
    ties-put = subst (λ l. Ties index eq l os' (next + 1)) (sym pushed) (subst (λ l. Ties index eq (m.entries ++ (k, next) ∷ []) l (next + 1)) (sym is-first) ties-new)

    pub shown-put : shown index view es' os' ≡ (k, view x) ∷ shown index view m.entries c.entries
    shown-put =
        let here : slice_get (m.entries ++ (k, next) ∷ []) (index x) ≡ Some (k, next) = ap (λ i. slice_get (m.entries ++ (k, next) ∷ []) i) at ∙ push-new m.entries (k, next) in
        ap (λ l. shown index view l os') pushed ∙ (ap (λ l. shown index view (m.entries ++ (k, next) ∷ []) l) is-first
        ∙ rw (here, shown-pushed index view eq laws m.entries c.entries next tied k))
