-- Whoever waits for what another makes seeks less than that one does, if it waits too.
use Rattle.std.proofs.Common.{◌≡◌, ℕ, ◌+◌, ◌<◌, true, false, List, [], ◌∷◌, ◌++◌, All, sym, ◌∙◌, arith}
use Rattle.std.proofs.lemmas.List.Elements.{All-append, All-cons, All-head, All-nil, All-tail}
use Rattle.cache_kinds.specs.Kinds.{region_rank}
use Rattle.mask_caches.specs.Waiting.{ForComposite, ForMask, ForRegion, IsChain, Makes, MayWait, NoRing, Sought, Waiter}
use Rattle.mask_caches.specs.declared.caches.Caches.{Caches}
use Rattle.mask_caches.specs.declared.passes.CachesPass.{CachesPass}
use Rattle.mask_caches.proofs.Visiting.{false-true}

-- composed masks, then masks, then widened regions, then outlines
abbrev level : Sought → ℕ
level (ForComposite key) = 0
level (ForMask key) = 1
level (ForRegion key) = 2 + region_rank key

-- a step up, by cases of what the maker seeks and of what it makes
up : (caches : Caches) (pass : CachesPass) (seeks made : Sought) → MayWait caches pass seeks → Makes caches pass made → level made < level seeks
up caches pass (ForComposite key) (ForComposite k) may makes = absurd (false-true (sym (may.composites k) ∙ makes))
up caches pass (ForComposite key) (ForMask k) may makes = absurd (false-true (sym (may.masks k) ∙ makes))
up caches pass (ForComposite key) (ForRegion k) may makes = absurd (false-true (sym (may.regions k) ∙ makes))
up caches pass (ForMask key) (ForComposite k) may makes = omega arith
up caches pass (ForMask key) (ForMask k) may makes = absurd (false-true (sym (may.0 k) ∙ makes))
up caches pass (ForMask key) (ForRegion k) may makes = absurd (false-true (sym (may.1 k) ∙ makes))
up caches pass (ForRegion key) (ForComposite k) may makes = omega arith
up caches pass (ForRegion key) (ForMask k) may makes = omega arith
up caches pass (ForRegion key) (ForRegion k) may makes = let lower : region_rank k < region_rank key = may k makes in omega (arith, lower)

module _ (caches : Caches) where
  abbrev Waits : Waiter → Type 0
  Waits v = MayWait caches v.pass v.sought

  -- so the last of a chain seeks more than the first
  rising : (w : Waiter) (between : List Waiter) (last : Waiter) → All Waits (between ++ last ∷ []) → IsChain caches w (between ++ last ∷ []) → level w.sought < level last.sought
  rising w [] last may chain = up caches last.pass last.sought w.sought (All-head Waits last [] may) chain.0
  rising w (next ∷ later) last may chain =
      let here = up caches next.pass next.sought w.sought (All-head Waits next (later ++ last ∷ []) may) chain.0 in
      let behind = rising next later last (All-tail Waits next (later ++ last ∷ []) may) chain.1 in
      omega (arith, here, behind)

pub no-ring : NoRing
no-ring caches w others may chain =
    let waits = Waits caches in
    let all = All-append waits others (w ∷ []) (All-tail waits w others may) (All-cons waits w [] (All-head waits w others may) (All-nil waits)) in
    absurd (omega (arith, rising caches w others w all chain))
