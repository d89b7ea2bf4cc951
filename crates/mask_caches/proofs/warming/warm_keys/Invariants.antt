use Rattle.std.proofs.Common.{◌≡◌, take}
use Rattle.mask_caches.specs.Caches.{IsPassOf}
use Rattle.mask_caches.specs.Keeping.{unkept_in}
use Rattle.mask_caches.proofs.KeysWarmed.{WereWarmed}
use Rattle.mask_caches.proofs.warming.warm_keys.Given as goal

abbrev pub invariant-loop-key : goal.invariant-loop-key
invariant-loop-key g l = record {
  of : IsPassOf l.caches l.pass;
  count : l.count ≡ l.key-index;
  unkept : l.unkept ≡ unkept_in l.caches.composites.tag l.budgets (take l.key-index l.keys);
  were : WereWarmed l.caches l.fn.pass (take l.key-index l.keys) l.pass;
}
