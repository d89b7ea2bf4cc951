-- The looks that are kept, and what they show.
use Rattle.std.proofs.Common.{◌≡◌, ℕ, Bool, true, false, cond, ◌==◌, nat_lt, List, Less, Equal, Greater, Option, Some, None, Result, refl, sym, ap, ◌∙◌, subst, arith}
use Rattle.std.specs.Arc.{arc_value}
use Rattle.std.specs.List.{All}
use Rattle.std.specs.Result.{IfOk}
use Rattle.std.specs.BTreeMap.{BTreeMap, get, is_at, IsEmpty, Updates}
use Rattle.std.specs.Map.{lookup}
use Rattle.std.specs.Ordering.{nat_cmp, is_eq}
use Rattle.std.proofs.lemmas.Bool.{ltb-true, ne_eqb}
use Rattle.ass_num.specs.Limits.{IsFrameSize}
use Rattle.ass_num.specs.declared.size.Size.{Size}
use Rattle.ass_script.specs.Scripts.{ScriptValue}
use Rattle.bdf_font.specs.Fonts.{FontValue}
use Rattle.mask_keys.specs.Pictures.{picture}
use Rattle.world_core.specs.Caches.{ActorCachesView}
use Rattle.world_core.specs.Keys.{world_meaning}
use Rattle.world_core.specs.Laws.{KeepsLaws}
use Rattle.world_core.specs.Replies.{HoldsAll, KeepsDraw, IsLookReply, IsMaskLacking, IsPictureShown, IsShowReply}
use Rattle.world_core.specs.States.{LookState, with_look}
use Rattle.world_core.specs.Tellings.{AreWorldCaches, TellsLastLook, TellsLook, WorldTag}
use Rattle.world_core.specs.declared.world_keys.WorldKey.{WorldKey}
use Rattle.world_core.specs.declared.world_keys.WorldValue.{WorldValue}
use Rattle.world_core.specs.declared.looking.ActorLook.{ActorLook}
use Rattle.world_core.specs.declared.steps.Reply.{Reply}
use Rattle.world_core.specs.declared.steps.Reply.TheVariants.{Idle}
use Rattle.world_core.proofs.Standing.{kept-draws}

is-same : (b : Bool) → is_eq (cond b Equal Greater) ≡ b
is-same true = refl
is-same false = refl

at-test : (k q : ℕ) → is_at (nat_cmp k) q ≡ (k == q)
at-test k q = (elim (nat_lt k q) as (λ b. nat_lt k q ≡ b → is_eq (cond b Less (cond (k == q) Equal Greater)) ≡ (k == q)) [
  | true ↦ λ t. sym (ne_eqb k q (λ e. omega (arith, ltb-true k q t, e)))
  | false ↦ λ t. is-same (k == q)
]) refl

-- nobody looked yet
pub no-looks : (script : ScriptValue) (fonts : List FontValue) (looks : BTreeMap ℕ ActorLook) → IsEmpty looks → (actor : ℕ) → TellsLastLook script fonts (get nat_cmp looks actor) None
no-looks script fonts looks empty actor =
    let none : get nat_cmp looks actor ≡ None = ap (λ (es : List (ℕ × ActorLook)). lookup (is_at (nat_cmp actor)) es) empty in
    subst (λ (o : Option ActorLook). TellsLastLook script fonts o None) (sym none) tt

module _ (script : ScriptValue) (fonts : List FontValue) (old new : BTreeMap ℕ ActorLook) (looks : ℕ → Option LookState) (told : (actor : ℕ) → TellsLastLook script fonts (get nat_cmp old actor) (looks actor)) where
  -- with a look in place of the actor's before
  pub looks-put : (actor : ℕ) (kept : ActorLook) (look : LookState) → TellsLook script fonts kept look → Updates nat_cmp old new actor (Some kept)
      → (other : ℕ) → TellsLastLook script fonts (get nat_cmp new other) (with_look actor look looks other)
  looks-put actor kept look tells put other =
      let is : get nat_cmp new other ≡ cond (actor == other) (Some kept) (get nat_cmp old other) = put.0 other ∙ ap (λ (b : Bool). cond b (Some kept) (get nat_cmp old other)) (at-test actor other) in
      subst (λ (o : Option ActorLook). TellsLastLook script fonts o (with_look actor look looks other)) (sym is) (by (actor == other))
    where
      by : (b : Bool) → TellsLastLook script fonts (cond b (Some kept) (get nat_cmp old other)) (cond b (Some look) (looks other))
      by true = tells
      by false = told other

  pub looks-unchanged : new.entries ≡ old.entries → (other : ℕ) → TellsLastLook script fonts (get nat_cmp new other) (looks other)
  looks-unchanged same other =
      let is : get nat_cmp new other ≡ get nat_cmp old other = ap (λ (es : List (ℕ × ActorLook)). lookup (is_at (nat_cmp other)) es) same in
      subst (λ (o : Option ActorLook). TellsLastLook script fonts o (looks other)) (sym is) (told other)

module _ (script : ScriptValue) (fonts : List FontValue) (caches : ActorCachesView WorldKey WorldValue WorldTag) (actor : ℕ) where
  -- a look that isn't there is shown as nothing
  pub shows-none : (o : Option ActorLook) (look : Option LookState) → o ≡ None → TellsLastLook script fonts o look → IsShowReply script fonts caches actor look Idle
  shows-none None None is told = refl
  shows-none None (Some look) is told = absurd told
  shows-none (Some kept) look is told = cc

  -- the last look is shown as it was seen
  pub shows-look : {E : Type 0} (o : Option ActorLook) (look : Option LookState) (kept : ActorLook) (result : Result Reply E) → o ≡ Some kept → TellsLastLook script fonts o look
      → ((seen : LookState) → TellsLook script fonts kept seen → IfOk result (λ r. IsLookReply script fonts caches actor seen r)) → IfOk result (λ r. IsShowReply script fonts caches actor look r)
  shows-look None look kept result is told shown = cc
  shows-look (Some found) None kept result is told shown = absurd told
  shows-look (Some found) (Some look) kept result is told shown = let same : found ≡ kept = cc in shown look (subst (λ (k : ActorLook). TellsLook script fonts k look) same told)

-- its frame has a size
pub last-frame : (script : ScriptValue) (fonts : List FontValue) (o : Option ActorLook) (look : Option LookState) (kept : ActorLook) → o ≡ Some kept → TellsLastLook script fonts o look → IsFrameSize kept.size
last-frame script fonts None look kept is told = cc
last-frame script fonts (Some found) None kept is told = absurd told
last-frame script fonts (Some found) (Some look) kept is told =
    let same : found ≡ kept = cc in let t : TellsLook script fonts kept look = subst (λ (k : ActorLook). TellsLook script fonts k look) same told in subst IsFrameSize (sym t.size) t.frame

module _ (script : ScriptValue) (fonts : WorldTag) (caches now : ActorCachesView WorldKey WorldValue WorldTag) (same : caches ≡ now) (actor : ℕ) (kept : ActorLook) (seen : LookState) (tells : TellsLook script (arc_value fonts).fonts kept seen) where
  -- the pixels of masks that are held
  pub look-shown : (bytes : List ℕ) → AreWorldCaches fonts caches → KeepsLaws world_meaning caches → HoldsAll caches actor kept.plan.draws → bytes ≡ (picture (arc_value caches.tag).fonts kept.size kept.plan.draws).bytes
      → IsPictureShown script (arc_value fonts).fonts now actor seen kept.n bytes
  look-shown bytes are laws holds is = record {
    draws = kept.plan.draws;
    are_draws = tells.draws;
    held = subst (λ (c : ActorCachesView WorldKey WorldValue WorldTag). HoldsAll c actor kept.plan.draws) same holds;
    kept =
        subst (λ (c : ActorCachesView WorldKey WorldValue WorldTag). All (KeepsDraw (arc_value fonts).fonts c) kept.plan.draws) same
        (subst (λ (tag : WorldTag). All (KeepsDraw (arc_value tag).fonts caches) kept.plan.draws) are.tag (kept-draws caches laws actor kept.plan.draws holds));
    seen_is = tells.n;
    bytes_are =
        is
        ∙ (ap (λ (tag : WorldTag). (picture (arc_value tag).fonts kept.size kept.plan.draws).bytes) are.tag
        ∙ ap (λ (z : Size). (picture (arc_value fonts).fonts z kept.plan.draws).bytes) tells.size);
  }

  -- a mask that isn't
  pub look-lacking : (HoldsAll caches actor kept.plan.draws → ⊥) → IsMaskLacking script (arc_value fonts).fonts now actor seen
  look-lacking lacks = record { draws = kept.plan.draws; are_draws = tells.draws; lacks = subst (λ (c : ActorCachesView WorldKey WorldValue WorldTag). HoldsAll c actor kept.plan.draws → ⊥) same lacks }
