-- What a step makes of a world whose track, caches or looks it changed.
use Rattle.std.proofs.Common.{◌≡◌, ℕ, ℤ, List, length, Some, Result, Ok, Err, refl, sym, ap, ◌∙◌, subst}
use Rattle.std.specs.Arc.{arc_value}
use Rattle.std.specs.BTreeMap.{BTreeMap, Updates}
use Rattle.std.specs.Ordering.{nat_cmp}
use Rattle.std.specs.Result.{IfOk, OnErr}
use Rattle.ass_events.specs.Histories.{Entry}
use Rattle.ass_num.specs.declared.memory.OutOfMemory.{OutOfMemory}
use Rattle.ass_num.specs.declared.size.Size.{Size}
use Rattle.track_history.specs.declared.live_events.LiveEvents.{LiveEvents}
use Rattle.track_history.specs.Tellings.{IsSound, Tells}
use Rattle.world_core.specs.Caches.{ActorCachesView, asked}
use Rattle.world_core.specs.Keys.{equal_world_keys}
use Rattle.world_core.specs.Made.{IsMadeBy}
use Rattle.world_core.specs.Replies.{IsAskReply}
use Rattle.world_core.specs.States.{WorldState, with_look}
use Rattle.world_core.specs.Steps.{held_key}
use Rattle.world_core.specs.Tellings.{AreWorldCaches, TellsLook, TellsWorld, WorldTag}
use Rattle.world_core.specs.declared.world_keys.WorldKey.{WorldKey}
use Rattle.world_core.specs.declared.world_keys.WorldValue.{WorldValue}
use Rattle.world_core.specs.declared.looking.ActorLook.{ActorLook}
use Rattle.world_core.specs.declared.steps.Reply.{Reply}
use Rattle.world_core.specs.declared.steps.Reply.TheVariants.{Looked}
use Rattle.world_core.specs.declared.world.World.{World}
use Rattle.world_core.proofs.Looks.{looks-put, looks-unchanged}

module _ (old : World) where
  -- the caches as they are
  pub caches-of : (s : WorldState WorldTag) → TellsWorld old s → AreWorldCaches old.fonts old.caches
  caches-of s t = subst (AreWorldCaches old.fonts) (sym t.caches) t.shards

  -- nothing was changed
  pub made-nothing : (after : WorldState WorldTag → WorldState WorldTag) (A : WorldState WorldTag → Reply → Type 0) (e : OutOfMemory) → IsMadeBy after A old old (Err e)
  made-nothing after A e = record { script = refl; fonts = refl; ok = λ s t. tt; err = λ s t. t }

  pub made-refused : (after : WorldState WorldTag → WorldState WorldTag) (A : WorldState WorldTag → Reply → Type 0) (result : Result Reply OutOfMemory) (e : OutOfMemory) → result ≡ Err e → IsMadeBy after A old old result
  made-refused after A result e is = rw is (made-nothing after A e)

  pub made-answer : (A : WorldState WorldTag → Reply → Type 0) (result : Result Reply OutOfMemory) → ((s : WorldState WorldTag) → TellsWorld old s → IfOk result (λ r. A s r)) → IsMadeBy (λ s. s) A old old result
  made-answer A (Ok r) answer = record { script = refl; fonts = refl; ok = λ s t. (t, answer s t); err = λ s t. tt }
  made-answer A (Err e) answer = record { script = refl; fonts = refl; ok = λ s t. tt; err = λ s t. t }

  -- the caches were
  module _ (after : ActorCachesView WorldKey WorldValue WorldTag) (f : ActorCachesView WorldKey WorldValue WorldTag → ActorCachesView WorldKey WorldValue WorldTag) (A : ActorCachesView WorldKey WorldValue WorldTag → Reply → Type 0) where
    abbrev changed : World
    changed = record old { caches = after }

    tells-caches : (s : WorldState WorldTag) (caches : ActorCachesView WorldKey WorldValue WorldTag) → TellsWorld old s → after ≡ caches → AreWorldCaches old.fonts caches → TellsWorld changed (record s { caches = caches })
    tells-caches s caches t is are = record { script = t.script; fonts = t.fonts; sound = t.sound; history = t.history; caches = is; shards = are; looks = t.looks }

    pub made-caches : (result : Result Reply OutOfMemory) → AreWorldCaches old.fonts after → OnErr result (after ≡ old.caches) → IfOk result (λ _. after ≡ f old.caches) → IfOk result (λ r. A old.caches r)
        → IsMadeBy (λ s. record s { caches = f s.caches }) (λ s r. A s.caches r) old changed result
    made-caches (Ok r) are err state reply = record {
      script = refl;
      fonts = refl;
      ok = λ s t.
          let is : after ≡ f s.caches = state ∙ ap f t.caches in
          (tells-caches s (f s.caches) t is (subst (AreWorldCaches old.fonts) is are), subst (λ (c : ActorCachesView WorldKey WorldValue WorldTag). A c r) t.caches reply);
      err = λ s t. tt;
    }
    made-caches (Err e) are err state reply = record {
      script = refl;
      fonts = refl;
      ok = λ s t. tt;
      err = λ s t. tells-caches s s.caches t (err ∙ t.caches) t.shards;
    }

  -- the track was
  module _ (after : LiveEvents) (f : List Entry → List Entry) (A : List Entry → Reply → Type 0) where
    tells-track : (s : WorldState WorldTag) (history : List Entry) → TellsWorld old s → IsSound after → Tells after history → TellsWorld (record old { track = after }) (record s { history = history })
    tells-track s history t sound tells = record { script = t.script; fonts = t.fonts; sound = sound; history = tells; caches = t.caches; shards = t.shards; looks = t.looks }

    pub made-track : (result : Result Reply OutOfMemory) → IsSound after → ((history : List Entry) → Tells old.track history → OnErr result (Tells after history))
        → ((history : List Entry) → Tells old.track history → IfOk result (λ _. Tells after (f history))) → ((history : List Entry) → Tells old.track history → IfOk result (λ r. A history r))
        → IsMadeBy (λ s. record s { history = f s.history }) (λ s r. A s.history r) old (record old { track = after }) result
    made-track (Ok r) sound err state reply = record {
      script = refl;
      fonts = refl;
      ok = λ s t. (tells-track s (f s.history) t sound (state s.history t.history), reply s.history t.history);
      err = λ s t. tt;
    }
    made-track (Err e) sound err state reply = record { script = refl; fonts = refl; ok = λ s t. tt; err = λ s t. tells-track s s.history t sound (err s.history t.history) }

  -- the looks were
  module _ (after : BTreeMap ℕ ActorLook) (actor : ℕ) (instant : ℤ) (size : Size) where
    abbrev LooksPut : WorldState WorldTag → WorldState WorldTag
    LooksPut s = record s { looks = with_look actor (record { history = s.history; instant = instant; size = size }) s.looks }

    pub made-looks : (kept : ActorLook) (n : ℕ)
        → ((history : List Entry) → Tells old.track history → TellsLook (arc_value old.script) (arc_value old.fonts).fonts kept (record { history = history; instant = instant; size = size }))
        → ((history : List Entry) → Tells old.track history → n ≡ length history) → Updates nat_cmp old.looks after actor (Some kept)
        → IsMadeBy (λ s. record s { looks = with_look actor (record { history = s.history; instant = instant; size = size }) s.looks }) (λ s r. r ≡ Looked (length s.history)) old (record old { looks = after }) (Ok (Looked n))
    made-looks kept n tells seen put = record {
      script = refl;
      fonts = refl;
      ok = λ s t. (
        record {
          script = t.script;
          fonts = t.fonts;
          sound = t.sound;
          history = t.history;
          caches = t.caches;
          shards = t.shards;
          looks = looks-put (arc_value old.script) (arc_value old.fonts).fonts old.looks after s.looks t.looks actor kept (record { history = s.history; instant = instant; size = size }) (tells s.history t.history) put;
        },
        ap Looked (seen s.history t.history),
      );
      err = λ s t. tt;
    }

    no-look : (f : WorldState WorldTag → WorldState WorldTag) (A : WorldState WorldTag → Reply → Type 0) (e : OutOfMemory) → after.entries ≡ old.looks.entries → IsMadeBy f A old (record old { looks = after }) (Err e)
    no-look f A e same = record {
      script = refl;
      fonts = refl;
      ok = λ s t. tt;
      err = λ s t. record {
        script = t.script;
        fonts = t.fonts;
        sound = t.sound;
        history = t.history;
        caches = t.caches;
        shards = t.shards;
        looks = looks-unchanged (arc_value old.script) (arc_value old.fonts).fonts old.looks after s.looks t.looks same;
      };
    }

    pub made-no_look : (f : WorldState WorldTag → WorldState WorldTag) (A : WorldState WorldTag → Reply → Type 0) (result : Result Reply OutOfMemory) (e : OutOfMemory) → result ≡ Err e → after.entries ≡ old.looks.entries
        → IsMadeBy f A old (record old { looks = after }) result
    made-no_look f A result e is same = rw is (no-look f A e same)

-- an ask for a key, under its name
abbrev pub IsAsked : ℕ → WorldKey → World → World → Result Reply OutOfMemory → Type 0
IsAsked actor key old new result = IsMadeBy (λ s. record s { caches = asked equal_world_keys (held_key actor key) s.caches }) (λ s r. IsAskReply s.caches actor key r) old new result

pub asked-same : (actor : ℕ) (a b : WorldKey) (old new : World) (result : Result Reply OutOfMemory) → a ≡ b → IsAsked actor a old new result → IsAsked actor b old new result
asked-same actor a b old new result same asked = subst (λ (k : WorldKey). IsAsked actor k old new result) same asked
