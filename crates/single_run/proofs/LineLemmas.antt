-- From what two pictures are to the line on them, and from lines to a report.
use Rattle.std.proofs.Common.{◌≡◌, ◌↔◌, ℕ, ◌+◌, pos, List, [], ◌++◌, Option, Some, None, ap, refl, sym, subst, arith}
use Rattle.std.specs.Prelude.{IfSome}
use Rattle.ass_num.specs.declared.size.Size.{Size}
use Rattle.ass_events.specs.declared.event.Event.{Event}
use Rattle.ass_script.specs.Scripts.{ScriptValue}
use Rattle.bdf_font.specs.Fonts.{FontValue}
use Rattle.frame_change.specs.Changes.{DiffersAt, HasChanges, IsChange, IsLeastChanged}
use Rattle.frame_change.specs.declared.kinds.ChangeKind.{ChangeKind}
use Rattle.frame_change.specs.declared.kinds.ChangeKind.TheVariants.{Same, Moved, Other}
use Rattle.frame_change.specs.declared.pixels.Changed.{Changed}
use Rattle.mask_keys.specs.declared.plans.Draw.{Draw}
use Rattle.mask_keys.specs.declared.plans.Plan.{Plan}
use Rattle.mask_keys.specs.Pictures.{picture}
use Rattle.frame_view.specs.declared.view.FrameView.{FrameView}
use Rattle.picture_plan.specs.Pictures.{AreDraws}
use Rattle.frame_rate.specs.Instants.{rated_instant}
use Rattle.single_run.specs.Laws.{SameDrawsChangeNothing}
use Rattle.single_run.specs.Lines.{change_line}
use Rattle.single_run.specs.ChangeReports.{AreChangeLines, IsChangeFound, IsChangeLine, IsChangedBox, NextLine, NoLine, plan_of}
use Rattle.single_run.specs.declared.screen.ScreenChange.{ScreenChange}
use Rattle.frame_rate.specs.declared.instants.Instants.{Instants}

of_draws : (kind : ChangeKind) (before now : Plan) → IsChange kind before now → IsChange kind (plan_of before.draws) (plan_of now.draws)
of_draws Same before now h = h
of_draws Moved before now h = h
of_draws Other before now h = h

boxed : (size : Size) (a b : List ℕ) (box : Option Changed) → (box ≡ None) ↔ (a ≡ b) → IfSome box (IsLeastChanged size a b) → IsChangedBox size a b box
boxed size a b None none some = none.0 refl
boxed size a b (Some box) none some = some

-- what changes where draws are those before
pub unchanged_found : (fonts : List FontValue) (size : Size) (before now : Plan) → IsChange Same before now → IsChangeFound fonts size before.draws now.draws (record { kind = Same; part = None })
unchanged_found fonts size before now same = record {
  is_change = same;
  is_box = ap (λ (draws : List Draw). (picture fonts size draws).bytes) same;
}

-- what changes between two pictures
pub changed_found : (fonts : List FontValue) (size : Size) (before now : Plan) (kind : ChangeKind) (box : Option Changed) (a b : List ℕ) → IsChange kind before now →
    a ≡ (picture fonts size before.draws).bytes → b ≡ (picture fonts size now.draws).bytes → (box ≡ None) ↔ (a ≡ b) → IfSome box (IsLeastChanged size a b) →
    IsChangeFound fonts size before.draws now.draws (record { kind = kind; part = box })
changed_found fonts size before now kind box a b differs old new none some = record {
  is_change = of_draws kind before now differs;
  is_box = subst (λ bytes. IsChangedBox size bytes (picture fonts size now.draws).bytes box) old (subst (λ bytes. IsChangedBox size a bytes box) new (boxed size a b box none some));
}

-- the line on what changes
pub found_line : (fonts : List FontValue) (size : Size) (t : ℕ) (before now : List Draw) (change : ScreenChange) (line : List ℕ) → IsChangeFound fonts size before now change →
    line ≡ change_line t change.kind change.part → IsChangeLine fonts size t before now line
found_line fonts size t before now change line found is = record { change = change; found = found; value = is }

-- before the first instant there are no lines
pub no_lines : (script : ScriptValue) (fonts : List FontValue) (events : List Event) (instants : Instants) (view : FrameView) (draws : List Draw) (text : List ℕ) →
    draws ≡ [] → text ≡ [] → AreChangeLines script fonts events instants view 0 draws text
no_lines script fonts events instants view draws text no_draws no_text =
    subst (λ d. AreChangeLines script fonts events instants view 0 d text) (sym no_draws)
    (subst (AreChangeLines script fonts events instants view 0 []) (sym no_text) NoLine)

-- one line more
pub next_lines : (script : ScriptValue) (fonts : List FontValue) (events : List Event) (instants : Instants) (view : FrameView) (place t : ℕ) (before now : List Draw) (text line new : List ℕ) →
    AreChangeLines script fonts events instants view place before text → t ≡ rated_instant instants place → AreDraws script fonts events (pos t) view now →
    IsChangeLine fonts view.size t before now line → new ≡ text ++ line → AreChangeLines script fonts events instants view (place + 1) now new
next_lines script fonts events instants view place t before now text line new lines at draws told is =
    subst (AreChangeLines script fonts events instants view (place + 1) now) (sym is)
    (NextLine place before now text line lines
    (subst (λ n. AreDraws script fonts events (pos n) view now) at draws)
    (subst (λ n. IsChangeLine fonts view.size n before now line) at told))

-- ---- equal pictures have no box

never_differs : (w : ℕ) (a : List ℕ) (i j : ℕ) → DiffersAt w a a i j → ⊥
never_differs w a i j (k, within, differs) = differs refl

no_least : (size : Size) (a : List ℕ) (box : Changed) → IsLeastChanged size a a box → ⊥
no_least size a box least =
    let other : Changed = record { x1 = box.x1 + 1; y1 = box.y1; x2 = box.x2; y2 = box.y2 } in
    let has : HasChanges size a a other = λ i j wide high differs. absurd (never_differs size.w a i j differs) in
    let inside = least.least other has in
    omega (arith, inside.left)

none_at : (size : Size) (a b : List ℕ) (box : Option Changed) → a ≡ b → IsChangedBox size a b box → box ≡ None
none_at size a b None same is = refl
none_at size a b (Some box) same is = absurd (no_least size b box (subst (λ bytes. IsLeastChanged size bytes b box) same is))

pub same_draws : SameDrawsChangeNothing
same_draws fonts size before now box same is =
    none_at size (picture fonts size before).bytes (picture fonts size now).bytes box (ap (λ (draws : List Draw). (picture fonts size draws).bytes) same) is
