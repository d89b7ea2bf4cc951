-- What is shown of the same events is the same.
use Rattle.std.proofs.Common.{◌≡◌, ℤ, List, sym, ap, ◌∙◌, subst}
use Rattle.ass_num.specs.declared.size.Size.{Size}
use Rattle.ass_events.specs.Histories.{live}
use Rattle.ass_script.specs.Ranges.{IsScript}
use Rattle.ass_script.specs.Scripts.{ScriptValue}
use Rattle.bdf_font.specs.Fonts.{FontValue}
use Rattle.mask_keys.specs.declared.plans.Draw.{Draw}
use Rattle.mask_keys.specs.Pictures.{picture}
use Rattle.picture_laws.proofs.Shown.{one_list_of_draws}
use Rattle.frame_view.specs.FrameViews.{plain_frame}
use Rattle.picture_plan.proofs.DrawLaws.{draws_of_a_set}
use Rattle.picture_plan.specs.Pictures.{AreDraws}
use Rattle.world_core.specs.Laws.{ShowTheSame}

pub show-the-same : (script : ScriptValue) (fonts : List FontValue) → IsScript script → ShowTheSame script fonts
show-the-same script fonts sound caches others actor other a b n m bytes pixels same p q =
    let moved = draws_of_a_set script fonts (live a.history) (live b.history) a.instant (plain_frame a.size) p.draws same.events p.are_draws in
    let sized : AreDraws script fonts (live b.history) a.instant (plain_frame b.size) p.draws = subst (λ (z : Size). AreDraws script fonts (live b.history) a.instant (plain_frame z) p.draws) same.size moved in
    let timed : AreDraws script fonts (live b.history) b.instant (plain_frame b.size) p.draws = subst (λ (t : ℤ). AreDraws script fonts (live b.history) t (plain_frame b.size) p.draws) same.instant sized in
    let one : p.draws ≡ q.draws = one_list_of_draws script fonts sound (live b.history) b.instant (plain_frame b.size) p.draws q.draws timed q.are_draws in
    p.bytes_are ∙ (ap (λ (z : Size). (picture fonts z p.draws).bytes) same.size ∙ (ap (λ (d : List Draw). (picture fonts b.size d).bytes) one ∙ sym q.bytes_are))
