use Rattle.std.proofs.Common.{rules, ◌≡◌, ℕ, ◌+◌, Ok, Err, List, sym, subst}
use Rattle.sfnt_font.specs.declared.font.SfntFont.{SfntFont}
use Rattle.sfnt_font.specs.Faces.{face_count}
use Rattle.sfnt_font.specs.Fonts.{face_map}
use Rattle.sfnt_font.proofs.ReadLemmas.{AreRead, all_faces, read_next, refused_first, refused_later, refused_without_memory}
use Rattle.sfnt_font.proofs.read.read_faces.Goals as goal

pub returns-in_err-face_map-clause-answer : goal.returns-in_err-face_map-clause-answer
returns-in_err-face_map-clause-answer c =
    let refused : face_map c.args.bytes 0 ≡ Err c.in_err-face_map.field-0.0 = search (rules, c.in_err-face_map.was) in
    let counted : face_count c.args.bytes ≡ Ok c.in_ok-count.count = search (rules, c.in_ok-count.was) in
    refused_first c.args.bytes c.in_ok-count.count c.in_err-face_map.field-0.0 _ counted refused (search rules)

pub returns-in_err-face_map-clause-memory : goal.returns-in_err-face_map-clause-memory
returns-in_err-face_map-clause-memory c =
    let refused : face_map c.args.bytes 0 ≡ Err c.in_err-face_map.field-0.0 = search (rules, c.in_err-face_map.was) in
    search (rules, refused_without_memory, refused)

pub returns-in_err-read_sfnt-clause-answer : goal.returns-in_err-read_sfnt-clause-answer
returns-in_err-read_sfnt-clause-answer c = search (rules, refused_later)

pub loop-face-preserved : goal.loop-face-preserved
loop-face-preserved c =
    subst (λ (fonts : List SfntFont). AreRead c.in_ok-file.file c.in_ok-count.count (c.loop-face.face + 1) fonts) (sym c.in_ok-push.ensures.ok)
    (read_next c.in_ok-file.file c.in_ok-count.count c.loop-face.face c.loop-face.fonts c.in_ok-read_sfnt.field-0 c.loop-face.invariant c.loop-face-test.true
    (sym c.in_ok-read_sfnt.ensures.answer) c.in_ok-read_sfnt.ensures.font)

pub returns-clause-answer : goal.returns-clause-answer
returns-clause-answer c =
    let counted : face_count c.args.bytes ≡ Ok c.in_ok-count.count = search (rules, c.in_ok-count.was) in
    let read : AreRead c.args.bytes c.in_ok-count.count c.loop-face.face c.loop-face.fonts =
    subst (λ (bytes : List ℕ). AreRead bytes c.in_ok-count.count c.loop-face.face c.loop-face.fonts) c.in_ok-file.ensures c.loop-face.invariant in
    all_faces c.args.bytes c.in_ok-count.count c.loop-face.face c.loop-face.fonts counted read c.loop-face-test.false
