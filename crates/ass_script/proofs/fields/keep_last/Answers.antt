use Rattle.std.proofs.Common.{◌≡◌, ◌<◌, ℕ, suc, ◌-◌, true, false, length, get_or, set, drop, eqb, sym, ap, ◌∙◌, arith, refl}
use Rattle.std.specs.List.{list_any}
use Rattle.std.proofs.lemmas.List.{length-set}
use Rattle.ass_script.proofs.LastOnes.{replaced, kept, seen_still, seen_now, all_left, drop_all, none_seen}
use Rattle.ass_script.proofs.fields.keep_last.Goals as goal

pub loop-k-init : goal.loop-k-init
loop-k-init g c =
    let raw = c.args.fields.now in
    let number = g.F.Field.number_of in
    record {
      within = omega arith;
      done = all_left number c.args.other raw;
      seen = λ n. none_seen 32 n ∙ sym (ap (list_any (λ field. eqb (number field) n)) (drop_all raw));
      places = refl;
    }

pub loop-k-preserved-then-seen-number : goal.loop-k-preserved-then-seen-number
loop-k-preserved-then-seen-number g c =
    let raw = c.args.fields.now in
    let number = g.F.Field.number_of in
    let x = c.index-fields-k.result in
    let k = c.loop-k.k in
    let next : k ≡ suc (k - 1) = omega arith in
    let seen : list_any (λ field. eqb (number field) (number x)) (drop k raw) ≡ true = sym (c.loop-k.invariant.seen (number x)) ∙ (ap (λ (n : ℕ). get_or c.loop-k.seen n false) (sym c.number-number.ensures.value) ∙ c.if-seen-number.true) in
    record {
      within = omega arith;
      done = replaced number c.args.other raw (k - 1) k next c.loop-k.invariant.within c.loop-k.fields c.loop-k.invariant.done x c.index-fields-k.is seen;
      seen = seen_still number c.args.other raw (k - 1) k next c.loop-k.invariant.within c.loop-k.fields c.loop-k.invariant.done x c.index-fields-k.is c.loop-k.seen c.loop-k.invariant.seen seen;
      places = c.loop-k.invariant.places;
    }

pub loop-k-preserved : goal.loop-k-preserved
loop-k-preserved g c =
    let raw = c.args.fields.now in
    let number = g.F.Field.number_of in
    let x = c.index-fields-k.result in
    let k = c.loop-k.k in
    let next : k ≡ suc (k - 1) = omega arith in
    let is : c.number-number.result ≡ number x = c.number-number.ensures.value in
    let unseen : list_any (λ field. eqb (number field) (number x)) (drop k raw) ≡ false = sym (c.loop-k.invariant.seen (number x)) ∙ (ap (λ (n : ℕ). get_or c.loop-k.seen n false) (sym is) ∙ c.if-seen-number.false) in
    let fits : number x < length c.loop-k.seen = omega (arith, c.number-number.ensures.range, is, c.loop-k.invariant.places) in
    record {
      within = omega arith;
      done = kept number c.args.other raw (k - 1) k next c.loop-k.invariant.within c.loop-k.fields c.loop-k.invariant.done x c.index-fields-k.is unseen;
      seen = λ n. ap (λ (m : ℕ). get_or (set c.loop-k.seen m true) n false) is ∙ seen_now number c.args.other raw (k - 1) k next c.loop-k.invariant.within c.loop-k.fields c.loop-k.invariant.done x c.index-fields-k.is c.loop-k.seen c.loop-k.invariant.seen fits n;
      places = length-set c.loop-k.seen c.number-number.result true ∙ c.loop-k.invariant.places;
    }
