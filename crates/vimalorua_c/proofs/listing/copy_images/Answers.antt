use Rattle.std.proofs.Common.{ℕ, ◌+◌, ◌<◌, List, [], ◌∷◌, ◌++◌, length, take, sym, ap, ◌∙◌, length-set, arith}
use Rattle.std.proofs.lemmas.List.{take_more_set}
use Rattle.plain_images.specs.declared.plain.PlainImage.{PlainImage}
use Rattle.vimalorua_c.specs.Calls.{image_numbers}
use Rattle.vimalorua_c.proofs.CopyLemmas.{bytes_more, bytes_within, masks_more, numbers_more}
use Rattle.vimalorua_c.proofs.listing.copy_images.Goals as goal

pub put_bytes-at-requires : goal.put_bytes-at-requires
put_bytes-at-requires c =
    let kept = c.loop-i.invariant in
    omega (arith, kept.bytes, kept.place, ap length c.bytes.ensures.bytes, bytes_within c.args.images.now c.loop-i.i c.index-images-i.result c.loop-i-test.true c.index-images-i.is)

pub loop-i-preserved : goal.loop-i-preserved
loop-i-preserved c =
    let kept = c.loop-i.invariant in
    let images : List PlainImage = c.args.images.now in
    let i = c.loop-i.i in
    let image : PlainImage = c.index-images-i.result in
    let below : i < length images = c.loop-i-test.true in
    let is = c.index-images-i.is in
    record {
      count = length-set _ _ _ ∙ kept.count;
      bytes = c.put_bytes-at.ensures.count ∙ kept.bytes;
      place = c.put_bytes-at.ensures.next
          ∙ (ap (λ (bs : List ℕ). c.loop-i.at + length bs) c.bytes.ensures.bytes ∙ (ap (λ n. n + length image.mask.bytes) kept.place ∙ sym (bytes_more images i image below is)));
      numbers_are = take_more_set c.loop-i.numbers i c.numbers_of.result (omega (arith, kept.count, below))
          ∙ ((λ j. kept.numbers_are j ++ (c.numbers_of.ensures ∙ ap (image_numbers image) kept.place) j ∷ []) ∙ sym (numbers_more images i image below is));
      masks_are = c.put_bytes-at.ensures.front
          ∙ (ap (λ (bs : List ℕ). take c.loop-i.at c.loop-i.masks ++ bs) c.bytes.ensures.bytes
          ∙ (ap (λ (bs : List ℕ). bs ++ image.mask.bytes) kept.masks_are ∙ sym (masks_more images i image below is)));
    }
