-- What counts of several tags, one item after another.
use Rattle.std.proofs.Common.{◌≡◌, ℕ, ◌+◌, ◌<◌, ℤ, pos, List, [], ◌∷◌, ◌++◌, length, map, reverse, take, get_or, refl, sym, ap, ◌∙◌, Option, None, Some, All}
use Rattle.std.specs.Prelude.{slice_get}
use Rattle.std.specs.List.{filter_map, cons_option}
use Rattle.std.specs.Option.{option_map, option_or}
use Rattle.std.proofs.lemmas.List.{reverse-append, map-append, map_more, take_more}
use Rattle.std.proofs.lemmas.List.Elements.{All-nil, All-head, All-tail, All-same, All-push, filter_map-append}
use Rattle.ass_script.specs.declared.script.Header.{Header}
use Rattle.event_instants.specs.Instants.{transform_weight}
use Rattle.override_tags.specs.declared.item.Item.{Item}
use Rattle.override_tags.specs.declared.item.ItemKind.{ItemKind}
use Rattle.override_tags.specs.declared.item.ItemKind.TheVariants as item
use Rattle.override_tags.specs.declared.tag.ClipTag.{ClipTag}
use Rattle.override_tags.specs.declared.tag.GradualTag.{GradualTag}
use Rattle.override_tags.specs.declared.tag.GradualTag.TheVariants as gradual
use Rattle.override_tags.specs.declared.tag.Tag.{Tag}
use Rattle.override_tags.specs.declared.tag.Tag.TheVariants as tag
use Rattle.tag_arguments.specs.declared.kinds.Num.TheVariants as num
use Rattle.tag_state.specs.declared.choices.Said.{Said}
use Rattle.tag_state.specs.Setters.{Effect, Gradual, by_setters, effects_of, effects_of_tag, past, past_all, replaced}
use Rattle.tag_state.specs.Choices.{first_in, first_of, align_said, point_said, origin_said, fade_said, wrap_setter, wrap_at, clip_at, IsSaid}
use Rattle.tag_state.specs.Steps.{wrap_said, wrap_step, clip_step, IsNoClip}

-- ---- the first one

-- with one more item
first_more : {V : Type 0} (says : Tag → Option V) (items : List Item) (i : Item) → first_of says (items ++ i ∷ []) ≡ option_or (first_of says items) (first_in says i.kind)
first_more says items i = ap (λ said. slice_get said 0) (filter_map-append (λ j. first_in says j.kind) items (i ∷ [])) ∙ by (filter_map (λ j. first_in says j.kind) items) (first_in says i.kind)
  where
    by : {V : Type 0} (said : List V) (o : Option V) → slice_get (said ++ cons_option o []) 0 ≡ option_or (slice_get said 0) o
    by [] None = refl
    by [] (Some v) = refl
    by (v ∷ said) o = refl

-- with one more item that is a tag
first_tag : {V : Type 0} (says : Tag → Option V) (items : List Item) (i : Item) (tag : Tag) (old new : Option V) → i.kind ≡ item.Tag tag → old ≡ first_of says items → new ≡ option_or old (says tag)
    → new ≡ first_of says (items ++ i ∷ [])
first_tag says items i tag old new kind so_far is =
    is ∙ (ap (λ o. option_or o (says tag)) so_far ∙ (ap (λ k. option_or (first_of says items) (first_in says k)) (sym kind) ∙ sym (first_more says items i)))

-- and with one that is none
no_tag_says : {V : Type 0} (says : Tag → Option V) (kind : ItemKind) → ((tag : Tag) → kind ≡ item.Tag tag → ⊥) → first_in says kind ≡ None
no_tag_says says (item.Tag tag) no_tag = absurd (no_tag tag refl)
no_tag_says says kind no_tag = refl

or_none : {V : Type 0} (o : Option V) → option_or o None ≡ o
or_none None = refl
or_none (Some v) = refl

first_quiet : {V : Type 0} (says : Tag → Option V) (items : List Item) (i : Item) (old : Option V) → ((tag : Tag) → i.kind ≡ item.Tag tag → ⊥) → old ≡ first_of says items → old ≡ first_of says (items ++ i ∷ [])
first_quiet says items i old no_tag so_far =
    so_far ∙ (sym (or_none (first_of says items)) ∙ (ap (option_or (first_of says items)) (sym (no_tag_says says i.kind no_tag)) ∙ sym (first_more says items i)))

-- ---- the effects before an item

pub past_all-append : (duration elapsed : ℤ) (before : List Effect) (items more : List Item) → past_all duration elapsed before (items ++ more) ≡ past_all duration elapsed (past_all duration elapsed before items) more
past_all-append duration elapsed before [] more = refl
past_all-append duration elapsed before (i ∷ items) more = past_all-append duration elapsed (past duration elapsed before i) items more

pub map-reverse : {X Y : Type 0} (f : X → Y) (xs : List X) → map f (reverse xs) ≡ reverse (map f xs)
map-reverse f [] = refl
map-reverse f (x ∷ xs) =
    ap (map f) (reverse-append (x ∷ []) xs)
    ∙ (map-append f (reverse xs) (x ∷ [])
    ∙ (ap (λ z. z ++ f x ∷ []) (map-reverse f xs)
    ∙ sym (reverse-append (f x ∷ []) (map f xs))))

-- the effects of one more tag of a transform
pub reverse_more : {X Y : Type 0} (f : X → Y) (xs : List X) (x : X) → reverse (map f (xs ++ x ∷ [])) ≡ f x ∷ reverse (map f xs)
reverse_more f xs x = ap reverse (map-append f xs (x ∷ [])) ∙ reverse-append (map f xs) (f x ∷ [])

-- effects of a transform that set nothing
pub none_gradual : {V : Type 0} (sets : Effect → Option V) (weight : ℕ) (tags : List GradualTag) (before : List Effect) → ((tag : GradualTag) → sets (Gradual weight tag) ≡ None)
    → filter_map sets (map (Gradual weight) tags ++ before) ≡ filter_map sets before
none_gradual sets weight [] before none = refl
none_gradual sets weight (tag ∷ tags) before none = ap (λ o. cons_option o (filter_map sets (map (Gradual weight) tags ++ before))) (none tag) ∙ none_gradual sets weight tags before none

pub none_transform : {V : Type 0} (sets : Effect → Option V) (weight : ℕ) (tags : List GradualTag) (before : List Effect) → ((tag : GradualTag) → sets (Gradual weight tag) ≡ None)
    → filter_map sets (reverse (map (Gradual weight) tags) ++ before) ≡ filter_map sets before
none_transform sets weight tags before none =
    ap (λ z. filter_map sets (z ++ before)) (sym (map-reverse (Gradual weight) tags)) ∙ none_gradual sets weight (reverse tags) before none

-- ---- the wrap style

wrap_past : (scripted : ℕ) (duration elapsed : ℤ) (before : List Effect) (t : Tag) → wrap_at scripted (reverse (effects_of_tag duration elapsed t) ++ before) ≡ wrap_step (wrap_said t) scripted (wrap_at scripted before)
wrap_past scripted duration elapsed before (tag.Number num.Wrap value) = refl
wrap_past scripted duration elapsed before (tag.Transform times quarters tags) =
    ap (by_setters replaced scripted) (none_transform wrap_setter (transform_weight times duration quarters elapsed) tags before (λ tag. refl))
wrap_past scripted duration elapsed before t = refl

-- ---- the clip

clip_gradual : (header : Header) (weight : ℕ) (tag : GradualTag) (before : List Effect) → clip_at header (Gradual weight tag ∷ before) ≡ clip_step header weight tag (clip_at header before)
clip_gradual header weight (gradual.Clip corners inverse) before = refl
clip_gradual header weight tag before = refl

-- the clip behind one more tag of a transform
pub clip_more : (header : Header) (weight : ℕ) (tags : List GradualTag) (place : ℕ) (d : GradualTag) (before : List Effect) (old next : Option ClipTag) → place < length tags
    → old ≡ clip_at header (reverse (map (Gradual weight) (take place tags)) ++ before) → next ≡ clip_step header weight (get_or tags place d) old
    → next ≡ clip_at header (reverse (map (Gradual weight) (take (place + 1) tags)) ++ before)
clip_more header weight tags place d before old next within so_far step =
    let tag = get_or tags place d in
    let shown = take place tags in
    let more : reverse (map (Gradual weight) (take (place + 1) tags)) ≡ Gradual weight tag ∷ reverse (map (Gradual weight) shown) =
    ap reverse (map_more (Gradual weight) tags place d within) ∙ reverse-append (map (Gradual weight) shown) (Gradual weight tag ∷ []) in
    step
    ∙ (ap (clip_step header weight tag) so_far
    ∙ (sym (clip_gradual header weight tag (reverse (map (Gradual weight) shown) ++ before))
    ∙ sym (ap (λ z. clip_at header (z ++ before)) more)))

-- tags of a transform that are no clips leave it
clip_stays : (header : Header) (weight : ℕ) (tag : GradualTag) (before : List Effect) → IsNoClip tag → clip_at header (Gradual weight tag ∷ before) ≡ clip_at header before
clip_stays header weight (gradual.Clip corners inverse) before none = absurd none
clip_stays header weight tag before none = refl

all_stay : (header : Header) (weight : ℕ) (tags : List GradualTag) (before : List Effect) → All IsNoClip tags → clip_at header (map (Gradual weight) tags ++ before) ≡ clip_at header before
all_stay header weight [] before none = refl
all_stay header weight (tag ∷ tags) before none =
    clip_stays header weight tag (map (Gradual weight) tags ++ before) (All-head IsNoClip tag tags none) ∙ all_stay header weight tags before (All-tail IsNoClip tag tags none)

pub no_clip_more : (tags : List GradualTag) (place : ℕ) (d : GradualTag) → place < length tags → All IsNoClip (take place tags) → IsNoClip (get_or tags place d) → All IsNoClip (take (place + 1) tags)
no_clip_more tags place d within none is =
    All-same IsNoClip (take (place + 1) tags) (take place tags ++ get_or tags place d ∷ []) (take_more tags place d within) (All-push IsNoClip (take place tags) (get_or tags place d) none is)

no_reverse : (tags : List GradualTag) → All IsNoClip tags → All IsNoClip (reverse tags)
no_reverse [] none = All-nil IsNoClip
no_reverse (tag ∷ tags) none =
    All-same IsNoClip (reverse (tag ∷ tags)) (reverse tags ++ tag ∷ []) (reverse-append (tag ∷ []) tags)
    (All-push IsNoClip (reverse tags) tag (no_reverse tags (All-tail IsNoClip tag tags none)) (All-head IsNoClip tag tags none))

pub no_clip : (header : Header) (weight : ℕ) (tags : List GradualTag) (before : List Effect) → All IsNoClip tags → clip_at header (reverse (map (Gradual weight) tags) ++ before) ≡ clip_at header before
no_clip header weight tags before none =
    ap (λ z. clip_at header (z ++ before)) (sym (map-reverse (Gradual weight) tags)) ∙ all_stay header weight (reverse tags) before (no_reverse tags none)

-- what is no tag has no effects
pub other_past : (duration elapsed : ℤ) (before : List Effect) (i : Item) → ((tag : Tag) → i.kind ≡ item.Tag tag → ⊥) → past duration elapsed before i ≡ before
other_past duration elapsed before i no_tag = by i.kind no_tag
  where
    by : (kind : ItemKind) → ((tag : Tag) → kind ≡ item.Tag tag → ⊥) → reverse (effects_of duration elapsed kind) ++ before ≡ before
    by (item.Tag tag) no_tag = absurd (no_tag tag refl)
    by kind no_tag = refl

-- ---- all of it

pub said_none : (header : Header) (duration elapsed : ℤ) → IsSaid header duration elapsed [] (record { align = None; pos = None; org = None; fade = None; wrap = header.wrap; clip = None })
said_none header duration elapsed = record { align = refl; position = refl; origin = refl; fade = refl; wrap = refl; clip = refl }

-- behind one more tag
pub said_more : (header : Header) (duration elapsed : ℤ) (items : List Item) (i : Item) (t : Tag) (old new : Said) → i.kind ≡ item.Tag t → IsSaid header duration elapsed items old
    → new.align ≡ option_or old.align (align_said t)
    → new.pos ≡ option_or old.pos (point_said duration elapsed t)
    → new.org ≡ option_or old.org (origin_said t)
    → option_map (λ fade. pos fade) new.fade ≡ option_or (option_map (λ fade. pos fade) old.fade) (fade_said duration elapsed t)
    → new.wrap ≡ wrap_step (wrap_said t) header.wrap old.wrap
    → ((before : List Effect) → old.clip ≡ clip_at header before → new.clip ≡ clip_at header (reverse (effects_of_tag duration elapsed t) ++ before))
    → IsSaid header duration elapsed (items ++ i ∷ []) new
said_more header duration elapsed items i t old new kind so_far align position origin fade wrap clip =
    let before = past_all duration elapsed [] items in
    let all : past_all duration elapsed [] (items ++ i ∷ []) ≡ reverse (effects_of_tag duration elapsed t) ++ before =
    past_all-append duration elapsed [] items (i ∷ []) ∙ ap (λ k. reverse (effects_of duration elapsed k) ++ before) kind in
    record {
      align = first_tag align_said items i t old.align new.align kind so_far.align align;
      position = first_tag (point_said duration elapsed) items i t old.pos new.pos kind so_far.position position;
      origin = first_tag origin_said items i t old.org new.org kind so_far.origin origin;
      fade = first_tag (fade_said duration elapsed) items i t (option_map (λ fade. pos fade) old.fade) (option_map (λ fade. pos fade) new.fade) kind so_far.fade fade;
      wrap =
          wrap
          ∙ (ap (wrap_step (wrap_said t) header.wrap) so_far.wrap
          ∙ (sym (wrap_past header.wrap duration elapsed before t) ∙ sym (ap (wrap_at header.wrap) all)));
      clip = clip before so_far.clip ∙ sym (ap (clip_at header) all);
    }

-- and behind what is no tag
pub said_quiet : (header : Header) (duration elapsed : ℤ) (items : List Item) (i : Item) (said : Said) → ((tag : Tag) → i.kind ≡ item.Tag tag → ⊥) → IsSaid header duration elapsed items said
    → IsSaid header duration elapsed (items ++ i ∷ []) said
said_quiet header duration elapsed items i said no_tag so_far =
    let before = past_all duration elapsed [] items in
    let all : past_all duration elapsed [] (items ++ i ∷ []) ≡ before = past_all-append duration elapsed [] items (i ∷ []) ∙ other_past duration elapsed before i no_tag in
    record {
      align = first_quiet align_said items i said.align no_tag so_far.align;
      position = first_quiet (point_said duration elapsed) items i said.pos no_tag so_far.position;
      origin = first_quiet origin_said items i said.org no_tag so_far.origin;
      fade = first_quiet (fade_said duration elapsed) items i (option_map (λ fade. pos fade) said.fade) no_tag so_far.fade;
      wrap = so_far.wrap ∙ sym (ap (wrap_at header.wrap) all);
      clip = so_far.clip ∙ sym (ap (clip_at header) all);
    }
