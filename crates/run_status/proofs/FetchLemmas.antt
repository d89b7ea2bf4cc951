-- What is read, by what fetches gave.
use Rattle.std.proofs.Common.{◌≡◌, ℕ, suc, zero, ◌+◌, ◌<◌, ◌≤◌, inl, inr, List, [], ◌∷◌, ◌++◌, length, take, slice_index_or, Some, None, Result, Ok, Err, refl, sym, subst, ◌∙◌, ap, arith, append_assoc, append-nil, length-append}
use Rattle.std.specs.List.{slice_get}
use Rattle.std.proofs.Math.Seq.{take-suc}
use Rattle.std.proofs.lemmas.List.{get_or_default, map-append}
use Rattle.ass_io.specs.Fetched.{Held}
use Rattle.ass_io.specs.Fetches.{FetchChange, FetchGives, IsGiven, LoggedFetch, fetch_change, fetched_names}
use Rattle.ass_io.specs.declared.shelf.Fetch.{Fetch}
use Rattle.ass_io.specs.declared.shelf.Fetch.TheVariants as fetch
use Rattle.ass_num.specs.Limits.{max_file_bytes}
use Rattle.bdf_font.specs.Fonts.{FontValue}
use Rattle.bdf_font.specs.Limits.{max_fonts}
use Rattle.run_words.specs.declared.job.ScriptSource.{ScriptSource}
use Rattle.run_status.specs.declared.inputs.Inputs.{Inputs}
use Rattle.run_status.specs.declared.status.Status.{Status}
use Rattle.run_status.specs.declared.status.Status.TheVariants as status
use Rattle.run_status.specs.declared.status.What.TheVariants.{Bytes, Fonts}
use Rattle.run_status.specs.Fetches.{AreFilesFetched, AreFirstFetched, AreFontsFetched, IsFileFetched, IsFontFileFetched}
use Rattle.run_status.specs.Files.{Asks, AsksBytes, AsksFonts, AsksScript, IsAnsweredFrom, IsAskedFrom}
use Rattle.run_status.specs.Inputs.{AreFilesReadFrom, AreFirstFilesFrom, IsFontFileReadFrom, IsScriptReadFrom, MayHold, fonts_of_files}
use Rattle.run_status.proofs.AskedLemmas.{longer}
use Rattle.run_status.proofs.FontLemmas.{files_more, first_more, fonts_refused}

-- ---- one file

module _ {Value : Type 0} (asks : Asks Value) (name : List ℕ) (log : FetchChange) where
  -- An answer to what was read of a file.
  pub fetched_on : {Read : Type 0} (asks_read : Asks Read) (read : Result Read Status) (answer : Result Value Status) → (read ≡ Err status.OutOfMemory → answer ≡ Err status.OutOfMemory)
      → ((may : Held → Type 0) → IsAnsweredFrom asks_read may name read → IsAnsweredFrom asks may name answer) → IsFileFetched asks_read name log read → IsFileFetched asks name log answer
  fetched_on asks_read read answer wanting on (inl (it, bytes, added, asked)) = inl (it, bytes, added, on (FetchGives it bytes) asked)
  fetched_on asks_read read answer wanting on (inr (same, is)) = inr (same, wanting is)

-- The answers of one fetch.
module _ (name bytes : List ℕ) (log : FetchChange) where
  pub fetched_got : length bytes ≤ max_file_bytes → log.now ≡ log.before ++ (name, fetch.Got, bytes) ∷ [] → IsFileFetched (AsksBytes name) name log (Ok bytes)
  fetched_got few added = inl (fetch.Got, bytes, added, (Some bytes, refl, inl (few, refl)))

  pub fetched_missing : log.now ≡ log.before ++ (name, fetch.Missing, bytes) ∷ [] → IsFileFetched (AsksBytes name) name log (Err (status.NoSuchFile name))
  fetched_missing added = inl (fetch.Missing, bytes, added, (None, refl, refl))

  pub fetched_failed : log.now ≡ log.before ++ (name, fetch.Failed, bytes) ∷ [] → IsFileFetched (AsksBytes name) name log (Err (status.ReadFault name))
  fetched_failed added = inl (fetch.Failed, bytes, added, refl)

  pub fetched_too_large : log.now ≡ log.before ++ (name, fetch.TooLarge, bytes) ∷ [] → IsFileFetched (AsksBytes name) name log (Err (status.TooLarge Bytes max_file_bytes))
  fetched_too_large added = let many = longer max_file_bytes in inl (fetch.TooLarge, bytes, added, (Some many.0, many.1, inr (many.1, refl)))

  pub fetched_wanting : log.now ≡ log.before ++ (name, fetch.OutOfMemory, bytes) ∷ [] → IsFileFetched (AsksBytes name) name log (Err status.OutOfMemory)
  fetched_wanting added = inl (fetch.OutOfMemory, bytes, added, tt)

-- ---- what may be held by more fetches

abbrev IsWithin : MayHold → MayHold → Type 0
IsWithin one other = (place : ℕ) (name : List ℕ) (held : Held) → one place name held → other place name held

asked_within : {Value : Type 0} (asks : Asks Value) (one other : Held → Type 0) (answer : Result Value Status) → ((held : Held) → one held → other held) → IsAskedFrom asks one answer → IsAskedFrom asks other answer
asked_within asks one other answer within h = (h.0, within h.0 h.1, h.2)

pub answered_within : {Value : Type 0} (asks : Asks Value) (one other : Held → Type 0) (name : List ℕ) (answer : Result Value Status) → ((held : Held) → one held → other held) →
    IsAnsweredFrom asks one name answer → IsAnsweredFrom asks other name answer
answered_within asks one other name (Ok value) within h = asked_within asks one other _ within h
answered_within asks one other name (Err status.Done) within h = h
answered_within asks one other name (Err (status.BadWords fault)) within h = h
answered_within asks one other name (Err (status.NoSuchFile missing)) within h = asked_within asks one other _ within h
answered_within asks one other name (Err (status.ReadFault failed)) within h = h
answered_within asks one other name (Err (status.BadScript cause)) within h = asked_within asks one other _ within h
answered_within asks one other name (Err (status.BadFont place fault)) within h = asked_within asks one other _ within h
answered_within asks one other name (Err (status.WriteFault which)) within h = h
answered_within asks one other name (Err (status.TooLarge what limit)) within h = asked_within asks one other _ within h
answered_within asks one other name (Err status.OutOfMemory) within h = h
answered_within asks one other name (Err (status.Unwritable order field)) within h = h

first_within : (one other : MayHold) (names : List (List ℕ)) (files : List (List FontValue)) → IsWithin one other → AreFirstFilesFrom one names files → AreFirstFilesFrom other names files
first_within one other names files within first = λ index none less name.
    answered_within (AsksFonts index (slice_index_or names index name)) (one index (slice_index_or names index name)) (other index (slice_index_or names index name)) (slice_index_or names index name)
    (Ok (slice_index_or files index none)) (within index (slice_index_or names index name)) (first index none less name)

-- An element stays at its place where more is put behind it.
get_before : {X : Type 0} (xs ys : List X) (i : ℕ) (x : X) → slice_get xs i ≡ Some x → slice_get (xs ++ ys) i ≡ Some x
get_before [] ys i x e = absurd cc
get_before (y ∷ xs) ys zero x e = e
get_before (y ∷ xs) ys (suc i) x e = get_before xs ys i x e

get_seam : {X : Type 0} (xs : List X) (x : X) → slice_get (xs ++ x ∷ []) (length xs) ≡ Some x
get_seam [] x = refl
get_seam (y ∷ xs) x = get_seam xs x

given_before : (fetches more : List LoggedFetch) → IsWithin (IsGiven fetches) (IsGiven (fetches ++ more))
given_before fetches more place name held (it, bytes, at, gives) = (it, bytes, get_before fetches more place (name, it, bytes) at, gives)

given_last : (fetches : List LoggedFetch) (name : List ℕ) (it : Fetch) (bytes : List ℕ) (held : Held) → FetchGives it bytes held → IsGiven (fetches ++ (name, it, bytes) ∷ []) (length fetches) name held
given_last fetches name it bytes held gives = (it, bytes, get_seam fetches (name, it, bytes), gives)

-- ---- fonts, one file after another

-- What was fetched and read of the first `index` files.
pub record FetchedSoFar (names : List (List ℕ)) (index : ℕ) (log : FetchChange) (fonts : List FontValue) : Type 0 where
  pub fetches : List LoggedFetch
  pub added : log.now ≡ log.before ++ fetches
  pub count : length fetches ≡ index
  pub order : fetched_names fetches ≡ take index names
  pub files : List (List FontValue)
  pub many : length files ≡ index
  pub first : AreFirstFilesFrom (IsGiven fetches) names files
  pub fonts_are : fonts ≡ fonts_of_files files

pub fetched_none : (names : List (List ℕ)) (log : List LoggedFetch) (fonts : List FontValue) → fonts ≡ [] → FetchedSoFar names 0 (fetch_change log log) fonts
fetched_none names log fonts e = record {
  fetches = [];
  added = sym (append-nil log);
  count = refl;
  order = refl;
  files = [];
  many = refl;
  first = λ index none within. absurd (omega (arith, within));
  fonts_are = e;
}

abbrev name_at : List (List ℕ) → ℕ → List ℕ
name_at names index = slice_index_or names index []

module _ (names : List (List ℕ)) (index : ℕ) (before now next : List LoggedFetch) (within : index < length names) where
  module _ (fetches : List LoggedFetch) (added : now ≡ before ++ fetches) (count : length fetches ≡ index) (order : fetched_names fetches ≡ take index names) (it : Fetch) (bytes : List ℕ) where
    abbrev last : LoggedFetch
    last = (name_at names index, it, bytes)

    abbrev all : List LoggedFetch
    all = fetches ++ last ∷ []

    added_more : next ≡ now ++ last ∷ [] → next ≡ before ++ all
    added_more e = e ∙ ap (λ (l : List LoggedFetch). l ++ last ∷ []) added ∙ append_assoc before fetches (last ∷ [])

    count_more : length all ≡ index + 1
    count_more = omega (arith, count, length-append fetches (last ∷ []))

    order_more : fetched_names all ≡ take (index + 1) names
    order_more =
        let one : suc index ≡ index + 1 = omega arith in
        map-append (λ (f : LoggedFetch). f.0) fetches (last ∷ []) ∙ ap (λ (l : List (List ℕ)). l ++ name_at names index ∷ []) order ∙ sym (take-suc names index [] within) ∙ ap (λ (n : ℕ). take n names) one

    read_at : (answer : Result (List FontValue) Status) → IsAnsweredFrom (AsksFonts index (name_at names index)) (FetchGives it bytes) (name_at names index) answer → IsFontFileReadFrom (IsGiven all) names index answer
    read_at answer asked = λ none.
        subst (λ (name : List ℕ). IsAnsweredFrom (AsksFonts index name) (IsGiven all index name) name answer) (get_or_default names index [] none within)
        (answered_within (AsksFonts index (name_at names index)) (FetchGives it bytes) (IsGiven all index (name_at names index)) (name_at names index) answer
        (λ held gives. subst (λ (n : ℕ). IsGiven all n (name_at names index) held) count (given_last fetches (name_at names index) it bytes held gives)) asked)

  pub fetched_more : (fonts more : List FontValue) (file : List FontValue) → FetchedSoFar names index (fetch_change before now) fonts → IsFontFileFetched names index (fetch_change now next) (Ok file) →
      more ≡ fonts ++ file → FetchedSoFar names (index + 1) (fetch_change before next) more
  fetched_more fonts more file so one e = elim (one []) [
    | inl h ↦
        let it = h.0 in
        let bytes = h.1 in
        let whole = so.fetches ++ (name_at names index, it, bytes) ∷ [] in
        record {
          fetches = whole;
          added = added_more so.fetches so.added so.count so.order it bytes h.2;
          count = count_more so.fetches so.added so.count so.order it bytes;
          order = order_more so.fetches so.added so.count so.order it bytes;
          files = so.files ++ file ∷ [];
          many = omega (arith, so.many, length-append so.files (file ∷ []));
          first = first_more (IsGiven whole) names so.files file (first_within (IsGiven so.fetches) (IsGiven whole) names so.files (given_before so.fetches ((name_at names index, it, bytes) ∷ [])) so.first)
              (subst (λ (n : ℕ). IsFontFileReadFrom (IsGiven whole) names n (Ok file)) (sym so.many) (read_at so.fetches so.added so.count so.order it bytes (Ok file) h.3));
          fonts_are = e ∙ (ap (λ (l : List FontValue). l ++ file) so.fonts_are ∙ sym (files_more so.files file));
        }
    | inr h ↦ let e = h.1 in absurd cc
  ]

  pub fetched_stopped : (fonts own : List FontValue) (why : Status) → FetchedSoFar names index (fetch_change before now) fonts → IsFontFileFetched names index (fetch_change now next) (Err why) →
      AreFontsFetched names own (fetch_change before next) (Err why)
  fetched_stopped fonts own why so one = elim (one []) [
    | inl h ↦
        let it = h.0 in
        let bytes = h.1 in
        let whole = so.fetches ++ (name_at names index, it, bytes) ∷ [] in
        record {
          fetches = whole;
          first = record {
            added = added_more so.fetches so.added so.count so.order it bytes h.2;
            order = order_more so.fetches so.added so.count so.order it bytes ∙ ap (λ (n : ℕ). take n names) (sym (count_more so.fetches so.added so.count so.order it bytes));
          };
          read = λ other. inl (
            so.files,
            omega (arith, so.many, within),
            first_within (IsGiven so.fetches) (IsGiven whole) names so.files (given_before so.fetches ((name_at names index, it, bytes) ∷ [])) so.first,
            subst (λ (n : ℕ). IsFontFileReadFrom (IsGiven whole) names n (Err why)) (sym so.many) (read_at so.fetches so.added so.count so.order it bytes (Err why) h.3),
          );
        }
    | inr h ↦ record {
      fetches = so.fetches;
      first = record { added = h.0 ∙ so.added; order = so.order ∙ ap (λ (n : ℕ). take n names) (sym so.count) };
      read = λ other. absurd (other h.1);
    }
  ]

-- All of them were fetched.
module _ (names : List (List ℕ)) (own : List FontValue) (log : FetchChange) (index : ℕ) (fonts : List FontValue) (so : FetchedSoFar names index log fonts) where
  all_first : AreFirstFetched names log so.fetches
  all_first = record { added = so.added; order = so.order ∙ ap (λ (n : ℕ). take n names) (sym so.count) }

  pub fetched_many : (whole : List FontValue) → index ≡ length names → whole ≡ fonts ++ own → max_fonts < length whole → AreFontsFetched names own log (Err (status.TooLarge Fonts max_fonts))
  fetched_many whole last e many = record {
    fetches = so.fetches;
    first = all_first;
    read = λ other. inr (
      so.files,
      (so.many ∙ last, so.first),
      subst (λ (l : List FontValue). max_fonts < length l) (e ∙ ap (λ (l : List FontValue). l ++ own) so.fonts_are) many,
      refl,
    );
  }

  pub fetched_without_memory : AreFontsFetched names own log (Err status.OutOfMemory)
  fetched_without_memory = record { fetches = so.fetches; first = all_first; read = λ other. absurd (other refl) }

-- ---- a script and then fonts

module _ (script : ScriptSource) (names : List (List ℕ)) (before : List LoggedFetch) where
  abbrev name : List ℕ
  name = script.name

  script_given : (it : Fetch) (bytes : List ℕ) (rest : List LoggedFetch) (answer : Result Inputs Status) → IsAnsweredFrom (AsksScript script.own_fonts name) (FetchGives it bytes) name answer →
      IsScriptReadFrom (IsGiven ((name, it, bytes) ∷ rest)) script answer
  script_given it bytes rest answer asked =
      answered_within (AsksScript script.own_fonts name) (FetchGives it bytes) (IsGiven ((name, it, bytes) ∷ rest) 0 name) name answer (λ held gives. (it, bytes, refl, gives)) asked

  pub script_stopped : (now : List LoggedFetch) (why : Status) → IsFileFetched (AsksScript script.own_fonts name) name (fetch_change before now) (Err why) →
      AreFilesFetched script names (fetch_change before now) (Err why)
  script_stopped now why (inl (it, bytes, added, asked)) = record {
    fetches = (name, it, bytes) ∷ [];
    first = record { added = added; order = refl };
    read = inl (script_given it bytes [] (Err why) asked);
  }
  script_stopped now why (inr (same, is)) =
      let wanting : why ≡ status.OutOfMemory = cc in
      record {
        fetches = [];
        first = record { added = same ∙ sym (append-nil before); order = refl };
        read = subst (λ (cause : Status). AreFilesReadFrom (IsGiven []) script names (Err cause)) (sym wanting) (inl tt);
      }

  module _ (now next : List LoggedFetch) (read : Inputs) (it : Fetch) (bytes : List ℕ) (added : now ≡ before ++ (name, it, bytes) ∷ []) where
    both_first : (rest : List LoggedFetch) → AreFirstFetched names (fetch_change now next) rest → AreFirstFetched (name ∷ names) (fetch_change before next) ((name, it, bytes) ∷ rest)
    both_first rest first = record {
      added = first.added ∙ ap (λ (l : List LoggedFetch). l ++ rest) added ∙ append_assoc before ((name, it, bytes) ∷ []) rest;
      order = ap (λ (l : List (List ℕ)). name ∷ l) first.order;
    }

  pub files_fetched : (now next : List LoggedFetch) (read inputs : Inputs) → IsFileFetched (AsksScript script.own_fonts name) name (fetch_change before now) (Ok read) →
      inputs.script ≡ read.script → AreFontsFetched names read.fonts (fetch_change now next) (Ok inputs.fonts) → AreFilesFetched script names (fetch_change before next) (Ok inputs)
  files_fetched now next read inputs (inl (it, bytes, added, asked)) same fonts = record {
    fetches = (name, it, bytes) ∷ fonts.fetches;
    first = both_first now next read it bytes added fonts.fetches fonts.first;
    read = (read, script_given it bytes fonts.fetches (Ok read) asked, same, fonts.read (λ e. cc));
  }
  files_fetched now next read inputs (inr (kept, is)) same fonts = absurd cc

  pub fonts_stopped : (now next : List LoggedFetch) (read : Inputs) (why : Status) → IsFileFetched (AsksScript script.own_fonts name) name (fetch_change before now) (Ok read) →
      AreFontsFetched names read.fonts (fetch_change now next) (Err why) → AreFilesFetched script names (fetch_change before next) (Err why)
  fonts_stopped now next read why (inl (it, bytes, added, asked)) fonts =
      let whole = (name, it, bytes) ∷ fonts.fetches in
      record {
        fetches = whole;
        first = both_first now next read it bytes added fonts.fetches fonts.first;
        read = fonts_refused (IsGiven whole) script names read why (script_given it bytes fonts.fetches (Ok read) asked) fonts.read;
      }
  fonts_stopped now next read why (inr (kept, is)) fonts = absurd cc

-- Memory ran out before any was fetched.
pub nothing_fetched : (script : ScriptSource) (names : List (List ℕ)) (log : List LoggedFetch) → AreFilesFetched script names (fetch_change log log) (Err status.OutOfMemory)
nothing_fetched script names log = record {
  fetches = [];
  first = record { added = sym (append-nil log); order = refl };
  read = inl tt;
}
