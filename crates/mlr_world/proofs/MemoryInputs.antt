-- How a reading that continues changes the bytes taken.
use Rattle.std.proofs.Common.{◌≡◌, ℕ, zero, suc, ◌+◌, ◌-◌, ◌≤◌, ◌<◌, Bool, true, false, ◌||◌, List, [], ◌∷◌, ◌++◌, length, take, drop, get_or, set, map, Some, None, IsSome, All, refl, ap, subst, sym, ◌∙◌, arith}
use Rattle.std.specs.Prelude.{slice_get}
use Rattle.std.specs.Option.{option_map, is_none}
use Rattle.std.proofs.lemmas.Bool.{false≢true}
use Rattle.std.proofs.lemmas.List.{append_assoc, map-append, get_or_default, length-take, length-take-le, length-drop, take-append-drop, take_all, length-map, length-append, length-set, get_or-set_same}
use Rattle.std.proofs.lemmas.List.Elements.{All-push}
use Rattle.std.proofs.Math.Seq.{take-add, get_or-append_seam}
use Rattle.mlr_event.specs.declared.names.InputName.{InputName}
use Rattle.mlr_event.specs.declared.names.InputName.TheVariants as input
use Rattle.mlr_world.specs.declared.inputs.Got.TheVariants as got
use Rattle.mlr_world.specs.declared.memory_inputs.Reading.{Reading}
use Rattle.mlr_world.specs.Inputs.{ReadTakes}
use Rattle.mlr_world.specs.MemoryTexts.{same_input, IsFirstPlace}
use Rattle.mlr_world.specs.MemorySource.{contents_at}
use Rattle.mlr_world.specs.MemoryInputs.{name_at, text_at, take_of, takes_of, last_entry, entry_if, left_of, IsReading, TakesFrom}
use Rattle.mlr_world.specs.Outputs.{or_empty}
use Rattle.mlr_world.specs.Taken.{Take, entry_of, begun, grown, ended, with_entry, with_open, open_take}
use Rattle.mlr_world.proofs.MemoryTexts.{first_at-absent, first_at-place, same_input-true}

module _ {E : Type 0} (make : E → Take) where
  slice_get-map : (xs : List E) (i : ℕ) (d : E) → i < length xs → slice_get (map make xs) i ≡ Some (make (get_or xs i d))
  slice_get-map [] i d below = absurd (omega arith)
  slice_get-map (x ∷ xs) zero d below = refl
  slice_get-map (x ∷ xs) (suc i) d below = slice_get-map xs i d (omega arith)

  -- setting an entry of a list changes that entry
  with_entry-set : (change : Take → Take) (xs : List E) (i : ℕ) (d x' : E) → make x' ≡ change (make (get_or xs i d)) → map make (set xs i x') ≡ with_entry i change (map make xs)
  with_entry-set change [] i d x' e = refl
  with_entry-set change (x ∷ xs) zero d x' e = ap (λ take. take ∷ map make xs) e
  with_entry-set change (x ∷ xs) (suc i) d x' e = ap (λ rest. make x ∷ rest) (with_entry-set change xs i d x' e)

-- an open input is the one that was opened last
pub entry-open : (open' : Bool) (takes : List Take) → IsSome (entry_if open' takes) → entry_if open' takes ≡ last_entry takes
entry-open true takes some = refl
entry-open false takes some = absurd (false≢true some)

-- the input that was opened last, by the last reading
last_entry-so : (contents : List (InputName × List ℕ)) (readings : List Reading) (i : ℕ) (reading : Reading) → i + 1 ≡ length readings
    → last_entry (takes_of contents readings) ≡ Some (entry_of (name_at contents (get_or readings i reading).place) i)
last_entry-so contents readings i reading last =
    let takes = takes_of contents readings in
    let place : length takes - 1 ≡ i = omega (arith, last, length-map readings (take_of contents)) in
    ap (λ p. option_map (λ take. entry_of take.name p) (slice_get takes p)) place
    ∙ ap (option_map (λ take. entry_of take.name i)) (slice_get-map (take_of contents) readings i reading (omega (arith, last)))

module _ (contents : List (InputName × List ℕ)) (readings : List Reading) (i : ℕ) (reading : Reading)
    (last : i + 1 ≡ length readings) (is : reading ≡ get_or readings i reading) (all_fine : All (IsReading contents) readings) where
  pub fine : IsReading contents reading
  fine = subst (IsReading contents) (sym is) (all_fine i reading (omega arith))

  abbrev takes : List Take
  takes = takes_of contents readings

  entry-so : last_entry takes ≡ Some (entry_of (name_at contents reading.place) i)
  entry-so = last_entry-so contents readings i reading last ∙ ap (λ r. Some (entry_of (name_at contents r.place) i)) (sym is)

  take-so : open_take (last_entry takes) takes ≡ Some (take_of contents reading)
  take-so =
      ap (λ entry. open_take entry takes) entry-so ∙ slice_get-map (take_of contents) readings i reading (omega (arith, last))
      ∙ ap (λ r. Some (take_of contents r)) (sym is)

  -- the text of the entry that is read
  pub text-read : (entry : InputName × List ℕ) (text : List ℕ) → text ≡ (get_or contents reading.place entry).1 → text ≡ text_at contents reading.place
  text-read entry text e = e ∙ ap (λ x. x.1) (get_or_default contents reading.place entry (input.Stdin, []) fine.there)

  -- a reading that took more bytes
  grew : (n : ℕ) → takes_of contents (set readings i (record { place = reading.place; count = reading.count + n; ended = reading.ended }))
      ≡ with_open (last_entry takes) (grown (take n (drop reading.count (text_at contents reading.place)))) takes
  grew n =
      with_entry-set (take_of contents) (grown (take n (drop reading.count (text_at contents reading.place)))) readings i reading _
      (ap (λ bytes. record { name = name_at contents reading.place; bytes = bytes; ended = reading.ended }) (take-add reading.count n (text_at contents reading.place))
      ∙ ap (λ r. grown (take n (drop reading.count (text_at contents reading.place))) (take_of contents r)) is)
      ∙ ap (λ entry. with_open entry (grown (take n (drop reading.count (text_at contents reading.place)))) takes) (sym entry-so)

  met_end : takes_of contents (set readings i (record { place = reading.place; count = reading.count; ended = true })) ≡ with_open (last_entry takes) ended takes
  met_end = with_entry-set (take_of contents) ended readings i reading _ (ap (λ r. ended (take_of contents r)) is) ∙ ap (λ entry. with_open entry ended takes) (sym entry-so)

  whole : (n : ℕ) → (text : List ℕ) → text ≡ take reading.count text ++ take n (drop reading.count text) ++ drop n (drop reading.count text)
  whole n text =
      sym (append_assoc (take reading.count text) (take n (drop reading.count text)) (drop n (drop reading.count text))
      ∙ ap (λ rest. take reading.count text ++ rest) (take-append-drop n (drop reading.count text))
      ∙ take-append-drop reading.count text)

  pub took : (limit max n : ℕ) (into into' : List ℕ) → limit ≤ max → TakesFrom limit (text_at contents reading.place) reading.count (got.Some n) into into'
      → ReadTakes max (got.Some n) (last_entry takes) (Some (contents_at contents)) (Some (takes_of contents readings))
      (Some (takes_of contents (set readings i (record { place = reading.place; count = reading.count + n; ended = reading.ended })))) into into'
  took limit max n into into' within h =
      let text = text_at contents reading.place in
      record {
        piece = take n (drop reading.count text);
        count = simp (length-take, length-drop) (omega (arith, h.2));
        some = h.0;
        no_more = omega (arith, h.1, within);
        appended = h.3;
        entry = ap Some (grew n);
        prefix = rw take-so (drop n (drop reading.count text), fine.first ∙ ap Some (whole n text));
      }

  pub ended_at : (max : ℕ) (into into' : List ℕ) → TakesFrom max (text_at contents reading.place) reading.count got.End into into'
      → ReadTakes max got.End (last_entry takes) (Some (contents_at contents)) (Some (takes_of contents readings))
      (Some (takes_of contents (set readings i (record { place = reading.place; count = reading.count; ended = true })))) into into'
  ended_at max into into' h =
      let text = text_at contents reading.place in
      record {
        unchanged = h.1;
        entry = ap Some met_end;
        all = rw take-so (fine.first ∙ ap Some (sym (take_all reading.count text h.0)));
      }

  -- what is left of the input that is read
  left-so : left_of (contents_at contents) (open_take (last_entry takes) takes) ≡ drop reading.count (text_at contents reading.place)
  left-so =
      let text = text_at contents reading.place in
      ap (left_of (contents_at contents)) take-so
      ∙ ap (λ held. drop (length (take reading.count text)) (or_empty held)) fine.first
      ∙ ap (λ count. drop count text) (length-take-le reading.count text fine.within)

  -- so what holds of the rest of its text holds of that
  pub left-read : (entry : InputName × List ℕ) (text : List ℕ) → text ≡ (get_or contents reading.place entry).1 → (holds : List ℕ → Type 0)
      → holds (drop reading.count text) → holds (left_of (contents_at contents) (open_take (last_entry takes) takes))
  left-read entry text e holds h = subst holds (ap (drop reading.count) (text-read entry text e) ∙ sym left-so) h

  -- the same input stays open
  entry-kept : (reading' : Reading) → reading'.place ≡ reading.place → last_entry (takes_of contents (set readings i reading')) ≡ last_entry takes
  entry-kept reading' same =
      last_entry-so contents (set readings i reading') i reading' (simp length-set last)
      ∙ ap (λ r. Some (entry_of (name_at contents r.place) i)) (get_or-set_same readings i reading' reading' (omega (arith, last)))
      ∙ ap (λ place. Some (entry_of (name_at contents place) i)) same
      ∙ sym entry-so

  pub entry-grew : (n : ℕ) → last_entry (takes_of contents (set readings i (record { place = reading.place; count = reading.count + n; ended = reading.ended }))) ≡ last_entry takes
  entry-grew n = entry-kept (record { place = reading.place; count = reading.count + n; ended = reading.ended }) refl

  pub entry-ended : last_entry (takes_of contents (set readings i (record { place = reading.place; count = reading.count; ended = true }))) ≡ last_entry takes
  entry-ended = entry-kept (record { place = reading.place; count = reading.count; ended = true }) refl

-- an open of a name that has no contents fails
pub fails-absent : (fails : Bool) (contents : List (InputName × List ℕ)) (name : InputName) → IsFirstPlace (λ entry. same_input entry.0 name) contents None
    → true ≡ (fails || is_none (contents_at contents name))
fails-absent true contents name absent = refl
fails-absent false contents name absent = rw (first_at-absent (λ entry. same_input entry.0 name) (λ entry. entry.1) contents absent) refl

-- the entry of a name that was found
module _ (contents : List (InputName × List ℕ)) (name : InputName) (place : ℕ) (found : IsFirstPlace (λ entry. same_input entry.0 name) contents (Some place)) where
  name-found : name_at contents place ≡ name
  name-found = same_input-true _ _ (found.2 _)

  text-found : contents_at contents name ≡ Some (text_at contents place)
  text-found = first_at-place (λ entry. same_input entry.0 name) (λ entry. entry.1) contents place _ found.0 found.1 (found.2 _)

  pub finds : IsSome (contents_at contents name)
  finds = rw text-found

  pub no-fault : (fails : Bool) → fails ≡ false → false ≡ (fails || is_none (contents_at contents name))
  no-fault fails not = rw (not, text-found) refl

-- a new reading, appended to the others
module _ (contents : List (InputName × List ℕ)) (readings readings' : List Reading) (name : InputName) (place : ℕ)
    (found : IsFirstPlace (λ entry. same_input entry.0 name) contents (Some place)) (pushed : readings' ≡ readings ++ record { place = place; count = 0; ended = false } ∷ []) where
  pub all_fine-begun : All (IsReading contents) readings → All (IsReading contents) readings'
  all_fine-begun fine =
      rw pushed
      (All-push (IsReading contents) readings _ fine
      (record { there = found.0; within = omega arith; first = ap (contents_at contents) (name-found contents name place found) ∙ text-found contents name place found }))

  pub takes-begun : takes_of contents readings' ≡ takes_of contents readings ++ begun name ∷ []
  takes-begun = ap (takes_of contents) pushed ∙ map-append (take_of contents) readings _ ∙ ap (λ n. takes_of contents readings ++ begun n ∷ []) (name-found contents name place found)

  pub entry-begun : last_entry (takes_of contents readings') ≡ Some (entry_of name (length (takes_of contents readings)))
  entry-begun =
      let reading : Reading = record { place = place; count = 0; ended = false } in
      let count : length readings' ≡ length readings + 1 = ap length pushed ∙ length-append readings (reading ∷ []) in
      last_entry-so contents readings' (length readings) reading (sym count)
      ∙ ap (λ r. Some (entry_of (name_at contents r.place) (length readings))) (ap (λ rs. get_or rs (length readings) reading) pushed ∙ get_or-append_seam readings reading [] reading)
      ∙ ap (λ n. Some (entry_of n (length readings))) (name-found contents name place found)
      ∙ ap (λ n. Some (entry_of name n)) (sym (length-map readings (take_of contents)))
