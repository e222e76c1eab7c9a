-- The contents of the inputs that never fail.
use Rattle.std.proofs.Common.{◌≡◌, ◌≤◌, ◌<◌, ℕ, Bool, true, false, cond, List, [], ◌∷◌, ◌++◌, length, take, get_or, map, Some, All, refl, ap, subst, sym, ◌∙◌, arith}
use Rattle.std.proofs.lemmas.List.{get_or_append_left, take-append-le, length-append}
use Rattle.std.proofs.lemmas.List.Elements.{All-tail}
use Rattle.mlr_event.specs.declared.names.InputName.{InputName}
use Rattle.mlr_event.specs.declared.names.InputName.TheVariants as input
use Rattle.mlr_world.specs.declared.memory_inputs.Reading.{Reading}
use Rattle.mlr_world.specs.MemoryTexts.{same_input, first_at, IsFirstPlace}
use Rattle.mlr_world.specs.MemorySource.{contents_at}
use Rattle.mlr_world.specs.MemoryInputs.{entry_at, take_of, takes_of, IsReading}
use Rattle.mlr_world.specs.Outputs.{or_empty}
use Rattle.mlr_world.specs.SureContents.{sure_contents, empty_entry, AddsEmpty, SureState}
use Rattle.mlr_world.proofs.MemoryInputs.{all_fine-begun}

-- the first entry that passes stays the first when others are appended
first_at-found : {E V : Type 0} (test : E → Bool) (value : E → V) (found : V) (entries more : List E) → first_at test value entries ≡ Some found → first_at test value (entries ++ more) ≡ Some found
first_at-found test value found [] more h = absurd cc
first_at-found test value found (entry ∷ entries) more h = by_test (test entry) h (first_at-found test value found entries more)
  where
    by_test : (t : Bool) → cond t (Some (value entry)) (first_at test value entries) ≡ Some found
        → (first_at test value entries ≡ Some found → first_at test value (entries ++ more) ≡ Some found)
        → cond t (Some (value entry)) (first_at test value (entries ++ more)) ≡ Some found
    by_test true h rest = h
    by_test false h rest = rest h

-- empty entries change no contents
sure_contents-empty : (names : List InputName) (name : InputName) → or_empty (contents_at (map empty_entry names) name) ≡ []
sure_contents-empty [] name = refl
sure_contents-empty (first ∷ names) name = by_test (same_input first name) (sure_contents-empty names name)
  where
    by_test : (t : Bool) → or_empty (contents_at (map empty_entry names) name) ≡ [] → or_empty (cond t (Some []) (contents_at (map empty_entry names) name)) ≡ []
    by_test true h = refl
    by_test false h = h

sure_contents-more : (entries : List (InputName × List ℕ)) (names : List InputName) (name : InputName) → or_empty (contents_at (entries ++ map empty_entry names) name) ≡ or_empty (contents_at entries name)
sure_contents-more [] names name = sure_contents-empty names name
sure_contents-more (entry ∷ entries) names name = by_test (same_input entry.0 name) (sure_contents-more entries names name)
  where
    by_test : (t : Bool) → or_empty (contents_at (entries ++ map empty_entry names) name) ≡ or_empty (contents_at entries name)
        → or_empty (cond t (Some entry.1) (contents_at (entries ++ map empty_entry names) name)) ≡ or_empty (cond t (Some entry.1) (contents_at entries name))
    by_test true h = refl
    by_test false h = h

module _ (entries more : List (InputName × List ℕ)) where
  entry-kept : (place : ℕ) → place < length entries → entry_at (entries ++ more) place ≡ entry_at entries place
  entry-kept place below = get_or_append_left entries more (input.Stdin, []) place below

  reading-kept : (reading : Reading) → IsReading entries reading → IsReading (entries ++ more) reading
  reading-kept reading fine =
      let kept : entry_at (entries ++ more) reading.place ≡ entry_at entries reading.place = entry-kept reading.place fine.there in
      record {
        there = simp length-append (omega (arith, fine.there));
        within = subst (λ entry. reading.count ≤ length entry.1) (sym kept) fine.within;
        first = subst (λ entry. contents_at (entries ++ more) entry.0 ≡ Some entry.1) (sym kept) (first_at-found _ _ _ entries more fine.first);
      }

  take-kept : (reading : Reading) → IsReading entries reading → take_of (entries ++ more) reading ≡ take_of entries reading
  take-kept reading fine = ap (λ entry. record { name = entry.0; bytes = take reading.count entry.1; ended = reading.ended }) (entry-kept reading.place fine.there)

  takes-kept : (readings : List Reading) → All (IsReading entries) readings → takes_of (entries ++ more) readings ≡ takes_of entries readings
  takes-kept [] fine = refl
  takes-kept (reading ∷ readings) fine =
      ap (λ last. last ∷ takes_of (entries ++ more) readings) (take-kept reading (fine 0 reading (omega arith)))
      ∙ ap (λ takes. take_of entries reading ∷ takes) (takes-kept readings (All-tail (IsReading entries) reading readings fine))

  all_fine-kept : (readings : List Reading) → All (IsReading entries) readings → All (IsReading (entries ++ more)) readings
  all_fine-kept readings fine = λ i reading below. reading-kept (get_or readings i reading) (fine i reading below)

-- a state to which empty entries were added, for names that were not listed
module _ (given : ℕ) (entries entries' : List (InputName × List ℕ)) (readings : List Reading) (state : SureState given entries readings) (added : AddsEmpty entries entries') where
  pub state-kept : SureState given entries' readings
  state-kept =
      rw added.1
      (record {
        there = simp length-append (omega (arith, state.there));
        same =
            λ name.
            ap Some (sure_contents-more entries added.0 name)
            ∙ state.same name
            ∙ ap (λ entries. sure_contents entries name) (sym (take-append-le given entries (map empty_entry added.0) state.there));
        fine = all_fine-kept entries (map empty_entry added.0) readings state.fine;
      })

  pub taken-kept : takes_of entries' readings ≡ takes_of entries readings
  taken-kept = ap (λ entries. takes_of entries readings) added.1 ∙ takes-kept entries (map empty_entry added.0) readings state.fine

pub state-begun : (given : ℕ) (entries : List (InputName × List ℕ)) (readings readings' : List Reading) (name : InputName) (place : ℕ)
    → SureState given entries readings → IsFirstPlace (λ entry. same_input entry.0 name) entries (Some place) → readings' ≡ readings ++ record { place = place; count = 0; ended = false } ∷ []
    → SureState given entries readings'
state-begun given entries readings readings' name place state found pushed =
    record { there = state.there; same = state.same; fine = all_fine-begun entries readings readings' name place found pushed state.fine }
