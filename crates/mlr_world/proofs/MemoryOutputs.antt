-- What a write or an open does to the bytes of each target.
use Rattle.std.proofs.Common.{◌≡◌, ℕ, ◌<◌, ◌≤◌, Bool, true, false, List, [], ◌∷◌, ◌++◌, length, take, drop, get_or, set, All, Option, Some, None, refl, ap, sym, ◌∙◌, arith}
use Rattle.std.specs.List.{list_any}
use Rattle.std.proofs.lemmas.List.{length-set, take-set, get_or-set_same, take-append-drop}
use Rattle.mlr_event.specs.declared.names.Target.{Target}
use Rattle.mlr_event.specs.declared.names.Mode.{Mode}
use Rattle.mlr_event.specs.declared.names.Mode.TheVariants.{Fresh, Append}
use Rattle.mlr_world.specs.declared.memory_outputs.HeldText.{HeldText}
use Rattle.mlr_world.specs.declared.outputs.Done.TheVariants as done
use Rattle.mlr_world.specs.Outputs.{ChangesOnly, OpenLeaves, WriteLeaves}
use Rattle.mlr_world.specs.MemoryTexts.{same_target, first_at, IsFirstPlace}
use Rattle.mlr_world.specs.MemorySink.{held_at}
use Rattle.mlr_world.specs.MemoryOutputs.{pair_of, pairs_of, is_of, HasRoom, Writes}
use Rattle.mlr_world.proofs.MemoryTexts.{same_target-true, same_target-from, same_target-false, first_at-absent, first_at-place, first_at-set_other, first_at-push_other, first_at-push_first, first_at-map, list_any-map}

-- an entry's bytes
abbrev bytes_of : HeldText → List ℕ
bytes_of entry = entry.text.items

held-first : (entries : List HeldText) (target : Target) → held_at (pairs_of entries) target ≡ first_at (is_of target) bytes_of entries
held-first entries target = first_at-map (λ entry. same_target entry.0 target) (λ entry. entry.1) pair_of entries

pub held-absent : (entries : List HeldText) (target : Target) → IsFirstPlace (is_of target) entries None → held_at (pairs_of entries) target ≡ None
held-absent entries target absent = held-first entries target ∙ first_at-absent (is_of target) bytes_of entries absent

module _ (entries : List HeldText) (target : Target) (i : ℕ) (entry : HeldText)
    (found : IsFirstPlace (is_of target) entries (Some i)) (is : entry ≡ get_or entries i entry) where
  pub held-place : held_at (pairs_of entries) target ≡ Some entry.text.items
  held-place =
      held-first entries target
      ∙ first_at-place (is_of target) bytes_of entries i entry found.0 found.1 (found.2 entry)
      ∙ ap (λ e. Some (bytes_of e)) (sym is)

  its_target : entry.target ≡ target
  its_target = same_target-true entry.target target (ap (is_of target) is ∙ found.2 entry)

  fails_elsewhere : (other : Target) → (other ≡ target → ⊥) → is_of other entry ≡ false
  fails_elsewhere other differs = same_target-false entry.target other (λ e. differs (sym e ∙ its_target))

  -- an entry replaced by one of the same target
  pub changes-set : (step : Option (List ℕ) → Option (List ℕ) → Type 0) (entry' : HeldText) → entry'.target ≡ entry.target → step (Some entry.text.items) (Some entry'.text.items)
      → ChangesOnly target step (held_at (pairs_of entries)) (held_at (pairs_of (set entries i entry')))
  changes-set step entry' same h =
      let below : i < length (set entries i entry') = simp length-set found.0 in
      let passes : is_of target (get_or (set entries i entry') i entry') ≡ true =
      rw (get_or-set_same entries i entry' entry' found.0) (ap (λ t. same_target t target) same ∙ same_target-from entry.target target its_target) in
      let now : held_at (pairs_of (set entries i entry')) target ≡ Some entry'.text.items =
      held-first (set entries i entry') target
      ∙ first_at-place (is_of target) bytes_of (set entries i entry') i entry' below (ap (list_any (is_of target)) (take-set entries i entry') ∙ found.1) passes
      ∙ ap (λ e. Some (bytes_of e)) (get_or-set_same entries i entry' entry' found.0) in
      record {
        here = rw (held-place, now) h;
        elsewhere =
            λ other differs.
            held-first (set entries i entry') other
            ∙ first_at-set_other (is_of other) bytes_of entries i entry entry' found.0 (ap (is_of other) (sym is) ∙ fails_elsewhere other differs)
            (ap (λ t. same_target t other) same ∙ fails_elsewhere other differs)
            ∙ sym (held-first entries other);
      }

-- a target that was opened for the first time is empty
opens_empty : (mode : Mode) → OpenLeaves mode done.Ok None (Some [])
opens_empty Fresh = refl
opens_empty Append = refl

pub changes-push : (entries entries' : List HeldText) (target : Target) (mode : Mode) → IsFirstPlace (is_of target) entries None → pairs_of entries' ≡ pairs_of entries ++ (target, []) ∷ []
    → ChangesOnly target (OpenLeaves mode done.Ok) (held_at (pairs_of entries)) (held_at (pairs_of entries'))
changes-push entries entries' target mode absent pushed =
    let test : Target → Target × List ℕ → Bool = λ target entry. same_target entry.0 target in
    let value : Target × List ℕ → List ℕ = λ entry. entry.1 in
    let before : held_at (pairs_of entries) target ≡ None = held-absent entries target absent in
    let now : held_at (pairs_of entries') target ≡ Some [] =
    ap (λ pairs. held_at pairs target) pushed
    ∙ first_at-push_first (test target) value (pairs_of entries) (target, []) (list_any-map (test target) pair_of entries ∙ absent) (same_target-from target target refl) in
    record {
      here = rw (before, now) (opens_empty mode);
      elsewhere =
          λ other differs.
          ap (λ pairs. held_at pairs other) pushed
          ∙ first_at-push_other (test other) value (pairs_of entries) (target, []) (same_target-false target other (λ e. differs (sym e)));
    }

-- a failed write appends a prefix
pub writes_prefix : (bytes : List ℕ) (n : ℕ) (before now : List ℕ) → now ≡ before ++ take n bytes → WriteLeaves bytes done.Failed (Some before) (Some now)
writes_prefix bytes n before now e = (take n bytes, (drop n bytes, sym (take-append-drop n bytes)), ap Some e)

-- a write to a target that isn't there
pub writes-none : (fails : Bool) (room : ℕ) (bytes : List ℕ) → Writes fails room room bytes done.Failed None None
writes-none true room bytes = record { failed = refl; text = refl; spent = refl }
writes-none false room bytes = record { failed = refl; text = refl; spent = refl }

-- texts have room for fewer bytes too
pub all-fine-less : (room room' : ℕ) (entries : List HeldText) → room' ≤ room → All (HasRoom room) entries → All (HasRoom room') entries
all-fine-less room room' entries less fine = λ i d below. let f : HasRoom room (get_or entries i d) = fine i d below in omega (arith, f)
