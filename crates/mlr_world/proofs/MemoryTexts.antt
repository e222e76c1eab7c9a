-- The first entry of a list that passes a test.
use Rattle.std.proofs.Common.{◌≡◌, ℕ, zero, suc, ◌+◌, ◌<◌, Bool, true, false, cond, ◌||◌, List, [], ◌∷◌, ◌++◌, length, take, get_or, set, map, Some, None, refl, ap, sym, ◌∙◌, arith}
use Rattle.std.specs.List.{list_any}
use Rattle.std.specs.Str.{bytes_eq}
use Rattle.std.proofs.lemmas.Bool.{or_parts, false_from_ne_true}
use Rattle.std.proofs.lemmas.List.{get_or_read, length-append}
use Rattle.std.proofs.Math.Seq.{take-append_seam, get_or-append_seam}
use Rattle.std.proofs.lemmas.List.Folds.{list_any_more}
use Rattle.std.proofs.lemmas.Slice.Eq.{bytes_eq-Decides}
use Rattle.mlr_event.specs.declared.names.InputName.{InputName}
use Rattle.mlr_event.specs.declared.names.InputName.TheVariants as input
use Rattle.mlr_event.specs.declared.names.Target.{Target}
use Rattle.mlr_event.specs.declared.names.Target.TheVariants as target
use Rattle.mlr_world.specs.MemoryTexts.{same_input, same_target, first_at, IsFirstPlace}

bytes_eq-same : (name : List ℕ) → bytes_eq name name ≡ true
bytes_eq-same name = (bytes_eq-Decides name name).1 refl

same_input-refl : (a : InputName) → same_input a a ≡ true
same_input-refl input.Stdin = refl
same_input-refl (input.File name) = bytes_eq-same name

pub same_input-true : (a b : InputName) → same_input a b ≡ true → a ≡ b
same_input-true input.Stdin input.Stdin h = refl
same_input-true input.Stdin (input.File other) h = cc
same_input-true (input.File name) input.Stdin h = cc
same_input-true (input.File name) (input.File other) h = ap input.File ((bytes_eq-Decides name other).0 h)

pub same_input-from : (a b : InputName) → a ≡ b → same_input a b ≡ true
same_input-from a b e = ap (same_input a) (sym e) ∙ same_input-refl a

-- two names that differ aren't the same, and two that are the same are equal
pub same_input-false : (a b : InputName) → (a ≡ b → ⊥) → same_input a b ≡ false
same_input-false a b differ = false_from_ne_true (same_input a b) (λ e. differ (same_input-true a b e))

same_target-refl : (a : Target) → same_target a a ≡ true
same_target-refl target.Stdout = refl
same_target-refl target.Stderr = refl
same_target-refl (target.File name) = bytes_eq-same name

pub same_target-true : (a b : Target) → same_target a b ≡ true → a ≡ b
same_target-true target.Stdout target.Stdout h = refl
same_target-true target.Stdout target.Stderr h = cc
same_target-true target.Stdout (target.File other) h = cc
same_target-true target.Stderr target.Stdout h = cc
same_target-true target.Stderr target.Stderr h = refl
same_target-true target.Stderr (target.File other) h = cc
same_target-true (target.File name) target.Stdout h = cc
same_target-true (target.File name) target.Stderr h = cc
same_target-true (target.File name) (target.File other) h = ap target.File ((bytes_eq-Decides name other).0 h)

pub same_target-from : (a b : Target) → a ≡ b → same_target a b ≡ true
same_target-from a b e = ap (same_target a) (sym e) ∙ same_target-refl a

pub same_target-false : (a b : Target) → (a ≡ b → ⊥) → same_target a b ≡ false
same_target-false a b differ = false_from_ne_true (same_target a b) (λ e. differ (same_target-true a b e))

module _ {E V : Type 0} (test : E → Bool) (value : E → V) where
  pub first_at-absent : (entries : List E) → list_any test entries ≡ false → first_at test value entries ≡ None
  first_at-absent [] h = refl
  first_at-absent (entry ∷ entries) h =
      let parts = or_parts (test entry) (list_any test entries) h in
      rw parts.0 (first_at-absent entries parts.1)

  pub first_at-place : (entries : List E) (i : ℕ) (d : E) → i < length entries → list_any test (take i entries) ≡ false → test (get_or entries i d) ≡ true
      → first_at test value entries ≡ Some (value (get_or entries i d))
  first_at-place [] i d below absent here = absurd (omega arith)
  first_at-place (entry ∷ entries) zero d below absent here = rw here
  first_at-place (entry ∷ entries) (suc i) d below absent here =
      let parts = or_parts (test entry) (list_any test (take i entries)) absent in
      rw parts.0 (first_at-place entries i d (omega arith) parts.1 here)

  -- replacing an entry that failed the test by one that fails it too
  pub first_at-set_other : (entries : List E) (i : ℕ) (d entry : E) → i < length entries → test (get_or entries i d) ≡ false → test entry ≡ false
      → first_at test value (set entries i entry) ≡ first_at test value entries
  first_at-set_other [] i d entry below was is = refl
  first_at-set_other (first ∷ entries) zero d entry below was is = rw (was, is) refl
  first_at-set_other (first ∷ entries) (suc i) d entry below was is =
      ap (λ rest. cond (test first) (Some (value first)) rest) (first_at-set_other entries i d entry (omega arith) was is)

  -- appending an entry that fails the test
  pub first_at-push_other : (entries : List E) (entry : E) → test entry ≡ false → first_at test value (entries ++ entry ∷ []) ≡ first_at test value entries
  first_at-push_other [] entry is = rw is refl
  first_at-push_other (first ∷ entries) entry is =
      ap (λ rest. cond (test first) (Some (value first)) rest) (first_at-push_other entries entry is)

  -- appending an entry that is the first to pass
  pub first_at-push_first : (entries : List E) (entry : E) → list_any test entries ≡ false → test entry ≡ true → first_at test value (entries ++ entry ∷ []) ≡ Some (value entry)
  first_at-push_first [] entry absent is = rw is refl
  first_at-push_first (first ∷ entries) entry absent is =
      let parts = or_parts (test first) (list_any test entries) absent in
      rw parts.0 (first_at-push_first entries entry parts.1 is)

-- the first entry of a mapped list
pub first_at-map : {E F V : Type 0} (test : F → Bool) (value : F → V) (make : E → F) (entries : List E) → first_at test value (map make entries) ≡ first_at (λ entry. test (make entry)) (λ entry. value (make entry)) entries
first_at-map test value make [] = refl
first_at-map test value make (entry ∷ entries) =
    ap (λ rest. cond (test (make entry)) (Some (value (make entry))) rest) (first_at-map test value make entries)

pub false_test : (t : Bool) → t ≡ false → t ≡ true → ⊥
false_test t off on = absurd cc

-- a search that has reached a place
module _ {E : Type 0} (test : E → Bool) (entries : List E) (i : ℕ) (entry : E)
    (below : i < length entries) (is : entry ≡ get_or entries i entry) (absent : list_any test (take i entries) ≡ false) where
  pub list_any-goes_on : test entry ≡ false → list_any test (take (i + 1) entries) ≡ false
  list_any-goes_on fails =
      list_any_more test entries i entry below ∙ ap (λ before. before || test (get_or entries i entry)) absent ∙ ap test (sym is) ∙ fails

  pub is_first_place : test entry ≡ true → IsFirstPlace test entries (Some i)
  is_first_place passes = (below, absent, λ d. ap test (sym (get_or_read entries i entry below is d)) ∙ passes)

-- a search that has reached the end, and an entry appended there that passes
pub is_first_place-pushed : {E : Type 0} (test : E → Bool) (entries : List E) (entry : E) → list_any test entries ≡ false → test entry ≡ true → IsFirstPlace test (entries ++ entry ∷ []) (Some (length entries))
is_first_place-pushed test entries entry absent passes =
    (simp length-append (omega arith), ap (list_any test) (take-append_seam entries (entry ∷ [])) ∙ absent, λ d. ap test (get_or-append_seam entries entry [] d) ∙ passes)

pub list_any-map : {E F : Type 0} (test : F → Bool) (make : E → F) (entries : List E) → list_any test (map make entries) ≡ list_any (λ entry. test (make entry)) entries
list_any-map test make [] = refl
list_any-map test make (entry ∷ entries) = ap (λ rest. test (make entry) || rest) (list_any-map test make entries)
