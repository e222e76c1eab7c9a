-- The left files of a plan, and what they hold for each verb.
use Rattle.std.proofs.Common.{◌≡◌, ℕ, suc, ◌+◌, ◌-◌, ◌^◌, ◌<◌, Bool, true, ◌&&◌, List, [], ◌∷◌, ◌++◌, length, get_or, drop, Option, Some, None, refl, ap, ap₂, sym, ◌∙◌, append_assoc, arith}
use Rattle.std.specs.Prelude.{min}
use Rattle.std.specs.List.{list_all}
use Rattle.std.proofs.Math.Seq.{drop-cons}
use Rattle.std.proofs.lemmas.Bool.{and_parts}
use Rattle.std.proofs.lemmas.List.Folds.{list_all-append}
use Rattle.mlr_event.specs.declared.event.Event.{Event}
use Rattle.mlr_event.specs.declared.names.InputName.{InputName}
use Rattle.mlr_event.specs.declared.options.ReadOpts.{ReadOpts}
use Rattle.read_files.specs.Represents.{can_read}
use Rattle.left_files.specs.declared.left_file.LeftFile.{LeftFile}
use Rattle.verb_specs.specs.declared.verb_spec.VerbSpec.{VerbSpec}
use Rattle.verb_specs.specs.Verbs.{after_left, left_for, left_of, lefts_for}
use Rattle.plan_verbs.specs.Plans.{can_read_left, left_file, left_files_from}

-- each verb has an entry
pub lefts-many : (specs : List VerbSpec) (lefts : List (List Event)) → length (lefts_for specs lefts) ≡ length specs
lefts-many [] lefts = refl
lefts-many (spec ∷ specs) lefts = ap suc (lefts-many specs (after_left (left_of spec) lefts))

-- left files that can be read
both-true : (a b : Bool) → a ≡ true → b ≡ true → (a && b) ≡ true
both-true a b x y = ap₂ (λ p q. p && q) x y

one-read : (number : ℕ) (file : Option (InputName × ReadOpts)) → elim file [ Some f ↦ can_read f.1 | None ↦ true ] ≡ true → list_all (λ f. can_read f.read) (left_file number file) ≡ true
one-read number None is = refl
one-read number (Some file) is = both-true (can_read file.1) true is refl

pub files-read : (number : ℕ) (specs : List VerbSpec) → list_all can_read_left specs ≡ true → list_all (λ file. can_read file.read) (left_files_from number specs) ≡ true
files-read number [] all = refl
files-read number (spec ∷ specs) all =
    let parts = and_parts (can_read_left spec) (list_all can_read_left specs) all in
    list_all-append (λ file. can_read file.read) (left_file number (left_of spec)) (left_files_from (min (number + 1) (2 ^ 32 - 1)) specs)
    ∙ both-true _ _ (one-read number (left_of spec) parts.0) (files-read (min (number + 1) (2 ^ 32 - 1)) specs parts.1)

module _ (specs : List VerbSpec) (i : ℕ) (spec : VerbSpec) (within : i < length specs) (at : spec ≡ get_or specs i spec) where
  next : drop i specs ≡ spec ∷ drop (i + 1) specs
  next = drop-cons specs i spec within ∙ ap₂ (λ s n. s ∷ drop n specs) (sym at) (let e : suc i ≡ i + 1 = omega arith in e)

  -- the files so far, and those of the verbs that remain
  pub files-next : (files files' all : List LeftFile) (number : ℕ) → files ++ left_files_from number (drop i specs) ≡ all → files' ≡ files ++ left_file number (left_of spec)
      → files' ++ left_files_from (min (number + 1) (2 ^ 32 - 1)) (drop (i + 1) specs) ≡ all
  files-next files files' all number now more =
      ap (λ fs. fs ++ left_files_from (min (number + 1) (2 ^ 32 - 1)) (drop (i + 1) specs)) more
      ∙ append_assoc files (left_file number (left_of spec)) (left_files_from (min (number + 1) (2 ^ 32 - 1)) (drop (i + 1) specs))
      ∙ ap (λ rest. files ++ left_files_from number rest) (sym next) ∙ now

  -- the entries so far, and those of the verbs that remain
  pub lefts-next : (lefts lefts' all : List (List Event)) (held held' : List (List Event)) → lefts ++ lefts_for (drop i specs) held ≡ all → lefts' ≡ lefts ++ left_for (left_of spec) held ∷ [] → held' ≡ after_left (left_of spec) held
      → lefts' ++ lefts_for (drop (i + 1) specs) held' ≡ all
  lefts-next lefts lefts' all held held' now more rest =
      ap₂ (λ ls h. ls ++ lefts_for (drop (i + 1) specs) h) more rest
      ∙ append_assoc lefts (left_for (left_of spec) held ∷ []) (lefts_for (drop (i + 1) specs) (after_left (left_of spec) held))
      ∙ ap (λ verbs. lefts ++ lefts_for verbs held) (sym next) ∙ now
