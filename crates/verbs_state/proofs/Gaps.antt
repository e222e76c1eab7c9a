-- Gaps between records with different keys.
use Rattle.std.proofs.Common.{◌≡◌, ℕ, ◌<◌, not, List, [], ◌∷◌, ◌++◌, Option, Some, None, ap, ap₂, sym, subst, ◌∙◌, arith}
use Rattle.std.specs.Option.{unwrap_or}
use Rattle.std.specs.Str.{bytes_eq}
use Rattle.mlr_groups.specs.Grouping.{texts_of}
use Rattle.mlr_groups.specs.Keys.{key_of}
use Rattle.mlr_groups.proofs.KeyTexts.{key-eq}
use Rattle.verbs_state.specs.declared.gap.Gap.TheVariants as variant
use Rattle.verbs_state.specs.Gap.{IsLastKey, RepresentsAfter, is_apart}
use Rattle.verbs_base.specs.Records.{Fields}
use Rattle.verbs_state.specs.Last.{last}
use Rattle.verbs_state.proofs.Lasts.{last-push}

-- a key of the last record's texts, if there is a last record
abbrev IsKeyOf : List (List ℕ) → List ℕ → Option Fields → Type 0
IsKeyOf names key end = elim end [ Some earlier ↦ key ≡ key_of (texts_of names earlier) | None ↦ Unit {0} ]

module _ (names : List (List ℕ)) (fields : Fields) (key : List ℕ) (is : key ≡ key_of (texts_of names fields)) where
  pub last_key-push : (before : List Fields) → IsLastKey (variant.Groups names) key (before ++ fields ∷ [])
  last_key-push before = subst (IsKeyOf names key) (sym (last-push before fields)) is

  -- after a record there is a gap if the key changes
  pub apart-changed : (before : List Fields) (count : ℕ) (old : List ℕ) → RepresentsAfter (variant.Groups names) count old before → 0 < count
      → not (bytes_eq old key) ≡ is_apart (variant.Groups names) before fields
  apart-changed [] count old represents some = absurd (omega (arith, represents.1))
  apart-changed (first ∷ before) count old represents some =
      ap not (ap₂ bytes_eq represents.2 is ∙ key-eq (texts_of names (unwrap_or (last before) first)) (texts_of names fields))
