-- What verbs give for whole lists of records.
use Rattle.std.proofs.Common.{◌≡◌, ℕ, zero, suc, ◌+◌, ◌^◌, ◌<◌, ◌≤◌, nat_lt, Bool, true, false, cond, List, [], ◌∷◌, ◌++◌, length, take, refl, ap, ap₂, sym, ◌∙◌, arith}
use Rattle.std.specs.Prelude.{is_none}
use Rattle.std.proofs.Math.Seq.{take-nil}
use Rattle.std.proofs.lemmas.List.{length-append}
use Rattle.mlr_groups.specs.Tallying.{capped}
use Rattle.verbs_base.specs.Records.{Fields, RecordVerb, each, given_after}
use Rattle.verbs_state.specs.declared.head.Head.{Head}
use Rattle.verbs_state.specs.Head.{head, head_gives}
use Rattle.verbs_state.specs.Nothing.{nothing}
use Rattle.verbs_state.specs.Ungrouped.{ungrouped-gives}

-- a verb that gives each record as it is
pub given-same : (verb : RecordVerb) → ((before : List Fields) (fields : Fields) → verb.gives before fields ≡ fields ∷ []) → (before given : List Fields) → given_after verb before given ≡ given
given-same verb same before [] = refl
given-same verb same before (fields ∷ given) = ap₂ (λ xs ys. xs ++ ys) (same before fields) (given-same verb same (before ++ fields ∷ []) given)

pub given-nothing : (before given : List Fields) → given_after (each nothing) before given ≡ []
given-nothing before [] = refl
given-nothing before (fields ∷ given) = given-nothing (before ++ fields ∷ []) given

late : (count n : ℕ) → count < 2 ^ 63 → count ≤ n → nat_lt (capped n) count ≡ false
late count n few le = grind (arith)

early : (count n : ℕ) → count < 2 ^ 63 → n < count → nat_lt (capped n) count ≡ true
early count n few less = grind (arith)

always : (count n : ℕ) → 2 ^ 63 ≤ count → nat_lt (capped n) count ≡ true
always count n many = grind (arith)

module _ (options : Head) (ungrouped : is_none options.groups ≡ true) where
  gives-if : (before : List Fields) (fields : Fields) (passes : Bool) → nat_lt (capped (length before)) options.count ≡ passes → head_gives options before fields ≡ cond passes (fields ∷ []) []
  gives-if before fields passes is = ungrouped-gives options ungrouped before fields ∙ ap (λ b. cond b (fields ∷ []) []) is

  none-left : (before given : List Fields) → options.count < 2 ^ 63 → options.count ≤ length before → given_after (head options) before given ≡ []
  none-left before [] few enough = refl
  none-left before (fields ∷ given) few enough =
      ap₂ (λ xs ys. xs ++ ys) (gives-if before fields false (late options.count (length before) few enough))
      (none-left (before ++ fields ∷ []) given few (omega (arith, enough, length-append before (fields ∷ []))))

  -- of the records after others, those that are still to pass
  pub first-given : (left : ℕ) (before given : List Fields) → options.count < 2 ^ 63 → length before + left ≡ options.count → given_after (head options) before given ≡ take left given
  first-given left before [] few is = sym (take-nil left)
  first-given zero before (fields ∷ given) few is = none-left before (fields ∷ given) few (omega (arith, is))
  first-given (suc left) before (fields ∷ given) few is =
      ap₂ (λ xs ys. xs ++ ys) (gives-if before fields true (early options.count (length before) few (omega (arith, is))))
      (first-given left (before ++ fields ∷ []) given few (omega (arith, is, length-append before (fields ∷ []))))

  pub all-given : (given : List Fields) → 2 ^ 63 ≤ options.count → given_after (head options) [] given ≡ given
  all-given given many = given-same (head options) (λ before fields. gives-if before fields true (always options.count (length before) many)) [] given
