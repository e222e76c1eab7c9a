-- The values that a record makes, with their names, are the fields that it gets.
use Rattle.std.proofs.Common.{◌≡◌, ℕ, ◌+◌, cond, List, [], ◌∷◌, ◌++◌, map, length, Option, Some, None, refl, ap, ap₂, sym, inl, inr, ◌∙◌}
use Rattle.std.specs.List.{flat_map}
use Rattle.std.proofs.lemmas.Bool.{cases_Bool}
use Rattle.std.proofs.lemmas.List.{length-append, length-map}
use Rattle.mlr_spec.specs.Pairs.{value_at}
use Rattle.mlr_spec.specs.Tree.{Tree, is_empty}
use Rattle.stat_base.specs.Outputs.{output_name}
use Rattle.stat_base.specs.Steppers.{name_of}
use Rattle.stat_base.specs.Values.{present, values_of}
use Rattle.stat_base.specs.declared.stepper.Stepper.{Stepper}
use Rattle.verbs_base.specs.Records.{Fields}
use Rattle.verbs_step.specs.Made.{made_after, made_in, named, outputs_for, present_at}
use Rattle.verbs_step.specs.Step.{made_of, stepped}
use Rattle.verbs_step.specs.declared.step.Step.{Step}

named-append : (names more : List (List ℕ)) (made next : List (Option Tree)) → length names ≡ length made → named (names ++ more) (made ++ next) ≡ named names made ++ named more next
named-append [] more [] next same = refl
named-append [] more (one ∷ made) next same = absurd (cc)
named-append (name ∷ names) more [] next same = absurd (cc)
named-append (name ∷ names) more (Some value ∷ made) next same = ap (λ fields. (name, value) ∷ fields) (named-append names more made next (cc))
named-append (name ∷ names) more (None ∷ made) next same = named-append names more made next (cc)

module _ (options : Step) (before : List Fields) (fields : Fields) where
  named-each : (values : List Tree) (value : Tree) (name : List ℕ) (steppers : List Stepper)
      → named (outputs_for steppers name) (made_after steppers values (Some value)) ≡ map (λ stepper. (output_name name (name_of stepper), stepped values value stepper)) steppers
  named-each values value name [] = refl
  named-each values value name (stepper ∷ steppers) = ap (λ fields. (output_name name (name_of stepper), stepped values value stepper) ∷ fields) (named-each values value name steppers)

  named-none : (values : List Tree) (name : List ℕ) (steppers : List Stepper) → named (outputs_for steppers name) (made_after steppers values None) ≡ []
  named-none values name [] = refl
  named-none values name (stepper ∷ steppers) = named-none values name steppers

  -- the values that are made of one field
  named-found : (values : List Tree) (name : List ℕ) (found : Option Tree)
      → named (outputs_for options.steppers name) (made_after options.steppers values (elim found [ Some value ↦ cond (is_empty value) None (Some value) | None ↦ None ]))
      ≡ elim found [ Some value ↦ cond (is_empty value) [] (map (λ stepper. (output_name name (name_of stepper), stepped values value stepper)) options.steppers) | None ↦ [] ]
  named-found values name None = named-none values name options.steppers
  named-found values name (Some value) =
      elim (cases_Bool (is_empty value)) as (λ _. named (outputs_for options.steppers name) (made_after options.steppers values (cond (is_empty value) None (Some value)))
      ≡ cond (is_empty value) [] (map (λ stepper. (output_name name (name_of stepper), stepped values value stepper)) options.steppers)) [
        | inl is ↦ rw is (named-none values name options.steppers)
        | inr isnt ↦ rw isnt (named-each values value name options.steppers)
      ]

  as-many : (values : List Tree) (name : List ℕ) (found : Option Tree) → length (outputs_for options.steppers name) ≡ length (made_after options.steppers values found)
  as-many values name None = length-map options.steppers _ ∙ sym (length-map options.steppers _)
  as-many values name (Some value) = length-map options.steppers _ ∙ sym (length-map options.steppers _)

  -- one value for each name, which may be none
  pub made-length : (names : List (List ℕ)) → length (made_in options.steppers names before fields) ≡ length (flat_map (outputs_for options.steppers) names)
  made-length [] = refl
  made-length (name ∷ names) =
      length-append (made_after options.steppers (present (values_of name before)) (present_at name fields)) (made_in options.steppers names before fields)
      ∙ ap₂ (λ m n. m + n) (sym (as-many (present (values_of name before)) name (present_at name fields))) (made-length names)
      ∙ sym (length-append (outputs_for options.steppers name) (flat_map (outputs_for options.steppers) names))

  -- the values that are made of all fields
  pub named-made : (names : List (List ℕ)) → named (flat_map (outputs_for options.steppers) names) (made_in options.steppers names before fields) ≡ flat_map (made_of options before fields) names
  named-made [] = refl
  named-made (name ∷ names) =
      let values = present (values_of name before) in
      named-append (outputs_for options.steppers name) (flat_map (outputs_for options.steppers) names) (made_after options.steppers values (present_at name fields)) (made_in options.steppers names before fields) (as-many values name (present_at name fields))
      ∙ ap₂ (λ xs ys. xs ++ ys) (named-found values name (value_at name fields)) (named-made names)
