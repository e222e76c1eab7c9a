-- What is kept of the values of a field, with one more value.
use Rattle.std.proofs.Common.{◌≡◌, ℕ, ◌+◌, min, not, cond, List, [], ◌∷◌, ◌++◌, map, length, pos, Option, Some, None, refl, ap, ap₂, sym, inl, inr, ◌∙◌, arith}
use Rattle.std.specs.List.{cons_option}
use Rattle.std.proofs.lemmas.Bool.{cases_Bool}
use Rattle.std.proofs.lemmas.List.{append-nil, length-append}
use Rattle.std.proofs.lemmas.List.Elements.{filter-append, filter_map-append}
use Rattle.std.proofs.lemmas.List.Sums.{fold-append}
use Rattle.mlr_spec.specs.Arith.{arith_of}
use Rattle.mlr_spec.specs.Pairs.{value_at}
use Rattle.mlr_spec.specs.Tree.{Tree, empty, int, is_empty}
use Rattle.mlr_spec.specs.declared.arith.Op.TheVariants.{Plus}
use Rattle.mlr_groups.specs.Tallying.{capped}
use Rattle.stat_base.specs.Values.{present, sum_of, values_of}
use Rattle.stat_base.specs.declared.stepper.Stepper.{Stepper}
use Rattle.stat_base.specs.declared.stepper.Stepper.TheVariants.{Shift, Delta, Rsum, Counter}
use Rattle.verbs_base.specs.Records.{Fields}
use Rattle.verbs_step.specs.Kept.{kept_after, kept_of, last_in, last_operand, last_value, made_from, number, total}
use Rattle.verbs_step.specs.Made.{kept_by, made_after, made_by, present_at}
use Rattle.verbs_step.specs.Step.{last_or, stepped}

last-more : (other : Tree) (values : List Tree) (value : Tree) → last_or other (values ++ value ∷ []) ≡ value
last-more other [] value = refl
last-more other (first ∷ values) value = last-more first values value

last_in-more : (values : List Tree) (value : Tree) → last_in (values ++ value ∷ []) ≡ Some value
last_in-more [] value = refl
last_in-more (first ∷ values) value = ap Some (last-more first values value)

below-top : (n top : ℕ) → min (min n top + 1) top ≡ min (n + 1) top
below-top n top = omega arith

capped-more : (n : ℕ) → capped (capped n + 1) ≡ capped (n + 1)
capped-more n = below-top n _

sum-more : (values : List Tree) (value : Tree) → arith_of Plus (sum_of values) value ≡ sum_of (values ++ value ∷ [])
sum-more values value = sym (fold-append (arith_of Plus) (int (pos 0) []) values (value ∷ []))

-- what a stepper keeps with one more value
kept-more : (values : List Tree) (value : Tree) (stepper : Stepper) → kept_after value (kept_of stepper values) ≡ kept_of stepper (values ++ value ∷ [])
kept-more values value Shift = ap last_value (sym (last-more empty values value))
kept-more values value Delta = ap last_operand (sym (last_in-more values value))
kept-more values value Rsum = ap total (sum-more values value)
kept-more values value Counter = ap number (capped-more (length values) ∙ ap capped (sym (length-append values (value ∷ []))))

-- what it makes of the value
made-stepped : (values : List Tree) (value : Tree) (stepper : Stepper) → made_from value (kept_of stepper values) ≡ stepped values value stepper
made-stepped values value Shift = refl
made-stepped [] value Delta = refl
made-stepped (first ∷ values) value Delta = refl
made-stepped values value Rsum = sum-more values value
made-stepped values value Counter = ap (λ n. int (pos n) []) (capped-more (length values))

kept-each : (steppers : List Stepper) (values : List Tree) (value : Tree) → map (kept_after value) (map (λ stepper. kept_of stepper values) steppers) ≡ map (λ stepper. kept_of stepper (values ++ value ∷ [])) steppers
kept-each [] values value = refl
kept-each (stepper ∷ steppers) values value = ap₂ (λ x xs. x ∷ xs) (kept-more values value stepper) (kept-each steppers values value)

made-each : (steppers : List Stepper) (values : List Tree) (value : Tree) → map (λ kept. Some (made_from value kept)) (map (λ stepper. kept_of stepper values) steppers) ≡ map (λ stepper. Some (stepped values value stepper)) steppers
made-each [] values value = refl
made-each (stepper ∷ steppers) values value = ap₂ (λ x xs. Some x ∷ xs) (made-stepped values value stepper) (made-each steppers values value)

none-each : (steppers : List Stepper) (values : List Tree) → made_by None (map (λ stepper. kept_of stepper values) steppers) ≡ made_after steppers values None
none-each [] values = refl
none-each (stepper ∷ steppers) values = ap (λ xs. None ∷ xs) (none-each steppers values)

-- what all steppers keep and make of a value that may be absent
pub kept-field : (steppers : List Stepper) (values : List Tree) (found : Option Tree)
    → kept_by found (map (λ stepper. kept_of stepper values) steppers) ≡ map (λ stepper. kept_of stepper (values ++ cons_option found [])) steppers
kept-field steppers values None = ap (λ values. map (λ stepper. kept_of stepper values) steppers) (sym (append-nil values))
kept-field steppers values (Some value) = kept-each steppers values value

pub made-field : (steppers : List Stepper) (values : List Tree) (found : Option Tree)
    → made_by found (map (λ stepper. kept_of stepper values) steppers) ≡ made_after steppers values found
made-field steppers values None = none-each steppers values
made-field steppers values (Some value) = made-each steppers values value

present-one : (found : Option Tree) → present (cons_option found []) ≡ cons_option (elim found [ Some value ↦ cond (is_empty value) None (Some value) | None ↦ None ]) []
present-one None = refl
present-one (Some value) = elim (cases_Bool (is_empty value)) as (λ _. present (value ∷ []) ≡ cons_option (cond (is_empty value) None (Some value)) []) [
  | inl is ↦ rw is refl
  | inr isnt ↦ rw isnt refl
]

-- the values of a field that aren't empty, with one more record
pub present-more : (name : List ℕ) (before : List Fields) (fields : Fields) → present (values_of name (before ++ fields ∷ [])) ≡ present (values_of name before) ++ cons_option (present_at name fields) []
present-more name before fields =
    ap present (filter_map-append (value_at name) before (fields ∷ []))
    ∙ filter-append (λ value. not (is_empty value)) (values_of name before) (cons_option (value_at name fields) [])
    ∙ ap (λ more. present (values_of name before) ++ more) (present-one (value_at name fields))
