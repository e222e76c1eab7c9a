-- Values with one more at the end: the sum, the last, and those that are present.
use Rattle.std.proofs.Common.{◌≡◌, Bool, true, false, not, cond, List, [], ◌∷◌, ◌++◌, Some, refl, ap, ◌∙◌}
use Rattle.std.specs.List.{filter, fold}
use Rattle.std.specs.Option.{unwrap_or}
use Rattle.std.proofs.lemmas.List.{append-nil}
use Rattle.std.proofs.lemmas.List.Elements.{filter-append}
use Rattle.mlr_spec.specs.Arith.{arith_of}
use Rattle.mlr_spec.specs.Tree.{Tree, is_empty}
use Rattle.mlr_spec.specs.declared.arith.Op.TheVariants.{Plus}
use Rattle.stat_base.specs.Values.{present, sum_of}
use Rattle.mlr_stats.specs.Statistic.{last_of}

fold-last : {A B : Type 0} (f : B → A → B) (start : B) (xs : List A) (x : A) → fold f start (xs ++ x ∷ []) ≡ f (fold f start xs) x
fold-last f start [] x = refl
fold-last f start (y ∷ xs) x = fold-last f (f start y) xs x

pub sum-last : (values : List Tree) (value : Tree) → sum_of (values ++ value ∷ []) ≡ arith_of Plus (sum_of values) value
sum-last values value = fold-last (arith_of Plus) (sum_of []) values value

pub last-last : (values : List Tree) (value : Tree) → last_of (values ++ value ∷ []) ≡ Some value
last-last [] value = refl
last-last (first ∷ values) value = ap (λ o. Some (unwrap_or o first)) (last-last values value)

pub filter-kept : (test : Tree → Bool) (values : List Tree) (value : Tree) → test value ≡ true → filter test (values ++ value ∷ []) ≡ filter test values ++ value ∷ []
filter-kept test values value is = filter-append test values (value ∷ []) ∙ ap (λ t. filter test values ++ cond t (value ∷ []) []) is

pub filter-dropped : (test : Tree → Bool) (values : List Tree) (value : Tree) → test value ≡ false → filter test (values ++ value ∷ []) ≡ filter test values
filter-dropped test values value is =
    filter-append test values (value ∷ []) ∙ ap (λ t. filter test values ++ cond t (value ∷ []) []) is ∙ append-nil (filter test values)

pub present-kept : (values : List Tree) (value : Tree) → is_empty value ≡ false → present (values ++ value ∷ []) ≡ present values ++ value ∷ []
present-kept values value is = filter-kept (λ v. not (is_empty v)) values value (ap not is)

pub present-dropped : (values : List Tree) (value : Tree) → is_empty value ≡ true → present (values ++ value ∷ []) ≡ present values
present-dropped values value is = filter-dropped (λ v. not (is_empty v)) values value (ap not is)
