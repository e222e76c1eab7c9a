-- Statistics beside counts, the sum and the mean.
use Rattle.std.proofs.Common.{◌≡◌, List, refl}
use Rattle.mlr_spec.specs.Tree.{Tree}
use Rattle.stat_base.specs.Values.{present}
use Rattle.stat_base.specs.declared.accumulator.Accumulator.{Accumulator}
use Rattle.stat_base.specs.declared.accumulator.Accumulator.TheVariants.{Count, Sum, Mean, Min, Max, Mode, Antimode, First, Last, DistinctCount, NullCount, Median, Percentile}
use Rattle.mlr_stats.specs.declared.needs.Needs.{Needs}
use Rattle.mlr_stats.specs.Kept.{serves, serves_more}
use Rattle.mlr_stats.specs.Statistic.{of_values, statistic}

pub record IsBeside (accumulator : Accumulator) : Type 0 where
  pub serves_is : (needs : Needs) → serves needs accumulator ≡ serves_more needs accumulator
  pub statistic_is : (values : List Tree) → statistic values accumulator ≡ of_values (present values) accumulator

pub beside : (accumulator : Accumulator) → (accumulator ≡ Count → ⊥) → (accumulator ≡ Sum → ⊥) → (accumulator ≡ Mean → ⊥) → (accumulator ≡ NullCount → ⊥) → IsBeside accumulator
beside Count count sum mean nulls = absurd (count refl)
beside Sum count sum mean nulls = absurd (sum refl)
beside Mean count sum mean nulls = absurd (mean refl)
beside Min count sum mean nulls = record { serves_is = λ needs. refl; statistic_is = λ values. refl }
beside Max count sum mean nulls = record { serves_is = λ needs. refl; statistic_is = λ values. refl }
beside Mode count sum mean nulls = record { serves_is = λ needs. refl; statistic_is = λ values. refl }
beside Antimode count sum mean nulls = record { serves_is = λ needs. refl; statistic_is = λ values. refl }
beside First count sum mean nulls = record { serves_is = λ needs. refl; statistic_is = λ values. refl }
beside Last count sum mean nulls = record { serves_is = λ needs. refl; statistic_is = λ values. refl }
beside DistinctCount count sum mean nulls = record { serves_is = λ needs. refl; statistic_is = λ values. refl }
beside NullCount count sum mean nulls = absurd (nulls refl)
beside Median count sum mean nulls = record { serves_is = λ needs. refl; statistic_is = λ values. refl }
beside (Percentile percent) count sum mean nulls = record { serves_is = λ needs. refl; statistic_is = λ values. refl }
