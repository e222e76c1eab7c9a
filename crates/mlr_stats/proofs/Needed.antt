-- What is needed for one more statistic serves it and those before it.
use Rattle.std.proofs.Common.{◌≡◌, true, List, [], ◌∷◌, ◌++◌, refl, sym, subst, append_assoc}
use Rattle.std.proofs.lemmas.List.{append-nil}
use Rattle.stat_base.specs.declared.accumulator.Accumulator.{Accumulator}
use Rattle.stat_base.specs.declared.accumulator.Accumulator.TheVariants.{Count, Sum, Mean, Min, Max, Mode, Antimode, First, Last, DistinctCount, NullCount, Median, Percentile}
use Rattle.std.specs.List.{fold}
use Rattle.mlr_stats.specs.declared.needs.Needs.{Needs}
use Rattle.mlr_stats.specs.Kept.{ServesAll, needs_of, no_needs, serves, with_needs}

-- what is needed stays needed
record Extends (needs more : Needs) : Type 0 where
  sum : needs.sum ≡ true → more.sum ≡ true
  least : needs.least ≡ true → more.least ≡ true
  greatest : needs.greatest ≡ true → more.greatest ≡ true
  first : needs.first ≡ true → more.first ≡ true
  last : needs.last ≡ true → more.last ≡ true
  texts : needs.texts ≡ true → more.texts ≡ true
  values : needs.values ≡ true → more.values ≡ true

same : (needs : Needs) → Extends needs needs
same needs = record {
  sum = λ h. h;
  least = λ h. h;
  greatest = λ h. h;
  first = λ h. h;
  last = λ h. h;
  texts = λ h. h;
  values = λ h. h;
}

extends : (needs : Needs) (accumulator : Accumulator) → Extends needs (with_needs needs accumulator)
extends needs Count = same needs
extends needs Sum = record { sum = λ h. refl; least = λ h. h; greatest = λ h. h; first = λ h. h; last = λ h. h; texts = λ h. h; values = λ h. h }
extends needs Mean = record { sum = λ h. refl; least = λ h. h; greatest = λ h. h; first = λ h. h; last = λ h. h; texts = λ h. h; values = λ h. h }
extends needs Min = record { sum = λ h. h; least = λ h. refl; greatest = λ h. h; first = λ h. h; last = λ h. h; texts = λ h. h; values = λ h. h }
extends needs Max = record { sum = λ h. h; least = λ h. h; greatest = λ h. refl; first = λ h. h; last = λ h. h; texts = λ h. h; values = λ h. h }
extends needs Mode = record { sum = λ h. h; least = λ h. h; greatest = λ h. h; first = λ h. h; last = λ h. h; texts = λ h. refl; values = λ h. h }
extends needs Antimode = record { sum = λ h. h; least = λ h. h; greatest = λ h. h; first = λ h. h; last = λ h. h; texts = λ h. refl; values = λ h. h }
extends needs First = record { sum = λ h. h; least = λ h. h; greatest = λ h. h; first = λ h. refl; last = λ h. h; texts = λ h. h; values = λ h. h }
extends needs Last = record { sum = λ h. h; least = λ h. h; greatest = λ h. h; first = λ h. h; last = λ h. refl; texts = λ h. h; values = λ h. h }
extends needs DistinctCount = record { sum = λ h. h; least = λ h. h; greatest = λ h. h; first = λ h. h; last = λ h. h; texts = λ h. refl; values = λ h. h }
extends needs NullCount = same needs
extends needs Median = record { sum = λ h. h; least = λ h. h; greatest = λ h. h; first = λ h. h; last = λ h. h; texts = λ h. h; values = λ h. refl }
extends needs (Percentile percent) = record { sum = λ h. h; least = λ h. h; greatest = λ h. h; first = λ h. h; last = λ h. h; texts = λ h. h; values = λ h. refl }

still-serves : (needs more : Needs) → Extends needs more → (accumulator : Accumulator) → serves needs accumulator ≡ true → serves more accumulator ≡ true
still-serves needs more on Count is = refl
still-serves needs more on Sum is = on.sum is
still-serves needs more on Mean is = on.sum is
still-serves needs more on Min is = on.least is
still-serves needs more on Max is = on.greatest is
still-serves needs more on Mode is = on.texts is
still-serves needs more on Antimode is = on.texts is
still-serves needs more on First is = on.first is
still-serves needs more on Last is = on.last is
still-serves needs more on DistinctCount is = on.texts is
still-serves needs more on NullCount is = refl
still-serves needs more on Median is = on.values is
still-serves needs more on (Percentile percent) is = on.values is

serves-own : (needs : Needs) (accumulator : Accumulator) → serves (with_needs needs accumulator) accumulator ≡ true
serves-own needs Count = refl
serves-own needs Sum = refl
serves-own needs Mean = refl
serves-own needs Min = refl
serves-own needs Max = refl
serves-own needs Mode = refl
serves-own needs Antimode = refl
serves-own needs First = refl
serves-own needs Last = refl
serves-own needs DistinctCount = refl
serves-own needs NullCount = refl
serves-own needs Median = refl
serves-own needs (Percentile percent) = refl

serves-more : (needs : Needs) (accumulators : List Accumulator) (accumulator : Accumulator) → ServesAll needs accumulators → ServesAll (with_needs needs accumulator) (accumulators ++ accumulator ∷ [])
serves-more needs [] accumulator all = (serves-own needs accumulator, tt)
serves-more needs (first ∷ accumulators) accumulator all =
    (still-serves needs (with_needs needs accumulator) (extends needs accumulator) first all.0, serves-more needs accumulators accumulator all.1)

folded : (needs : Needs) (before accumulators : List Accumulator) → ServesAll needs before → ServesAll (fold with_needs needs accumulators) (before ++ accumulators)
folded needs before [] all = subst (ServesAll needs) (sym (append-nil before)) all
folded needs before (accumulator ∷ accumulators) all =
    subst (ServesAll (fold with_needs (with_needs needs accumulator) accumulators)) (append_assoc before (accumulator ∷ []) accumulators)
    (folded (with_needs needs accumulator) (before ++ accumulator ∷ []) accumulators (serves-more needs before accumulator all))

-- what some statistics need serves them
pub needs-serve : (accumulators : List Accumulator) → ServesAll (needs_of accumulators) accumulators
needs-serve accumulators = folded no_needs [] accumulators tt
