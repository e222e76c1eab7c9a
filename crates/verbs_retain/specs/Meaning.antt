-- What each verb means, and which options are short.
use Rattle.std.specs.Prelude.{true, false}
use Rattle.verbs_base.specs.Records.{RecordVerb}
use Rattle.verbs_count.specs.Count.{count}
use Rattle.verbs_count.specs.CountDistinct.{count_distinct}
use Rattle.verbs_count.specs.Frequent.{frequent}
use Rattle.verbs_count.specs.Uniq.{uniq}
use Rattle.verbs_hold.specs.CountSimilar.{count_similar}
use Rattle.verbs_hold.specs.GroupBy.{group_by}
use Rattle.verbs_hold.specs.GroupLike.{group_like}
use Rattle.verbs_hold.specs.Tac.{tac}
use Rattle.verbs_hold.specs.Tail.{tail}
use Rattle.verbs_hold.specs.Unsparsify.{unsparsify}
use Rattle.verbs_sort.specs.Sort.{sort}
use Rattle.verbs_retain.specs.declared.spec.Spec.{Spec}
use Rattle.verbs_retain.specs.declared.spec.Spec.TheVariants as verb

-- the verb as a function of records
abbrev pub meaning_of : Spec → RecordVerb
meaning_of (verb.Count options) = count options
meaning_of (verb.CountDistinct options) = count_distinct options
meaning_of (verb.CountSimilar options) = count_similar options
meaning_of (verb.GroupBy names) = group_by names
meaning_of verb.GroupLike = group_like
meaning_of (verb.LeastFrequent options) = frequent true options
meaning_of (verb.MostFrequent options) = frequent false options
meaning_of (verb.Sort options) = sort options
meaning_of verb.Tac = tac
meaning_of (verb.Tail options) = tail options
meaning_of (verb.Uniq options) = uniq options
meaning_of (verb.Unsparsify options) = unsparsify options

-- verbs without options
abbrev pub IsShort : Spec → Type 0
IsShort verb.GroupLike = Unit {0}
IsShort verb.Tac = Unit {0}
IsShort _ = ⊥
