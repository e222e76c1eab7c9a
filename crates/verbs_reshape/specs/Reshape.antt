-- `reshape`, in both directions.
use Rattle.verbs_base.specs.Records.{RecordVerb, each}
use Rattle.verbs_reshape.specs.ToLong.{to_long}
use Rattle.verbs_reshape.specs.ToWide.{to_wide}
use Rattle.verbs_reshape.specs.declared.reshape.Reshape.{Reshape}
use Rattle.verbs_reshape.specs.declared.reshape.Reshape.TheVariants.{Long, Wide}

abbrev pub reshape : Reshape → RecordVerb
reshape (Long options) = each (to_long options)
reshape (Wide options) = to_wide options
