-- `count-distinct`: the number of records of each list of texts of some fields, or how many such lists there are.
use Rattle.verbs_base.specs.Records.{RecordVerb}
use Rattle.verbs_count.specs.declared.count_distinct.CountDistinct.{CountDistinct}
use Rattle.verbs_count.specs.Count.{counted_groups}

abbrev pub count_distinct : CountDistinct → RecordVerb
count_distinct options = counted_groups options.names options.number options.output
