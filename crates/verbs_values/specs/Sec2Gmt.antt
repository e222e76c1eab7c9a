-- The verb `sec2gmt`.
use Rattle.mlr_event.specs.Reading.{is_among}
use Rattle.mlr_time.specs.Times.{sec2gmt}
use Rattle.verbs_base.specs.Changing.{changed}
use Rattle.verbs_base.specs.Records.{Fields}
use Rattle.verbs_values.specs.declared.sec2gmt.Sec2Gmt.{Sec2Gmt}

abbrev pub sec2gmt_fields : Sec2Gmt → Fields → Fields
sec2gmt_fields verb fields = changed (is_among verb.names) sec2gmt fields
