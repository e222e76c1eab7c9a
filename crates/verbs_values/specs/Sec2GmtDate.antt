-- The verb `sec2gmtdate`.
use Rattle.mlr_event.specs.Reading.{is_among}
use Rattle.mlr_time.specs.Times.{sec2gmtdate}
use Rattle.verbs_base.specs.Changing.{changed}
use Rattle.verbs_base.specs.Records.{Fields}
use Rattle.verbs_values.specs.declared.sec2gmtdate.Sec2GmtDate.{Sec2GmtDate}

abbrev pub sec2gmtdate_fields : Sec2GmtDate → Fields → Fields
sec2gmtdate_fields verb fields = changed (is_among verb.names) sec2gmtdate fields
