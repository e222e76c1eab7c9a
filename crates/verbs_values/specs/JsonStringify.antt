-- The verb `json-stringify`.
use Rattle.verbs_base.specs.Changing.{is_taken, changed}
use Rattle.verbs_base.specs.Records.{Fields}
use Rattle.verbs_values.specs.declared.json_stringify.JsonStringify.{JsonStringify}
use Rattle.verbs_values.specs.JsonValues.{encoded}

abbrev pub json_stringify : JsonStringify → Fields → Fields
json_stringify verb fields = changed (is_taken verb.names) encoded fields
