use Rattle.mlr_record.specs.Fields.{pairs_of}
use Rattle.text_columns.specs.Pprint.{values_of}
use Rattle.text_columns.proofs.Encoding.{value_cell, value-cells, values-many, line-written}
use Rattle.text_columns.proofs.encode.append_values.Goals as goal

pub returns : goal.returns
returns c =
    let fields = c.args.fields.now in
    line-written value_cell fields (values_of (pairs_of fields)) c.args.line.now (values-many fields) (value-cells fields)
    c.loop-field.field-index c.append_length.new.line c.loop-field.line c.loop-field-test.false c.in_ok-append_length.ensures c.loop-field.invariant
