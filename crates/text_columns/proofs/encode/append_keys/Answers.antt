use Rattle.mlr_record.specs.Fields.{pairs_of}
use Rattle.mlr_spec.specs.Pairs.{keys_of}
use Rattle.text_columns.proofs.Encoding.{key_cell, key-cells, keys-many, line-written}
use Rattle.text_columns.proofs.encode.append_keys.Goals as goal

pub returns : goal.returns
returns c =
    let fields = c.args.fields.now in
    line-written key_cell fields (keys_of (pairs_of fields)) c.args.line.now (keys-many fields) (key-cells fields)
    c.loop-field.field-index c.append_length.new.line c.loop-field.line c.loop-field-test.false c.in_ok-append_length.ensures c.loop-field.invariant
