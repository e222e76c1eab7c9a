use Rattle.std.proofs.Common.{◌≡◌, drop}
use Rattle.std.specs.Prelude.{max}
use Rattle.std.specs.List.{fold}
use Rattle.mlr_record.specs.Fields.{pairs_of}
use Rattle.text_columns.specs.Width.{code_points}
use Rattle.text_columns.specs.Xtab.{longest_key}
use Rattle.text_columns.proofs.xtab.longest_key.Given as goal

abbrev pub invariant-loop-field : goal.invariant-loop-field
invariant-loop-field l = fold (λ width field. max width (code_points field.0)) l.width (pairs_of (drop l.field-index l.fields)) ≡ longest_key (pairs_of l.fields)
