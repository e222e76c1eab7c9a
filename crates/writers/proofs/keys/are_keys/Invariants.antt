use Rattle.std.proofs.Common.{◌≡◌, drop}
use Rattle.mlr_record.specs.Fields.{pairs_of}
use Rattle.writers.specs.declared.form.Part.TheVariants.{Keys}
use Rattle.writers.specs.Cells.{same_texts, texts}
use Rattle.writers.proofs.keys.are_keys.Given as goal

abbrev pub invariant-loop-place : goal.invariant-loop-place
invariant-loop-place l = same_texts (drop l.place l.keys) (texts Keys (pairs_of (drop l.place l.fields))) ≡ same_texts l.keys (texts Keys (pairs_of l.fields))
