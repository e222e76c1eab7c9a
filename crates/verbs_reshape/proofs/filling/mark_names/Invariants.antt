use Rattle.std.proofs.Common.{◌≡◌, map, take}
use Rattle.mlr_event.specs.Reading.{is_among}
use Rattle.mlr_spec.specs.Pairs.{keys_of}
use Rattle.verbs_reshape.proofs.filling.mark_names.Given as goal

-- the keys are marked that are among the names so far
abbrev pub invariant-loop-field : goal.invariant-loop-field
invariant-loop-field l = l.had ≡ map (is_among (take l.field-index (keys_of l.fields))) l.keys
