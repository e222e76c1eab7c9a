use Rattle.std.proofs.Common.{◌≡◌, ◌-◌, [], length, take, drop}
use Rattle.regex.specs.Bytes.{matcher_pattern}
use Rattle.verbs_pattern.specs.Renaming.{renamed_by, renamed_from}
use Rattle.verbs_pattern.specs.RenamingSteps.{new_name}
use Rattle.verbs_pattern.proofs.rename_patterns.rename_all.Given as goal

-- renaming the remaining fields gives the record with all fields renamed
abbrev pub invariant-loop-place : goal.invariant-loop-place
invariant-loop-place l =
    let re = matcher_pattern l.fn.matcher in record {
      same : matcher_pattern l.matcher ≡ re;
      renamed : renamed_from (new_name l.which re l.by) (take l.place l.fields) [] (drop l.place l.fields) ≡ renamed_by l.which re l.by l.fn.fields;
    }

abbrev pub decreases-loop-place : goal.decreases-loop-place
decreases-loop-place l = length l.fields - l.place
