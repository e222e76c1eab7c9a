use Rattle.std.proofs.Common.{◌≡◌, false, take}
use Rattle.regex.specs.Bytes.{matcher_pattern}
use Rattle.verbs_pattern.specs.HavingFields.{any_name_matches}
use Rattle.verbs_pattern.proofs.having_fields.matches_any_name.Given as goal

abbrev pub invariant-loop-place : goal.invariant-loop-place
invariant-loop-place l = record {
  same : matcher_pattern l.matcher ≡ matcher_pattern l.fn.matcher;
  none : any_name_matches (matcher_pattern l.fn.matcher) (take l.place l.fields) ≡ false;
}
