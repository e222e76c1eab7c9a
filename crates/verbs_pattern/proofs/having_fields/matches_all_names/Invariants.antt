use Rattle.std.proofs.Common.{◌≡◌, true, take}
use Rattle.std.specs.List.{list_all}
use Rattle.regex.specs.Bytes.{matcher_pattern}
use Rattle.verbs_pattern.specs.Matching.{has_match}
use Rattle.verbs_pattern.proofs.having_fields.matches_all_names.Given as goal

abbrev pub invariant-loop-place : goal.invariant-loop-place
invariant-loop-place l = record {
  same : matcher_pattern l.matcher ≡ matcher_pattern l.fn.matcher;
  all : list_all (λ pair. has_match (matcher_pattern l.fn.matcher) pair.0) (take l.place l.fields) ≡ true;
}
