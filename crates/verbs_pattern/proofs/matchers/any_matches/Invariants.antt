use Rattle.std.proofs.Common.{◌≡◌, false, map, take}
use Rattle.regex.specs.Bytes.{matcher_pattern}
use Rattle.verbs_pattern.specs.Matching.{any_matches}
use Rattle.verbs_pattern.proofs.matchers.any_matches.Given as goal

abbrev pub invariant-loop-place : goal.invariant-loop-place
invariant-loop-place l = record {
  same : map matcher_pattern l.matchers ≡ map matcher_pattern l.fn.matchers;
  none : any_matches (take l.place (map matcher_pattern l.fn.matchers)) l.text ≡ false;
}
