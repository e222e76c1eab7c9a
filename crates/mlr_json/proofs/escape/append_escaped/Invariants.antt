use Rattle.std.proofs.Common.{◌≡◌, ◌++◌, length}
use Rattle.std.specs.List.{flat_map}
use Rattle.mlr_spec.specs.Json.{escaped}
use Rattle.mlr_json.specs.Escapes.{RepresentsBefore}
use Rattle.mlr_json.proofs.escape.append_escaped.Given as goal

-- what was written so far, with the rest, is the whole string
abbrev pub invariant-loop-rest : goal.invariant-loop-rest
invariant-loop-rest l = record {
  all : l.into ++ flat_map escaped l.rest ≡ l.initial.into ++ flat_map escaped l.initial.rest;
  prefix : RepresentsBefore l.initial.into l.into;
}

abbrev pub decreases-loop-rest : goal.decreases-loop-rest
decreases-loop-rest l = length l.rest
