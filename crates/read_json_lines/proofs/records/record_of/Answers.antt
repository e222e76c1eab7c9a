use Rattle.std.proofs.Common.{Some, ap, sym, ◌∙◌}
use Rattle.mlr_value.specs.Value.{tree_of}
use Rattle.read_json_lines.specs.Turns.{record_in}
use Rattle.read_json_lines.proofs.Pairs.{pairs-in-fields}
use Rattle.read_json_lines.proofs.records.record_of.Goals as goal

pub returns-in-Map : goal.returns-in-Map
returns-in-Map c = ap Some (c.in_ok-of_map-in-Map.ensures ∙ sym (pairs-in-fields c.in-Map.pairs)) ∙ sym (ap (λ v. record_in (tree_of v)) c.in-Map.is)
