use Rattle.std.proofs.Common.{ap, sym, ◌∙◌}
use Rattle.mlr_record.specs.Nodes.{nodes_of}
use Rattle.mlr_record.proofs.Unflattening.{leaves_in-ends}
use Rattle.mlr_record.proofs.unflatten.leaves_in.Goals as goal

pub returns : goal.returns
returns c = ap nodes_of c.in_ok-push_leaves.ensures ∙ sym (leaves_in-ends c.args.map.now)
