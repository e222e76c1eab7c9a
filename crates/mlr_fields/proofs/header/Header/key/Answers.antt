use Rattle.std.proofs.Common.{[], length, ap, arith}
use Rattle.mlr_event.proofs.Distinct.{length-distinct}
use Rattle.mlr_fields.proofs.header.Header.key.Goals as goal

pub index-requires : goal.index-requires
index-requires c = omega (arith, c.requires, ap length c.self.invariant.0, length-distinct [] c.self.inside.names.items, ap length c.self.view_is)
