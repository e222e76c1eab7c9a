use Rattle.std.proofs.Common.{[]}
use Rattle.std.proofs.lemmas.Result.{on_ok_weaker}
use Rattle.verbs_pattern.proofs.searching.search_each.Goals as goal

pub take_all-requires : goal.take_all-requires
take_all-requires g c = ([], c.requires)

pub returns-clause-gives : goal.returns-clause-gives
returns-clause-gives g c = on_ok_weaker c.take_all.result (λ all. record { gives = λ given holds. all.gives given c.requires }) c.take_all.ensures.gives
