use Rattle.std.proofs.Common.{[]}
use Rattle.std.proofs.lemmas.Result.{on_ok_weaker}
use Rattle.verbs_reshape.proofs.to_long.ToLongSearches.search_all.Goals as goal

pub take_all-requires : goal.take_all-requires
take_all-requires c = ([], c.in_ok-matchers.ensures)

pub returns-clause-gives : goal.returns-clause-gives
returns-clause-gives c = on_ok_weaker c.take_all.result (λ all. record { gives = λ given holds. all.gives given c.in_ok-matchers.ensures }) c.take_all.ensures.gives
