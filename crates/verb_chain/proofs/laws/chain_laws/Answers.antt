use Rattle.std.proofs.Common.{true}
use Rattle.verb_chain.proofs.Growing.{chain-grows, chain-stops}
use Rattle.verb_chain.proofs.laws.chain_laws.Goals as goal

pub returns-clause-growth : goal.returns-clause-growth
returns-clause-growth c verbs events following = chain-grows true verbs events following

pub returns-clause-stop : goal.returns-clause-stop
returns-clause-stop c verbs events following is = chain-stops true verbs events following is
