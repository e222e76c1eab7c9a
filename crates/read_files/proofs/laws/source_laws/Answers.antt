use Rattle.read_files.proofs.Fixed.{all-taken, source-fixed}
use Rattle.read_files.proofs.Formats.{Growth, growth}
use Rattle.read_files.proofs.Prefixes.{taken-early, whole-order}
use Rattle.read_files.proofs.Growing.{inputs-list, inputs-whole, source-grows}
use Rattle.read_files.proofs.laws.source_laws.Goals as goal

pub returns-clause-list : goal.returns-clause-list
returns-clause-list c = inputs-list

pub returns-clause-grows : goal.returns-clause-grows
returns-clause-grows c =
    let grows : Growth = growth
    c.prefix_laws.ensures.fed c.prefix_laws.ensures.read
    c.prefix_laws-2.ensures.fed c.prefix_laws-2.ensures.read
    c.prefix_laws-3.ensures.fed c.prefix_laws-3.ensures.read
    c.prefix_laws-4.ensures.fed c.prefix_laws-4.ensures.read
    in λ opts names given longer order on. source-grows grows opts names given longer order on

pub returns-clause-fixed : goal.returns-clause-fixed
returns-clause-fixed c =
    source-fixed (growth
    c.prefix_laws.ensures.fed c.prefix_laws.ensures.read
    c.prefix_laws-2.ensures.fed c.prefix_laws-2.ensures.read
    c.prefix_laws-3.ensures.fed c.prefix_laws-3.ensures.read
    c.prefix_laws-4.ensures.fed c.prefix_laws-4.ensures.read)

pub returns-clause-whole : goal.returns-clause-whole
returns-clause-whole c = λ told names given whole order prefixes all. (inputs-whole told names given whole order prefixes all, whole-order told names whole all)

pub returns-clause-early : goal.returns-clause-early
returns-clause-early c = taken-early

pub returns-clause-all : goal.returns-clause-all
returns-clause-all c = all-taken
