use Rattle.std.proofs.Common.{[], refl}
use Rattle.cli_grammar.specs.declared.line.Place.TheVariants as place
use Rattle.cli_grammar.proofs.Fits.{line-fits}
use Rattle.cli_grammar.proofs.Lines.{accepted-is}
use Rattle.cli_grammar.proofs.Refusals.{at-word, place-of}
use Rattle.cli_grammar.proofs.Walks.{found, one}
use Rattle.cli_grammar.proofs.laws.grammar_laws.Goals as goal

pub returns-clause-fits : goal.returns-clause-fits
returns-clause-fits c = λ words. line-fits words 0 [] [] place.Flags refl refl tt

pub returns-clause-line : goal.returns-clause-line
returns-clause-line c = accepted-is

pub returns-clause-found : goal.returns-clause-found
returns-clause-found c = found

pub returns-clause-one : goal.returns-clause-one
returns-clause-one c = one

pub returns-clause-place : goal.returns-clause-place
returns-clause-place c = λ words why refused. let place = place-of words why refused in (place.0, place.1.0)

pub returns-clause-word : goal.returns-clause-word
returns-clause-word c = at-word
