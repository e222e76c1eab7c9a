use Rattle.std.proofs.Common.{arith}
use Rattle.mlr_fields.proofs.Suffixing.{not-all-taken}
use Rattle.mlr_fields.proofs.suffixes.first_free.Goals as goal

pub returns-clause-name : goal.returns-clause-name
returns-clause-name g c =
    absurd (not-all-taken (g.N.TakenNames.names c.args.names.now) c.args.name.now c.requires.few c.requires.there (λ k low high. c.loop-number.invariant.1 k low (omega arith)))

pub returns-clause-free : goal.returns-clause-free
returns-clause-free g c =
    absurd (not-all-taken (g.N.TakenNames.names c.args.names.now) c.args.name.now c.requires.few c.requires.there (λ k low high. c.loop-number.invariant.1 k low (omega arith)))
