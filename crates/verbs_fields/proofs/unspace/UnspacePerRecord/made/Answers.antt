use Rattle.std.proofs.Common.{[], ◌∷◌, ap, sym, ◌∙◌}
use Rattle.verbs_fields.proofs.Spaceless.{unspaced-plain}
use Rattle.verbs_fields.proofs.unspace.UnspacePerRecord.made.Goals as goal

pub returns-then-not-has_spaced-clause-made : goal.returns-then-not-has_spaced-clause-made
returns-then-not-has_spaced-clause-made c =
    ap (λ made. made ∷ []) (sym (unspaced-plain c.args.self.now c.args.fields c.has_spaced.ensures.distinct (sym c.has_spaced.ensures.found ∙ c.if-not-has_spaced.true)))
