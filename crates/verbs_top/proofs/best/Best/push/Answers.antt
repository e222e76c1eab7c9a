use Rattle.std.proofs.Common.{◌∷◌, ◌++◌, [], refl}
use Rattle.verbs_top.specs.Best.{pair_of}
use Rattle.verbs_top.proofs.Keeping.{holds-push}
use Rattle.verbs_top.proofs.best.Best.push.Goals as goal

pub returns-in_ok-cut : goal.returns-in_ok-cut
returns-in_ok-cut c = λ given holds.
    c.in_ok-cut.ensures (given ++ pair_of c.args.entry ∷ [])
    (holds-push c.args.options.now given c.args.self.now holds _ c.args.entry c.in_ok-push.ensures.items refl)

pub returns-else-len-saturating_add : goal.returns-else-len-saturating_add
returns-else-len-saturating_add c = λ given holds. holds-push c.args.options.now given c.args.self.now holds _ c.args.entry c.in_ok-push.ensures.items refl
