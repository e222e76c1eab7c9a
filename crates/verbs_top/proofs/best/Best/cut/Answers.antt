use Rattle.std.proofs.Common.{map, subst}
use Rattle.mlr_value.specs.Value.{tree_of}
use Rattle.verbs_top.specs.Best.{IsLastWanted, pair_of}
use Rattle.verbs_top.specs.declared.best.Best.{Best}
use Rattle.verbs_top.proofs.Keeping.{holds-cut}
use Rattle.verbs_top.proofs.best.Best.cut.Goals as goal

pub returns : goal.returns
returns c = λ given holds. (
    let made : Best = record { entries = c.trim.new.entries; last = c.in_ok-self.field-0 } in
    holds-cut c.args.options.now given c.args.self.now holds made c.in_ok-trim.ensures
    (λ last is. subst (λ entries. IsLastWanted c.args.options.now.count (map pair_of entries) (tree_of last)) c.deref.ensures.value (c.in_ok-self.ensures last is))
    )
