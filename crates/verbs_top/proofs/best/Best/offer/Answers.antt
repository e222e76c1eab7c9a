use Rattle.std.proofs.Common.{◌++◌, None, ap, subst, sym, ◌∙◌}
use Rattle.std.specs.Option.{option_map}
use Rattle.std.proofs.lemmas.Result.{on_ok_weaker}
use Rattle.mlr_value.specs.Value.{tree_of}
use Rattle.verbs_top.specs.Best.{HoldsBest}
use Rattle.verbs_top.proofs.Keeping.{holds-passed, wanted-offered}
use Rattle.verbs_top.proofs.best.Best.offer.Goals as goal

pub returns-in-Some : goal.returns-in-Some
returns-in-Some c =
    let is = sym c.in_ok-value.ensures ∙ ap (option_map tree_of) c.in-Some.is in
    let same = wanted-offered c.args.options.now.order c.args.self.now.last _ (tree_of c.in-Some.value) None is in
    on_ok_weaker c.push.result
    (λ pushed given holds. subst (λ pairs. HoldsBest c.args.options.now (given ++ pairs) c.push.new.self) (sym same) (pushed given holds))
    c.push.ensures

pub returns-in-None : goal.returns-in-None
returns-in-None c = λ given holds.
    holds-passed c.args.options.now given c.args.self.now holds _ None (sym c.in_ok-value.ensures ∙ ap (option_map tree_of) c.in-None.is)
