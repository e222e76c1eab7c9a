use Rattle.std.proofs.Common.{ap, map, take, sym, ◌∙◌}
use Rattle.std.proofs.lemmas.List.{take-map}
use Rattle.verbs_top.specs.Best.{pair_of}
use Rattle.verbs_top.proofs.best.trim.Goals as goal

pub returns : goal.returns
returns c =
    ap (map pair_of) c.truncate.ensures.items ∙ sym (take-map pair_of c.args.options.now.count c.sort_entries.new.entries.items)
    ∙ ap (take c.args.options.now.count) c.in_ok-sort_entries.ensures
