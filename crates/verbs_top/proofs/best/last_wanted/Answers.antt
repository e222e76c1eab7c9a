use Rattle.std.proofs.Common.{◌≡◌, ap, sym, ◌∙◌, arith}
use Rattle.mlr_value.specs.Value.{tree_of}
use Rattle.verbs_top.specs.Best.{pair_of}
use Rattle.verbs_top.proofs.Keeping.{pair-there}
use Rattle.verbs_top.proofs.best.last_wanted.Goals as goal

pub returns-in_ok-copy-in-Some-get : goal.returns-in_ok-copy-in-Some-get
returns-in_ok-copy-in-Some-get c = λ last is. (
    let same : c.in_ok-copy-in-Some-get.field-0 ≡ last = cc in
    let h = c.in-Some.ensures in
    let g = c.in-Some-get.ensures.lookup in
    record {
      place = c.in-Some.place;
      counted = omega (arith, h.0, h.1);
      last = pair_of c.in-Some-get.entry.now;
      there = pair-there c.args.entries.now c.in-Some-get.entry.now c.in-Some.place g.3.0 g.1;
      value_is = sym c.in_ok-copy-in-Some-get.ensures ∙ ap tree_of same;
    }
    )
