use Rattle.std.proofs.Common.{◌∙◌}
use Rattle.verbs_base.specs.Choosing.{dropped}
use Rattle.verbs_join.specs.Join.{joined, prefix_for, prefixed}
use Rattle.verbs_join.proofs.Joining.{built}
use Rattle.verbs_join.proofs.pairing.pair.Goals as goal

pub returns : goal.returns
returns c =
    let options = c.args.options.now in
    let lefts = dropped options.left c.args.left.now in
    let rights = dropped options.right c.args.right.now in
    c.into_record.ensures
    ∙ built c.new-made.result c.put_joined.new.into c.put_lefts.new.into c.put_rights.new.into
    (joined options c.args.left.now) (prefixed (prefix_for options.left_prefix rights) lefts) (prefixed (prefix_for options.right_prefix lefts) rights)
    (c.new-made.ensures ∙ c.in_ok-new.ensures) c.in_ok-put_joined.ensures c.in_ok-put_lefts.ensures c.in_ok-put_rights.ensures
