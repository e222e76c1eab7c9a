use Rattle.std.proofs.Common.{[], if◌then◌else◌, ap, sym, ◌∙◌}
use Rattle.std.specs.Option.{option_map}
use Rattle.verbs_base.specs.Choosing.{dropped}
use Rattle.verbs_join.specs.Join.{prefix_for}
use Rattle.verbs_join.proofs.naming.Naming.new.Goals as goal

pub returns-in_ok-other_names-in-Some-2 : goal.returns-in_ok-other_names-in-Some-2
returns-in_ok-other_names-in-Some-2 c =
    let told = c.in_ok-other_names-in-Some-2.ensures in
    (λ i name. if told name i then c.in-Some-2.prefix.now else [])
    ∙ ap (λ prefix. prefix_for (option_map (λ prefix. prefix.now) prefix) (dropped c.args.join.now c.args.other.now)) (sym c.in-Some-2.is)
