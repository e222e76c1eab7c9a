use Rattle.std.proofs.Common.{◌≡◌, Bool, cond, None, Some, ap, sym, ◌∙◌}
use Rattle.std.specs.declared.option.Option.{Option}
use Rattle.mlr_value.specs.declared.bytes.Bytes.{Bytes}
use Rattle.mlr_groups.specs.declared.group_by.GroupBy.TheVariants.{Texts}
use Rattle.verbs_count.specs.GroupCount.{group_gives}
use Rattle.verbs_count.proofs.Sorting.{frequent-of}
use Rattle.verbs_count.proofs.frequent.Frequent.verb.Goals as goal
use Rattle.verbs_count.proofs.frequent.Frequent.verb.Goals.{then-brief, else-brief}

pub returns-clause-meaning : goal.returns-clause-meaning
returns-clause-meaning c =
    let named = λ (brief : Bool). cond {A = Option Bytes} brief None (Some c.args.self.output) in
    let made : c.if-brief.counting ≡ named c.args.self.brief = elim c.if-brief.branch [ then-brief w ↦ w.counting-is ∙ ap named (sym w.if-brief.true) | else-brief w ↦ w.counting-is ∙ ap named (sym w.if-brief.false) ] in
    frequent-of c.args.least c.args.self c.if-brief.counting _ _ made (c.new-2.ensures.common ∙ ap Texts c.in_ok-copy.ensures) (ap group_gives c.new-2.ensures.none ∙ c.in_ok-new.ensures.gives)
