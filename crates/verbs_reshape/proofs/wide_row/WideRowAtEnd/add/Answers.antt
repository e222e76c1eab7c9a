use Rattle.std.proofs.Common.{◌≡◌, Some, sym, ap, ap₂, ◌∙◌}
use Rattle.std.specs.Option.{option_to_list}
use Rattle.mlr_spec.specs.Pairs.{put_each}
use Rattle.verbs_base.specs.Choosing.{dropped}
use Rattle.verbs_reshape.specs.ToWide.{both, wide_record}
use Rattle.verbs_reshape.proofs.Wide.{so_far, wide-more}
use Rattle.verbs_reshape.proofs.wide_row.WideRowAtEnd.add.Goals as goal
use Rattle.verbs_reshape.proofs.wide_row.WideRowAtEnd.add.Goals.{in-Some, in-None}

pub returns-clause-holds : goal.returns-clause-holds
returns-clause-holds c =
    let options = c.args.self.now.options in
    let fields = c.args.fields in
    let others = dropped (both options) fields in
    record {
      follows = λ rows holds. (
          let found = c.take.ensures.value ∙ holds in
          let base : c.match-take.made ≡ so_far (wide_record options rows) others = elim c.match-take.branch [
            | in-Some w ↦ w.made-is ∙ ap (λ made. so_far made others) (sym w.in-Some.is ∙ found)
            | in-None w ↦ w.made-is ∙ w.new-made.ensures ∙ c.in_ok-others.ensures.others ∙ ap (λ made. so_far made others) (sym w.in-None.is ∙ found)
          ] in
          ap Some (c.in_ok-with_pair.ensures ∙ ap₂ (λ made pair. put_each made (option_to_list pair)) base c.in_ok-others.ensures.pair) ∙ wide-more options rows (fields, c.args.arg4)
          );
    }
