use Rattle.std.proofs.Common.{◌++◌, ◌∷◌, [], ap, ◌∙◌, sym}
use Rattle.std.specs.List.{fold}
use Rattle.std.proofs.lemmas.List.{map-append}
use Rattle.mlr_event.specs.declared.event.Event.TheVariants as event
use Rattle.mlr_groups.specs.Keys.{entered}
use Rattle.mlr_spec.specs.Pairs.{keys_of}
use Rattle.verbs_base.specs.Records.{Row}
use Rattle.verbs_hold.proofs.Names.{names-more}
use Rattle.verbs_hold.proofs.unsparsify.UnsparsifyRowsAtEnd.add.Goals as goal

pub returns-clause-holds : goal.returns-clause-holds
returns-clause-holds c = record {
  follows = λ rows holds. (
      let row : Row = (c.args.fields, c.args.ctx) in
      let seen = c.in_ok-add_names.ensures.seen ∙ ap (λ names. fold entered names (keys_of c.args.fields)) holds.1 ∙ names-more rows row in (
        c.in_ok-push.ensures ∙ ap (λ events. events ++ event.Rec c.args.fields c.args.ctx ∷ []) holds.0 ∙ sym (map-append (λ (row : Row). event.Rec row.0 row.1) rows (row ∷ [])),
        seen,
        c.in_ok-add_names.ensures.names ∙ seen,
      )
      );
}
