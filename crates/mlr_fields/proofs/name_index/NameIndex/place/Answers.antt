use Rattle.std.proofs.Common.{◌≡◌, IfSome, Some, slice_get, ap, subst, ◌∙◌}
use Rattle.mlr_event.specs.Reading.{is_among}
use Rattle.mlr_fields.proofs.Texts.{among-texts, text-found}
use Rattle.mlr_fields.proofs.name_index.NameIndex.place.Goals as goal

pub returns-clause-found : goal.returns-clause-found
returns-clause-found c =
    c.get_index_of.ensures.found ∙ among-texts c.args.name.now c.self.inside.names.keys ∙ ap (λ texts. is_among texts c.args.name.now) c.self.view_is

pub returns-clause-place : goal.returns-clause-place
returns-clause-place c =
    subst (λ texts. IfSome c.get_index_of.result (λ place. slice_get texts place ≡ Some c.args.name.now)) c.self.view_is
    (text-found c.args.name.now c.self.inside.names.keys c.get_index_of.result c.get_index_of.ensures.index)
