use Rattle.std.proofs.Common.{◌≡◌, IfSome, Some, slice_get, ap, sym, subst, ◌∙◌}
use Rattle.mlr_event.specs.Reading.{is_among}
use Rattle.mlr_groups.proofs.Tables.{among-texts, text-found}
use Rattle.mlr_groups.proofs.keys.KeyTable.place_of.Goals as goal

pub returns-clause-found : goal.returns-clause-found
returns-clause-found c =
    c.get_index_of.ensures.found ∙ sym (among-texts c.args.key.now c.self.inside.keys.keys) ∙ ap (λ texts. is_among texts c.args.key.now) c.self.view_is

pub returns-clause-place : goal.returns-clause-place
returns-clause-place c =
    subst (λ texts. IfSome c.get_index_of.result (λ place. slice_get texts place ≡ Some c.args.key.now)) c.self.view_is
    (text-found c.args.key.now c.self.inside.keys.keys c.get_index_of.result c.get_index_of.ensures.index)
