use Rattle.std.proofs.Common.{◌++◌, refl, ap₂, sym, ◌∙◌}
use Rattle.std.proofs.lemmas.List.{take-append-drop}
use Rattle.mlr_record.specs.Fields.{pairs_of}
use Rattle.verbs_base.proofs.extraction.move_named.Goals as goal

pub returns-clause-moved : goal.returns-clause-moved
returns-clause-moved c =
    sym (take-append-drop c.place_named.result (pairs_of c.place_named.new.fields)) ∙ ap₂ (λ x y. x ++ y) c.place_named.ensures.first (c.place_named.ensures.kept refl)
