use Rattle.std.proofs.Common.{◌≡◌, true, ◌++◌, ◌∷◌, [], None, sym, ap, ◌∙◌, subst}
use Rattle.std.proofs.lemmas.List.{map-append}
use Rattle.mlr_spec.specs.Pairs.{keys_of, are_distinct, value_at}
use Rattle.mlr_value.specs.Value.{tree_of}
use Rattle.mlr_record.specs.Fields.{pairs_of, pair_of}
use Rattle.mlr_spec.proofs.Pairs.{are_distinct-push}
use Rattle.mlr_record.proofs.record.Record.push.Goals as goal

pub invariant_of-self-2 : goal.invariant_of-self-2
invariant_of-self-2 c =
    let key = c.args.key.now in
    let value = tree_of c.args.value in
    let fields = c.self.inside.fields.items in
    let absent : value_at key (pairs_of fields) ≡ None = ap (value_at key) c.self.view_is ∙ c.requires in
    let pairs_are : pairs_of c.push.new.self.items ≡ pairs_of fields ++ (key, value) ∷ [] =
    ap pairs_of c.in_ok-push.ensures.items ∙ map-append pair_of fields _ ∙ ap (λ name. pairs_of fields ++ (name, value) ∷ []) c.in_ok-name.ensures.copied in
    subst (λ pairs. are_distinct (keys_of pairs) ≡ true) (sym pairs_are) (are_distinct-push key value (pairs_of fields) absent c.self.invariant)
