use Rattle.std.proofs.Common.{◌≤◌, ◌++◌, length, IfSome, ap, sym, subst, ◌∙◌, arith}
use Rattle.mlr_spec.specs.Pairs.{keys_of}
use Rattle.mlr_value.specs.Value.{tree_of}
use Rattle.mlr_event.proofs.Putting.{length-keys}
use Rattle.mlr_fields.specs.Prefixes.{IsPrefix}
use Rattle.mlr_fields.proofs.Building.{keys-with_field}
use Rattle.mlr_fields.proofs.fields.Fields.put_many.Goals as goal
use Rattle.mlr_fields.proofs.fields.Fields.put_many.Goals.{in-Some, in-None+in_ok-index-in-None}

pub add_names-requires : goal.add_names-requires
add_names-requires c =
    let keys = keys_of c.self.inside.record in
    elim c.match-replace.branch [
      | in-Some w ↦
          subst (λ index. IsPrefix index keys) (sym w.index-is)
          (subst (λ index. IfSome index (λ names. IsPrefix names keys × (64 ≤ length names))) (sym c.replace.ensures.value ∙ w.in-Some.is) c.self.invariant.1).0
      | in-None+in_ok-index-in-None w ↦ (keys, sym (ap (λ index. index ++ keys) (w.index-is ∙ w.in_ok-index-in-None.ensures)))
    ]

pub invariant_of-self-2 : goal.invariant_of-self-2
invariant_of-self-2 c =
    let put = c.in_ok-put_indexed.ensures in
    let following = keys-with_field c.args.dedupe c.args.name.now (tree_of c.args.value) c.self.inside.record in
    let names = put.index ∙ c.in_ok-add_names.ensures.names in (
      c.all-self-inside.ensures (keys_of c.put_indexed.new.record),
      (
        (following.0, ap keys_of put.record ∙ following.1 ∙ ap (λ index. index ++ following.0) (sym names)),
        omega (arith, ap length names, length-keys c.self.inside.record, ap length c.self.view_is, c.requires.many),
      ),
    )
