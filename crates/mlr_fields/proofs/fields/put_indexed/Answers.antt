use Rattle.std.proofs.Common.{◌≡◌, false, true, length, [], Some, slice_get, ap, sym, subst, ◌∙◌, arith}
use Rattle.std.proofs.lemmas.Option.{slice_get_within}
use Rattle.mlr_spec.specs.Pairs.{are_distinct, keys_of}
use Rattle.mlr_spec.specs.Tree.{empty}
use Rattle.mlr_value.specs.Value.{tree_of}
use Rattle.mlr_event.specs.Reading.{is_among}
use Rattle.mlr_event.proofs.Putting.{length-keys, value_at-free}
use Rattle.mlr_fields.proofs.Building.{set-on-ok, with_field-new, with_field-set}
use Rattle.mlr_fields.proofs.fields.put_indexed.Goals as goal
use Rattle.mlr_fields.proofs.fields.put_indexed.Goals.{In-None}

new : (c : In-None) → is_among (keys_of c.args.record.now) c.args.name.now ≡ false
new c = ap (λ names. is_among names c.args.name.now) (sym c.requires.index) ∙ sym c.in-None.ensures.found

pub push-requires : goal.push-requires
push-requires c =
    let pairs = c.args.record.now in
    value_at-free c.as_slice.result.now pairs (
    ap (is_among (keys_of pairs)) c.as_slice.ensures ∙ ap (λ names. is_among names c.in_ok-free.free) (sym c.requires.index) ∙ c.in_ok-free.ensures.new
    )

pub push-requires-in-None : goal.push-requires-in-None
push-requires-in-None c = value_at-free c.args.name.now c.args.record.now (new (goal.at.push-requires-in-None c).In-None)

pub replace-requires : goal.replace-requires
replace-requires c =
    omega (arith, slice_get_within c.args.index.now c.in-Some.place c.args.name.now c.in-Some.ensures.place, ap length c.requires.index, length-keys c.args.record.now)

pub returns-in-None-clause-record : goal.returns-in-None-clause-record
returns-in-None-clause-record c =
    let pairs = c.args.record.now in
    set-on-ok c.push-in-None.result pairs c.push-in-None.new.self _ _ c.push-in-None.ensures
    (with_field-new c.args.dedupe c.if-dedupe.false pairs c.args.name.now (tree_of c.args.value) (new (goal.at.returns-in-None-clause-record c).In-None))

pub returns-in-Some-clause-record : goal.returns-in-Some-clause-record
returns-in-Some-clause-record c =
    let pairs = c.args.record.now in
    let name = c.args.name.now in
    c.replace.ensures.new ([], empty)
    ∙ with_field-set c.args.dedupe c.if-dedupe.false pairs c.in-Some.place name (tree_of c.args.value) ([], empty)
    (subst (λ names. are_distinct names ≡ true) c.requires.index c.requires.distinct)
    (subst (λ names. slice_get names c.in-Some.place ≡ Some name) c.requires.index c.in-Some.ensures.place)
