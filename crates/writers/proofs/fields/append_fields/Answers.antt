use Rattle.std.proofs.Common.{◌≡◌, ℕ, ◌+◌, ◌++◌, List, Some, length, map, take, get_or, slice_get, nat_lt, refl, sym, ap, ◌∙◌, append_assoc, arith, rules}
use Rattle.std.proofs.lemmas.List.{append-nil}
use Rattle.mlr_spec.specs.Json.{joined}
use Rattle.mlr_spec.specs.Tree.{Tree}
use Rattle.mlr_record.specs.declared.record.Field.{Field}
use Rattle.mlr_record.specs.Fields.{pair_of, pairs_of}
use Rattle.writers.specs.Joined.{separated}
use Rattle.writers.proofs.Joined.{joined-fields, joined-next}
use Rattle.writers.proofs.fields.append_fields.Goals as goal

pub loop-place-preserved : goal.loop-place-preserved
loop-place-preserved g c =
    let fields : List Field = c.args.fields.now in
    let place : ℕ = c.loop-place.place in
    let field : Field = c.index-fields-place.result in
    let f : List ℕ × Tree → List ℕ = g.F.FieldText.text c.args.form.now in
    let separator : List ℕ = c.args.separator.now in
    let field_is : field ≡ get_or fields place field = search rules in
    let so_far : List ℕ = joined separator (map f (pairs_of (take place fields))) in
    joined-next separator c.args.out.now so_far c.append_separator.new.out c.append_field.new.out (nat_lt 0 place) (f (pair_of field)) (joined separator (map f (pairs_of (take (place + 1) fields))))
    (c.in_ok-append_separator.ensures ∙ ap (λ t. t ++ separated separator (nat_lt 0 place)) c.loop-place.invariant)
    (c.in_ok-append_field.ensures ∙ append-nil (c.append_separator.new.out ++ f (pair_of field)))
    (joined-fields separator f fields place field (omega (arith, c.loop-place-test.true, c.loop-place.auto.place-end)) ∙ ap (λ x. so_far ++ separated separator (nat_lt 0 place) ++ f (pair_of x)) (sym field_is))
