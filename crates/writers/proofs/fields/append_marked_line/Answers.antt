use Rattle.std.proofs.Common.{◌≡◌, ℕ, true, ◌+◌, ◌++◌, ◌∷◌, [], List, Some, length, map, drop, get_or, slice_get, nat_lt, if◌then◌else◌, refl, sym, ap, ◌∙◌, append_assoc, arith, rules}
use Rattle.std.proofs.Math.ListN.{drop_of_length-le}
use Rattle.std.proofs.lemmas.Bool.{eqb-false}
use Rattle.std.proofs.lemmas.Option.{slice_get_read}
use Rattle.mlr_spec.proofs.Flattening.{drop-more}
use Rattle.mlr_spec.specs.Tree.{Tree}
use Rattle.mlr_record.specs.declared.record.Field.{Field}
use Rattle.mlr_record.specs.Fields.{pair_of, pairs_of}
use Rattle.writers.specs.Joined.{are_any}
use Rattle.writers.proofs.Joined.{are_any-drop, are_any-map, are_any-some, last-or-more, marked, marked-line}
use Rattle.writers.proofs.fields.append_marked_line.Goals as goal

pub loop-place-preserved : goal.loop-place-preserved
loop-place-preserved g c =
    let fields : List Field = c.args.fields.now in
    let place : ℕ = c.loop-place.place in
    let field : Field = c.index-fields-place.result in
    let rest : List Field = drop (place + 1) fields in
    let f : List ℕ × Tree → List ℕ = g.F.FieldText.text c.args.form in
    let s : ℕ = c.args.separator in
    let text : List ℕ = f (pair_of field) in
    let out : List ℕ = c.loop-place.out in
    let next : ℕ = c.byte_after-next.result in
    let more : List ℕ = marked s 10 f (pairs_of rest) in
    let field_is : field ≡ get_or fields place field = search rules in
    let at : slice_get fields place ≡ Some field = slice_get_read fields (length fields) place field refl (omega (arith, c.loop-place-test.true, c.loop-place.auto.place-end)) field_is in
    let any : are_any (pairs_of rest) ≡ nat_lt (place + 1) (length fields) = are_any-map pair_of rest ∙ are_any-drop (place + 1) fields in
    let next_is : next ≡ (if are_any (pairs_of rest) then s else 10) =
    c.byte_after-next.ensures
    ∙ last-or-more place (length fields) s 10 (omega (arith, c.loop-place-test.true, c.loop-place.auto.place-end))
    ∙ ap (λ any. if any then s else 10) (sym any) in
    ap (λ t. t ++ more) c.in_ok-append_field.ensures
    ∙ append_assoc (out ++ text) (next ∷ []) more
    ∙ append_assoc out text (next ∷ more)
    ∙ ap (λ b. out ++ (text ++ b ∷ more)) next_is
    ∙ ap (λ t. out ++ marked s 10 f (pairs_of t)) (sym (drop-more fields place field at))
    ∙ c.loop-place.invariant

pub returns : goal.returns
returns g c =
    let fields : List Field = c.args.fields.now in
    let f : List ℕ × Tree → List ℕ = g.F.FieldText.text c.args.form in
    let all : drop c.loop-place.place fields ≡ [] = drop_of_length-le fields c.loop-place-test.false in
    let some : are_any (pairs_of fields) ≡ true = are_any-map pair_of fields ∙ are_any-some fields (eqb-false (length fields) 0 (sym c.is_empty.ensures ∙ c.if-is_empty.false)) in
    marked-line c.args.separator 10 f (pairs_of fields) c.args.out.now c.loop-place.out some
    (sym (ap (λ t. c.loop-place.out ++ marked c.args.separator 10 f (pairs_of t)) all) ∙ c.loop-place.invariant)
