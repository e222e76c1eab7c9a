use Rattle.std.proofs.Common.{◌≡◌, ◌≤◌, ℕ, List, [], true, false, length, take, refl, ap, sym, ◌∙◌, arith, add-one}
use Rattle.std.specs.List.{list_any}
use Rattle.std.specs.Str.{bytes_eq}
use Rattle.std.proofs.lemmas.List.{take_all}
use Rattle.std.proofs.lemmas.Result.{on_ok_weaker}
use Rattle.mlr_spec.specs.Pairs.{are_distinct, keys_of}
use Rattle.mlr_spec.specs.Tree.{Tree, absent}
use Rattle.verbs_base.specs.Changing.{changed, has_name}
use Rattle.verbs_base.proofs.NamedChanges.{absent-more, changed-absent, changed-at}
use Rattle.verbs_base.proofs.change.change_field_named.Goals as goal

pub loop-place-init : goal.loop-place-init
loop-place-init g c = record { change = refl; fields = refl; absent = refl }

pub name_at-requires : goal.name_at-requires
name_at-requires g c = omega (arith, c.loop-place-test.true, c.len-place-end.ensures.length, ap length c.loop-place.invariant.fields)

pub change_value-requires : goal.change_value-requires
change_value-requires g c = omega (arith, c.loop-place-test.true, c.len-place-end.ensures.length, ap length c.loop-place.invariant.fields)

pub returns-then-is-clause-changed : goal.returns-then-is-clause-changed
returns-then-is-clause-changed g c =
    let key = c.args.name.now in
    let fields = c.loop-place.fields in
    let none : List ℕ × Tree = ([], absent) in
    let distinct : are_distinct (keys_of fields) ≡ true = ap (λ pairs. are_distinct (keys_of pairs)) c.loop-place.invariant.fields ∙ c.len-place-end.ensures.distinct in
    on_ok_weaker c.change_value.result
    (λ put.
    put none
    ∙ changed-at (g.C.Change.image c.loop-place.change) key fields c.loop-place.place (c.name_at.result.now, c.name_at.ensures.0) none c.name_at.ensures.1 (sym c.if-is.ensures) distinct
    ∙ ap (λ change. changed (has_name key) (g.C.Change.image change) fields) c.loop-place.invariant.change
    ∙ ap (changed (has_name key) (g.C.Change.image c.args.change.now)) c.loop-place.invariant.fields)
    c.change_value.ensures.changed

pub returns-then-is-clause-image : goal.returns-then-is-clause-image
returns-then-is-clause-image g c = c.change_value.ensures.image ∙ ap g.C.Change.image c.loop-place.invariant.change

pub loop-place-preserved : goal.loop-place-preserved
loop-place-preserved g c =
    let key = c.args.name.now in
    let fields = c.loop-place.fields in
    record {
      change = c.loop-place.invariant.change;
      fields = c.loop-place.invariant.fields;
      absent =
          ap (λ n. list_any (bytes_eq key) (keys_of (take n fields))) (add-one c.loop-place.place)
          ∙ absent-more key fields c.loop-place.place (c.name_at.result.now, c.name_at.ensures.0) c.name_at.ensures.1 (sym c.if-is.ensures) c.loop-place.invariant.absent;
    }

pub returns-clause-changed : goal.returns-clause-changed
returns-clause-changed g c =
    let key = c.args.name.now in
    let fields = c.loop-place.fields in
    let count : length fields ≤ c.loop-place.place = omega (arith, c.loop-place-test.false, c.len-place-end.ensures.length, ap length c.loop-place.invariant.fields) in
    let none : list_any (bytes_eq key) (keys_of fields) ≡ false =
    ap (λ pairs. list_any (bytes_eq key) (keys_of pairs)) (sym (take_all c.loop-place.place fields count)) ∙ c.loop-place.invariant.absent in
    sym (changed-absent (g.C.Change.image c.args.change.now) key fields none)
    ∙ ap (changed (has_name key) (g.C.Change.image c.args.change.now)) c.loop-place.invariant.fields

pub returns-clause-image : goal.returns-clause-image
returns-clause-image g c = ap g.C.Change.image c.loop-place.invariant.change
