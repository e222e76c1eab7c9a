use Rattle.std.proofs.Common.{◌≡◌, ◌+◌, drop, refl, ap, sym, ◌∙◌}
use Rattle.std.proofs.lemmas.List.{at_drop_all}
use Rattle.mlr_event.proofs.Naming.{at-place}
use Rattle.mlr_event.specs.Reading.{is_among}
use Rattle.verbs_base.specs.Changing.{changed, has_name}
use Rattle.verbs_base.proofs.NamedChanges.{changed-none, changed-names}
use Rattle.verbs_base.proofs.change.change_named.Goals as goal

pub loop-name-init : goal.loop-name-init
loop-name-init g c = record { image = refl; fields = refl }

pub loop-name-preserved : goal.loop-name-preserved
loop-name-preserved g c =
    let image = g.C.Change.image c.args.change in
    let names = c.as_slice-name-items.result.now in
    let i = c.loop-name.name-index in
    let name = c.name-item.result in
    let left = at-place names i name c.loop-name-test.true c.name-item.is in
    let one : c.change_field_named.new.fields ≡ changed (has_name name) image c.loop-name.record =
    c.in_ok-change_field_named.ensures.changed ∙ ap (λ m. changed (has_name name) m c.loop-name.record) c.loop-name.invariant.image in
    record {
      image = c.in_ok-change_field_named.ensures.image ∙ c.loop-name.invariant.image;
      fields =
          ap (changed (is_among (drop (i + 1) names)) image) one
          ∙ changed-names image c.requires.once name (drop (i + 1) names) c.loop-name.record
          ∙ ap (λ more. changed (is_among more) image c.loop-name.record) (sym left)
          ∙ c.loop-name.invariant.fields;
    }

pub returns : goal.returns
returns g c =
    let image = g.C.Change.image c.args.change in
    let names = c.as_slice-name-items.result.now in
    sym (changed-none image c.loop-name.record)
    ∙ ap (λ more. changed (is_among more) image c.loop-name.record) (sym (at_drop_all (λ left. left) names c.loop-name.name-index c.loop-name-test.false))
    ∙ c.loop-name.invariant.fields
    ∙ ap (λ all. changed (is_among all) image c.args.from) c.as_slice-name-items.ensures
