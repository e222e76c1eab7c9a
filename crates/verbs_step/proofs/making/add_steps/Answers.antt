use Rattle.std.proofs.Common.{◌≡◌, List, ◌++◌, ◌∙◌, ap, ap₂, length, subst, sym}
use Rattle.std.specs.Option.{option_map}
use Rattle.std.proofs.lemmas.List.{length-map}
use Rattle.std.proofs.lemmas.Result.{on_ok_weaker}
use Rattle.mlr_spec.specs.Pairs.{put_each}
use Rattle.mlr_value.specs.Value.{tree_of}
use Rattle.verbs_base.specs.Records.{Fields}
use Rattle.verbs_step.specs.Made.{made_in, named, trees_of}
use Rattle.verbs_step.specs.Represents.{kept_for, kept_in, kept_of_group}
use Rattle.verbs_step.proofs.Putting.{made-length, named-made}
use Rattle.verbs_step.proofs.making.add_steps.Goals as goal
use Rattle.verbs_step.proofs.making.add_steps.Goals.{In_ok-make_each}

-- what was made of the record's fields
made : (c : In_ok-make_each) (before : List Fields) → kept_in c.args.tracks.now ≡ kept_of_group c.args.options.now before
    → trees_of c.make_each.new.made.items ≡ made_in c.args.options.now.steppers c.args.options.now.names before c.args.fields.now
made c before same =
    let options = c.args.options.now in
    let same-names = subst (λ names. kept_in c.args.tracks.now ≡ kept_for options.steppers names before) (sym c.as_slice.ensures) same in
    c.in_ok-make_each.ensures.made options.steppers before same-names
    ∙ ap₂ (λ start names. trees_of start ++ made_in options.steppers names before c.args.fields.now) c.clear.ensures.items c.as_slice.ensures

pub put_all-requires : goal.put_all-requires
put_all-requires c =
    let options = c.args.options.now in
    let before = c.requires.1 in
    ap length c.deref_mut.ensures.value
    ∙ sym (length-map c.make_each.new.made.items (option_map tree_of))
    ∙ ap length (made (goal.at.put_all-requires c).In_ok-make_each before c.requires.2)
    ∙ made-length options before c.args.fields.now options.names
    ∙ ap length (sym c.requires.0)

pub returns-clause-fields : goal.returns-clause-fields
returns-clause-fields c =
    let options = c.args.options.now in
    on_ok_weaker c.put_all.result
    (λ put before same.
    put
    ∙ ap₂ (λ names values. put_each c.args.fields.now (named names values)) c.requires.0
    (ap trees_of c.deref_mut.ensures.value ∙ made (goal.at.returns-clause-fields c).In_ok-make_each before same)
    ∙ ap (put_each c.args.fields.now) (named-made options before c.args.fields.now options.names))
    c.put_all.ensures
