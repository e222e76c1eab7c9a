use Rattle.std.proofs.Common.{◌∙◌, sym, ap, OnOk, Result, Ok, Err}
use Rattle.mlr_spec.specs.Pairs.{value_at}
use Rattle.mlr_record.specs.Fields.{pairs_of}
use Rattle.mlr_event.proofs.Putting.{value_at-free}
use Rattle.verbs_base.proofs.Picking.{value_at-other}
use Rattle.verbs_fields.proofs.template.put_named.Goals as goal

on_ok : {T E P : Type 0} (r : Result T E) → P → OnOk r P
on_ok (Ok x) p = p
on_ok (Err e) p = tt

pub push-requires : goal.push-requires
push-requires c = value_at-free c.as_slice-key.result.now c.args.into.now (sym c.has.ensures ∙ c.if-has.false)

pub returns-clause-others : goal.returns-clause-others
returns-clause-others c =
    on_ok c.push.result (λ other apart. ap (value_at other) c.take_field.ensures.left ∙ value_at-other c.args.name.now other (pairs_of c.args.fields.now.items) apart)
