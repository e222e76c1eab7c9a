use Rattle.std.proofs.Common.{◌≡◌, ◌+◌, ℕ, ◌∷◌, ◌++◌, List, false, map, drop, refl, sym, ap, subst, ◌∙◌}
use Rattle.std.specs.Option.{unwrap_or}
use Rattle.mlr_spec.specs.Pairs.{keys_of, value_at}
use Rattle.mlr_event.specs.Reading.{is_among}
use Rattle.mlr_event.proofs.Naming.{at-place}
use Rattle.mlr_record.specs.Fields.{pairs_of}
use Rattle.mlr_spec.specs.JsonGrammar.{text_value}
use Rattle.verbs_fields.proofs.Once.{fresh, fresh-none, field_of, put_once-more, put_once-apart}
use Rattle.verbs_fields.proofs.template.put_each_named.Goals as goal

pub loop-name-init : goal.loop-name-init
loop-name-init c =
    let value_of = λ (name : List ℕ). unwrap_or (value_at name (pairs_of c.args.fields.now.items)) (text_value c.args.fill.now) in
    record {
      into = ap (λ x. x ++ map (field_of value_of) (fresh (keys_of x) c.args.names.now)) c.requires ∙ ap (map (field_of value_of)) (fresh-none c.args.names.now);
      left = λ name absent. refl;
    }

pub loop-name-preserved : goal.loop-name-preserved
loop-name-preserved c =
    let text = text_value c.args.fill.now in
    let value_of = λ (name : List ℕ). unwrap_or (value_at name (pairs_of c.args.fields.now.items)) text in
    let names = c.args.names.now in
    let i = c.loop-name.name-index in
    let name = c.name-item.result in
    let left = drop (i + 1) names in
    let into = c.loop-name.into in
    let value = unwrap_or (value_at name (pairs_of c.loop-name.fields.items)) text in
    let here : drop i names ≡ name ∷ left = at-place names i c.name-item.result c.loop-name-test.true c.name-item.is in
    record {
      into =
          ap (λ x. x ++ map (field_of value_of) (fresh (keys_of x) left)) c.in_ok-put_named.ensures.into
          ∙ put_once-more value_of into name value left (λ absent. ap (λ o. unwrap_or o text) (c.loop-name.invariant.left name absent))
          ∙ ap (λ ns. into ++ map (field_of value_of) (fresh (keys_of into) ns)) (sym here)
          ∙ c.loop-name.invariant.into;
      left = λ other absent. (
          let apart = put_once-apart name other value into (subst (λ x. is_among (keys_of x) other ≡ false) c.in_ok-put_named.ensures.into absent) in
          c.in_ok-put_named.ensures.others other apart.1 ∙ c.loop-name.invariant.left other apart.0
          );
    }
