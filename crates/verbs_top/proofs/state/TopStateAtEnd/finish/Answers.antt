use Rattle.std.proofs.Common.{◌++◌, [], ap, map, sym, ◌∙◌}
use Rattle.std.specs.Arc.{arc_value}
use Rattle.std.specs.Option.{unwrap_or}
use Rattle.std.proofs.lemmas.Result.{on_ok_weaker}
use Rattle.verbs_base.specs.Records.{events_of}
use Rattle.verbs_top.specs.Best.{first_pairs, pair_of}
use Rattle.verbs_top.specs.State.{first_trees, place_rows}
use Rattle.verbs_top.specs.declared.top.Top.{Top}
use Rattle.verbs_top.proofs.Stating.{gives-places, gives-rows}
use Rattle.verbs_top.proofs.state.TopStateAtEnd.finish.Goals as goal

pub returns-then-deref-clause-given : goal.returns-then-deref-clause-given
returns-then-deref-clause-given c =
    let s = c.args.self.now in
    let options = arc_value s.options in
    let whole = ap (λ (o : Top). o.whole) (sym c.deref.ensures) ∙ c.if-deref.true in
    let first = c.in_ok-into_first.ensures ∙ ap (λ (o : Top). first_pairs o (map pair_of c.replace-rows.result.entries.items)) c.deref-then-deref.ensures in
    on_ok_weaker c.push_rows.result
    (λ given. record {
      gives = λ rows kept.
          given ∙ ap (λ rs. c.args.out.now ++ events_of rs) (gives-rows options s rows kept c.args.ctx c.replace-rows.result c.in_ok-into_first.field-0.items whole c.replace-rows.ensures.value first);
    })
    c.push_rows.ensures

pub returns-clause-given : goal.returns-clause-given
returns-clause-given c =
    let s = c.args.self.now in
    let options = arc_value s.options in
    let none = ap (λ (o : Top). o.whole) (sym c.deref.ensures) ∙ c.if-deref.false in
    let began = c.in_ok-first.ensures ∙ ap (λ fields. unwrap_or fields []) c.take.ensures.value in
    on_ok_weaker c.push_values.result
    (λ given. record {
      gives = λ rows kept.
          given
          ∙ ap (λ (o : Top). c.args.out.now ++ events_of (place_rows o c.in_ok-first.first (map (first_trees o) c.replace-columns.result.items) c.args.ctx)) c.deref-2.ensures
          ∙ ap (λ rs. c.args.out.now ++ events_of rs)
          (gives-places options s rows kept c.args.ctx c.replace-columns.result.items c.in_ok-first.first none (ap (λ v. v.items) c.replace-columns.ensures.value) began);
    })
    c.push_values.ensures
