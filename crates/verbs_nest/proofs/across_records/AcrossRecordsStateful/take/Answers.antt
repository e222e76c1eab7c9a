use Rattle.std.proofs.Common.{◌≡◌, ◌++◌, ◌∷◌, [], ℕ, true, List, Some, map, ap, sym, subst, ◌∙◌}
use Rattle.std.specs.Option.{is_some, option_map}
use Rattle.std.proofs.lemmas.Result.{on_ok_weaker}
use Rattle.mlr_spec.specs.Pairs.{are_distinct, keys_of, put_at, value_at}
use Rattle.mlr_spec.specs.Tree.{empty}
use Rattle.mlr_spec.proofs.Pairs.{are_distinct-put}
use Rattle.text_forms.specs.Shown.{shown}
use Rattle.verbs_base.specs.Records.{Fields, with_context}
use Rattle.verbs_nest.specs.Across.{across_records}
use Rattle.verbs_nest.specs.Nest.{replaced}
use Rattle.verbs_nest.specs.Pieces.{pieces_of}
use Rattle.verbs_nest.proofs.Exploding.{exploded-some, some-there}
use Rattle.verbs_nest.proofs.Replacing.{each-replaced, there-put}
use Rattle.verbs_nest.proofs.across_records.AcrossRecordsStateful.take.Goals as goal

pub push_exploded-requires : goal.push_exploded-requires
push_exploded-requires c =
    let verb = c.args.self.now in
    let fields = c.args.fields in
    let is = c.in_ok-emptied-in-Some.ensures ∙ ap (λ name. put_at name empty fields) c.as_slice-in-Some.ensures in
    record {
      there = subst (λ made. is_some (value_at verb.field made) ≡ true) (sym is) (there-put verb.field empty fields);
      distinct = subst (λ made. are_distinct (keys_of made) ≡ true) (sym is) (are_distinct-put verb.field empty fields c.in_ok-text.ensures.distinct);
    }

pub returns-in_ok-emptied-in-Some-clause-gives : goal.returns-in_ok-emptied-in-Some-clause-gives
returns-in_ok-emptied-in-Some-clause-gives c =
    let verb = c.args.self.now in
    let fields = c.args.fields in
    let make : List (List ℕ) → List Fields = λ pieces. map (λ piece. across_records verb.field verb.pair_separator piece ∷ []) pieces in
    let makes : List Fields = make (pieces_of verb.separator c.in-Some.text) in
    let found : option_map shown (value_at verb.field fields) ≡ Some c.in-Some.text = ap (λ name. option_map shown (value_at name fields)) (sym c.as_slice.ensures) ∙ sym c.in_ok-text.ensures.text ∙ c.in-Some.is in
    let is = c.in_ok-emptied-in-Some.ensures ∙ ap (λ name. put_at name empty fields) c.as_slice-in-Some.ensures in
    let same =
    ap (λ row. map (λ made. replaced verb.field made row) makes) is
    ∙ each-replaced verb.field empty makes fields (some-there verb.field fields c.in-Some.text found)
    ∙ sym (exploded-some verb.field verb.separator make fields c.in-Some.text found) in
    on_ok_weaker c.push_exploded.result (λ put. record {
      gives = λ before holds.
          put
          ∙ ap (λ text. c.args.out.now ++ with_context c.args.ctx (map (λ made. replaced verb.field made c.in_ok-emptied-in-Some.emptied) (make (pieces_of verb.separator text)))) c.as_slice-in-Some-2.ensures
          ∙ ap (λ given. c.args.out.now ++ with_context c.args.ctx given) same;
    })
    c.push_exploded.ensures
