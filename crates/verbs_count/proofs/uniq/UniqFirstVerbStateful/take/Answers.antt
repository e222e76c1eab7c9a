use Rattle.std.proofs.Common.{◌≡◌, cond, Result, Ok, Err, is_ok, OnOk, [], ◌∷◌, ◌++◌, ap, sym, subst, ◌∙◌, arith}
use Rattle.std.proofs.lemmas.List.{append-nil}
use Rattle.std.proofs.lemmas.Result.{on_ok_weaker}
use Rattle.mlr_groups.specs.Grouping.{IsGroupPlace}
use Rattle.verbs_base.specs.Records.{records, with_context}
use Rattle.verbs_count.proofs.Entering.{gives-known, gives-new}
use Rattle.verbs_count.proofs.uniq.UniqFirstVerbStateful.take.Goals as goal

pushed-ok : {T E A : Type 0} (out pushed kept : A) (result : Result T E) → out ≡ cond (is_ok result) pushed kept → OnOk result (out ≡ pushed)
pushed-ok out pushed kept (Ok x) is = is
pushed-ok out pushed kept (Err e) is = tt

pub returns-then-place-known-clause-gives : goal.returns-then-place-known-clause-gives
returns-then-place-known-clause-gives c = record {
  gives = λ given groups. (
      let by = c.args.self.now.groups.by in
      let out = c.args.out.now in
      let at = subst (λ place. IsGroupPlace by (records given ++ c.args.fields ∷ []) c.args.fields place) c.in-Some.is (c.in_ok-place.ensures.place by (records given) groups) in
      let known = gives-known by (records given) c.args.fields c.in-Some.place at (omega (arith, c.if-place-known.true, c.len-known.ensures by (records given) groups)) in
      sym (append-nil out) ∙ ap (λ rows. out ++ with_context c.args.ctx rows) (sym known)
      );
}

pub returns-clause-gives : goal.returns-clause-gives
returns-clause-gives c =
    on_ok_weaker c.push.result
    (λ pushed. record {
      gives = λ given groups. (
          let by = c.args.self.now.groups.by in
          let at = subst (λ place. IsGroupPlace by (records given ++ c.args.fields ∷ []) c.args.fields place) c.in-Some.is (c.in_ok-place.ensures.place by (records given) groups) in
          let new = gives-new by (records given) c.args.fields c.in-Some.place at (omega (arith, c.if-place-known.false, c.len-known.ensures by (records given) groups)) in
          pushed ∙ ap (λ rows. c.args.out.now ++ with_context c.args.ctx rows) (sym new)
          );
    })
    (pushed-ok _ _ _ c.push.result c.push.ensures)
