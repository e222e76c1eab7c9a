use Rattle.std.proofs.Common.{◌≡◌, ◌++◌, ◌∷◌, [], ap, ap₂, sym, subst, ◌∙◌, arith, get_or}
use Rattle.std.proofs.Math.Seq.{get_or-append_seam}
use Rattle.mlr_spec.specs.Pairs.{keys_of}
use Rattle.verbs_base.specs.Choosing.{picked}
use Rattle.verbs_state.specs.Regularize.{KeepsFirsts}
use Rattle.verbs_state.proofs.Names.{picked-own}
use Rattle.verbs_state.proofs.Regular.{entered-known, entered-new, known-keeps, known-regular, new-keeps, new-regular, set_key}
use Rattle.verbs_state.proofs.regularize.enter.Goals as goal

pub returns-else-place-len-clause-order : goal.returns-else-place-len-clause-order
returns-else-place-len-clause-order c before order keeps =
    let sets = c.args.sets.now in
    let orders = c.args.orders.now.items in
    let fields = c.args.fields.now in
    let key : c.as_slice.result.now ≡ set_key fields = c.as_slice.ensures ∙ c.in_ok-append_sorted.ensures ∙ ap (λ prefix. prefix ++ set_key fields) c.clear.ensures in
    let known = entered-known sets orders before fields keeps c.in_ok-place.place c.as_slice.result.now c.enter.new.self key c.in_ok-place.ensures.entered c.in_ok-place.ensures.place
    (omega (arith, c.if-place-len.false, c.len.ensures)) in
    known-regular sets orders before fields keeps c.in_ok-place.place known.1 order

pub returns-else-place-len-clause-keeps : goal.returns-else-place-len-clause-keeps
returns-else-place-len-clause-keeps c before keeps =
    let sets = c.args.sets.now in
    let orders = c.args.orders.now.items in
    let fields = c.args.fields.now in
    let key : c.as_slice.result.now ≡ set_key fields = c.as_slice.ensures ∙ c.in_ok-append_sorted.ensures ∙ ap (λ prefix. prefix ++ set_key fields) c.clear.ensures in
    let known = entered-known sets orders before fields keeps c.in_ok-place.place c.as_slice.result.now c.enter.new.self key c.in_ok-place.ensures.entered c.in_ok-place.ensures.place
    (omega (arith, c.if-place-len.false, c.len.ensures)) in
    subst (λ after. KeepsFirsts after orders (before ++ fields ∷ [])) (sym known.0) (known-keeps sets orders before fields keeps c.in_ok-place.place known.1)

pub returns-in_ok-push-clause-order : goal.returns-in_ok-push-clause-order
returns-in_ok-push-clause-order c before order keeps =
    let sets = c.args.sets.now in
    let orders = c.args.orders.now.items in
    let fields = c.args.fields.now in
    let key : c.as_slice.result.now ≡ set_key fields = c.as_slice.ensures ∙ c.in_ok-append_sorted.ensures ∙ ap (λ prefix. prefix ++ set_key fields) c.clear.ensures in
    let late = entered-new sets orders before fields keeps c.in_ok-place.place c.as_slice.result.now c.enter.new.self key c.in_ok-place.ensures.entered c.in_ok-place.ensures.place
    (omega (arith, c.if-place-len.true, c.len.ensures)) in
    let own : get_or c.push.new.self.items c.in_ok-place.place order ≡ keys_of fields =
    ap₂ (λ items place. get_or items place order) c.in_ok-push.ensures.items late.2 ∙ get_or-append_seam orders c.in_ok-names_of.field-0 [] order ∙ c.in_ok-names_of.ensures.names in
    new-regular sets orders before fields keeps late.0 ∙ sym (ap (λ names. picked names fields) own ∙ picked-own fields c.names_of.ensures.distinct)

pub returns-in_ok-push-clause-keeps : goal.returns-in_ok-push-clause-keeps
returns-in_ok-push-clause-keeps c before keeps =
    let sets = c.args.sets.now in
    let orders = c.args.orders.now.items in
    let fields = c.args.fields.now in
    let key : c.as_slice.result.now ≡ set_key fields = c.as_slice.ensures ∙ c.in_ok-append_sorted.ensures ∙ ap (λ prefix. prefix ++ set_key fields) c.clear.ensures in
    let late = entered-new sets orders before fields keeps c.in_ok-place.place c.as_slice.result.now c.enter.new.self key c.in_ok-place.ensures.entered c.in_ok-place.ensures.place
    (omega (arith, c.if-place-len.true, c.len.ensures)) in
    let pushed : c.push.new.self.items ≡ orders ++ keys_of fields ∷ [] = c.in_ok-push.ensures.items ∙ ap (λ names. orders ++ names ∷ []) c.in_ok-names_of.ensures.names in
    subst (λ after. KeepsFirsts after c.push.new.self.items (before ++ fields ∷ [])) (sym late.1)
    (subst (λ items. KeepsFirsts (sets ++ set_key fields ∷ []) items (before ++ fields ∷ [])) (sym pushed) (new-keeps sets orders before fields keeps late.0))
