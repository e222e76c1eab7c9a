use Rattle.std.proofs.Common.{◌≡◌, true, false, ◌++◌, ap, sym, ◌∙◌, subst}
use Rattle.std.specs.Prelude.{IfOk}
use Rattle.mlr_event.specs.Reading.{is_among}
use Rattle.mlr_spec.specs.Pairs.{are_distinct, keys_of}
use Rattle.verbs_join.proofs.Moving.{made-apart, pair-apart}
use Rattle.verbs_join.proofs.taking.pair_taking.Goals as goal

pub followed_by-requires : goal.followed_by-requires
followed_by-requires c = λ name is.
    let none = sym c.shares_name.ensures ∙ c.if-shares_name.false in
    subst (λ rest. is_among (keys_of rest) name ≡ false) (sym c.drop_named.ensures) (made-apart c.args.options.now c.args.left.now c.args.right c.in_ok-made.made c.in_ok-made.ensures none name is)

pub returns : goal.returns
returns c =
    let made = c.in_ok-made.made in
    let none = sym c.shares_name.ensures ∙ c.if-shares_name.false in
    let distinct = subst (λ rest. are_distinct (keys_of (made ++ rest)) ≡ true) c.drop_named.ensures c.followed_by.ensures.distinct in
    subst (λ pairs. IfOk c.followed_by.result (λ all. all ≡ pairs))
    (ap (λ rest. made ++ rest) c.drop_named.ensures ∙ sym (pair-apart c.args.options.now c.args.left.now c.args.right made c.in_ok-made.ensures none distinct)) c.followed_by.ensures.fields
