use Rattle.std.proofs.Common.{◌≡◌, ◌<◌, [], ◌∷◌, ◌-◌, length, take, drop, get_or, rules, ap, sym, ◌∙◌, arith}
use Rattle.std.specs.List.{prefix_len, take_while}
use Rattle.std.proofs.lemmas.List.Sums.{prefix_len-le-length}
use Rattle.mlr_spec.specs.JsonTokens.{raw, is_raw}
use Rattle.mlr_json.proofs.Escaping.{cons_of}
use Rattle.mlr_json.proofs.Pieces.{one-piece}
use Rattle.mlr_json.proofs.token.one_piece.Goals as goal

pub following-requires : goal.following-requires
following-requires c = omega (arith, c.raw_len-len.ensures, prefix_len-le-length is_raw c.args.text.now)

pub returns-in-34-clause-tokens : goal.returns-in-34-clause-tokens
returns-in-34-clause-tokens c = λ end fits.
    let text = c.args.text.now in
    let len_is = c.raw_len-len.ensures in
    let rest = c.following.result.now in
    let quote : get_or rest 0 0 ≡ 34 = search rules in
    let some : 0 < prefix_len is_raw text = omega (arith, c.if-len-gt0.true, len_is) in
    let bytes : take_while is_raw text ≡ take c.raw_len-len.result text = search rules in
    let rest_is : drop (prefix_len is_raw text) text ≡ 34 ∷ take (length rest - 1) (drop 1 rest) =
    ap (λ n. drop n text) (sym len_is) ∙ sym c.following.ensures ∙ cons_of rest c.in-34.len_at_least ∙ ap (λ b. b ∷ take (length rest - 1) (drop 1 rest)) quote in
    let parts = one-piece end text (take (length rest - 1) (drop 1 rest)) fits some rest_is in
    (parts.0 ∙ ap (λ t. raw t ∷ []) bytes, parts.1)
