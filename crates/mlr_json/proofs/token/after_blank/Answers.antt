use Rattle.std.proofs.Common.{ap, ◌∙◌, drop, arith}
use Rattle.std.proofs.lemmas.List.Sums.{prefix_len-le-length}
use Rattle.mlr_spec.specs.JsonTokens.{is_blank}
use Rattle.mlr_json.specs.Reading.{tokens_left}
use Rattle.mlr_json.proofs.Blanks.{blanks-skipped}
use Rattle.mlr_json.proofs.token.after_blank.Goals as goal

pub following-requires : goal.following-requires
following-requires c = omega (arith, c.blank_len.ensures, prefix_len-le-length is_blank c.args.text.now)

pub returns-clause-same : goal.returns-clause-same
returns-clause-same c = λ end fits.
    let text = c.args.text.now in
    ap (tokens_left end) (c.following.ensures ∙ ap (λ n. drop n text) c.blank_len.ensures) ∙ blanks-skipped end text fits
