use Rattle.std.proofs.Common.{ap, ◌∙◌, take, drop}
use Rattle.mlr_json.proofs.Escaping.{run_is, run_with_escape, first_is_escaped}
use Rattle.mlr_json.proofs.escape.append_run.Goals as goal

pub append_escape-requires : goal.append_escape-requires
append_escape-requires c =
    let text = c.args.text.now in
    first_is_escaped text c.split_at.result.0.now c.split_at.result.1.now c.args.into.now c.append.new.self
    (c.split_at.ensures.front ∙ ap (λ n. take n text) c.plain_prefix-plain.ensures.place)
    (c.split_at.ensures.back ∙ ap (λ n. drop n text) c.plain_prefix-plain.ensures.place)
    c.in_ok-append.ensures.appended c.in-len1-up.len_at_least

pub returns-in-empty-clause-ok : goal.returns-in-empty-clause-ok
returns-in-empty-clause-ok c =
    let text = c.args.text.now in
    run_is text c.split_at.result.0.now c.split_at.result.1.now c.args.into.now c.append.new.self
    (c.split_at.ensures.front ∙ ap (λ n. take n text) c.plain_prefix-plain.ensures.place)
    (c.split_at.ensures.back ∙ ap (λ n. drop n text) c.plain_prefix-plain.ensures.place)
    c.in_ok-append.ensures.appended

pub returns-in_ok-append_escape-in-len1-up-clause-ok : goal.returns-in_ok-append_escape-in-len1-up-clause-ok
returns-in_ok-append_escape-in-len1-up-clause-ok c =
    let text = c.args.text.now in
    run_with_escape text c.split_at.result.0.now c.split_at.result.1.now c.args.into.now c.append.new.self
    (c.split_at.ensures.front ∙ ap (λ n. take n text) c.plain_prefix-plain.ensures.place)
    (c.split_at.ensures.back ∙ ap (λ n. drop n text) c.plain_prefix-plain.ensures.place)
    c.in_ok-append.ensures.appended
    c.append_escape.new.into c.in-len1-up.len_at_least c.in_ok-append_escape-in-len1-up.ensures.ok
