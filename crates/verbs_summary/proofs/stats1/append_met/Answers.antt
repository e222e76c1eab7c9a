use Rattle.std.proofs.Common.{get_or, ◌∙◌}
use Rattle.std.proofs.lemmas.Option.{slice_get-get_or}
use Rattle.mlr_record.specs.Fields.{pairs_of}
use Rattle.verbs_summary.proofs.Meeting.{made-next, named-at}
use Rattle.verbs_summary.proofs.stats1.append_met.Goals as goal

pub loop-place-preserved : goal.loop-place-preserved
loop-place-preserved c = λ rows names keeps are.
    let loop = c.loop-place in
    let options = c.args.options.now in
    let i = loop.place-index in
    let met = c.args.met.now in
    let place = get_or met i 0 in
    let at = slice_get-get_or met i 0 c.loop-place-test.true in
    let named = named-at options.names names met i place are at in
    made-next options names rows i named.0 (pairs_of loop.into.items) (pairs_of c.append_at.new.into.items) named.1 (c.in_ok-append_at.ensures rows named.0 keeps named.2)
    ∙ loop.invariant rows names keeps are
