use Rattle.std.proofs.Common.{◌+◌, ◌-◌, min}
use Rattle.std.proofs.lemmas.Result.{on_ok_weaker}
use Rattle.verbs_seq.specs.Seq.{seq_count}
use Rattle.verbs_seq.proofs.tests.fill_more.Goals as goal

pub returns : goal.returns
returns c =
    let represents = c.requires.represents in
    on_ok_weaker c.fill.result
    (λ holds. record { seq = represents.seq; given = represents.given + min c.args.max (seq_count represents.seq - represents.given); sound = represents.sound; at = holds represents.seq represents.given represents.at })
    c.fill.ensures.represents
