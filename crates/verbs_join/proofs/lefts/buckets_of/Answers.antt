use Rattle.std.proofs.Common.{◌≡◌, length, subst, arith}
use Rattle.verbs_join.specs.Represents.{AreIndexed}
use Rattle.verbs_join.proofs.lefts.buckets_of.Goals as goal

pub returns : goal.returns
returns c = λ names start.
    let loop = c.loop-place in
    let all : loop.place ≡ length c.args.records.now = omega (arith, c.loop-place-test.false, loop.auto.place-end) in
    subst (λ count. AreIndexed names c.args.records.now count loop.groups loop.buckets.items) all (loop.invariant names start)
