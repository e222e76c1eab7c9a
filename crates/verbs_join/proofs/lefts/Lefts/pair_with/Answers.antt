use Rattle.std.proofs.Common.{length, set, true, ap, subst, sym, ◌∙◌, arith}
use Rattle.mlr_groups.specs.Finding.{IsFoundAt}
use Rattle.mlr_groups.specs.Grouping.{group_of, groups_in}
use Rattle.mlr_groups.specs.declared.group_by.GroupBy.TheVariants.{Texts}
use Rattle.verbs_join.proofs.Coming.{come-at, come-none, come-within, pairs-none, pairs-some, partners-at}
use Rattle.verbs_join.proofs.lefts.Lefts.pair_with.Goals as goal

pub returns-in_default-clause-lefts : goal.returns-in_default-clause-lefts
returns-in_default-clause-lefts c = λ rights held.
    let options = c.args.options.now in
    let lefts = c.args.self.now.records.items in
    let right = c.args.right.now in
    let missing = subst (IsFoundAt (groups_in (Texts options.left) lefts) (group_of options.right right)) c.in_default.is (c.in_ok-bucket.ensures.place (Texts options.left) lefts held.0) in
    (c.find.ensures.represents (Texts options.left) lefts held.0, held.1, held.2 ∙ sym (come-none options lefts right rights missing))

pub returns-in_default-clause-found : goal.returns-in_default-clause-found
returns-in_default-clause-found c =
    let options = c.args.options.now in
    let lefts = c.args.self.now.records.items in
    let right = c.args.right.now in
    let missing = subst (IsFoundAt (groups_in (Texts options.left) lefts) (group_of options.right right)) c.in_default.is (c.in_ok-bucket.ensures.place (Texts options.left) lefts c.requires.1.0) in
    pairs-none options lefts right missing

pub index_mut-requires : goal.index_mut-requires
index_mut-requires c =
    let options = c.args.options.now in
    let lefts = c.args.self.now.records.items in
    let held = c.requires.1 in
    let at = subst (IsFoundAt (groups_in (Texts options.left) lefts) (group_of options.right c.args.right.now)) c.in-Some.is (c.in_ok-bucket.ensures.place (Texts options.left) lefts held.0) in
    let within = come-within options lefts c.requires.0 c.in-Some.bucket at.0 at.2 in
    omega (arith, within, ap length held.2, c.args.self.now.paired.ok.0)

pub returns-clause-lefts : goal.returns-clause-lefts
returns-clause-lefts c = λ rights held.
    let options = c.args.options.now in
    let lefts = c.args.self.now.records.items in
    let right = c.args.right.now in
    let at = subst (IsFoundAt (groups_in (Texts options.left) lefts) (group_of options.right right)) c.in-Some.is (c.in_ok-bucket.ensures.place (Texts options.left) lefts held.0) in
    let come = come-at options lefts right rights c.in-Some.bucket at.0 at.1 at.2 in
    (c.find.ensures.represents (Texts options.left) lefts held.0, held.1, ap (λ paired. set paired c.in-Some.bucket true) held.2 ∙ sym come)

pub returns-clause-found : goal.returns-clause-found
returns-clause-found c =
    let options = c.args.options.now in
    let lefts = c.args.self.now.records.items in
    let right = c.args.right.now in
    let held = c.requires.1 in
    let at = subst (IsFoundAt (groups_in (Texts options.left) lefts) (group_of options.right right)) c.in-Some.is (c.in_ok-bucket.ensures.place (Texts options.left) lefts held.0) in
    (pairs-some options lefts right c.in-Some.bucket at.0 at.1 at.2, partners-at options lefts right c.in-Some.bucket at.0 at.1 at.2 c.args.self.now.buckets.items held.1)
