use Rattle.std.proofs.Common.{◌≡◌, List, Some, slice_get, ap, subst, sym, ◌∙◌}
use Rattle.std.specs.List.{list_any}
use Rattle.std.proofs.lemmas.Option.{get_or_from_slice_get}
use Rattle.mlr_groups.specs.Finding.{IsFoundAt}
use Rattle.mlr_groups.specs.Grouping.{group_of, groups_in}
use Rattle.mlr_groups.specs.declared.group_by.GroupBy.TheVariants.{Texts}
use Rattle.verbs_base.specs.Records.{Fields}
use Rattle.verbs_join.specs.Join.{pairs_with}
use Rattle.verbs_join.specs.Represents.{LeftsOf}
use Rattle.verbs_join.proofs.Unpairing.{paired-at, paired-none}
use Rattle.verbs_join.proofs.lefts.Lefts.is_paired.Goals as goal
use Rattle.verbs_join.proofs.lefts.Lefts.is_paired.Goals.{In_ok-group}

-- the group of the record at the place
found : (c : In_ok-group) (rights : List Fields) (left : Fields) → LeftsOf c.args.options.now rights c.args.self.now → slice_get c.args.self.now.records.items c.args.place ≡ Some left
    → IsFoundAt (groups_in (Texts c.args.options.now.left) c.args.self.now.records.items) (group_of c.args.options.now.left left) c.in_ok-group.field-0
found c rights left held here =
    let lefts = c.args.self.now.records.items in
    let is = c.index.ensures ∙ get_or_from_slice_get lefts c.args.place left c.index.result.now here in
    subst (λ left. IsFoundAt (groups_in (Texts c.args.options.now.left) lefts) (group_of c.args.options.now.left left) c.in_ok-group.field-0) is (c.in_ok-group.ensures.place (Texts c.args.options.now.left) lefts held.0)

pub returns-in-Some-clause-paired : goal.returns-in-Some-clause-paired
returns-in-Some-clause-paired c = λ rights left held here.
    let options = c.args.options.now in
    let lefts = c.args.self.now.records.items in
    let p = c.in-Some.group in
    let at = subst (IsFoundAt (groups_in (Texts options.left) lefts) (group_of options.left left)) c.in-Some.is (found (goal.at.returns-in-Some-clause-paired c).In_ok-group rights left held here) in
    c.index-in-Some.ensures
    ∙ get_or_from_slice_get c.args.self.now.paired.items p (list_any (pairs_with options left) rights) c.index-in-Some.result.now
    (ap (λ paired. slice_get paired p) held.2 ∙ paired-at options left lefts rights p at.0 at.1 at.2)

pub returns-in-None-clause-paired : goal.returns-in-None-clause-paired
returns-in-None-clause-paired c = λ rights left held here.
    let options = c.args.options.now in
    let lefts = c.args.self.now.records.items in
    let missing = subst (IsFoundAt (groups_in (Texts options.left) lefts) (group_of options.left left)) c.in-None.is (found (goal.at.returns-in-None-clause-paired c).In_ok-group rights left held here) in
    sym (paired-none options left lefts rights c.args.place here missing)
