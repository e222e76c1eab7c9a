use Rattle.std.proofs.Common.{rules}
use Rattle.std.proofs.lemmas.List.Sorted.{answers_always}
use Rattle.mlr_record.specs.Fields.{pair_of}
use Rattle.verbs_fields.proofs.Ascending.{precedes, precedes-order, sorted-by_name, sorted-distinct}
use Rattle.verbs_fields.proofs.sort_within_records.sort_by_name.Goals as goal

pub returns-clause-sorted : goal.returns-clause-sorted
returns-clause-sorted c =
    let sort = c.sort_unstable_by.ensures in
    sorted-by_name pair_of c.args.fields.now.items c.sort_unstable_by.new.self.items sort.permutation c.requires
    (sort.sorted (precedes pair_of) (precedes-order pair_of) (answers_always _ _ _ (λ f a r g h. search rules)))

pub returns-clause-distinct : goal.returns-clause-distinct
returns-clause-distinct c =
    sorted-distinct pair_of c.args.fields.now.items c.sort_unstable_by.new.self.items c.sort_unstable_by.ensures.permutation c.requires
