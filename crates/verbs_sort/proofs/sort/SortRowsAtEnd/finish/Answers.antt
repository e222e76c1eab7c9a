use Rattle.std.proofs.Common.{ap}
use Rattle.std.proofs.lemmas.Result.{on_ok_weaker}
use Rattle.verbs_sort.proofs.Keeping.{given-at_end}
use Rattle.verbs_sort.proofs.sort.SortRowsAtEnd.finish.Goals as goal

pub returns-clause-given : goal.returns-clause-given
returns-clause-given c =
    let s = c.args.self.now in
    on_ok_weaker c.push_others.result
    (λ last. record {
      gives = λ rows holds.
          given-at_end s.keys.items c.deref.result.now s.entries.items c.replace-entries.result.items c.sort_entries.new.entries.items s.others.items c.replace-others.result.items rows
          c.args.out.now c.push_entries.new.out c.push_others.new.out
          c.deref.ensures.value (ap (λ v. v.items) c.replace-entries.ensures.value) (ap (λ v. v.items) c.replace-others.ensures.value) holds
          c.in_ok-sort_entries.ensures c.in_ok-push_entries.ensures last;
    })
    c.push_others.ensures
