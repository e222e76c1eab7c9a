use Rattle.std.proofs.Common.{◌≡◌, List, ◌++◌, drop}
use Rattle.verbs_base.specs.Records.{Fields, with_context}
use Rattle.verbs_join.specs.Join.{unpaired}
use Rattle.verbs_join.specs.Represents.{LeftsOf}
use Rattle.verbs_join.proofs.lefts.Lefts.push_unpaired.Given as goal

-- the records so far, with those among the remaining left records, are all
abbrev pub invariant-loop-place : goal.invariant-loop-place
invariant-loop-place l = record {
  records : l.self.records ≡ l.fn.self.records;
  lefts : (rights : List Fields) → LeftsOf l.options rights l.fn.self → LeftsOf l.options rights l.self;
  gives : (rights : List Fields) → LeftsOf l.options rights l.fn.self
      → l.out ++ with_context l.ctx (unpaired l.options (drop l.place l.fn.self.records.items) rights) ≡ l.fn.out ++ with_context l.ctx (unpaired l.options l.fn.self.records.items rights);
}
