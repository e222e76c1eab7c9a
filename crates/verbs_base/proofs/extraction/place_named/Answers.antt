use Rattle.std.proofs.Common.{◌≡◌, ◌+◌, ◌-◌, true, cond, drop, take, length, subst, ap, sym, ◌∙◌}
use Rattle.std.specs.Option.{is_some}
use Rattle.mlr_record.specs.Fields.{pairs_of}
use Rattle.mlr_event.proofs.Naming.{at-place}
use Rattle.mlr_spec.specs.Pairs.{are_distinct, keys_of}
use Rattle.verbs_base.specs.Choosing.{named, picked, dropped}
use Rattle.verbs_base.proofs.Moving.{IsPlacing, all-placed, part-is, places}
use Rattle.verbs_base.proofs.extraction.place_named.Goals as goal
use Rattle.verbs_base.proofs.extraction.place_named.Goals.{then-place_first, else-place_first}

pub place_first-requires : goal.place_first-requires
place_first-requires c = ap (λ x. are_distinct (keys_of x)) (part-is c.loop-name.fields c.loop-name.count) ∙ c.loop-name.invariant.placing.distinct

pub loop-name-preserved : goal.loop-name-preserved
loop-name-preserved c =
    let names = c.args.names.now in
    let i = c.loop-name.name-index in
    let name = c.name-item.result in
    let all = pairs_of c.args.fields.now in
    let fields = c.loop-name.fields in
    let count = c.loop-name.count in
    let pairs = pairs_of fields in
    let placing = subst (λ left. IsPlacing c.args.keeps_order names left all (take count pairs) (drop count pairs)) (at-place names i name c.loop-name-test.true c.name-item.is) c.loop-name.invariant.placing in
    let counted : c.if-place_first.count ≡ cond (is_some (named (pairs_of (take (length fields - count) (drop count fields))) name)) (count + 1) count =
    elim c.if-place_first.branch [
      | then-place_first w ↦ w.count-is ∙ ap (λ t. cond t (count + 1) count) (sym w.if-place_first.true ∙ c.place_first.ensures.found)
      | else-place_first w ↦ w.count-is ∙ ap (λ t. cond t (count + 1) count) (sym w.if-place_first.false ∙ c.place_first.ensures.found)
    ] in
    let next = places c.args.keeps_order names (drop (i + 1) names) name all fields c.place_first.new.fields count c.if-place_first.count c.loop-name.invariant.within placing c.place_first.ensures.placed counted in
    record { within = next.0; placing = next.1 }

placed : (c : goal.After-loop-name)
    → (c.loop-name.count ≡ length (picked c.args.names.now (pairs_of c.args.fields.now)))
    × (take c.loop-name.count (pairs_of c.loop-name.fields) ≡ picked c.args.names.now (pairs_of c.args.fields.now))
    × (c.args.keeps_order ≡ true → drop c.loop-name.count (pairs_of c.loop-name.fields) ≡ dropped c.args.names.now (pairs_of c.args.fields.now))
placed c =
    all-placed c.args.keeps_order c.args.names.now c.loop-name.name-index (pairs_of c.args.fields.now) (pairs_of c.loop-name.fields) c.loop-name.count c.loop-name-test.false c.loop-name.invariant.within c.loop-name.invariant.placing

pub returns-clause-count : goal.returns-clause-count
returns-clause-count c = (placed c).0

pub returns-clause-first : goal.returns-clause-first
returns-clause-first c = (placed c).1

pub returns-clause-kept : goal.returns-clause-kept
returns-clause-kept c = (placed c).2
