use Rattle.std.proofs.Common.{◌≡◌, ◌+◌, ◌-◌, length, subst, arith}
use Rattle.mlr_world.specs.declared.inputs.Got.TheVariants as got
use Rattle.mlr_world.specs.MemoryInputs.{TakesFrom, TakesUpTo}
use Rattle.mlr_world.proofs.MemoryInputs.{text-read, took, left-read, ended_at, entry-grew, entry-ended}
use Rattle.mlr_world.proofs.memory_inputs.take_on.Goals as goal

pub returns-in-Some-clause-taken : goal.returns-in-Some-clause-taken
returns-in-Some-clause-taken c =
    let contents = c.args.contents.now in
    let readings = c.args.readings.now.items in
    let i = c.len-last.result - 1 in
    let reading = c.index-reading.result.now in
    let last : i + 1 ≡ length readings = omega arith in
    let text = text-read contents readings i reading last c.index-reading.ensures c.requires.fine c.index-contents-reading.result c.as_slice-text.result.now c.as_slice-text.ensures in
    took contents readings i reading last c.index-reading.ensures c.requires.fine c.args.limit c.args.max c.in-Some.count c.args.into.now c.take_from-got.new.into c.requires.within
    (subst (λ t. TakesFrom c.args.limit t reading.count (got.Some c.in-Some.count) c.args.into.now c.take_from-got.new.into) text c.in-Some.ensures.taken)

pub returns-in-Some-clause-most : goal.returns-in-Some-clause-most
returns-in-Some-clause-most c =
    let contents = c.args.contents.now in
    let readings = c.args.readings.now.items in
    let i = c.len-last.result - 1 in
    let reading = c.index-reading.result.now in
    let last : i + 1 ≡ length readings = omega arith in
    left-read contents readings i reading last c.index-reading.ensures c.requires.fine c.index-contents-reading.result c.as_slice-text.result.now c.as_slice-text.ensures
    (TakesUpTo c.args.limit (got.Some c.in-Some.count)) c.in-Some.ensures.most

pub returns-in-Some-clause-entry : goal.returns-in-Some-clause-entry
returns-in-Some-clause-entry c =
    let readings = c.args.readings.now.items in
    let i = c.len-last.result - 1 in
    let last : i + 1 ≡ length readings = omega arith in
    entry-grew c.args.contents.now readings i c.index-reading.result.now last c.index-reading.ensures c.requires.fine c.in-Some.count

pub returns-in-End-clause-taken : goal.returns-in-End-clause-taken
returns-in-End-clause-taken c =
    let contents = c.args.contents.now in
    let readings = c.args.readings.now.items in
    let i = c.len-last.result - 1 in
    let reading = c.index-reading.result.now in
    let last : i + 1 ≡ length readings = omega arith in
    let text = text-read contents readings i reading last c.index-reading.ensures c.requires.fine c.index-contents-reading.result c.as_slice-text.result.now c.as_slice-text.ensures in
    rw c.in-End.is
    (ended_at contents readings i reading last c.index-reading.ensures c.requires.fine c.args.max c.args.into.now c.take_from-got.new.into
    (subst (λ t. TakesFrom c.args.limit t reading.count got.End c.args.into.now c.take_from-got.new.into) text c.in-End.ensures.taken))

pub returns-in-End-clause-most : goal.returns-in-End-clause-most
returns-in-End-clause-most c =
    let contents = c.args.contents.now in
    let readings = c.args.readings.now.items in
    let i = c.len-last.result - 1 in
    let reading = c.index-reading.result.now in
    let last : i + 1 ≡ length readings = omega arith in
    left-read contents readings i reading last c.index-reading.ensures c.requires.fine c.index-contents-reading.result c.as_slice-text.result.now c.as_slice-text.ensures
    (TakesUpTo c.args.limit c.take_from-got.result) c.take_from-got.ensures.most

pub returns-in-End-clause-entry : goal.returns-in-End-clause-entry
returns-in-End-clause-entry c =
    let readings = c.args.readings.now.items in
    let i = c.len-last.result - 1 in
    let last : i + 1 ≡ length readings = omega arith in
    entry-ended c.args.contents.now readings i c.index-reading.result.now last c.index-reading.ensures c.requires.fine

pub returns-in-Failed-clause-most : goal.returns-in-Failed-clause-most
returns-in-Failed-clause-most c =
    let contents = c.args.contents.now in
    let readings = c.args.readings.now.items in
    let i = c.len-last.result - 1 in
    let reading = c.index-reading.result.now in
    let last : i + 1 ≡ length readings = omega arith in
    left-read contents readings i reading last c.index-reading.ensures c.requires.fine c.index-contents-reading.result c.as_slice-text.result.now c.as_slice-text.ensures
    (TakesUpTo c.args.limit c.take_from-got.result) c.take_from-got.ensures.most
