use Rattle.std.proofs.Common.{◌≡◌, ap, arith, length, subst, sym, length-append}
use Rattle.std.specs.Prelude.{IfSome}
use Rattle.mlr_world.specs.Taken.{entry_of}
use Rattle.read_files.specs.Takes.{last_place}
use Rattle.read_files.specs.declared.reader.ReadTurn.TheVariants.{Failed}
use Rattle.read_files.specs.Represents.{Turned, TurnCause}
use Rattle.read_files.proofs.Reading.{name-so, no-failure, some-so, represents-piece, stops-so, turned-end, turned-failed, turned-none, turned-piece}
use Rattle.read_files.proofs.Stepping.{in-place}
use Rattle.read_files.proofs.Taking.{following-same, moved, some_of, unmoved}
use Rattle.read_files.proofs.reader.FileReader.read.Goals as goal

pub read-requires-clause-open : goal.read-requires-clause-open
read-requires-clause-open g c =
    let input = some_of c.args.self.now.current c.requires.some in
    let k = c.requires.represents in
    let s = in-place k.0 k.1 k.3 c.args.self.now input.0 input.1 k.4 in
    some-so k.0 k.1 k.3 c.args.self.now input.0 s k.2 (g.I.Inputs.contents c.args.inputs.now) (g.I.Inputs.taken c.args.inputs.now) (g.I.Inputs.open_entry c.args.inputs.now) k.5

pub take_piece-requires-clause-represents : goal.take_piece-requires-clause-represents
take_piece-requires-clause-represents g c =
    let k = c.requires.represents in
    let step = c.in-Some.ensures.taken in (
      k.0,
      k.1,
      k.3,
      represents-piece k.0 k.1 k.3 c.args.self.now c.read.new.into k.4,
      omega (arith, k.4.few, k.4.taken_is, step.count, step.no_more, ap length step.appended, ap length c.clear.ensures, c.min-max.ensures, length-append c.clear.new.self step.piece),
    )

pub take_end-requires-clause-represents : goal.take_end-requires-clause-represents
take_end-requires-clause-represents g c =
    let k = c.requires.represents in (k.0, k.1, k.3, represents-piece k.0 k.1 k.3 c.args.self.now c.read.new.into k.4)

pub returns-in-Some-clause-turned : goal.returns-in-Some-clause-turned
returns-in-Some-clause-turned g c = λ opts names before given represents following.
    let input = some_of c.args.self.now.current c.requires.some in
    let s = in-place opts names given c.args.self.now input.0 input.1 represents in
    let step = c.in-Some.ensures.taken in
    turned-piece opts names given c.args.self.now input.0 s before (g.I.Inputs.contents c.args.inputs.now) (g.I.Inputs.taken c.args.inputs.now) (g.I.Inputs.open_entry c.args.inputs.now) following
    (g.I.Inputs.taken c.read.new.self) (g.I.Inputs.open_entry c.read.new.self) c.in-Some.ensures.open c.take_piece.result c.take_piece.new.self c.args.out.now c.take_piece.new.out c.min-max.result c.clear.new.self c.read.new.into c.clear.ensures step
    (omega (arith, c.min-max.ensures)) (omega (arith, c.min-max.ensures, s.taken_is, s.few))
    (c.take_piece.ensures.stepped opts names given (represents-piece opts names given c.args.self.now c.read.new.into represents)
    (omega (arith, step.some, step.count, ap length step.appended, ap length c.clear.ensures, length-append c.clear.new.self step.piece)) (omega (arith, c.min-max.ensures, s.taken_is, s.few, step.count, step.no_more, ap length step.appended, ap length c.clear.ensures, length-append c.clear.new.self step.piece)))

pub returns-in-Some-clause-cause : goal.returns-in-Some-clause-cause
returns-in-Some-clause-cause g c =
    let input = some_of c.args.self.now.current c.requires.some in
    let k = c.requires.represents in
    let s = in-place k.0 k.1 k.3 c.args.self.now input.0 input.1 k.4 in
    no-failure c.take_piece.result (g.I.Inputs.faults c.args.inputs.now) (g.I.Inputs.faults c.read.new.self) c.take_piece.ensures.no_failure
    (unmoved (g.I.Inputs.open_entry c.args.inputs.now) (g.I.Inputs.faults c.args.inputs.now) (g.I.Inputs.faults c.read.new.self) (some-so k.0 k.1 k.3 c.args.self.now input.0 s k.2 (g.I.Inputs.contents c.args.inputs.now) (g.I.Inputs.taken c.args.inputs.now) (g.I.Inputs.open_entry c.args.inputs.now) k.5) c.in-Some.ensures.counts)

pub returns-in-End-clause-turned : goal.returns-in-End-clause-turned
returns-in-End-clause-turned g c = λ opts names before given represents following.
    let input = some_of c.args.self.now.current c.requires.some in
    let s = in-place opts names given c.args.self.now input.0 input.1 represents in
    turned-end opts names given c.args.self.now input.0 s before (g.I.Inputs.contents c.args.inputs.now) (g.I.Inputs.taken c.args.inputs.now) (g.I.Inputs.open_entry c.args.inputs.now) following
    (g.I.Inputs.taken c.read.new.self) (g.I.Inputs.open_entry c.read.new.self) c.in-End.ensures.open c.take_end.result c.take_end.new.self c.args.out.now c.take_end.new.out c.clear.new.self c.read.new.into c.in-End.ensures.taken
    (c.take_end.ensures.stepped opts names given (represents-piece opts names given c.args.self.now c.read.new.into represents))

pub returns-in-End-clause-cause : goal.returns-in-End-clause-cause
returns-in-End-clause-cause g c =
    let input = some_of c.args.self.now.current c.requires.some in
    let k = c.requires.represents in
    let s = in-place k.0 k.1 k.3 c.args.self.now input.0 input.1 k.4 in
    no-failure c.take_end.result (g.I.Inputs.faults c.args.inputs.now) (g.I.Inputs.faults c.read.new.self) c.take_end.ensures.no_failure
    (unmoved (g.I.Inputs.open_entry c.args.inputs.now) (g.I.Inputs.faults c.args.inputs.now) (g.I.Inputs.faults c.read.new.self) (some-so k.0 k.1 k.3 c.args.self.now input.0 s k.2 (g.I.Inputs.contents c.args.inputs.now) (g.I.Inputs.taken c.args.inputs.now) (g.I.Inputs.open_entry c.args.inputs.now) k.5) c.in-End.ensures.counts)

pub returns-in-Failed-clause-turned : goal.returns-in-Failed-clause-turned
returns-in-Failed-clause-turned g c = λ opts names before given represents following.
    let input = some_of c.args.self.now.current c.requires.some in
    let s = in-place opts names given c.args.self.now input.0 input.1 represents in
    let is : c.fail.result ≡ Failed input.0.name = subst (λ o. IfSome o (λ i. c.fail.result ≡ Failed i.name)) input.1 c.fail.ensures in
    subst (λ t. Turned t opts names before given c.fail.new.self (g.I.Inputs.contents c.args.inputs.now) (g.I.Inputs.taken c.read.new.self) (g.I.Inputs.open_entry c.read.new.self) c.args.out.now c.args.out.now) (sym is)
    (turned-failed opts names before given c.args.self.now c.fail.new.self represents (g.I.Inputs.contents c.args.inputs.now) (g.I.Inputs.taken c.read.new.self) (g.I.Inputs.open_entry c.read.new.self)
    (following-same before given (g.I.Inputs.contents c.args.inputs.now) (g.I.Inputs.taken c.args.inputs.now) (g.I.Inputs.taken c.read.new.self) (g.I.Inputs.open_entry c.args.inputs.now) (g.I.Inputs.open_entry c.read.new.self) c.in-Failed.ensures.taken.entry c.in-Failed.ensures.open following)
    input.0.name (stops-so opts names given c.args.self.now input.0 s before (g.I.Inputs.contents c.args.inputs.now) (g.I.Inputs.taken c.args.inputs.now) (g.I.Inputs.open_entry c.args.inputs.now) following) c.args.out.now)

pub returns-in-Failed-clause-cause : goal.returns-in-Failed-clause-cause
returns-in-Failed-clause-cause g c =
    let input = some_of c.args.self.now.current c.requires.some in
    let k = c.requires.represents in
    let s = in-place k.0 k.1 k.3 c.args.self.now input.0 input.1 k.4 in
    let is : c.fail.result ≡ Failed input.0.name = subst (λ o. IfSome o (λ i. c.fail.result ≡ Failed i.name)) input.1 c.fail.ensures in
    subst (λ t. TurnCause t (g.I.Inputs.faults c.args.inputs.now) (g.I.Inputs.faults c.read.new.self)) (sym is)
    (moved (g.I.Inputs.open_entry c.args.inputs.now) (entry_of input.0.name (last_place (g.I.Inputs.taken c.args.inputs.now))) (g.I.Inputs.faults c.args.inputs.now) (g.I.Inputs.faults c.read.new.self) (name-so k.0 k.1 k.3 c.args.self.now input.0 s k.2 (g.I.Inputs.contents c.args.inputs.now) (g.I.Inputs.taken c.args.inputs.now) (g.I.Inputs.open_entry c.args.inputs.now) k.5) c.in-Failed.ensures.counts)

pub returns-in-NoMemory-clause-turned : goal.returns-in-NoMemory-clause-turned
returns-in-NoMemory-clause-turned g c = λ opts names before given represents following.
    let input = some_of c.args.self.now.current c.requires.some in
    let s = in-place opts names given c.args.self.now input.0 input.1 represents in
    turned-none opts names before given c.args.self.now _ represents (g.I.Inputs.contents c.args.inputs.now) (g.I.Inputs.taken c.read.new.self) (g.I.Inputs.open_entry c.read.new.self)
    (following-same before given (g.I.Inputs.contents c.args.inputs.now) (g.I.Inputs.taken c.args.inputs.now) (g.I.Inputs.taken c.read.new.self) (g.I.Inputs.open_entry c.args.inputs.now) (g.I.Inputs.open_entry c.read.new.self) c.in-NoMemory.ensures.taken.entry c.in-NoMemory.ensures.open following)
    input.0.name (stops-so opts names given c.args.self.now input.0 s before (g.I.Inputs.contents c.args.inputs.now) (g.I.Inputs.taken c.args.inputs.now) (g.I.Inputs.open_entry c.args.inputs.now) following) c.args.out.now

pub returns-in-NoMemory-clause-cause : goal.returns-in-NoMemory-clause-cause
returns-in-NoMemory-clause-cause g c =
    let input = some_of c.args.self.now.current c.requires.some in
    let k = c.requires.represents in
    let s = in-place k.0 k.1 k.3 c.args.self.now input.0 input.1 k.4 in
    unmoved (g.I.Inputs.open_entry c.args.inputs.now) (g.I.Inputs.faults c.args.inputs.now) (g.I.Inputs.faults c.read.new.self) (some-so k.0 k.1 k.3 c.args.self.now input.0 s k.2 (g.I.Inputs.contents c.args.inputs.now) (g.I.Inputs.taken c.args.inputs.now) (g.I.Inputs.open_entry c.args.inputs.now) k.5) c.in-NoMemory.ensures.counts
