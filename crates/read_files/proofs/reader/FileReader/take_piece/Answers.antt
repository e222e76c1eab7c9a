use Rattle.std.proofs.Common.{◌≡◌, ◌++◌, false, ap, arith, length, sym, subst, ◌∙◌}
use Rattle.read_files.specs.Feeding.{FedSays}
use Rattle.read_files.specs.Readers.{FileRepresents}
use Rattle.read_files.specs.declared.feeding.Fed.TheVariants as fed
use Rattle.read_files.proofs.Stepping.{bytes_so, gives_so, in-place, part-so, piece-faulty, piece-none, piece-went, source_so, total-so}
use Rattle.read_files.proofs.reader.FileReader.take_piece.Goals as goal

pub overflow_add-self : goal.overflow_add-self
overflow_add-self c = omega (arith, c.requires.represents.4, c.requires.represents.3.taken_is, c.len.ensures)

pub feed_piece-fed-requires : goal.feed_piece-fed-requires
feed_piece-fed-requires c =
    let known = c.requires.represents in
    let now = in-place known.0 known.1 known.2 c.args.self.now c.in-Some.input (sym c.take.ensures.value ∙ c.in-Some.is) known.3 in (
      source_so known.0 known.1 known.2 c.args.self.now c.in-Some.input now,
      bytes_so known.0 known.1 known.2 c.args.self.now c.in-Some.input now,
      now.current.represents,
      omega (arith, now.few, known.4, ap length c.as_slice.ensures, total-so known.0 known.1 known.2 c.args.self.now c.in-Some.input now),
    )

pub returns-in-On-clause-stepped : goal.returns-in-On-clause-stepped
returns-in-On-clause-stepped c = λ opts names given represents some few.
    let s = in-place opts names given c.args.self.now c.in-Some.input (sym c.take.ensures.value ∙ c.in-Some.is) represents in
    let source = source_so opts names given c.args.self.now c.in-Some.input s in
    let bytes = bytes_so opts names given c.args.self.now c.in-Some.input s in
    let piece = c.args.self.now.piece in
    let says = c.in-On.ensures.says source bytes s.current.represents (part-so opts names given c.args.self.now c.in-Some.input s false (bytes ++ c.as_slice.result.now)) in
    let is : c.as_slice.result.now ≡ piece = c.as_slice.ensures in
    let adds = subst (λ p. FedSays fed.On c.args.out.now c.feed_piece-fed.new.out (gives_so opts names given c.args.self.now c.in-Some.input s false bytes) (gives_so opts names given c.args.self.now c.in-Some.input s false (bytes ++ p))) is says in
    piece-went opts names given c.args.self.now c.in-Some.input s piece c.args.out.now c.feed_piece-fed.new.out adds.0 adds.1 c.went_to.result _ _ _ (omega (arith, s.taken_is, c.len.ensures)) (omega (arith, s.taken_is, c.len.ensures, few)) some
    (subst (λ p. FileRepresents c.feed_piece-fed.new.reader source (bytes ++ p)) is (c.in-On.ensures.represents source bytes s.current.represents)) c.went_to.ensures

pub returns-in-Faulty-clause-stepped : goal.returns-in-Faulty-clause-stepped
returns-in-Faulty-clause-stepped c = λ opts names given represents some few.
    let s = in-place opts names given c.args.self.now c.in-Some.input (sym c.take.ensures.value ∙ c.in-Some.is) represents in
    let source = source_so opts names given c.args.self.now c.in-Some.input s in
    let bytes = bytes_so opts names given c.args.self.now c.in-Some.input s in
    let piece = c.args.self.now.piece in
    let says = c.in-Faulty.ensures.says source bytes s.current.represents (part-so opts names given c.args.self.now c.in-Some.input s false (bytes ++ c.as_slice.result.now)) in
    let is : c.as_slice.result.now ≡ piece = c.as_slice.ensures in
    let adds = subst (λ p. FedSays fed.Faulty c.args.out.now c.feed_piece-fed.new.out (gives_so opts names given c.args.self.now c.in-Some.input s false bytes) (gives_so opts names given c.args.self.now c.in-Some.input s false (bytes ++ p))) is says in
    piece-faulty opts names given c.args.self.now c.in-Some.input s piece c.args.out.now c.feed_piece-fed.new.out adds.0 _ adds.1

pub returns-in-NoMemory-clause-stepped : goal.returns-in-NoMemory-clause-stepped
returns-in-NoMemory-clause-stepped c = λ opts names given represents some few.
    let s = in-place opts names given c.args.self.now c.in-Some.input (sym c.take.ensures.value ∙ c.in-Some.is) represents in
    piece-none opts names given c.args.self.now c.in-Some.input s c.args.self.now.piece c.args.out.now c.feed_piece-fed.new.out c.source_laws.ensures.grows _
