use Rattle.std.proofs.Common.{true, arith}
use Rattle.read_files.proofs.Stepping.{bytes_so, end-closes, end-faulty, end-none, in-place, part-so, source_so, total-so}
use Rattle.read_files.proofs.reader.FileReader.take_end.Goals as goal

pub end_file-requires : goal.end_file-requires
end_file-requires c =
    let known = c.requires.represents in
    let now = in-place known.0 known.1 known.2 c.args.self.now c.in-Some.input c.in-Some.is known.3 in (
      source_so known.0 known.1 known.2 c.args.self.now c.in-Some.input now,
      bytes_so known.0 known.1 known.2 c.args.self.now c.in-Some.input now,
      now.current.represents,
      omega (arith, now.few, total-so known.0 known.1 known.2 c.args.self.now c.in-Some.input now),
    )

pub returns-in-On-clause-stepped : goal.returns-in-On-clause-stepped
returns-in-On-clause-stepped c = λ opts names given represents.
    let s = in-place opts names given c.args.self.now c.in-Some.input c.in-Some.is represents in
    let says = c.in-On.ensures (source_so opts names given c.args.self.now c.in-Some.input s) (bytes_so opts names given c.args.self.now c.in-Some.input s) s.current.represents (part-so opts names given c.args.self.now c.in-Some.input s true s.current.bytes) in
    end-closes opts names given c.args.self.now c.in-Some.input s c.args.out.now c.end_file.new.out says.0 says.1 c.in-On.at says.2 c.source_laws.ensures.grows _ c.close.result c.close.new.self c.close.new.out says.3 c.close.ensures.closes

pub returns-in-Faulty-clause-stepped : goal.returns-in-Faulty-clause-stepped
returns-in-Faulty-clause-stepped c = λ opts names given represents.
    let s = in-place opts names given c.args.self.now c.in-Some.input c.in-Some.is represents in
    let says = c.in-Faulty.ensures (source_so opts names given c.args.self.now c.in-Some.input s) (bytes_so opts names given c.args.self.now c.in-Some.input s) s.current.represents (part-so opts names given c.args.self.now c.in-Some.input s true s.current.bytes) in
    end-faulty opts names given c.args.self.now c.in-Some.input s c.args.out.now c.end_file.new.out says.0 _ says.1

pub returns-in-NoMemory-clause-stepped : goal.returns-in-NoMemory-clause-stepped
returns-in-NoMemory-clause-stepped c = λ opts names given represents.
    let s = in-place opts names given c.args.self.now c.in-Some.input c.in-Some.is represents in
    end-none opts names given c.args.self.now c.in-Some.input s c.args.out.now c.source_laws.ensures.grows _ _
