use Rattle.std.proofs.Common.{◌∷◌, []}
use Rattle.left_files.proofs.Turning.{done_so, ended-so, failed-so, following-so, long-so, none-so, went-less, went-so}
use Rattle.left_files.proofs.reader.LeftReader.read.Goals as goal

pub turn-requires : goal.turn-requires
turn-requires g c =
    let k = c.requires in
    let s = k.3 in
    (s.current.file.read, s.current.file.name ∷ [], done_so k.0 k.1 k.2 c.args.self.now c.args.input s, s.current.takes, s.current.reads.represents, following-so k.0 k.1 k.2 c.args.self.now c.args.input s (g.I.Inputs.contents c.args.inputs.now) (g.I.Inputs.taken c.args.inputs.now) (g.I.Inputs.open_entry c.args.inputs.now) k.4)

pub returns-in-Went-clause-turned : goal.returns-in-Went-clause-turned
returns-in-Went-clause-turned g c files before given s following =
    went-so files before given c.args.self.now c.args.input s (g.I.Inputs.contents c.args.inputs.now) (g.I.Inputs.taken c.args.inputs.now) (g.I.Inputs.taken c.turn.new.inputs) (g.I.Inputs.open_entry c.args.inputs.now) (g.I.Inputs.open_entry c.turn.new.inputs) following c.turn.result c.turn.new.self c.turn.new.out
    (c.turn.ensures.turned s.current.file.read (s.current.file.name ∷ []) (done_so files before given c.args.self.now c.args.input s) s.current.takes s.current.reads.represents
    (following-so files before given c.args.self.now c.args.input s (g.I.Inputs.contents c.args.inputs.now) (g.I.Inputs.taken c.args.inputs.now) (g.I.Inputs.open_entry c.args.inputs.now) following))
    c.in-Went.is

pub returns-in-Went-clause-less : goal.returns-in-Went-clause-less
returns-in-Went-clause-less g c = λ went.
    let k = c.requires in
    let s = k.3 in
    went-less k.0 k.1 k.2 c.args.self.now c.args.input s (g.I.Inputs.contents c.args.inputs.now) (g.I.Inputs.taken c.args.inputs.now) (g.I.Inputs.taken c.turn.new.inputs) (g.I.Inputs.open_entry c.args.inputs.now) (g.I.Inputs.open_entry c.turn.new.inputs) k.4 c.turn.result c.turn.new.self c.turn.new.out
    (c.turn.ensures.turned s.current.file.read (s.current.file.name ∷ []) (done_so k.0 k.1 k.2 c.args.self.now c.args.input s) s.current.takes s.current.reads.represents
    (following-so k.0 k.1 k.2 c.args.self.now c.args.input s (g.I.Inputs.contents c.args.inputs.now) (g.I.Inputs.taken c.args.inputs.now) (g.I.Inputs.open_entry c.args.inputs.now) k.4))
    c.in-Went.is

pub returns-in-Ended-clause-turned : goal.returns-in-Ended-clause-turned
returns-in-Ended-clause-turned g c files before given s following =
    let turned = c.turn.ensures.turned s.current.file.read (s.current.file.name ∷ []) (done_so files before given c.args.self.now c.args.input s) s.current.takes s.current.reads.represents
    (following-so files before given c.args.self.now c.args.input s (g.I.Inputs.contents c.args.inputs.now) (g.I.Inputs.taken c.args.inputs.now) (g.I.Inputs.open_entry c.args.inputs.now) following) in
    ended-so files before given c.args.self.now c.args.input s (g.I.Inputs.contents c.args.inputs.now) (g.I.Inputs.taken c.args.inputs.now) (g.I.Inputs.taken c.turn.new.inputs) (g.I.Inputs.open_entry c.args.inputs.now) (g.I.Inputs.open_entry c.turn.new.inputs) following c.turn.result c.turn.new.self c.turn.new.out
    turned c.in-Ended.is (c.source_laws.ensures.list s.current.file.read (s.current.file.name ∷ []) turned.given') c.close.new.self c.close.result c.close.ensures.closed

pub returns-in-Failed-clause-turned : goal.returns-in-Failed-clause-turned
returns-in-Failed-clause-turned g c files before given s following =
    failed-so files before given c.args.self.now c.args.input s (g.I.Inputs.contents c.args.inputs.now) (g.I.Inputs.taken c.args.inputs.now) (g.I.Inputs.taken c.turn.new.inputs) (g.I.Inputs.open_entry c.args.inputs.now) (g.I.Inputs.open_entry c.turn.new.inputs) following c.turn.result c.turn.new.self c.turn.new.out
    (c.turn.ensures.turned s.current.file.read (s.current.file.name ∷ []) (done_so files before given c.args.self.now c.args.input s) s.current.takes s.current.reads.represents
    (following-so files before given c.args.self.now c.args.input s (g.I.Inputs.contents c.args.inputs.now) (g.I.Inputs.taken c.args.inputs.now) (g.I.Inputs.open_entry c.args.inputs.now) following))
    c.in-Failed.name c.args.self.now c.in-Failed.is

pub returns-in-TooLong-clause-turned : goal.returns-in-TooLong-clause-turned
returns-in-TooLong-clause-turned g c files before given s following =
    long-so files before given c.args.self.now c.args.input s (g.I.Inputs.contents c.args.inputs.now) (g.I.Inputs.taken c.args.inputs.now) (g.I.Inputs.taken c.turn.new.inputs) (g.I.Inputs.open_entry c.args.inputs.now) (g.I.Inputs.open_entry c.turn.new.inputs) following c.turn.result c.turn.new.self c.turn.new.out
    (c.turn.ensures.turned s.current.file.read (s.current.file.name ∷ []) (done_so files before given c.args.self.now c.args.input s) s.current.takes s.current.reads.represents
    (following-so files before given c.args.self.now c.args.input s (g.I.Inputs.contents c.args.inputs.now) (g.I.Inputs.taken c.args.inputs.now) (g.I.Inputs.open_entry c.args.inputs.now) following))
    c.args.self.now c.in-TooLong.is

pub returns-in-NoMemory-clause-turned : goal.returns-in-NoMemory-clause-turned
returns-in-NoMemory-clause-turned g c files before given s following =
    none-so files before given c.args.self.now c.args.input s (g.I.Inputs.contents c.args.inputs.now) (g.I.Inputs.taken c.args.inputs.now) (g.I.Inputs.taken c.turn.new.inputs) (g.I.Inputs.open_entry c.args.inputs.now) (g.I.Inputs.open_entry c.turn.new.inputs) following c.turn.result c.turn.new.self c.turn.new.out
    (c.turn.ensures.turned s.current.file.read (s.current.file.name ∷ []) (done_so files before given c.args.self.now c.args.input s) s.current.takes s.current.reads.represents
    (following-so files before given c.args.self.now c.args.input s (g.I.Inputs.contents c.args.inputs.now) (g.I.Inputs.taken c.args.inputs.now) (g.I.Inputs.open_entry c.args.inputs.now) following))
    c.args.self.now
