use Rattle.left_files.proofs.Opening.{next-begun, none-begun}
use Rattle.left_files.proofs.reader.LeftReader.read_next.Goals as goal

pub read-requires : goal.read-requires
read-requires g c =
    let k = c.requires.represents in
    (k.0, k.1, k.2, next-begun k.0 k.1 k.2 c.args.self.now k.3 (g.I.Inputs.contents c.args.inputs.now) (g.I.Inputs.taken c.args.inputs.now) (g.I.Inputs.open_entry c.args.inputs.now) k.4 c.requires.none c.in-Some.file c.pop.new.self c.in-Some.ensures.items c.in-Ok.input c.in-Ok.ensures, k.4)

pub returns-in-Err-clause-turned : goal.returns-in-Err-clause-turned
returns-in-Err-clause-turned g c files before given s following =
    none-begun files before given c.args.self.now s (g.I.Inputs.contents c.args.inputs.now) (g.I.Inputs.taken c.args.inputs.now) (g.I.Inputs.open_entry c.args.inputs.now) following c.requires.none (record c.args.self.now { files = c.pop.new.self })
