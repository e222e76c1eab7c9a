use Rattle.std.proofs.Common.{◌≡◌, ◌∷◌, ◌++◌, [], arith}
use Rattle.std.proofs.lemmas.List.{nil_from_length}
use Rattle.mlr_world.specs.Taken.{begun}
use Rattle.read_files.proofs.Opening.{next-represents, order-opened, read-so, stops-next, stops-opened, turned-all, turned-opened, turned-opened-none}
use Rattle.read_files.proofs.Reading.{turned-failed, turned-none}
use Rattle.read_files.proofs.Taking.{following-closed, following-opened}
use Rattle.read_files.proofs.reader.FileReader.read_next.Goals as goal

pub begin-requires : goal.begin-requires
begin-requires g c =
    let k = c.requires.represents in
    let popped : c.args.self.now.names.items ≡ c.pop.new.self.items ++ c.in-Some.name ∷ [] = c.in-Some.ensures.items in
    (k.0, k.1, k.3, next-represents k.0 k.1 k.3 c.args.self.now k.4 c.requires.none c.in-Some.name c.pop.new.self popped)

pub read-requires-clause-represents : goal.read-requires-clause-represents
read-requires-clause-represents g c =
    let k = c.requires.represents in
    let popped : c.args.self.now.names.items ≡ c.pop.new.self.items ++ c.in-Some.name ∷ [] = c.in-Some.ensures.items in (
      k.0,
      k.1,
      k.2,
      k.3 ++ begun c.in-Some.name ∷ [],
      c.in-Ok-begin.ensures.represents k.0 k.1 k.3 (next-represents k.0 k.1 k.3 c.args.self.now k.4 c.requires.none c.in-Some.name c.pop.new.self popped),
      following-opened k.2 k.3 (g.I.Inputs.contents c.args.inputs.now) (g.I.Inputs.contents c.open.new.self) (g.I.Inputs.taken c.args.inputs.now) (g.I.Inputs.taken c.open.new.self) (g.I.Inputs.open_entry c.args.inputs.now) (g.I.Inputs.open_entry c.open.new.self) c.in-Some.name c.in-Ok.ensures.taken c.in-Ok.ensures.finds c.in-Ok.ensures.open c.in-Ok.ensures.contents k.5,
    )

pub returns-in-Ok-begin-clause-turned : goal.returns-in-Ok-begin-clause-turned
returns-in-Ok-begin-clause-turned g c = λ opts names before given represents following.
    let popped : c.args.self.now.names.items ≡ c.pop.new.self.items ++ c.in-Some.name ∷ [] = c.in-Some.ensures.items in
    turned-opened c.read.result opts names before given c.in-Some.name c.read.new.self (g.I.Inputs.contents c.args.inputs.now) (g.I.Inputs.contents c.open.new.self) (g.I.Inputs.taken c.read.new.inputs) (g.I.Inputs.open_entry c.read.new.inputs) c.args.out.now c.read.new.out c.in-Ok.ensures.contents
    (c.read.ensures.turned opts names before (given ++ begun c.in-Some.name ∷ [])
    (c.in-Ok-begin.ensures.represents opts names given (next-represents opts names given c.args.self.now represents c.requires.none c.in-Some.name c.pop.new.self popped))
    (following-opened before given (g.I.Inputs.contents c.args.inputs.now) (g.I.Inputs.contents c.open.new.self) (g.I.Inputs.taken c.args.inputs.now) (g.I.Inputs.taken c.open.new.self) (g.I.Inputs.open_entry c.args.inputs.now) (g.I.Inputs.open_entry c.open.new.self) c.in-Some.name c.in-Ok.ensures.taken c.in-Ok.ensures.finds c.in-Ok.ensures.open c.in-Ok.ensures.contents following))

pub returns-in-Failed-clause-turned : goal.returns-in-Failed-clause-turned
returns-in-Failed-clause-turned g c = λ opts names before given represents following.
    let popped : c.args.self.now.names.items ≡ c.pop.new.self.items ++ c.in-Some.name ∷ [] = c.in-Some.ensures.items in
    let prefix = represents.prefix in
    turned-failed opts names before given c.args.self.now _ represents (g.I.Inputs.contents c.args.inputs.now) (g.I.Inputs.taken c.open.new.self) (g.I.Inputs.open_entry c.open.new.self)
    (following-closed prefix before given (g.I.Inputs.contents c.args.inputs.now) (g.I.Inputs.taken c.args.inputs.now) (g.I.Inputs.taken c.open.new.self) (g.I.Inputs.open_entry c.args.inputs.now) (g.I.Inputs.open_entry c.open.new.self) (read-so opts names given c.args.self.now represents c.requires.none) c.in-Failed.ensures.taken following)
    c.in-Some.name (stops-next opts names given c.args.self.now represents c.requires.none c.in-Some.name c.pop.new.self popped) c.args.out.now

pub returns-in-NoMemory-clause-turned : goal.returns-in-NoMemory-clause-turned
returns-in-NoMemory-clause-turned g c = λ opts names before given represents following.
    let popped : c.args.self.now.names.items ≡ c.pop.new.self.items ++ c.in-Some.name ∷ [] = c.in-Some.ensures.items in
    turned-none opts names before given c.args.self.now _ represents (g.I.Inputs.contents c.args.inputs.now) (g.I.Inputs.taken c.open.new.self) (g.I.Inputs.open_entry c.open.new.self)
    (following-closed represents.prefix before given (g.I.Inputs.contents c.args.inputs.now) (g.I.Inputs.taken c.args.inputs.now) (g.I.Inputs.taken c.open.new.self) (g.I.Inputs.open_entry c.args.inputs.now) (g.I.Inputs.open_entry c.open.new.self) (read-so opts names given c.args.self.now represents c.requires.none) c.in-NoMemory.ensures.taken following)
    c.in-Some.name (stops-next opts names given c.args.self.now represents c.requires.none c.in-Some.name c.pop.new.self popped) c.args.out.now

pub returns-in_default-clause-turned : goal.returns-in_default-clause-turned
returns-in_default-clause-turned g c = λ opts names before given represents following.
    turned-all opts names given c.args.self.now represents c.requires.none before (g.I.Inputs.contents c.args.inputs.now) (g.I.Inputs.taken c.args.inputs.now) (g.I.Inputs.open_entry c.args.inputs.now) following (nil_from_length c.args.self.now.names.items (omega (arith, c.args.self.now.names.ok, c.in_default.ensures.cases.0))) _ c.args.out.now c.put_end.new.out c.put_end.result c.put_end.ensures.appends

pub returns-in-Err-clause-turned : goal.returns-in-Err-clause-turned
returns-in-Err-clause-turned g c = λ opts names before given represents following.
    let popped : c.args.self.now.names.items ≡ c.pop.new.self.items ++ c.in-Some.name ∷ [] = c.in-Some.ensures.items in
    turned-opened-none opts names before given c.args.self.now c.begin.new.self represents (g.I.Inputs.contents c.args.inputs.now) (g.I.Inputs.contents c.open.new.self) (g.I.Inputs.taken c.open.new.self) (g.I.Inputs.open_entry c.open.new.self) c.in-Some.name c.in-Ok.ensures.contents
    (following-opened before given (g.I.Inputs.contents c.args.inputs.now) (g.I.Inputs.contents c.open.new.self) (g.I.Inputs.taken c.args.inputs.now) (g.I.Inputs.taken c.open.new.self) (g.I.Inputs.open_entry c.args.inputs.now) (g.I.Inputs.open_entry c.open.new.self) c.in-Some.name c.in-Ok.ensures.taken c.in-Ok.ensures.finds c.in-Ok.ensures.open c.in-Ok.ensures.contents following)
    (order-opened opts names given c.args.self.now represents c.requires.none c.in-Some.name c.pop.new.self popped) (stops-opened opts names given c.args.self.now represents c.requires.none c.in-Some.name c.pop.new.self popped) c.args.out.now
