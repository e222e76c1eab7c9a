use Rattle.std.proofs.Common.{subst}
use Rattle.serial_core.specs.Command.{files, numbers}
use Rattle.serial_core.specs.Reading.{ReaderRepresents}
use Rattle.serial_core.proofs.Origins.{files-read, numbers-read, origin-cause}
use Rattle.serial_core.proofs.reader.Reader.turn.Goals as goal

pub returns-in-Files-clause-read : goal.returns-in-Files-clause-read
returns-in-Files-clause-read g c (files opts names) before given read represents following =
    let at = subst (ReaderRepresents (files opts names) given read) c.in-Files.is represents in
    let turned = c.turn.ensures.turned opts names before given at.0 following in
    files-read opts names before given read at.1 c.turn.result c.turn.new.self (g.I.Inputs.contents c.args.inputs.now) (g.I.Inputs.taken c.turn.new.inputs) (g.I.Inputs.open_entry c.turn.new.inputs) c.args.out.now c.turn.new.out
    turned c.source_laws.ensures.all at.0.order (c.source_laws.ensures.list opts names turned.given')
returns-in-Files-clause-read g c (numbers seq) before given read represents following = absurd (subst (ReaderRepresents (numbers seq) given read) c.in-Files.is represents)

pub returns-in-Numbers-clause-read : goal.returns-in-Numbers-clause-read
returns-in-Numbers-clause-read g c (files opts names) before given read represents following = absurd (subst (ReaderRepresents (files opts names) given read) c.in-Numbers.is represents)
returns-in-Numbers-clause-read g c (numbers seq) before given read represents following =
    let at = subst (ReaderRepresents (numbers seq) given read) c.in-Numbers.is represents in
    numbers-read seq before given read at.0 at.1 c.in-Numbers.numbers at.2 at.3 at.4 c.next_numbers.new.numbers (g.I.Inputs.contents c.args.inputs.now) (g.I.Inputs.taken c.args.inputs.now) (g.I.Inputs.open_entry c.args.inputs.now)
    following c.args.out.now c.next_numbers.new.out c.next_numbers.result (c.next_numbers.ensures seq at.0 at.1 at.2)

pub returns-in-Numbers-clause-cause : goal.returns-in-Numbers-clause-cause
returns-in-Numbers-clause-cause g c =
    let at = subst (ReaderRepresents c.requires.0 c.requires.2 c.requires.3) c.in-Numbers.is c.requires.4 in
    origin-cause c.requires.0 c.requires.2 c.requires.3 c.in-Numbers.numbers at c.next_numbers.result c.next_numbers.new.numbers c.args.out.now c.next_numbers.new.out (g.I.Inputs.faults c.args.inputs.now) c.next_numbers.ensures
