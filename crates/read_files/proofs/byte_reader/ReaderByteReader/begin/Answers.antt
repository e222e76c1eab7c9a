use Rattle.std.proofs.Common.{arith}
use Rattle.read_files.proofs.Results.{if_ok_three}
use Rattle.read_files.proofs.byte_reader.ReaderByteReader.begin.Goals as goal

pub returns : goal.returns
returns g c =
    if_ok_three c.new.result _ _ _ _
    (λ reader represents opened room. record { represents = represents; opened = opened; used = omega (arith, room); room = (c.requires.nr, c.requires.fnr) })
    c.new.ensures.represents c.new.ensures.open c.new.ensures.room
