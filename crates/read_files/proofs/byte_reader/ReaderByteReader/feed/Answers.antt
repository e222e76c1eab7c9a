use Rattle.std.proofs.Common.{arith, length-append}
use Rattle.std.proofs.lemmas.Result.{on_ok_weaker}
use Rattle.read_files.proofs.Results.{on_ok_three}
use Rattle.read_files.proofs.byte_reader.ReaderByteReader.feed.Goals as goal

pub feed-requires : goal.feed-requires
feed-requires g c = (c.requires.2.opened, omega (arith, c.requires.2.used, c.requires.2.room.0, c.requires.2.room.1, c.requires.3))

pub returns-clause-represents : goal.returns-clause-represents
returns-clause-represents g c = λ source bytes represents.
    on_ok_three c.feed.result
    (λ now opened room. record {
      represents = now source.opts source.file source.ctx bytes represents.represents;
      opened = opened;
      used = omega (arith, represents.used, room, length-append bytes c.args.piece.now);
      room = represents.room;
    })
    c.feed.ensures.represents c.feed.ensures.open c.feed.ensures.room

pub returns-clause-adds : goal.returns-clause-adds
returns-clause-adds g c = λ source bytes represents. on_ok_weaker c.feed.result (λ adds. adds source.opts source.file source.ctx bytes represents.represents) c.feed.ensures.adds
