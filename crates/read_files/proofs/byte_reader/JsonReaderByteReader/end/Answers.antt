use Rattle.std.proofs.Common.{arith, ◌∙◌}
use Rattle.std.proofs.Common.{true}
use Rattle.read_json_lines.specs.Json.{file_items}
use Rattle.read_files.proofs.Formats.{events-ctx}
use Rattle.read_files.proofs.byte_reader.JsonReaderByteReader.end.Goals as goal

pub end-requires : goal.end-requires
end-requires c = (c.requires.2.opened, omega (arith, c.requires.2.used, c.requires.2.room.0, c.requires.2.room.1, c.requires.3))

pub returns-clause-adds : goal.returns-clause-adds
returns-clause-adds c = λ source bytes represents. c.in_ok-end.ensures.adds source.opts source.file source.ctx bytes represents.represents

pub returns-clause-ctx : goal.returns-clause-ctx
returns-clause-ctx c = λ source bytes represents.
    c.ctx.ensures.read source.opts source.file source.ctx bytes (c.in_ok-end.ensures.represents source.opts source.file source.ctx bytes represents.represents) ∙ events-ctx source.ctx (file_items true source.opts.infer source.file bytes)

pub returns-clause-few : goal.returns-clause-few
returns-clause-few c = λ source bytes represents. omega (arith, c.ctx.ensures.nr, c.in_ok-end.ensures.room, represents.used)
