use Rattle.std.proofs.lemmas.List.{take-replicate}
use Rattle.text_columns.proofs.padding.spaces.Goals as goal

pub returns : goal.returns
returns c = take-replicate c.args.count 16 32 c.requires
