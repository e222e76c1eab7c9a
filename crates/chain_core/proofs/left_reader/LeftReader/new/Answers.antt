use Rattle.std.proofs.Common.{◌≡◌, true, sym, subst}
use Rattle.std.specs.List.{list_all}
use Rattle.read_files.specs.Represents.{can_read}
use Rattle.chain_core.proofs.LeftFiles.{files-read}
use Rattle.chain_core.proofs.left_reader.LeftReader.new.Goals as goal

pub new-requires : goal.new-requires
new-requires c = subst (λ files. list_all (λ file. can_read file.read) files ≡ true) (sym c.in_ok-left_files_of.ensures) (files-read 1 c.args.plan.now.verbs c.requires.lefts)
