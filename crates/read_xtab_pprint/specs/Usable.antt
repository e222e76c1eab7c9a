-- The options with which the reader can read.
use Rattle.std.specs.Prelude.{Bool, true, false}
use Rattle.mlr_event.specs.declared.options.Format.{Format}
use Rattle.mlr_event.specs.declared.options.Format.TheVariants as format
use Rattle.mlr_event.specs.declared.options.ReadOpts.{ReadOpts}

abbrev pub is_usable_as : Format → Bool
is_usable_as format.Xtab = true
is_usable_as format.Pprint = true
is_usable_as _ = false

abbrev pub is_usable : ReadOpts → Bool
is_usable opts = is_usable_as opts.format
