-- The options with which the reader can read.
use Rattle.std.specs.Prelude.{ℕ, Bool, true, false, ◌&&◌, List, [], ◌∷◌}
use Rattle.mlr_event.specs.declared.options.Format.{Format}
use Rattle.mlr_event.specs.declared.options.Format.TheVariants as format
use Rattle.mlr_event.specs.declared.options.ReadOpts.{ReadOpts}

abbrev pub has_bytes : List ℕ → Bool
has_bytes [] = false
has_bytes (b ∷ text) = true

-- one of the three formats, with separators that aren't empty
abbrev pub is_usable_as : Format → ReadOpts → Bool
is_usable_as format.Dkvp opts = has_bytes opts.ifs && has_bytes opts.ips
is_usable_as format.Nidx opts = has_bytes opts.ifs
is_usable_as format.Markdown opts = true
is_usable_as _ opts = false

abbrev pub is_usable : ReadOpts → Bool
is_usable opts = is_usable_as opts.format opts
