-- The events of a whole file of XTAB or PPRINT, and those that its first bytes fix.
use Rattle.std.specs.Prelude.{ℕ, List, []}
use Rattle.mlr_lines.specs.Lines.{fixed_lines, whole_lines}
use Rattle.mlr_event.specs.declared.event.Ctx.{Ctx}
use Rattle.mlr_event.specs.declared.event.Event.{Event}
use Rattle.mlr_event.specs.declared.names.FileRef.{FileRef}
use Rattle.mlr_event.specs.declared.options.Format.{Format}
use Rattle.mlr_event.specs.declared.options.Format.TheVariants as format
use Rattle.mlr_event.specs.declared.options.ReadOpts.{ReadOpts}
use Rattle.mlr_event.specs.Reading.{Item, ctx_after, events_of}
use Rattle.read_xtab_pprint.specs.Xtab.{xtab_fixed, xtab_items}
use Rattle.read_xtab_pprint.specs.Pprint.{pprint_items}

-- the items that lines fix, whatever follows; in XTAB these end at the last empty line
abbrev pub items_fixed : ReadOpts → FileRef → Format → List (List ℕ) → List Item
items_fixed opts file format.Xtab lines = xtab_fixed opts lines
items_fixed opts file format.Pprint lines = pprint_items opts file lines
items_fixed opts file _ lines = []

-- the items of all lines of a file
abbrev pub items_whole : ReadOpts → FileRef → Format → List (List ℕ) → List Item
items_whole opts file format.Xtab lines = xtab_items opts lines
items_whole opts file format.Pprint lines = pprint_items opts file lines
items_whole opts file _ lines = []

-- the events of a whole file, and those that the first bytes of a file fix
abbrev pub block_read : ReadOpts → FileRef → Ctx → List ℕ → List Event
block_read opts file start bytes = events_of start (items_whole opts file opts.format (whole_lines bytes))

abbrev pub block_fed : ReadOpts → FileRef → Ctx → List ℕ → List Event
block_fed opts file start bytes = events_of start (items_fixed opts file opts.format (fixed_lines bytes))

-- the context of the last record that the bytes so far fix, and of the last record of a whole file
abbrev pub ctx_fed : ReadOpts → FileRef → Ctx → List ℕ → Ctx
ctx_fed opts file start bytes = ctx_after start (items_fixed opts file opts.format (fixed_lines bytes))

abbrev pub ctx_read : ReadOpts → FileRef → Ctx → List ℕ → Ctx
ctx_read opts file start bytes = ctx_after start (items_whole opts file opts.format (whole_lines bytes))
