-- The events of a whole file of DKVP, NIDX or Markdown, and those of its ended lines.
use Rattle.std.specs.Prelude.{ℕ, List, []}
use Rattle.std.specs.List.{flat_map}
use Rattle.mlr_lines.specs.Lines.{fixed_lines, whole_lines}
use Rattle.mlr_event.specs.declared.event.Ctx.{Ctx}
use Rattle.mlr_event.specs.declared.event.Event.{Event}
use Rattle.mlr_event.specs.declared.names.FileRef.{FileRef}
use Rattle.mlr_event.specs.declared.options.Format.{Format}
use Rattle.mlr_event.specs.declared.options.Format.TheVariants as format
use Rattle.mlr_event.specs.declared.options.ReadOpts.{ReadOpts}
use Rattle.mlr_event.specs.Reading.{Item, ctx_after, events_of}
use Rattle.read_dkvp_nidx.specs.Dkvp.{dkvp_line}
use Rattle.read_dkvp_nidx.specs.Nidx.{nidx_line}
use Rattle.read_dkvp_nidx.specs.Markdown.{markdown_items}

-- the items of lines without their line endings
abbrev pub items_of_lines : ReadOpts → FileRef → Format → List (List ℕ) → List Item
items_of_lines opts file format.Dkvp lines = flat_map (dkvp_line opts) lines
items_of_lines opts file format.Nidx lines = flat_map (nidx_line opts) lines
items_of_lines opts file format.Markdown lines = markdown_items opts file lines
items_of_lines opts file _ lines = []

-- the events of a whole file, and those that the first bytes of a file fix
abbrev pub line_read : ReadOpts → FileRef → Ctx → List ℕ → List Event
line_read opts file start bytes = events_of start (items_of_lines opts file opts.format (whole_lines bytes))

abbrev pub line_fed : ReadOpts → FileRef → Ctx → List ℕ → List Event
line_fed opts file start bytes = events_of start (items_of_lines opts file opts.format (fixed_lines bytes))

-- the context of the last record that the bytes so far fix, and of the last record of a whole file
abbrev pub ctx_fed : ReadOpts → FileRef → Ctx → List ℕ → Ctx
ctx_fed opts file start bytes = ctx_after start (items_of_lines opts file opts.format (fixed_lines bytes))

abbrev pub ctx_read : ReadOpts → FileRef → Ctx → List ℕ → Ctx
ctx_read opts file start bytes = ctx_after start (items_of_lines opts file opts.format (whole_lines bytes))
