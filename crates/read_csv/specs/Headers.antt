-- The values of a row as header, and the values of a row under a header.
use Rattle.std.specs.Prelude.{ℕ, if◌then◌else◌, Bool, ◌||◌, ◌==◌, List, [], ◌∷◌, map, length, Option, Some, None}
use Rattle.mlr_spec.specs.Tree.{Tree, text_of}
use Rattle.mlr_event.specs.declared.fault.Fault.TheVariants.{Length}
use Rattle.mlr_event.specs.declared.names.FileRef.{FileRef}
use Rattle.mlr_event.specs.declared.options.ReadOpts.{ReadOpts}
use Rattle.mlr_event.specs.Reading.{Item, fields, fault, record_of}
use Rattle.read_csv.specs.Rows.{positions_from, row_keys}

-- the keys that a first row gives: what its values print, or its positions if the header is implicit
abbrev pub header_of : Bool → List Tree → List (List ℕ)
header_of implicit values = if implicit then positions_from 1 (length values) else map text_of values

-- the record of a row of values under a header, or a fault if the lengths differ
abbrev pub values_items : ReadOpts → FileRef → ℕ → List (List ℕ) → List Tree → List Item
values_items opts file line header values =
    if opts.ragged || length values == length header then fields (record_of opts.dedupe (row_keys header (length values)) values) ∷ []
    else fault (Length file line (length header) (length values)) ∷ []

-- the items of an ended row, and the header after it
abbrev pub closed_values : ReadOpts → FileRef → ℕ → Option (List (List ℕ)) → List Tree → List Item
closed_values opts file line None values = if opts.implicit then values_items opts file line (header_of opts.implicit values) values else []
closed_values opts file line (Some header) values = values_items opts file line header values

abbrev pub values_header : ReadOpts → Option (List (List ℕ)) → List Tree → Option (List (List ℕ))
values_header opts None values = Some (header_of opts.implicit values)
values_header opts (Some header) values = Some header
