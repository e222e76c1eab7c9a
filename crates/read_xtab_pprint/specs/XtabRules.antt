-- XTAB, line by line: the events of a line, and the state after it.
use Rattle.std.specs.Prelude.{ℕ, if◌then◌else◌, List, [], ◌∷◌, ◌++◌, length, drop, max, Option, Some, None}
use Rattle.std.specs.List.{before_first}
use Rattle.mlr_spec.specs.Infer.{tree_of_data}
use Rattle.mlr_spec.specs.Tree.{Tree}
use Rattle.mlr_event.specs.declared.event.Event.{Event}
use Rattle.mlr_event.specs.declared.options.ReadOpts.{ReadOpts}
use Rattle.mlr_event.specs.Reading.{Item, fields, is_comment, comment_items, ctx_after, events_of}
use Rattle.mlr_event.specs.Rows.{with_field}
use Rattle.read_xtab_pprint.specs.declared.rules.XtabRules.{XtabRules}
use Rattle.read_xtab_pprint.specs.Xtab.{is_gap, is_space, record_items, without_spaces}

-- the fields of the current record, and its item
abbrev pub begun_pairs : Option (List (List ℕ × Tree)) → List (List ℕ × Tree)
begun_pairs None = []
begun_pairs (Some pairs) = pairs

abbrev pub begun_items : Option (List (List ℕ × Tree)) → List Item
begun_items None = []
begun_items (Some pairs) = fields pairs ∷ []

-- the record with the field of one more line, whose leading spaces are dropped
abbrev pub with_text : ReadOpts → List ℕ → Option (List (List ℕ × Tree)) → Option (List (List ℕ × Tree))
with_text opts text begun =
    let key = before_first is_space text in
    Some (with_field opts.dedupe key (tree_of_data opts.infer (without_spaces (drop (length key) text))) (begun_pairs begun))

-- the events of an empty line, or of the end of the file, and the state after it
abbrev pub gap_events : XtabRules → List Event
gap_events rules = rules.passed ++ events_of rules.at (begun_items rules.begun)

abbrev pub after_gap : XtabRules → XtabRules
after_gap rules = record rules { passed = []; begun = None; at = ctx_after rules.at (begun_items rules.begun) }

-- the state after a line without its line ending, and its events
abbrev pub xtab_after : XtabRules → List ℕ → XtabRules
xtab_after rules line =
    if is_comment rules.opts.comments line then record rules { passed = rules.passed ++ events_of rules.at (comment_items rules.opts.comments line) } else (
    if is_gap line then after_gap rules else record rules { begun = with_text rules.opts (without_spaces line) rules.begun })

abbrev pub xtab_events : XtabRules → List ℕ → List Event
xtab_events rules line = if is_comment rules.opts.comments line then [] else (if is_gap line then gap_events rules else [])

-- the number of records so far, or of fields of the current record, whichever is larger
abbrev pub xtab_count : XtabRules → ℕ
xtab_count rules = max (length (begun_pairs rules.begun)) (max rules.at.nr rules.at.fnr)

-- the items of lines up to the last empty line, where these comments and these lines of the current record precede them
abbrev pub xtab_from : ReadOpts → List Item → List (List ℕ) → List (List ℕ) → List Item
xtab_from opts passed lines [] = []
xtab_from opts passed lines (line ∷ more) =
    if is_comment opts.comments line then xtab_from opts (passed ++ comment_items opts.comments line) lines more else (
    if is_gap line then passed ++ record_items opts lines ++ xtab_from opts [] [] more
    else xtab_from opts passed (lines ++ line ∷ []) more)

-- the items after the last empty line: the comments and the record
abbrev pub xtab_rest : ReadOpts → List Item → List (List ℕ) → List (List ℕ) → List Item
xtab_rest opts passed lines [] = passed ++ record_items opts lines
xtab_rest opts passed lines (line ∷ more) =
    if is_comment opts.comments line then xtab_rest opts (passed ++ comment_items opts.comments line) lines more else (
    if is_gap line then xtab_rest opts [] [] more else xtab_rest opts passed (lines ++ line ∷ []) more)
