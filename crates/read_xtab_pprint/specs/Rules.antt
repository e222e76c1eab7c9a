-- Either format, line by line: the events of a line, and the state after it.
use Rattle.std.specs.Prelude.{◌≡◌, ℕ, List, [], None, false}
use Rattle.mlr_lines.specs.Lines.{without_return}
use Rattle.mlr_event.specs.declared.event.Ctx.{Ctx}
use Rattle.mlr_event.specs.declared.event.Event.{Event}
use Rattle.mlr_event.specs.declared.names.FileRef.{FileRef}
use Rattle.mlr_event.specs.declared.options.Format.TheVariants as format
use Rattle.mlr_event.specs.declared.options.ReadOpts.{ReadOpts}
use Rattle.read_xtab_pprint.specs.declared.rules.BlockRules.{BlockRules}
use Rattle.read_xtab_pprint.specs.declared.rules.BlockRules.TheVariants as by
use Rattle.read_xtab_pprint.specs.declared.rules.PprintRules.{PprintRules}
use Rattle.read_xtab_pprint.specs.declared.rules.XtabRules.{XtabRules}
use Rattle.read_xtab_pprint.specs.Last.{pprint_after_last, pprint_gives_last, xtab_after_last, xtab_gives_last}
use Rattle.read_xtab_pprint.specs.PprintRules.{pprint_after, pprint_count, pprint_events}
use Rattle.read_xtab_pprint.specs.XtabRules.{xtab_after, xtab_count, xtab_events}

-- the state after an ended line, and its events
abbrev pub after_line : BlockRules → List ℕ → BlockRules
after_line (by.Pprint rules) line = by.Pprint (pprint_after rules (without_return line))
after_line (by.Xtab rules) line = by.Xtab (xtab_after rules (without_return line))

abbrev pub gives_line : BlockRules → List ℕ → List Event
gives_line (by.Pprint rules) line = pprint_events rules (without_return line)
gives_line (by.Xtab rules) line = xtab_events rules (without_return line)

-- the state after the rest of the file, and its events
abbrev pub after_last : BlockRules → List ℕ → BlockRules
after_last (by.Pprint rules) line = by.Pprint (pprint_after_last rules line)
after_last (by.Xtab rules) line = by.Xtab (xtab_after_last rules line)

abbrev pub gives_last : BlockRules → List ℕ → List Event
gives_last (by.Pprint rules) line = pprint_gives_last rules line
gives_last (by.Xtab rules) line = xtab_gives_last rules line

abbrev pub count_of : BlockRules → ℕ
count_of (by.Pprint rules) = pprint_count rules
count_of (by.Xtab rules) = xtab_count rules

-- the context of the last record
abbrev pub at_of : BlockRules → Ctx
at_of (by.Pprint rules) = rules.at
at_of (by.Xtab rules) = rules.at

-- the state at the start of a file
pub record PprintBegins (rules : PprintRules) (opts : ReadOpts) (file : FileRef) (start : Ctx) : Type 0 where
  pub format_is : opts.format ≡ format.Pprint
  pub opts_are : rules.opts ≡ opts
  pub file_is : rules.file ≡ file
  pub number_is : rules.number ≡ 1
  pub header_is : rules.header ≡ None
  pub at_is : rules.at ≡ start
  pub goes_on : rules.stopped ≡ false

pub record XtabBegins (rules : XtabRules) (opts : ReadOpts) (start : Ctx) : Type 0 where
  pub format_is : opts.format ≡ format.Xtab
  pub opts_are : rules.opts ≡ opts
  pub passed_is : rules.passed ≡ []
  pub begun_is : rules.begun ≡ None
  pub at_is : rules.at ≡ start

abbrev pub Begins : BlockRules → ReadOpts → FileRef → Ctx → Type 0
Begins (by.Pprint rules) opts file start = PprintBegins rules opts file start
Begins (by.Xtab rules) opts file start = XtabBegins rules opts start
