-- How a file is read where no flag says otherwise.
use Rattle.std.specs.Prelude.{ℕ, true, false, List, [], ◌∷◌, codes}
use Rattle.mlr_spec.specs.Ascii.{tab}
use Rattle.mlr_event.specs.declared.options.Comments.TheVariants.{Keep}
use Rattle.mlr_event.specs.declared.options.Format.{Format}
use Rattle.mlr_event.specs.declared.options.Format.TheVariants.{Tsv, Nidx}
use Rattle.mlr_event.specs.declared.options.ReadOpts.{ReadOpts}

-- the separator of fields
abbrev pub default_separator : Format → List ℕ
default_separator Tsv = tab ∷ []
default_separator Nidx = codes " "
default_separator _ = codes ","

abbrev pub default_read : Format → ReadOpts
default_read fmt = record {
  format = fmt;
  ifs = default_separator fmt;
  ips = codes "=";
  implicit = false;
  ragged = false;
  dedupe = true;
  comments = Keep;
  infer = record { none = false; octal = false };
}
