-- How a format is written where no flag says otherwise, and which options a format looks at.
use Rattle.std.specs.Prelude.{◌≡◌, ℕ, Bool, true, false, not, ◌&&◌, ◌||◌, nat_lt, if◌then◌else◌, List, [], length, codes}
use Rattle.mlr_event.specs.Defaults.{default_separator}
use Rattle.mlr_event.specs.declared.options.Format.{Format}
use Rattle.mlr_event.specs.declared.options.Format.TheVariants.{Csv, Tsv, Json, Jsonl, Dkvp, Nidx, Pprint}
use Rattle.writers.specs.declared.options.WriteOpts.{WriteOpts}

-- whether values can be nested in a format
abbrev pub is_nested : Format → Bool
is_nested Json = true
is_nested Jsonl = true
is_nested _ = false

abbrev pub default_write : Format → WriteOpts
default_write fmt = record {
  format = fmt;
  ofs = default_separator fmt;
  ops = codes "=";
  headerless = false;
  quote_all = false;
  barred = false;
  stacked = true;
  listwrap = true;
  flatten = not (is_nested fmt);
  unflatten = false;
  flatsep = codes ".";
}

-- which formats have a separator of fields, one of a key and its value, a header, quotes, bars and lists
abbrev pub uses_ofs : Format → Bool
uses_ofs Csv = true
uses_ofs Tsv = true
uses_ofs Dkvp = true
uses_ofs Nidx = true
uses_ofs _ = false

abbrev pub uses_ops : Format → Bool
uses_ops Dkvp = true
uses_ops _ = false

abbrev pub uses_header : Format → Bool
uses_header Csv = true
uses_header Tsv = true
uses_header Pprint = true
uses_header _ = false

abbrev pub uses_quotes : Format → Bool
uses_quotes Csv = true
uses_quotes _ = false

abbrev pub uses_bars : Format → Bool
uses_bars Pprint = true
uses_bars _ = false

abbrev pub uses_lists : Format → Bool
uses_lists Json = true
uses_lists _ = false

-- whether records are unflattened: flattening goes first, and an empty separator spells no paths
abbrev pub unflattens : WriteOpts → Bool
unflattens opts = not opts.flatten && (opts.unflatten && nat_lt 0 (length opts.flatsep))

-- a text or a flag, if it is used
abbrev pub if_used : {A : Type 0} → Bool → A → A → A
if_used used none x = if used then x else none

-- the options without what their format ignores
abbrev pub heeded : Format → WriteOpts → WriteOpts
heeded fmt opts = record {
  format = fmt;
  ofs = if_used (uses_ofs fmt) [] opts.ofs;
  ops = if_used (uses_ops fmt) [] opts.ops;
  headerless = if_used (uses_header fmt) false opts.headerless;
  quote_all = if_used (uses_quotes fmt) false opts.quote_all;
  barred = if_used (uses_bars fmt) false opts.barred;
  stacked = if_used (uses_lists fmt) false opts.stacked;
  listwrap = if_used (uses_lists fmt) false opts.listwrap;
  flatten = opts.flatten;
  unflatten = unflattens opts;
  flatsep = if_used (opts.flatten || unflattens opts) [] opts.flatsep;
}

-- options are one style where they differ only in what their format ignores
abbrev pub IsSameStyle : WriteOpts → WriteOpts → Type 0
IsSameStyle opts other = heeded opts.format opts ≡ heeded other.format other
