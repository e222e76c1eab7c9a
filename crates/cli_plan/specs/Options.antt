-- How a command reads and writes.
use Rattle.std.specs.Prelude.{ℕ, not, ◌&&◌, List, codes, Option, Some, None}
use Rattle.mlr_event.specs.Defaults.{default_separator}
use Rattle.mlr_event.specs.declared.options.ReadOpts.{ReadOpts}
use Rattle.writers.specs.declared.options.WriteOpts.{WriteOpts}
use Rattle.writers.specs.Style.{is_nested}
use Rattle.cli_plan.specs.declared.settings.Settings.{Settings}

-- a text that was given, or else this one
abbrev pub given_or : List ℕ → Option (List ℕ) → List ℕ
given_or default None = default
given_or default (Some text) = text

-- how a command with these settings reads
abbrev pub read_of : Settings → ReadOpts
read_of settings = record {
  format = settings.input;
  ifs = given_or (default_separator settings.input) settings.ifs;
  ips = given_or (codes "=") settings.ips;
  implicit = settings.implicit;
  ragged = settings.ragged;
  dedupe = settings.dedupe;
  comments = settings.comments;
  infer = settings.infer;
}

-- what joins the names on a path of a flattened name
abbrev pub flatsep_of : Settings → List ℕ
flatsep_of settings = given_or (codes ".") settings.flatsep

-- How a command with these settings writes. Records are flattened for a format without nested values, and unflattened from
-- such a format into one with them.
abbrev pub write_of : Settings → WriteOpts
write_of settings = record {
  format = settings.output;
  ofs = given_or (default_separator settings.output) settings.ofs;
  ops = given_or (codes "=") settings.ops;
  headerless = settings.headerless;
  quote_all = settings.quote_all;
  barred = settings.barred;
  stacked = settings.stacked;
  listwrap = settings.listwrap;
  flatten = settings.flattens && not (is_nested settings.output);
  unflatten = settings.unflattens && (is_nested settings.output && not (is_nested settings.input));
  flatsep = flatsep_of settings;
}
