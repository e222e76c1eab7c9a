-- The next input, before its first byte.
use Rattle.std.proofs.Common.{◌≡◌, List, [], ◌∷◌, ◌++◌, Some, refl, ap, ap₂, sym, subst, ◌∙◌, arith}
use Rattle.std.specs.Prelude.{reverse}
use Rattle.std.proofs.lemmas.List.{append-nil}
use Rattle.mlr_event.specs.declared.names.InputName.{InputName}
use Rattle.mlr_event.specs.declared.options.ReadOpts.{ReadOpts}
use Rattle.mlr_event.specs.Verb.{is_open}
use Rattle.mlr_world.specs.Taken.{Take, begun}
use Rattle.read_files.specs.declared.open_file.OpenFile.{OpenFile}
use Rattle.read_files.specs.declared.reader.FileReader.{FileReader}
use Rattle.read_files.specs.Takes.{InOrder}
use Rattle.read_files.specs.Readers.{FileRepresents}
use Rattle.read_files.specs.Sources.{ctx_from, events_from, events_taken, until_fault, zero_context}
use Rattle.read_files.specs.Represents.{Represents, source_after}
use Rattle.read_files.specs.Steps.{RepresentsNext}
use Rattle.read_files.proofs.Formats.{gives-none}
use Rattle.read_files.proofs.Given.{events-append, order-following, total-append}

-- an input of which nothing was taken gives nothing
pub begun-events : (opts : ReadOpts) (given : List Take) (name : InputName) → events_taken opts (given ++ begun name ∷ []) ≡ events_taken opts given
begun-events opts given name =
    ap until_fault
    (events-append opts zero_context given (begun name ∷ [])
    ∙ ap (λ e. events_from opts zero_context given ++ (e ++ [])) (gives-none opts.format (source_after opts (ctx_from opts zero_context given)))
    ∙ append-nil (events_from opts zero_context given))

pub begun-represents : (opts : ReadOpts) (names : List InputName) (given : List Take) (name : InputName) (reader : FileReader) (file : OpenFile) → RepresentsNext opts names given name reader
    → FileRepresents file (source_after reader.opts reader.at) [] → Represents opts names (given ++ begun name ∷ []) (record reader { current = Some (record { name = name; reader = file }) })
begun-represents opts names given name reader file next represents = record {
  order = subst (λ n. InOrder n (given ++ begun name ∷ [])) (sym next.names_are) (order-following next.prefix (name ∷ reverse reader.names.items) given (begun name ∷ []) next.read refl);
  few = omega (arith, next.few, total-append given (begun name ∷ []));
  clear = ap is_open (begun-events opts given name) ∙ next.clear;
  usable = next.usable;
  opts_are = next.opts_are;
  taken_is = omega (arith, next.taken_is, total-append given (begun name ∷ []));
  prefix = next.prefix;
  done = given;
  read = next.read;
  at_is = next.at_is;
  few_files = next.few_files;
  few_records = next.few_records;
  current = record {
    bytes = [];
    names_are = next.names_are;
    given_is = refl;
    represents = subst (λ source. FileRepresents file source []) (ap₂ source_after next.opts_are next.at_is) represents;
  };
}
