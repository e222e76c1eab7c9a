-- The verbs of a command line, each with its options and its own words.
use Rattle.std.specs.Prelude.{ℕ, pos, negsuc, ◌^◌, ◌-◌, true, false, List, [], ◌∷◌, codes, if◌then◌else◌, Option, Some, None}
use Rattle.std.specs.Str.{bytes_eq}
use Rattle.cli_grammar.specs.declared.kind.Kind.{Kind}
use Rattle.cli_grammar.specs.declared.kind.Kind.TheVariants as kind
use Rattle.cli_grammar.specs.declared.verb_table.VerbName.{VerbName}
use Rattle.cli_grammar.specs.declared.verb_table.VerbName.TheVariants as verb
use Rattle.cli_grammar.specs.Rows.{VerbRow}

-- numbers of 64 bits, those from 0, and those from 1
abbrev pub number : Kind
number = kind.Number (negsuc (2 ^ 63 - 1)) (pos (2 ^ 63 - 1))

abbrev pub count : Kind
count = kind.Number (pos 0) (pos (2 ^ 63 - 1))

abbrev pub positive : Kind
positive = kind.Number (pos 1) (pos (2 ^ 63 - 1))

abbrev pub all_verbs : List VerbName
all_verbs =
    verb.Altkv ∷ verb.Cat ∷ verb.Count ∷ verb.CountDistinct ∷ verb.CountSimilar ∷ verb.Cut ∷ verb.Decimate ∷
    verb.FillDown ∷ verb.FillEmpty ∷ verb.Flatten ∷ verb.Gap ∷ verb.Grep ∷ verb.GroupBy ∷ verb.GroupLike ∷ verb.Gsub ∷
    verb.HavingFields ∷ verb.Head ∷ verb.Join ∷ verb.JsonParse ∷ verb.JsonStringify ∷ verb.Label ∷
    verb.LeastFrequent ∷ verb.MergeFields ∷ verb.MostFrequent ∷ verb.Nest ∷ verb.Nothing ∷ verb.Regularize ∷
    verb.Rename ∷ verb.Reorder ∷ verb.Repeat ∷ verb.Reshape ∷ verb.Sec2Gmt ∷ verb.Sec2GmtDate ∷ verb.Seqgen ∷
    verb.Sort ∷ verb.SortWithinRecords ∷ verb.Sparsify ∷ verb.Ssub ∷ verb.Stats1 ∷ verb.Step ∷ verb.Sub ∷ verb.Tac ∷
    verb.Tail ∷ verb.Template ∷ verb.Top ∷ verb.Unflatten ∷ verb.Uniq ∷ verb.Unspace ∷ verb.Unsparsify ∷ []

abbrev pub row_of_verb : VerbName → VerbRow
row_of_verb verb.Altkv = record {
  name = codes "altkv";
  options = [];
  groups = [];
  words = [];
}
row_of_verb verb.Cat = record {
  name = codes "cat";
  options = (codes "-n", kind.Nothing) ∷ (codes "-N", kind.Text) ∷ (codes "-g", kind.Names) ∷ [];
  groups = [];
  words = [];
}
row_of_verb verb.Count = record {
  name = codes "count";
  options = (codes "-g", kind.Names) ∷ (codes "-n", kind.Nothing) ∷ (codes "-o", kind.Text) ∷ [];
  groups = [];
  words = [];
}
row_of_verb verb.CountDistinct = record {
  name = codes "count-distinct";
  options = (codes "-f", kind.Names) ∷ (codes "-n", kind.Nothing) ∷ (codes "-o", kind.Text) ∷ [];
  groups = (codes "-f" ∷ [], true) ∷ [];
  words = [];
}
row_of_verb verb.CountSimilar = record {
  name = codes "count-similar";
  options = (codes "-g", kind.Names) ∷ (codes "-o", kind.Text) ∷ [];
  groups = (codes "-g" ∷ [], true) ∷ [];
  words = [];
}
row_of_verb verb.Cut = record {
  name = codes "cut";
  options = (codes "-f", kind.Names) ∷ (codes "-o", kind.Nothing) ∷ (codes "-x", kind.Nothing) ∷ (codes "-r", kind.Nothing) ∷ [];
  groups = (codes "-f" ∷ [], true) ∷ [];
  words = [];
}
row_of_verb verb.Decimate = record {
  name = codes "decimate";
  options = (codes "-n", positive) ∷ (codes "-b", kind.Nothing) ∷ (codes "-e", kind.Nothing) ∷ (codes "-g", kind.Names) ∷ [];
  groups = (codes "-b" ∷ codes "-e" ∷ [], false) ∷ [];
  words = [];
}
row_of_verb verb.FillDown = record {
  name = codes "fill-down";
  options = (codes "-f", kind.Names) ∷ (codes "-a", kind.Nothing) ∷ [];
  groups = (codes "-f" ∷ [], true) ∷ [];
  words = [];
}
row_of_verb verb.FillEmpty = record {
  name = codes "fill-empty";
  options = (codes "-v", kind.Text) ∷ (codes "-S", kind.Nothing) ∷ [];
  groups = [];
  words = [];
}
row_of_verb verb.Flatten = record {
  name = codes "flatten";
  options = (codes "-f", kind.Names) ∷ (codes "-s", kind.Separator) ∷ [];
  groups = [];
  words = [];
}
row_of_verb verb.Gap = record {
  name = codes "gap";
  options = (codes "-n", positive) ∷ (codes "-g", kind.Names) ∷ [];
  groups = (codes "-n" ∷ codes "-g" ∷ [], true) ∷ [];
  words = [];
}
row_of_verb verb.Grep = record {
  name = codes "grep";
  options = (codes "-i", kind.Nothing) ∷ (codes "-v", kind.Nothing) ∷ [];
  groups = [];
  words = kind.Pattern ∷ [];
}
row_of_verb verb.GroupBy = record {
  name = codes "group-by";
  options = [];
  groups = [];
  words = kind.Names ∷ [];
}
row_of_verb verb.GroupLike = record {
  name = codes "group-like";
  options = [];
  groups = [];
  words = [];
}
row_of_verb verb.Gsub = record {
  name = codes "gsub";
  options = (codes "-f", kind.Names) ∷ (codes "-a", kind.Nothing) ∷ [];
  groups = (codes "-f" ∷ codes "-a" ∷ [], true) ∷ [];
  words = kind.Pattern ∷ kind.Text ∷ [];
}
row_of_verb verb.HavingFields = record {
  name = codes "having-fields";
  options = (codes "--at-least", kind.Names) ∷ (codes "--at-most", kind.Names) ∷ (codes "--which-are", kind.Names) ∷ (codes "--all-defined", kind.Names) ∷ (codes "--any-defined", kind.Names) ∷ (codes "--all-matching", kind.Pattern) ∷ (codes "--any-matching", kind.Pattern) ∷ [];
  groups = (codes "--at-least" ∷ codes "--at-most" ∷ codes "--which-are" ∷ codes "--all-defined" ∷ codes "--any-defined" ∷ codes "--all-matching" ∷ codes "--any-matching" ∷ [], true) ∷ [];
  words = [];
}
row_of_verb verb.Head = record {
  name = codes "head";
  options = (codes "-n", count) ∷ (codes "-g", kind.Names) ∷ [];
  groups = [];
  words = [];
}
row_of_verb verb.Join = record {
  name = codes "join";
  options = (codes "-f", kind.File) ∷ (codes "-j", kind.Names) ∷ (codes "-l", kind.Names) ∷ (codes "-r", kind.Names) ∷ (codes "--np", kind.Nothing) ∷ (codes "--ul", kind.Nothing) ∷ (codes "--ur", kind.Nothing) ∷ (codes "--lp", kind.Text) ∷ (codes "--rp", kind.Text) ∷ (codes "-i", kind.Format) ∷ [];
  groups = (codes "-f" ∷ [], true) ∷ (codes "-j" ∷ codes "-l" ∷ codes "-r" ∷ [], true) ∷ [];
  words = [];
}
row_of_verb verb.JsonParse = record {
  name = codes "json-parse";
  options = (codes "-f", kind.Names) ∷ [];
  groups = [];
  words = [];
}
row_of_verb verb.JsonStringify = record {
  name = codes "json-stringify";
  options = (codes "-f", kind.Names) ∷ [];
  groups = [];
  words = [];
}
row_of_verb verb.Label = record {
  name = codes "label";
  options = [];
  groups = [];
  words = kind.Names ∷ [];
}
row_of_verb verb.LeastFrequent = record {
  name = codes "least-frequent";
  options = (codes "-f", kind.Names) ∷ (codes "-b", kind.Nothing) ∷ (codes "-n", count) ∷ (codes "-o", kind.Text) ∷ [];
  groups = (codes "-f" ∷ [], true) ∷ [];
  words = [];
}
row_of_verb verb.MergeFields = record {
  name = codes "merge-fields";
  options = (codes "-a", kind.Accumulators) ∷ (codes "-f", kind.Names) ∷ (codes "-r", kind.Names) ∷ (codes "-c", kind.Names) ∷ (codes "-o", kind.Text) ∷ (codes "-k", kind.Nothing) ∷ [];
  groups = (codes "-a" ∷ [], true) ∷ (codes "-f" ∷ codes "-r" ∷ codes "-c" ∷ [], true) ∷ [];
  words = [];
}
row_of_verb verb.MostFrequent = record {
  name = codes "most-frequent";
  options = (codes "-f", kind.Names) ∷ (codes "-b", kind.Nothing) ∷ (codes "-n", count) ∷ (codes "-o", kind.Text) ∷ [];
  groups = (codes "-f" ∷ [], true) ∷ [];
  words = [];
}
row_of_verb verb.Nest = record {
  name = codes "nest";
  options = (codes "--explode", kind.Nothing) ∷ (codes "--implode", kind.Nothing) ∷ (codes "--values", kind.Nothing) ∷ (codes "--pairs", kind.Nothing) ∷ (codes "--across-records", kind.Nothing) ∷ (codes "--across-fields", kind.Nothing) ∷ (codes "--evar", kind.Separator) ∷ (codes "--ivar", kind.Separator) ∷ (codes "-f", kind.Text) ∷ (codes "--nested-fs", kind.Separator) ∷ (codes "--nested-ps", kind.Separator) ∷ [];
  groups = (codes "--explode" ∷ codes "--implode" ∷ codes "--evar" ∷ codes "--ivar" ∷ [], true) ∷ (codes "--values" ∷ codes "--pairs" ∷ codes "--evar" ∷ codes "--ivar" ∷ [], true) ∷ (codes "--across-records" ∷ codes "--across-fields" ∷ codes "--evar" ∷ codes "--ivar" ∷ [], true) ∷ (codes "--implode" ∷ codes "--pairs" ∷ [], false) ∷ (codes "--implode" ∷ codes "--across-fields" ∷ [], false) ∷ (codes "-f" ∷ [], true) ∷ [];
  words = [];
}
row_of_verb verb.Nothing = record {
  name = codes "nothing";
  options = [];
  groups = [];
  words = [];
}
row_of_verb verb.Regularize = record {
  name = codes "regularize";
  options = [];
  groups = [];
  words = [];
}
row_of_verb verb.Rename = record {
  name = codes "rename";
  options = (codes "-r", kind.Nothing) ∷ (codes "-g", kind.Nothing) ∷ [];
  groups = [];
  words = kind.Names ∷ [];
}
row_of_verb verb.Reorder = record {
  name = codes "reorder";
  options = (codes "-f", kind.Names) ∷ (codes "-e", kind.Nothing) ∷ [];
  groups = (codes "-f" ∷ [], true) ∷ [];
  words = [];
}
row_of_verb verb.Repeat = record {
  name = codes "repeat";
  options = (codes "-n", count) ∷ (codes "-f", kind.Text) ∷ [];
  groups = (codes "-n" ∷ codes "-f" ∷ [], true) ∷ [];
  words = [];
}
row_of_verb verb.Reshape = record {
  name = codes "reshape";
  options = (codes "-i", kind.Names) ∷ (codes "-r", kind.Names) ∷ (codes "-o", kind.Names) ∷ (codes "-s", kind.Names) ∷ [];
  groups = (codes "-i" ∷ codes "-r" ∷ codes "-s" ∷ [], true) ∷ (codes "-o" ∷ codes "-s" ∷ [], true) ∷ [];
  words = [];
}
row_of_verb verb.Sec2Gmt = record {
  name = codes "sec2gmt";
  options = [];
  groups = [];
  words = kind.Names ∷ [];
}
row_of_verb verb.Sec2GmtDate = record {
  name = codes "sec2gmtdate";
  options = [];
  groups = [];
  words = kind.Names ∷ [];
}
row_of_verb verb.Seqgen = record {
  name = codes "seqgen";
  options = (codes "-f", kind.Text) ∷ (codes "--start", number) ∷ (codes "--stop", number) ∷ (codes "--step", kind.Step) ∷ [];
  groups = [];
  words = [];
}
row_of_verb verb.Sort = record {
  name = codes "sort";
  options = (codes "-f", kind.Names) ∷ (codes "-r", kind.Names) ∷ (codes "-nf", kind.Names) ∷ (codes "-nr", kind.Names) ∷ (codes "-c", kind.Names) ∷ (codes "-cr", kind.Names) ∷ [];
  groups = (codes "-f" ∷ codes "-r" ∷ codes "-nf" ∷ codes "-nr" ∷ codes "-c" ∷ codes "-cr" ∷ [], true) ∷ [];
  words = [];
}
row_of_verb verb.SortWithinRecords = record {
  name = codes "sort-within-records";
  options = (codes "-r", kind.Nothing) ∷ [];
  groups = [];
  words = [];
}
row_of_verb verb.Sparsify = record {
  name = codes "sparsify";
  options = (codes "-f", kind.Names) ∷ [];
  groups = [];
  words = [];
}
row_of_verb verb.Ssub = record {
  name = codes "ssub";
  options = (codes "-f", kind.Names) ∷ (codes "-a", kind.Nothing) ∷ [];
  groups = (codes "-f" ∷ codes "-a" ∷ [], true) ∷ [];
  words = kind.Text ∷ kind.Text ∷ [];
}
row_of_verb verb.Stats1 = record {
  name = codes "stats1";
  options = (codes "-a", kind.Accumulators) ∷ (codes "-f", kind.Names) ∷ (codes "-g", kind.Names) ∷ [];
  groups = (codes "-a" ∷ [], true) ∷ (codes "-f" ∷ [], true) ∷ [];
  words = [];
}
row_of_verb verb.Step = record {
  name = codes "step";
  options = (codes "-a", kind.Steppers) ∷ (codes "-f", kind.Names) ∷ (codes "-g", kind.Names) ∷ [];
  groups = (codes "-a" ∷ [], true) ∷ (codes "-f" ∷ [], true) ∷ [];
  words = [];
}
row_of_verb verb.Sub = record {
  name = codes "sub";
  options = (codes "-f", kind.Names) ∷ (codes "-a", kind.Nothing) ∷ [];
  groups = (codes "-f" ∷ codes "-a" ∷ [], true) ∷ [];
  words = kind.Pattern ∷ kind.Text ∷ [];
}
row_of_verb verb.Tac = record {
  name = codes "tac";
  options = [];
  groups = [];
  words = [];
}
row_of_verb verb.Tail = record {
  name = codes "tail";
  options = (codes "-n", count) ∷ (codes "-g", kind.Names) ∷ [];
  groups = [];
  words = [];
}
row_of_verb verb.Template = record {
  name = codes "template";
  options = (codes "-f", kind.Names) ∷ (codes "--fill-with", kind.Text) ∷ [];
  groups = (codes "-f" ∷ [], true) ∷ [];
  words = [];
}
row_of_verb verb.Top = record {
  name = codes "top";
  options = (codes "-f", kind.Names) ∷ (codes "-n", count) ∷ (codes "-g", kind.Names) ∷ (codes "--min", kind.Nothing) ∷ (codes "--max", kind.Nothing) ∷ (codes "-a", kind.Nothing) ∷ (codes "-o", kind.Text) ∷ [];
  groups = (codes "-f" ∷ [], true) ∷ (codes "--min" ∷ codes "--max" ∷ [], false) ∷ [];
  words = [];
}
row_of_verb verb.Unflatten = record {
  name = codes "unflatten";
  options = (codes "-f", kind.Names) ∷ (codes "-s", kind.Separator) ∷ [];
  groups = [];
  words = [];
}
row_of_verb verb.Uniq = record {
  name = codes "uniq";
  options = (codes "-g", kind.Names) ∷ (codes "-a", kind.Nothing) ∷ (codes "-c", kind.Nothing) ∷ (codes "-n", kind.Nothing) ∷ [];
  groups = (codes "-g" ∷ codes "-a" ∷ [], true) ∷ (codes "-c" ∷ codes "-n" ∷ [], false) ∷ [];
  words = [];
}
row_of_verb verb.Unspace = record {
  name = codes "unspace";
  options = (codes "-f", kind.Text) ∷ (codes "-k", kind.Nothing) ∷ (codes "-v", kind.Nothing) ∷ [];
  groups = (codes "-k" ∷ codes "-v" ∷ [], false) ∷ [];
  words = [];
}
row_of_verb verb.Unsparsify = record {
  name = codes "unsparsify";
  options = (codes "--fill-with", kind.Text) ∷ (codes "-f", kind.Names) ∷ [];
  groups = [];
  words = [];
}

-- the first of these verbs with this name
abbrev pub named_among : List VerbName → List ℕ → Option VerbName
named_among [] word = None
named_among (verb ∷ verbs) word = if bytes_eq (row_of_verb verb).name word then Some verb else named_among verbs word

-- the verb with this name
abbrev pub verb_named : List ℕ → Option VerbName
verb_named word = named_among all_verbs word
