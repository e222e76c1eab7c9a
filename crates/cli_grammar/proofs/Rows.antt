-- Facts of the tables of flags and verbs, verb by verb.
use Rattle.std.proofs.Common.{◌≡◌, ℕ, Bool, true, false, List, [], ◌∷◌, Some, None, refl, ap, sym, ◌∙◌}
use Rattle.std.specs.Prelude.{if◌then◌else◌}
use Rattle.std.specs.List.{list_all}
use Rattle.std.specs.Str.{bytes_eq}
use Rattle.std.proofs.lemmas.Bool.{and_parts}
use Rattle.std.proofs.lemmas.Slice.Eq.{bytes_eq-Decides}
use Rattle.cli_grammar.specs.declared.kind.Kind.{Kind}
use Rattle.cli_grammar.specs.declared.verb_table.VerbName.{VerbName}
use Rattle.cli_grammar.specs.declared.verb_table.VerbName.TheVariants as verb
use Rattle.cli_grammar.specs.Flags.{flag_named}
use Rattle.cli_grammar.specs.Reading.{is_dashed, kind_in}
use Rattle.cli_grammar.specs.Verbs.{row_of_verb, verb_named}

-- A verb is found by its name, which isn't a flag's and has no dash, and its options have dashes.
abbrev pub IsFound : VerbName → Type 0
IsFound verb =
    (verb_named (row_of_verb verb).name ≡ Some verb) × (flag_named (row_of_verb verb).name ≡ None) × (is_dashed (row_of_verb verb).name ≡ false)
    × (list_all (λ option. is_dashed option.0) (row_of_verb verb).options ≡ true)

pub row-facts : (verb : VerbName) → IsFound verb
row-facts verb.Altkv = (refl, refl, refl, refl)
row-facts verb.Cat = (refl, refl, refl, refl)
row-facts verb.Count = (refl, refl, refl, refl)
row-facts verb.CountDistinct = (refl, refl, refl, refl)
row-facts verb.CountSimilar = (refl, refl, refl, refl)
row-facts verb.Cut = (refl, refl, refl, refl)
row-facts verb.Decimate = (refl, refl, refl, refl)
row-facts verb.FillDown = (refl, refl, refl, refl)
row-facts verb.FillEmpty = (refl, refl, refl, refl)
row-facts verb.Flatten = (refl, refl, refl, refl)
row-facts verb.Gap = (refl, refl, refl, refl)
row-facts verb.Grep = (refl, refl, refl, refl)
row-facts verb.GroupBy = (refl, refl, refl, refl)
row-facts verb.GroupLike = (refl, refl, refl, refl)
row-facts verb.Gsub = (refl, refl, refl, refl)
row-facts verb.HavingFields = (refl, refl, refl, refl)
row-facts verb.Head = (refl, refl, refl, refl)
row-facts verb.Join = (refl, refl, refl, refl)
row-facts verb.JsonParse = (refl, refl, refl, refl)
row-facts verb.JsonStringify = (refl, refl, refl, refl)
row-facts verb.Label = (refl, refl, refl, refl)
row-facts verb.LeastFrequent = (refl, refl, refl, refl)
row-facts verb.MergeFields = (refl, refl, refl, refl)
row-facts verb.MostFrequent = (refl, refl, refl, refl)
row-facts verb.Nest = (refl, refl, refl, refl)
row-facts verb.Nothing = (refl, refl, refl, refl)
row-facts verb.Regularize = (refl, refl, refl, refl)
row-facts verb.Rename = (refl, refl, refl, refl)
row-facts verb.Reorder = (refl, refl, refl, refl)
row-facts verb.Repeat = (refl, refl, refl, refl)
row-facts verb.Reshape = (refl, refl, refl, refl)
row-facts verb.Sec2Gmt = (refl, refl, refl, refl)
row-facts verb.Sec2GmtDate = (refl, refl, refl, refl)
row-facts verb.Seqgen = (refl, refl, refl, refl)
row-facts verb.Sort = (refl, refl, refl, refl)
row-facts verb.SortWithinRecords = (refl, refl, refl, refl)
row-facts verb.Sparsify = (refl, refl, refl, refl)
row-facts verb.Ssub = (refl, refl, refl, refl)
row-facts verb.Stats1 = (refl, refl, refl, refl)
row-facts verb.Step = (refl, refl, refl, refl)
row-facts verb.Sub = (refl, refl, refl, refl)
row-facts verb.Tac = (refl, refl, refl, refl)
row-facts verb.Tail = (refl, refl, refl, refl)
row-facts verb.Template = (refl, refl, refl, refl)
row-facts verb.Top = (refl, refl, refl, refl)
row-facts verb.Unflatten = (refl, refl, refl, refl)
row-facts verb.Uniq = (refl, refl, refl, refl)
row-facts verb.Unspace = (refl, refl, refl, refl)
row-facts verb.Unsparsify = (refl, refl, refl, refl)

-- a word with no dash is no option
plain-if : (options : List (List ℕ × Kind)) (word name : List ℕ) (kind : Kind) (t : Bool) → bytes_eq name word ≡ t → is_dashed name ≡ true → is_dashed word ≡ false
    → kind_in options word ≡ None → (if t then Some kind else kind_in options word) ≡ None
plain-if options word name kind true same dashed plain later = absurd (let e : true ≡ false = sym dashed ∙ ap is_dashed ((bytes_eq-Decides name word).0 same) ∙ plain in cc)
plain-if options word name kind false same dashed plain later = later

no-option : (options : List (List ℕ × Kind)) (word : List ℕ) → list_all (λ option. is_dashed option.0) options ≡ true → is_dashed word ≡ false → kind_in options word ≡ None
no-option [] word dashed plain = refl
no-option (option ∷ options) word dashed plain =
    let parts = and_parts (is_dashed option.0) (list_all (λ option. is_dashed option.0) options) dashed in
    plain-if options word option.0 option.1 (bytes_eq option.0 word) refl parts.0 plain (no-option options word parts.1 plain)

pub plain-word : (verb : VerbName) (word : List ℕ) → is_dashed word ≡ false → kind_in (row_of_verb verb).options word ≡ None
plain-word verb word plain = no-option (row_of_verb verb).options word (row-facts verb).3 plain
