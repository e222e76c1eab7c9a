-- The names of the command line and of the language, in byte order.
use Rattle.std.specs.Prelude.{ℕ, List, [], ◌∷◌, codes}

-- the names of the verbs
abbrev pub verb_names : List (List ℕ)
verb_names =
    codes "altkv" ∷ codes "cat" ∷ codes "count" ∷ codes "count-distinct" ∷ codes "count-similar" ∷ codes "cut" ∷
    codes "decimate" ∷ codes "fill-down" ∷ codes "fill-empty" ∷ codes "filter" ∷ codes "flatten" ∷ codes "gap" ∷
    codes "grep" ∷ codes "group-by" ∷ codes "group-like" ∷ codes "gsub" ∷ codes "having-fields" ∷ codes "head" ∷
    codes "join" ∷ codes "json-parse" ∷ codes "json-stringify" ∷ codes "label" ∷ codes "least-frequent" ∷
    codes "merge-fields" ∷ codes "most-frequent" ∷ codes "nest" ∷ codes "nothing" ∷ codes "put" ∷
    codes "regularize" ∷ codes "rename" ∷ codes "reorder" ∷ codes "repeat" ∷ codes "reshape" ∷ codes "sec2gmt" ∷
    codes "sec2gmtdate" ∷ codes "seqgen" ∷ codes "sort" ∷ codes "sort-within-records" ∷ codes "sparsify" ∷
    codes "split" ∷ codes "ssub" ∷ codes "stats1" ∷ codes "step" ∷ codes "sub" ∷ codes "tac" ∷ codes "tail" ∷
    codes "tee" ∷ codes "template" ∷ codes "top" ∷ codes "unflatten" ∷ codes "uniq" ∷ codes "unspace" ∷
    codes "unsparsify" ∷ []

-- the names of the built-in functions of the language
abbrev pub function_names : List (List ℕ)
function_names =
    codes "abs" ∷ codes "append" ∷ codes "arrayify" ∷ codes "asserting_absent" ∷ codes "asserting_array" ∷
    codes "asserting_boolean" ∷ codes "asserting_empty" ∷ codes "asserting_empty_map" ∷ codes "asserting_error" ∷
    codes "asserting_int" ∷ codes "asserting_map" ∷ codes "asserting_nonempty_map" ∷ codes "asserting_not_empty" ∷
    codes "asserting_not_null" ∷ codes "asserting_null" ∷ codes "asserting_present" ∷ codes "asserting_string" ∷
    codes "bitcount" ∷ codes "boolean" ∷ codes "capitalize" ∷ codes "clean_whitespace" ∷
    codes "collapse_whitespace" ∷ codes "concat" ∷ codes "contains" ∷ codes "depth" ∷ codes "flatten" ∷
    codes "fmtifnum" ∷ codes "fmtnum" ∷ codes "format" ∷ codes "get_keys" ∷ codes "get_values" ∷ codes "gmt2sec" ∷
    codes "gsub" ∷ codes "haskey" ∷ codes "hexfmt" ∷ codes "index" ∷ codes "int" ∷ codes "is_absent" ∷
    codes "is_array" ∷ codes "is_boolean" ∷ codes "is_empty" ∷ codes "is_empty_map" ∷ codes "is_error" ∷
    codes "is_int" ∷ codes "is_map" ∷ codes "is_nonempty_map" ∷ codes "is_not_empty" ∷ codes "is_not_null" ∷
    codes "is_null" ∷ codes "is_present" ∷ codes "is_string" ∷ codes "joink" ∷ codes "joinkv" ∷ codes "joinv" ∷
    codes "json_decode" ∷ codes "json_encode" ∷ codes "leafcount" ∷ codes "leftpad" ∷ codes "length" ∷
    codes "lstrip" ∷ codes "mapdiff" ∷ codes "mapexcept" ∷ codes "mapselect" ∷ codes "mapsum" ∷ codes "max" ∷
    codes "min" ∷ codes "regextract" ∷ codes "regextract_or_else" ∷ codes "rightpad" ∷ codes "rstrip" ∷
    codes "sec2dhms" ∷ codes "sec2gmt" ∷ codes "sec2gmtdate" ∷ codes "sgn" ∷ codes "sort_by_key" ∷ codes "splita" ∷
    codes "splitax" ∷ codes "splitkv" ∷ codes "splitkvx" ∷ codes "splitnv" ∷ codes "splitnvx" ∷ codes "ssub" ∷
    codes "strftime" ∷ codes "strip" ∷ codes "strlen" ∷ codes "strptime" ∷ codes "strrev" ∷ codes "sub" ∷
    codes "substr" ∷ codes "substr0" ∷ codes "substr1" ∷ codes "tolower" ∷ codes "toupper" ∷ codes "truncate" ∷
    codes "typeof" ∷ codes "unflatten" ∷ []

-- the names of the separators that have one
abbrev pub separator_names : List (List ℕ)
separator_names =
    codes "colon" ∷ codes "comma" ∷ codes "equals" ∷ codes "pipe" ∷ codes "semicolon" ∷ codes "slash" ∷
    codes "space" ∷ codes "tab" ∷ []

-- the names of the main flags, in every spelling
abbrev pub flag_names : List (List ℕ)
flag_names =
    codes "--allow-ragged-csv-input" ∷ codes "--barred" ∷ codes "--c2b" ∷ codes "--c2d" ∷ codes "--c2j" ∷
    codes "--c2l" ∷ codes "--c2m" ∷ codes "--c2n" ∷ codes "--c2p" ∷ codes "--c2t" ∷ codes "--c2x" ∷ codes "--csv" ∷
    codes "--dedupe-field-names" ∷ codes "--dkvp" ∷ codes "--dsl-turns" ∷ codes "--flatsep" ∷ codes "--from" ∷
    codes "--fs" ∷ codes "--headerless-csv-output" ∷ codes "--help" ∷ codes "--hi" ∷ codes "--ho" ∷ codes "--icsv" ∷
    codes "--idkvp" ∷ codes "--ifs" ∷ codes "--ijson" ∷ codes "--ijsonl" ∷ codes "--imd" ∷
    codes "--implicit-csv-header" ∷ codes "--infer-none" ∷ codes "--infer-octal" ∷ codes "--inidx" ∷ codes "--io" ∷
    codes "--ipprint" ∷ codes "--ips" ∷ codes "--itsv" ∷ codes "--ixtab" ∷ codes "--j2b" ∷ codes "--j2c" ∷
    codes "--j2d" ∷ codes "--j2l" ∷ codes "--j2m" ∷ codes "--j2n" ∷ codes "--j2p" ∷ codes "--j2t" ∷ codes "--j2x" ∷
    codes "--jlistwrap" ∷ codes "--json" ∷ codes "--jsonl" ∷ codes "--jvstack" ∷ codes "--l2b" ∷ codes "--l2c" ∷
    codes "--l2d" ∷ codes "--l2j" ∷ codes "--l2m" ∷ codes "--l2n" ∷ codes "--l2p" ∷ codes "--l2t" ∷ codes "--l2x" ∷
    codes "--nidx" ∷ codes "--no-auto-flatten" ∷ codes "--no-auto-unflatten" ∷ codes "--no-color" ∷
    codes "--no-dedupe-field-names" ∷ codes "--no-jlistwrap" ∷ codes "--no-jvstack" ∷ codes "--ocsv" ∷
    codes "--odkvp" ∷ codes "--ofs" ∷ codes "--ojson" ∷ codes "--ojsonl" ∷ codes "--omd" ∷ codes "--onidx" ∷
    codes "--opprint" ∷ codes "--ops" ∷ codes "--otsv" ∷ codes "--oxtab" ∷ codes "--pass-comments" ∷
    codes "--pass-comments-with" ∷ codes "--pprint" ∷ codes "--ps" ∷ codes "--quote-all" ∷ codes "--ragged" ∷
    codes "--records-per-batch" ∷ codes "--serial" ∷ codes "--skip-comments" ∷ codes "--skip-comments-with" ∷
    codes "--t2b" ∷ codes "--t2c" ∷ codes "--t2d" ∷ codes "--t2j" ∷ codes "--t2l" ∷ codes "--t2m" ∷ codes "--t2n" ∷
    codes "--t2p" ∷ codes "--t2x" ∷ codes "--tsv" ∷ codes "--version" ∷ codes "--xtab" ∷ codes "-M" ∷ codes "-O" ∷
    codes "-S" ∷ codes "-c" ∷ codes "-h" ∷ codes "-i" ∷ codes "-j" ∷ codes "-n" ∷ codes "-o" ∷ codes "-t" ∷ []
