use Rattle.std.proofs.Common.{◌≡◌, ◌++◌, drop}
use Rattle.verbs_sort.specs.Kept.{keys_in, trees_in, values_in}
use Rattle.verbs_sort.specs.Sort.{has_keys}
use Rattle.verbs_sort.proofs.sort.values_of.Given as goal

-- the record has the fields so far, and what remains is said of the other keys
abbrev pub invariant-loop-key : goal.invariant-loop-key
invariant-loop-key l = record {
  have : has_keys (keys_in (drop l.key-index l.keys)) l.fields ≡ has_keys (keys_in l.keys) l.fields;
  values : trees_in l.values.items ++ values_in (keys_in (drop l.key-index l.keys)) l.fields ≡ values_in (keys_in l.keys) l.fields;
}
