use Rattle.std.proofs.Common.{◌≡◌, ◌++◌, false, true, map}
use Rattle.regex.specs.Bytes.{matcher_pattern}
use Rattle.mlr_record.specs.Fields.{pairs_of}
use Rattle.verbs_pattern.specs.Cut.{kept_matching}
use Rattle.verbs_reshape.proofs.to_long.split_fields.Given as goal

-- the fields so far with those of the remaining fields are all of them
abbrev pub invariant-loop-field : goal.invariant-loop-field
invariant-loop-field l =
    let patterns = map matcher_pattern l.fn.matchers in record {
      same : map matcher_pattern l.matchers ≡ patterns;
      selected :
          pairs_of l.selected.items ++ kept_matching patterns false (pairs_of l.field-iterator.rest.items)
          ≡ pairs_of l.fn.selected.items ++ kept_matching patterns false (pairs_of l.fn.fields.items);
      others :
          pairs_of l.others.items ++ kept_matching patterns true (pairs_of l.field-iterator.rest.items)
          ≡ pairs_of l.fn.others.items ++ kept_matching patterns true (pairs_of l.fn.fields.items);
    }
