use Rattle.std.proofs.Common.{◌≡◌, ◌++◌, map}
use Rattle.regex.specs.Bytes.{matcher_pattern}
use Rattle.mlr_record.specs.Fields.{pairs_of}
use Rattle.verbs_pattern.specs.Cut.{kept_matching}
use Rattle.verbs_pattern.proofs.cut.keep_fields.Given as goal

-- the kept fields so far with those kept of the remaining fields are all the kept fields
abbrev pub invariant-loop-field : goal.invariant-loop-field
invariant-loop-field l =
    let patterns = map matcher_pattern l.fn.matchers in record {
      same : map matcher_pattern l.matchers ≡ patterns;
      kept :
          pairs_of l.kept.items ++ kept_matching patterns l.complement (pairs_of l.field-iterator.rest.items)
          ≡ pairs_of l.fn.kept.items ++ kept_matching patterns l.complement (pairs_of l.fn.fields.items);
    }
