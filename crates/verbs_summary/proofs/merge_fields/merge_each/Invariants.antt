use Rattle.std.proofs.Common.{◌≡◌, ◌++◌, if◌then◌else◌, List, map}
use Rattle.mlr_record.specs.Fields.{pairs_of}
use Rattle.mlr_spec.specs.Tree.{Tree}
use Rattle.regex.specs.Bytes.{matcher_pattern}
use Rattle.mlr_stats.specs.Kept.{Summarizes}
use Rattle.verbs_summary.specs.MergeFields.{values_matching}
use Rattle.verbs_summary.specs.Merging.{not_matching}
use Rattle.verbs_summary.proofs.merge_fields.merge_each.Given as goal

-- the values so far and those of the remaining fields are all; so are the fields that stay
abbrev pub invariant-loop-field : goal.invariant-loop-field
invariant-loop-field l =
    let patterns = map matcher_pattern l.fn.matchers in
    let rest = pairs_of l.field-iterator.rest.items in
    let all = pairs_of l.fn.fields.items in record {
      same : map matcher_pattern l.matchers ≡ patterns;
      summary :
          (values : List Tree) → Summarizes l.statistics values l.fn.summary
          → (taken : List Tree) × (taken ++ values_matching patterns rest ≡ values_matching patterns all) × Summarizes l.statistics (values ++ taken) l.summary;
      kept :
          pairs_of l.kept.items ++ (if l.keep then rest else not_matching patterns rest)
          ≡ pairs_of l.fn.kept.items ++ (if l.keep then all else not_matching patterns all);
    }
