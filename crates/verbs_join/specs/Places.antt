-- The records at places.
use Rattle.std.specs.Prelude.{ℕ, List, map, Option, Vec, slice_get}
use Rattle.std.specs.Global.{Global}
use Rattle.verbs_base.specs.Records.{Fields}

-- the records at some places, and at those of each bucket
abbrev pub at_places : List Fields → List ℕ → List (Option Fields)
at_places lefts places = map (slice_get lefts) places

abbrev pub in_buckets : List Fields → List (Vec ℕ Global) → List (List (Option Fields))
in_buckets lefts buckets = map (λ bucket. at_places lefts bucket.items) buckets
