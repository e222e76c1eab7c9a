-- What `stats1` keeps of a group.
use Rattle.std.specs.Prelude.{◌≡◌, ℕ, List, [], ◌∷◌, map, Option, Some, None, slice_get}
use Rattle.std.specs.Arc.{arc_value}
use Rattle.std.specs.List.{flat_map}
use Rattle.mlr_event.specs.declared.event.Ctx.{Ctx}
use Rattle.verbs_base.specs.Choosing.{picked}
use Rattle.verbs_base.specs.Records.{Fields, Row, records}
use Rattle.stat_base.specs.Values.{values_of}
use Rattle.mlr_stats.specs.Kept.{Arranges, Summarizes}
use Rattle.mlr_stats.specs.Statistic.{fields_of}
use Rattle.mlr_stats.specs.declared.summary.Summary.{Summary}
use Rattle.verbs_summary.specs.Stats1.{met, summarized}
use Rattle.verbs_summary.specs.declared.stats1.GroupSummaries.{GroupSummaries}
use Rattle.verbs_summary.specs.declared.stats1.Options.{Options}

-- what is kept for a name holds the values of its field, in the order in which they came, or in their order
abbrev pub KeepsValues : Options → List Fields → List ℕ → Summary → Type 0
KeepsValues options given name = Summarizes options.statistics (values_of name given)

abbrev pub ArrangesValues : Options → List Fields → List ℕ → Summary → Type 0
ArrangesValues options given name = Arranges options.statistics (values_of name given)

-- for each name something is kept
abbrev pub KeepsEach : (List ℕ → Summary → Type 0) → List (List ℕ) → List Summary → Type 0
KeepsEach keeps [] [] = Unit {0}
KeepsEach keeps [] (summary ∷ summaries) = ⊥
KeepsEach keeps (name ∷ names) [] = ⊥
KeepsEach keeps (name ∷ names) (summary ∷ summaries) = keeps name summary × KeepsEach keeps names summaries

-- the names at some places
abbrev pub names_at : List (List ℕ) → List ℕ → List (Option (List ℕ))
names_at names places = map (slice_get names) places

-- the fields that the statistics of some names make
abbrev pub statistics_made : Options → List (List ℕ) → List Fields → Fields
statistics_made options names given = flat_map (λ name. fields_of options.statistics name (values_of name given)) names

-- the grouping fields of the first record
abbrev pub first_of : List (List ℕ) → List Row → Option Fields
first_of groups [] = None
first_of groups (row ∷ rows) = Some (picked groups row.0)

-- what a group gives at the end
abbrev pub group_gives_of : Options → List Row → Ctx → List Row
group_gives_of options rows ctx = (summarized options.statistics options.names options.groups (records rows), ctx) ∷ []

abbrev pub group_gives : GroupSummaries → List Row → Ctx → List Row
group_gives state = group_gives_of (arc_value state.options)

-- the records that a state was given
pub record HoldsRows (options : Options) (state : GroupSummaries) (rows : List Row) : Type 0 where
  pub first : state.first ≡ first_of options.groups rows
  pub summaries : KeepsEach (KeepsValues options (records rows)) options.names state.summaries.items
  pub met : names_at options.names state.met.items ≡ map Some (met options.names (records rows))

abbrev pub GroupHolds : GroupSummaries → List Row → Type 0
GroupHolds state rows = HoldsRows (arc_value state.options) state rows
