-- Verbs that give records at the end.
use Rattle.std.specs.Prelude.{◌≡◌, false, List, [], ◌++◌, is_none}
use Rattle.std.specs.List.{flat_map}
use Rattle.mlr_event.specs.declared.event.Ctx.{Ctx}
use Rattle.mlr_event.specs.declared.event.Event.{Event}
use Rattle.mlr_groups.specs.declared.group_by.GroupBy.{GroupBy}
use Rattle.mlr_groups.specs.Grouping.{common_in}
use Rattle.verbs_base.specs.Records.{RecordVerb, Row, events_of, passes}
use Rattle.group_state.specs.Grouped.{grouped}

-- what the records that a verb was given come to at the end
abbrev pub at_end : (List Row → Ctx → List Row) → RecordVerb
at_end late = record { gives = λ before fields. []; late = late; closed = λ before. false }

-- what each group comes to, group by group
abbrev pub by_groups : GroupBy → (List Row → Ctx → List Row) → RecordVerb
by_groups by late = at_end (λ rows ctx. flat_map (λ group. late group ctx) (grouped by rows))

-- what each group comes to, group by group, where a record in no group passes at once
abbrev pub by_groups_or_pass : GroupBy → (List Row → Ctx → List Row) → RecordVerb
by_groups_or_pass by late = record {
  gives = λ before. passes (λ fields. is_none (common_in by fields));
  late = λ rows ctx. flat_map (λ group. late group ctx) (grouped by rows);
  closed = λ before. false;
}

-- The end was taken, and what the records come to was appended.
pub record GivesAtEnd (late : List Row → Ctx → List Row) (holds : List Row → Type 0) (ctx : Ctx) (out out' : List Event) : Type 0 where
  pub gives : (rows : List Row) → holds rows → out' ≡ out ++ events_of (late rows ctx)
