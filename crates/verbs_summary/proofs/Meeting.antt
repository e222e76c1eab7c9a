-- The names that were met, and the values of a field, with one more record.
use Rattle.std.proofs.Common.{◌≡◌, ℕ, ◌+◌, Bool, true, false, cond, if◌then◌else◌, List, [], ◌∷◌, ◌++◌, map, take, drop, Option, Some, None, slice_get, refl, ap, ap₂, sym, subst, ◌∙◌, append_assoc}
use Rattle.std.specs.Prelude.{is_some}
use Rattle.std.specs.List.{cons_option}
use Rattle.std.specs.Option.{option_map, unwrap_or}
use Rattle.std.proofs.lemmas.List.{append-nil, map-append, take_more}
use Rattle.std.proofs.lemmas.List.Elements.{filter-append, filter_map-append}
use Rattle.std.proofs.lemmas.Option.{get_or_from_slice_get, slice_get-map, slice_get_within}
use Rattle.mlr_spec.specs.Pairs.{put_each, value_at}
use Rattle.mlr_spec.specs.Tree.{Tree}
use Rattle.mlr_spec.proofs.Flattening.{drop-more}
use Rattle.stat_base.specs.Values.{values_of}
use Rattle.verbs_base.specs.Choosing.{picked}
use Rattle.verbs_base.specs.Records.{Fields, Row, events_of, records}
use Rattle.mlr_event.specs.declared.event.Ctx.{Ctx}
use Rattle.mlr_event.specs.declared.event.Event.{Event}
use Rattle.mlr_stats.specs.Statistic.{fields_of}
use Rattle.verbs_summary.specs.KeptOfGroup.{ArrangesValues, HoldsRows, KeepsEach, KeepsValues, first_of, group_gives_of, names_at, statistics_made}
use Rattle.mlr_stats.specs.declared.summary.Summary.{Summary}
use Rattle.verbs_summary.specs.declared.stats1.GroupSummaries.{GroupSummaries}
use Rattle.verbs_summary.specs.Stats1.{group_fields, is_newly_met, met_after, newly_met}
use Rattle.verbs_summary.specs.Stats1.{met as met_names}
use Rattle.verbs_summary.specs.declared.stats1.Options.{Options}

pub values-has : (name : List ℕ) (before : List Fields) (fields : Fields) (value : Tree) → value_at name fields ≡ Some value → values_of name (before ++ fields ∷ []) ≡ values_of name before ++ value ∷ []
values-has name before fields value is = filter_map-append (value_at name) before (fields ∷ []) ∙ ap (λ o. values_of name before ++ cons_option o []) is

pub values-lacks : (name : List ℕ) (before : List Fields) (fields : Fields) → value_at name fields ≡ None → values_of name (before ++ fields ∷ []) ≡ values_of name before
values-lacks name before fields is =
    filter_map-append (value_at name) before (fields ∷ []) ∙ ap (λ o. values_of name before ++ cons_option o []) is ∙ append-nil (values_of name before)

-- the names that some records have, with those of one more
met-after : (names : List (List ℕ)) (before given : List Fields) (fields : Fields) → met_after names before (given ++ fields ∷ []) ≡ met_after names before given ++ newly_met names (before ++ given) fields
met-after names before [] fields = append-nil (newly_met names before fields) ∙ ap (λ b. newly_met names b fields) (sym (append-nil before))
met-after names before (first ∷ given) fields =
    ap (λ more. newly_met names before first ++ more) (met-after names (before ++ first ∷ []) given fields)
    ∙ sym (append_assoc (newly_met names before first) (met_after names (before ++ first ∷ []) given) (newly_met names ((before ++ first ∷ []) ++ given) fields))
    ∙ ap (λ b. (newly_met names before first ++ met_after names (before ++ first ∷ []) given) ++ newly_met names b fields) (append_assoc before (first ∷ []) given)

pub met-last : (names : List (List ℕ)) (given : List Fields) (fields : Fields) → met_names names (given ++ fields ∷ []) ≡ met_names names given ++ newly_met names given fields
met-last names given fields = met-after names [] given fields

-- one more place, if its name is newly met
pub met-more : (names : List (List ℕ)) (before : List Fields) (fields : Fields) (place : ℕ) (name : List ℕ) (start places after : List ℕ) → slice_get names place ≡ Some name
    → names_at names places ≡ names_at names start ++ map Some (newly_met (take place names) before fields)
    → after ≡ places ++ (if is_newly_met before fields name then place ∷ [] else [])
    → names_at names after ≡ names_at names start ++ map Some (newly_met (take (place + 1) names) before fields)
met-more names before fields place name start places after at so_far is =
    let t = is_newly_met before fields name in
    let new = newly_met (take place names) before fields in
    ap (names_at names) is
    ∙ map-append (slice_get names) places (cond t (place ∷ []) [])
    ∙ ap₂ (λ xs ys. xs ++ ys) so_far (one t)
    ∙ append_assoc (names_at names start) (map Some new) (map Some (cond t (name ∷ []) []))
    ∙ ap (λ ys. names_at names start ++ ys) (sym (map-append Some new (cond t (name ∷ []) [])))
    ∙ ap (λ ys. names_at names start ++ map Some ys) (sym (filter-append (is_newly_met before fields) (take place names) (name ∷ [])))
    ∙ ap (λ taken. names_at names start ++ map Some (newly_met taken before fields)) (sym (take_more names place name (slice_get_within names place name at) ∙ ap (λ n. take place names ++ n ∷ []) (get_or_from_slice_get names place name name at)))
  where
    one : (t : Bool) → names_at names (cond t (place ∷ []) []) ≡ map Some (cond t (name ∷ []) [])
    one true = ap (λ o. o ∷ []) at
    one false = refl

-- the name at a place that was met
pub named-at : (names found : List (List ℕ)) (places : List ℕ) (i place : ℕ) → names_at names places ≡ map Some found → slice_get places i ≡ Some place
    → (name : List ℕ) × (slice_get found i ≡ Some name) × (slice_get names place ≡ Some name)
named-at names found places i place are at =
    told (slice_get found i) (slice_get names place) refl refl
    (sym (slice_get-map Some found i) ∙ ap (λ os. slice_get os i) (sym are) ∙ slice_get-map (slice_get names) places i ∙ ap (option_map (slice_get names)) at)
  where
    told : (o p : Option (List ℕ)) → slice_get found i ≡ o → slice_get names place ≡ p → option_map Some o ≡ Some p
        → (name : List ℕ) × (slice_get found i ≡ Some name) × (slice_get names place ≡ Some name)
    told None p eo ep e = absurd (let x : None ≡ Some p = e in cc)
    told (Some name) p eo ep e = let same : Some name ≡ p = cc in (name, eo, ep ∙ sym same)

-- the statistics of one name and of those after it
pub made-next : (options : Options) (names : List (List ℕ)) (given : List Fields) (i : ℕ) (name : List ℕ) (into after : Fields) → slice_get names i ≡ Some name
    → after ≡ into ++ statistics_made options (name ∷ []) given
    → after ++ statistics_made options (drop (i + 1) names) given ≡ into ++ statistics_made options (drop i names) given
made-next options names given i name into after at is =
    let own = fields_of options.statistics name (values_of name given) in
    let rest = statistics_made options (drop (i + 1) names) given in
    ap (λ fields. fields ++ rest) (is ∙ ap (λ fields. into ++ fields) (append-nil own))
    ∙ append_assoc into own rest
    ∙ ap (λ names. into ++ statistics_made options names given) (sym (drop-more names i name at))

-- the grouping fields of the first record, with one more record
pub first-none : (groups : List (List ℕ)) (rows : List Row) (row : Row) → first_of groups rows ≡ None → first_of groups (rows ++ row ∷ []) ≡ Some (picked groups row.0)
first-none groups [] row is = refl
first-none groups (first ∷ rows) row is = absurd (let e : Some (picked groups first.0) ≡ None = is in cc)

pub first-some : (groups : List (List ℕ)) (rows : List Row) (row : Row) → is_some (first_of groups rows) ≡ true → first_of groups (rows ++ row ∷ []) ≡ first_of groups rows
first-some groups [] row is = absurd (let e : false ≡ true = is in cc)
first-some groups (first ∷ rows) row is = refl

-- a state that holds some rows, with one more
pub holds-more : (options : Options) (state after : GroupSummaries) (rows : List Row) (row : Row) → HoldsRows options state rows
    → KeepsEach (KeepsValues options (records rows ++ row.0 ∷ [])) options.names after.summaries.items
    → names_at options.names after.met.items ≡ names_at options.names state.met.items ++ map Some (newly_met options.names (records rows) row.0)
    → after.first ≡ first_of options.groups (rows ++ row ∷ [])
    → HoldsRows options after (rows ++ row ∷ [])
holds-more options state after rows row holds summaries met first =
    let given = map-append (λ (row : Row). row.0) rows (row ∷ []) in record {
      first = first;
      summaries = subst (λ given. KeepsEach (KeepsValues options given) options.names after.summaries.items) (sym given) summaries;
      met =
          met
          ∙ ap (λ names. names ++ map Some (newly_met options.names (records rows) row.0)) holds.met
          ∙ sym (map-append Some (met_names options.names (records rows)) (newly_met options.names (records rows) row.0))
          ∙ ap (map Some) (sym (met-last options.names (records rows) row.0) ∙ ap (met_names options.names) (sym given));
    }

-- the same, where what was done is said of the options and the summaries that it was done with
pub holds-taken : (options own : Options) (state after : GroupSummaries) (rows : List Row) (row : Row) (items new : List Summary) → own ≡ options → items ≡ state.summaries.items → new ≡ after.summaries.items → HoldsRows options state rows
    → ((before : List Fields) → KeepsEach (KeepsValues own before) own.names items → KeepsEach (KeepsValues own (before ++ row.0 ∷ [])) own.names new)
    → ((before : List Fields) → KeepsEach (KeepsValues own before) own.names items → names_at own.names after.met.items ≡ names_at own.names state.met.items ++ map Some (newly_met own.names before row.0))
    → after.first ≡ first_of options.groups (rows ++ row ∷ [])
    → HoldsRows options after (rows ++ row ∷ [])
holds-taken options own state after rows row items new same is are holds summaries met first =
    let given = records rows in
    let keeps : KeepsEach (KeepsValues own given) own.names items =
    subst (λ o. KeepsEach (KeepsValues o given) o.names items) (sym same) (subst (KeepsEach (KeepsValues options given) options.names) (sym is) holds.summaries) in
    holds-more options state after rows row holds
    (subst (λ o. KeepsEach (KeepsValues o (given ++ row.0 ∷ [])) o.names after.summaries.items) same (subst (KeepsEach (KeepsValues own (given ++ row.0 ∷ [])) own.names) are (summaries given keeps)))
    (subst (λ o. names_at o.names after.met.items ≡ names_at o.names state.met.items ++ map Some (newly_met o.names given row.0)) same (met given keeps))
    first

-- the grouping fields that a state keeps are those that it gives
pub first-fields : (groups : List (List ℕ)) (rows : List Row) → unwrap_or (first_of groups rows) [] ≡ group_fields groups (records rows)
first-fields groups [] = refl
first-fields groups (row ∷ rows) = refl

-- what is given of some rows, where what was done is said of the options, the summaries and the places that it was done with
pub made-given : (options own : Options) (summaries items : List Summary) (places met : List ℕ) (out after : List Event) (made : Fields) (ctx : Ctx) (rows : List Row) → own ≡ options → items ≡ summaries → places ≡ met
    → ((given : List Fields) (names : List (List ℕ)) → KeepsEach (ArrangesValues own given) own.names items → names_at own.names places ≡ map Some names
    → after ≡ out ++ events_of ((put_each made (statistics_made own names given), ctx) ∷ []))
    → KeepsEach (ArrangesValues options (records rows)) options.names summaries → names_at options.names met ≡ map Some (met_names options.names (records rows)) → made ≡ group_fields options.groups (records rows)
    → after ≡ out ++ events_of (group_gives_of options rows ctx)
made-given options own summaries items places met out after made ctx rows same is at pushed arranges named first =
    let given = records rows in
    subst (λ o. ((names : List (List ℕ)) → KeepsEach (ArrangesValues o given) o.names items → names_at o.names places ≡ map Some names
    → after ≡ out ++ events_of ((put_each made (statistics_made o names given), ctx) ∷ []))) same (pushed given) (met_names options.names given)
    (subst (KeepsEach (ArrangesValues options given) options.names) (sym is) arranges)
    (ap (names_at options.names) at ∙ named)
    ∙ ap (λ fields. out ++ events_of ((put_each fields (statistics_made options (met_names options.names given) given), ctx) ∷ [])) first
