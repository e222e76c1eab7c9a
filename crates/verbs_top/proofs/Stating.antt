-- What is kept of a group, with one more record, and what it gives at the end.
use Rattle.std.proofs.Common.{◌≡◌, ℕ, ◌+◌, true, false, cond, List, [], ◌∷◌, ◌++◌, get_or, length, map, Option, Some, refl, ap, sym, subst, ◌∙◌, append_assoc, arith}
use Rattle.std.specs.List.{range_with_len}
use Rattle.std.specs.Option.{is_none, unwrap_or}
use Rattle.std.proofs.lemmas.Bool.{true≢false}
use Rattle.std.proofs.lemmas.List.{length-map, map-append}
use Rattle.std.proofs.lemmas.List.FromFn.{map-range_with_len_more}
use Rattle.mlr_spec.specs.Pairs.{put_each, value_at}
use Rattle.mlr_event.specs.declared.event.Ctx.{Ctx}
use Rattle.mlr_event.specs.declared.event.Event.{Event}
use Rattle.mlr_event.specs.declared.event.Event.TheVariants as event
use Rattle.verbs_base.specs.Choosing.{picked}
use Rattle.verbs_base.specs.Records.{Fields, Row, events_of}
use Rattle.verbs_top.specs.Best.{HoldsBest, Pair, first_pairs, offered, pair_of}
use Rattle.verbs_top.specs.State.{HoldColumns, Keeps, column_of, first_of, first_trees, made_fields, output_names, place_rows, row_pairs, rows_in}
use Rattle.verbs_top.specs.Top.{group_fields, made_at, most, top_gives, top_records, top_rows, top_values}
use Rattle.verbs_top.specs.declared.best.Best.{Best}
use Rattle.verbs_top.specs.declared.best.Entry.{Entry}
use Rattle.verbs_top.specs.declared.state.TopState.{TopState}
use Rattle.verbs_top.specs.declared.top.Top.{Top}
use Rattle.verbs_top.proofs.Columns.{columns-first, columns-many, fields-made, longest-most, row_pairs-more, rows-first}

module _ (names : List (List ℕ)) (first : Option Fields) (rows : List Row) (row : Row) (is : first ≡ first_of names rows) where
  -- the first record is that of one more record where there was none
  pub first-new : (made : Fields) → is_none first ≡ true → made ≡ picked names row.0 → Some made ≡ first_of names (rows ++ row ∷ [])
  first-new made none same = chosen rows is
    where
      chosen : (rows : List Row) → first ≡ first_of names rows → Some made ≡ first_of names (rows ++ row ∷ [])
      chosen [] is = ap Some same
      chosen (other ∷ rows) is = absurd (true≢false (sym none ∙ ap is_none is))

  pub first-stays : is_none first ≡ false → first ≡ first_of names (rows ++ row ∷ [])
  first-stays some = chosen rows is
    where
      chosen : (rows : List Row) → first ≡ first_of names rows → first ≡ first_of names (rows ++ row ∷ [])
      chosen [] is = absurd (true≢false (sym (ap is_none is) ∙ some))
      chosen (other ∷ rows) is = is

module _ (options : Top) (s : TopState) (rows : List Row) (kept : Keeps options s rows) where
  -- one more record, where records are given
  pub keeps-row : (t : TopState) (row : Row) → options.whole ≡ true
      → ((given : List Pair) → HoldsBest options given s.rows → HoldsBest options (given ++ offered (value_at (get_or options.names 0 []) row.0) (Some row)) t.rows)
      → Keeps options t (rows ++ row ∷ [])
  keeps-row t row whole takes = (
    λ whole.
        subst (λ pairs. HoldsBest options pairs t.rows) (sym (row_pairs-more (get_or options.names 0 []) rows row))
        (takes (row_pairs (get_or options.names 0 []) rows) (kept.0 whole)),
    λ none. absurd (true≢false (sym whole ∙ none)),
  )

  pub keeps-values : (t : TopState) (row : Row) → options.whole ≡ false → t.first ≡ first_of (unwrap_or options.groups []) (rows ++ row ∷ [])
      → (HoldColumns options (map (λ name. column_of name rows) options.names) s.columns.items → HoldColumns options (map (λ name. column_of name (rows ++ row ∷ [])) options.names) t.columns.items)
      → Keeps options t (rows ++ row ∷ [])
  keeps-values t row none first takes = (
    λ whole. absurd (true≢false (sym whole ∙ none)),
    λ none. (first, takes (kept.1 none).1),
  )

  pub many-columns : options.whole ≡ false → length s.columns.items ≡ length options.names
  many-columns none =
      columns-many options (map (λ (name : List ℕ). column_of name rows) options.names) s.columns.items (kept.1 none).1
      ∙ length-map options.names (λ (name : List ℕ). column_of name rows)

  -- what is given at the end, where records are given
  pub gives-rows : (ctx : Ctx) (taken : Best) (entries : List Entry) → options.whole ≡ true → taken ≡ s.rows
      → map pair_of entries ≡ first_pairs options (map pair_of taken.entries.items)
      → rows_in (map pair_of entries) ≡ top_gives options rows ctx
  gives-rows ctx taken entries whole is first =
      ap rows_in first
      ∙ rows-first options (get_or options.names 0 []) rows taken (subst (HoldsBest options (row_pairs (get_or options.names 0 []) rows)) (sym is) (kept.0 whole))
      ∙ ap (λ t. cond t (top_rows options rows (get_or options.names 0 [])) (map (λ fields. (fields, ctx)) (top_records options rows))) (sym whole)

  first-fields : (rows : List Row) → unwrap_or (first_of (unwrap_or options.groups []) rows) [] ≡ group_fields (unwrap_or options.groups []) rows
  first-fields [] = refl
  first-fields (row ∷ rows) = refl

  -- where ints are given
  pub gives-places : (ctx : Ctx) (taken : List Best) (first : Fields) → options.whole ≡ false → taken ≡ s.columns.items → first ≡ unwrap_or s.first []
      → place_rows options first (map (first_trees options) taken) ctx ≡ top_gives options rows ctx
  gives-places ctx taken first none is began =
      ap (λ lists. place_rows options first lists ctx) all
      ∙ ap (λ n. map {B = Row} (λ place. (put_each first (made_fields options.output (output_names options.names) (map (top_values options rows) options.names) place), ctx)) (range_with_len 0 n)) (longest-most options rows)
      ∙ each (range_with_len 0 (most options rows))
      ∙ ap (λ t. cond t (top_rows options rows (get_or options.names 0 [])) (map {B = Row} (λ fields. (fields, ctx)) (top_records options rows))) (sym none)
    where
      all : map (first_trees options) taken ≡ map (top_values options rows) options.names
      all = columns-first options options.names rows taken (subst (HoldColumns options (map (λ name. column_of name rows) options.names)) (sym is) (kept.1 none).1)

      from : first ≡ group_fields (unwrap_or options.groups []) rows
      from = began ∙ ap (λ fields. unwrap_or fields []) (kept.1 none).0 ∙ first-fields rows

      each : (places : List ℕ) → map {B = Row} (λ place. (put_each first (made_fields options.output (output_names options.names) (map (top_values options rows) options.names) place), ctx)) places
          ≡ map {B = Row} (λ fields. (fields, ctx)) (map (λ place. put_each (group_fields (unwrap_or options.groups []) rows) (made_at options rows place)) places)
      each [] = refl
      each (place ∷ places) = λ i. (put_each (from i) (fields-made options rows place i), ctx) ∷ each places i

-- one more record, of the next place
pub place-more : (made : ℕ → Row) (place : ℕ) (out middle last : List Event) → middle ≡ out ++ events_of (map made (range_with_len 0 place))
    → last ≡ middle ++ event.Rec (made place).0 (made place).1 ∷ [] → last ≡ out ++ events_of (map made (range_with_len 0 (place + 1)))
place-more made place out middle last before more =
    more ∙ ap (λ events. events ++ event.Rec (made place).0 (made place).1 ∷ []) before
    ∙ append_assoc out (events_of (map made (range_with_len 0 place))) (event.Rec (made place).0 (made place).1 ∷ [])
    ∙ ap (λ events. out ++ events) (sym (map-append (λ (row : Row). event.Rec row.0 row.1) (map made (range_with_len 0 place)) (made place ∷ [])))
    ∙ ap (λ rows. out ++ events_of rows) (sym (map-range_with_len_more made 0 place place (omega arith)))
