-- The records that `reshape` to long gives, made wide again.
use Rattle.std.proofs.Common.{◌≡◌, ◌≤◌, ℕ, true, false, not, cond, if◌then◌else◌, ◌||◌, List, [], ◌∷◌, ◌++◌, length, map, is_none, refl, ap, ap₂, arith, subst, sym, ◌∙◌, inl, inr}
use Rattle.std.specs.List.{AllByRecursion, cons_option, filter, filter_map, flat_map}
use Rattle.std.specs.Str.{bytes_eq}
use Rattle.std.proofs.lemmas.Bool.{cases_Bool, or_from, or_right, true≢false}
use Rattle.std.proofs.lemmas.List.{append-nil, length-map, map-append}
use Rattle.std.proofs.lemmas.List.Elements.{filter_map-append}
use Rattle.std.proofs.lemmas.List.Folds.{list_any-append}
use Rattle.std.proofs.lemmas.Slice.Eq.{bytes_eq-Decides}
use Rattle.mlr_event.specs.Reading.{is_among}
use Rattle.mlr_event.specs.declared.event.Ctx.{Ctx}
use Rattle.mlr_groups.specs.Grouping.{common_in, each_once, groups_in, texts_eq}
use Rattle.mlr_groups.specs.declared.group_by.GroupBy.{GroupBy}
use Rattle.mlr_groups.specs.declared.group_by.GroupBy.TheVariants.{Others, Fields as AllFields}
use Rattle.mlr_groups.proofs.KeyTexts.{texts_eq-Decides}
use Rattle.mlr_groups.proofs.Once.{AreApart, any-once}
use Rattle.mlr_spec.specs.Pairs.{keys_of, put_each}
use Rattle.mlr_spec.specs.Tree.{Tree, empty}
use Rattle.mlr_spec.proofs.Flattening.{put_each-distinct}
use Rattle.verbs_base.specs.Records.{Fields, Row, each, given_after, given_by, records}
use Rattle.verbs_reshape.specs.ToLong.{long_record, or_itself, others, selected, to_long}
use Rattle.verbs_reshape.specs.ToWide.{both, filled, filled_rows, pair_in, to_wide}
use Rattle.verbs_reshape.specs.declared.to_long.ToLong.{ToLong}
use Rattle.shape_laws.specs.Back.{ComesBack, HasSelected, back, parted}
use Rattle.shape_laws.proofs.Contextless.{keys_for, late-same, late_of, pairs_of, wide_of}
use Rattle.shape_laws.proofs.Full.{all-apart}
use Rattle.shape_laws.proofs.InGroups.{AreIn, IsGroup, grouped-are}
use Rattle.shape_laws.proofs.LongRecords.{long-group, long-others, long-pair, texts}
use Rattle.shape_laws.proofs.Parting.{distinct-parted}

-- names that are all among others
none-lacking : (there names : List (List ℕ)) → ((name : List ℕ) → is_among names name ≡ true → is_among there name ≡ true) → filter (λ name. not (is_among there name)) names ≡ []
none-lacking there [] among = refl
none-lacking there (name ∷ names) among =
    let left = filter (λ name. not (is_among there name)) names in
    let here : is_among there name ≡ true = among name (ap (λ t. t || is_among names name) ((bytes_eq-Decides name name).1 refl)) in
    ap (λ t. cond (not t) (name ∷ left) left) here
    ∙ none-lacking there names (λ other is. among other (or_right (bytes_eq other name) (is_among names other) is))

module _ (options : ToLong) where
  abbrev by : GroupBy
  by = Others (both (back options))

  abbrev group : Fields → List (List ℕ)
  group fields = texts (others options.fields fields)

  abbrev made : Fields → List Fields
  made fields = to_long options fields

  module _ (fields : Fields) (h : ComesBack options fields) where
    abbrev others_in : Fields
    others_in = others options.fields fields

    abbrev made_for : Fields → List Fields
    made_for chosen = map (long_record options others_in) chosen

    are-in : (chosen : Fields) → AreIn by (group fields) (made_for chosen)
    are-in [] = tt
    are-in (pair ∷ chosen) = (long-group options others_in h.two_names h.key_free h.value_free pair, are-in chosen)

    pairs-are : (chosen : Fields) → pairs_of (back options) (made_for chosen) ≡ chosen
    pairs-are [] = refl
    pairs-are (pair ∷ chosen) = ap₂ cons_option (long-pair options others_in h.two_names h.key_free h.value_free pair) (pairs-are chosen)

    -- What is made of the record, for its selected fields.
    record Made (chosen : Fields) : Type 0 where
      is_group : or_itself fields (made_for chosen) ≡ made fields → IsGroup by group made fields
      pairs : pairs_of (back options) (or_itself fields (made_for chosen)) ≡ chosen
      wide : (ctx : Ctx) → wide_of (back options) ctx (or_itself fields (made_for chosen)) ≡ (put_each others_in chosen, ctx) ∷ []

    made-of : (chosen : Fields) → 1 ≤ length chosen → Made chosen
    made-of [] some = absurd (omega (arith, some))
    made-of (pair ∷ chosen) some = record {
      is_group = λ are. record {
        first = long_record options others_in pair;
        following = made_for chosen;
        made_are = sym are;
        are_in = subst (AreIn by (group fields)) are (are-in (pair ∷ chosen));
      };
      pairs = pairs-are (pair ∷ chosen);
      wide = λ ctx. ap₂ (λ rest pairs. (put_each rest pairs, ctx) ∷ []) (long-others options others_in h.two_names h.key_free h.value_free pair) (pairs-are (pair ∷ chosen));
    }

    is-made : Made (selected options.fields fields)
    is-made = made-of (selected options.fields fields) h.selects

    is-group : IsGroup by group made fields
    is-group = is-made.is_group refl

    pairs-made : pairs_of (back options) (made fields) ≡ selected options.fields fields
    pairs-made = is-made.pairs

    wide-made : (ctx : Ctx) → wide_of (back options) ctx (made fields) ≡ (parted options.fields fields, ctx) ∷ []
    wide-made ctx =
        is-made.wide ctx ∙ ap (λ fields. (fields, ctx) ∷ []) (put_each-distinct others_in (selected options.fields fields) (distinct-parted options.fields fields h.distinct))

  -- the names of a record's selected fields are there
  is-there : (names : List (List ℕ)) (fields : Fields) → HasSelected options names fields → (key : List ℕ) → is_among names key ≡ true → is_among (keys_of (parted options.fields fields)) key ≡ true
  is-there names fields has key among =
      let left = others options.fields fields in
      let chosen = selected options.fields fields in
      ap (λ keys. is_among keys key) (map-append (λ (pair : List ℕ × Tree). pair.0) left chosen)
      ∙ list_any-append (bytes_eq key) (keys_of left) (keys_of chosen)
      ∙ or_right (is_among (keys_of left) key) _ (has key ∙ among)

  abbrev AllCome : List Fields → Type 0
  AllCome given = AllByRecursion (ComesBack options) given

  abbrev AllHave : List (List ℕ) → List Fields → Type 0
  AllHave names given = AllByRecursion (HasSelected options names) given

  abbrev longs : List Fields → List Fields
  longs given = flat_map made given

  are-groups : (given : List Fields) → AllCome given → AllByRecursion (IsGroup by group made) given
  are-groups [] come = tt
  are-groups (fields ∷ given) come = (is-group fields come.0, are-groups given come.1)

  -- other names are none of the keys
  no-key : (names : List (List ℕ)) (given : List Fields) → AllCome given → AllHave names given → (key : List ℕ) → is_among names key ≡ false → is_among (keys_of (pairs_of (back options) (longs given))) key ≡ false
  no-key names [] come have key other = refl
  no-key names (fields ∷ given) come have key other =
      let chosen = selected options.fields fields in
      let rest = pairs_of (back options) (longs given) in
      ap (λ pairs. is_among (keys_of pairs) key) (filter_map-append (pair_in (back options)) (made fields) (longs given) ∙ ap (λ pairs. pairs ++ rest) (pairs-made fields come.0))
      ∙ ap (λ keys. is_among keys key) (map-append (λ (pair : List ℕ × Tree). pair.0) chosen rest)
      ∙ list_any-append (bytes_eq key) (keys_of chosen) (keys_of rest)
      ∙ or_from _ _ (have.0 key ∙ other) (no-key names given come.1 have.1 key other)

  among-names : (names : List (List ℕ)) (given : List Fields) → AllCome given → AllHave names given → (key : List ℕ) → is_among (keys_for (back options) (longs given)) key ≡ true → is_among names key ≡ true
  among-names names given come have key among =
      let keys = keys_of (pairs_of (back options) (longs given)) in
      elim (cases_Bool (is_among names key)) as (λ _. is_among names key ≡ true) [
        | inl is ↦ is
        | inr isnt ↦ absurd (true≢false (sym among ∙ any-once bytes_eq bytes_eq-Decides key keys ∙ no-key names given come have key isnt))
      ]

  abbrev back_rows : Ctx → List Fields → List Row
  back_rows ctx given = map (λ fields. (parted options.fields fields, ctx)) given

  none-filled : (keys names : List (List ℕ)) → ((key : List ℕ) → is_among keys key ≡ true → is_among names key ≡ true) → (given : List Fields) (ctx : Ctx) → AllHave names given → filled_rows keys (back_rows ctx given) ≡ back_rows ctx given
  none-filled keys names among [] ctx have = refl
  none-filled keys names among (fields ∷ given) ctx have =
      let all = parted options.fields fields in
      let same : filled keys all ≡ all =
      ap (λ lacking. all ++ map (λ key. (key, empty)) lacking) (none-lacking (keys_of all) keys (λ key is. is-there names fields have.0 key (among key is))) ∙ append-nil all in
      ap₂ (λ fields more. (fields, ctx) ∷ more) same (none-filled keys names among given ctx have.1)

  all-wide : (given : List Fields) (ctx : Ctx) → AllCome given → flat_map (wide_of (back options) ctx) (map made given) ≡ back_rows ctx given
  all-wide [] ctx come = refl
  all-wide (fields ∷ given) ctx come = ap₂ (λ xs ys. xs ++ ys) (wide-made fields come.0 ctx) (all-wide given ctx come.1)

  own-groups : (given : List Fields) → filter_map (common_in AllFields) (map (others options.fields) given) ≡ map group given
  own-groups [] = refl
  own-groups (fields ∷ given) = ap (λ groups. group fields ∷ groups) (own-groups given)

  wide-again : (names : List (List ℕ)) (given : List Fields) (ctx : Ctx) → AllCome given → AllHave names given → length (groups_in AllFields (map (others options.fields) given)) ≡ length given
      → late_of (back options) ctx (longs given) ≡ back_rows ctx given
  wide-again names given ctx come have full =
      let keys = keys_for (back options) (longs given) in
      let all : length (each_once texts_eq (map group given)) ≡ length (map group given) =
      ap (λ groups. length (each_once texts_eq groups)) (sym (own-groups given)) ∙ full ∙ sym (length-map given group) in
      let differ : AreApart texts_eq texts_eq-Decides (map group given) = all-apart texts_eq texts_eq-Decides (map group given) all in
      ap (λ groups. filled_rows keys (flat_map (wide_of (back options) ctx) groups)) (grouped-are by group made given (are-groups given come) differ)
      ∙ ap (filled_rows keys) (all-wide given ctx come)
      ∙ none-filled keys names (among-names names given come have) given ctx have

  -- the records that `reshape` to long gives
  long-after : (before given : List Fields) → given_after (each (to_long options)) before given ≡ longs given
  long-after before [] = refl
  long-after before (fields ∷ given) = ap (λ more. made fields ++ more) (long-after (before ++ fields ∷ []) given)

  pub all-back : (names : List (List ℕ)) (given : List Fields) (rows : List Row) (ctx : Ctx) → AllCome given → AllHave names given
      → length (groups_in AllFields (map (others options.fields) given)) ≡ length given → records rows ≡ given_by (each (to_long options)) given
      → (to_wide (back options)).late rows ctx ≡ back_rows ctx given
  all-back names given rows ctx come have full are =
      late-same (back options) rows ctx ∙ ap (late_of (back options) ctx) (are ∙ long-after [] given) ∙ wide-again names given ctx come have full

  -- records in groups pass only at the end
  abbrev AllGrouped : List Fields → Type 0
  AllGrouped given = AllByRecursion (λ (fields : Fields). is_none (common_in by fields) ≡ false) given

  silent : (before given : List Fields) → AllGrouped given → given_after (to_wide (back options)) before given ≡ []
  silent before [] are = refl
  silent before (fields ∷ given) are =
      ap₂ (λ t more. (if t then fields ∷ [] else []) ++ more) are.0 (silent (before ++ fields ∷ []) given are.1)

  grouped-more : (own : List (List ℕ)) (given more : List Fields) → AreIn by own given → AllGrouped more → AllGrouped (given ++ more)
  grouped-more own [] more are all = all
  grouped-more own (fields ∷ given) more are all = (ap is_none are.0, grouped-more own given more are.1 all)

  all-grouped : (given : List Fields) → AllCome given → AllGrouped (longs given)
  all-grouped [] come = tt
  all-grouped (fields ∷ given) come = grouped-more (group fields) (made fields) (longs given) (is-group fields come.0).are_in (all-grouped given come.1)

  pub only-late : (given : List Fields) → AllCome given → given_by (to_wide (back options)) (given_by (each (to_long options)) given) ≡ []
  only-late given come = ap (given_by (to_wide (back options))) (long-after [] given) ∙ silent [] (longs given) (all-grouped given come)
