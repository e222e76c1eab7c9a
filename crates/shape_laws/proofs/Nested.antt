-- Records that `nest` takes apart are put together again.
use Rattle.std.proofs.Common.{◌≡◌, ◌≢◌, ℕ, zero, suc, ◌<◌, true, false, cond, ◌&&◌, List, [], ◌∷◌, ◌++◌, length, map, Some, None, is_none, is_some, slice_index_or, refl, ap, ap₂, sym, ◌∙◌, inl, inr, arith}
use Rattle.std.specs.List.{AllByRecursion, flat_map, list_any}
use Rattle.std.specs.Option.{option_map, option_map_or}
use Rattle.std.proofs.lemmas.Bool.{cases_Bool, or_from}
use Rattle.std.proofs.lemmas.List.Folds.{flat_map-map}
use Rattle.mlr_spec.specs.Json.{joined}
use Rattle.mlr_spec.specs.JsonGrammar.{text_value}
use Rattle.mlr_spec.specs.Tree.{Tree}
use Rattle.mlr_spec.specs.Pairs.{put_at, value_at}
use Rattle.mlr_event.specs.declared.event.Ctx.{Ctx}
use Rattle.mlr_groups.specs.declared.group_by.GroupBy.{GroupBy}
use Rattle.mlr_groups.specs.declared.group_by.GroupBy.TheVariants.{Others}
use Rattle.mlr_groups.specs.Grouping.{common_in, others, texts_eq}
use Rattle.mlr_groups.proofs.KeyTexts.{texts_eq-Decides}
use Rattle.mlr_groups.proofs.Once as once
use Rattle.text_forms.specs.Shown.{shown}
use Rattle.verbs_base.specs.Records.{Fields, Row, given_after, given_by, records}
use Rattle.verbs_nest.specs.Implode.{imploded, texts_at}
use Rattle.verbs_nest.specs.Nest.{nest, replaced}
use Rattle.verbs_nest.specs.Pieces.{pieces_of}
use Rattle.verbs_nest.specs.declared.nest.Nest.{Nest}
use Rattle.verbs_nest.proofs.Replacing.{value-replaced}
use Rattle.shape_laws.specs.Nest.{AreApart, HasText, evar, exploded_rows, ivar}
use Rattle.shape_laws.proofs.Gathered.{gathered}
use Rattle.shape_laws.proofs.Joining.{joined-pieces, some-pieces}
use Rattle.shape_laws.proofs.Putting.{others-put, put-again, put-same, value-put}

abbrev Texts : Type 0
Texts = List (List ℕ)

text-shown : (text : List ℕ) → shown (text_value text) ≡ text
text-shown [] = refl
text-shown (b ∷ text) = refl

module _ (options : Nest) where
  abbrev name : List ℕ
  name = options.field

  abbrev by : GroupBy
  by = Others (name ∷ [])

  -- the texts that a record with the field has in common with its group
  abbrev own : Row → Texts
  own row = flat_map (λ field. field.0 ∷ shown field.1 ∷ []) (others (name ∷ []) row.0)

  common-found : (fields : Fields) (value : Tree) → value_at name fields ≡ Some value → common_in by fields ≡ Some (flat_map (λ field. field.0 ∷ shown field.1 ∷ []) (others (name ∷ []) fields))
  common-found fields value is = ap (λ found. cond (is_some found && true) (Some (flat_map (λ field. field.0 ∷ shown field.1 ∷ []) (others (name ∷ []) fields))) None) is

  abbrev with_piece : Row → List ℕ → Row
  with_piece row piece = (put_at name (text_value piece) row.0, row.1)

  abbrev pieces_in : Row → List (List ℕ)
  pieces_in row = pieces_of options.separator (option_map_or shown (value_at name row.0) [])

  -- the records that a record becomes, one for each piece
  abbrev piece_rows : Row → List Row
  piece_rows row = map (with_piece row) (pieces_in row)

  common-piece : (row : Row) (piece : List ℕ) → common_in by (with_piece row piece).0 ≡ Some (own row)
  common-piece row piece =
      common-found (put_at name (text_value piece) row.0) (text_value piece) (value-put name (text_value piece) row.0)
      ∙ ap (λ left. Some (flat_map (λ (field : List ℕ × Tree). field.0 ∷ shown field.1 ∷ []) left)) (others-put name (text_value piece) row.0)

  -- taken apart
  pieces-exploded : (row : Row) → HasText name row → (pieces : List (List ℕ))
      → map (λ fields. (fields, row.1)) (map (λ made. replaced name made row.0) (map (λ piece. (name, text_value piece) ∷ []) pieces)) ≡ map (with_piece row) pieces
  pieces-exploded row has [] = refl
  pieces-exploded row has (piece ∷ pieces) =
      ap₂ (λ (fields : Fields) more. (fields, row.1) ∷ more) (value-replaced name (text_value piece) row.0 (ap is_some has.2) has.0) (pieces-exploded row has pieces)

  row-exploded : (row : Row) → HasText name row → map (λ fields. (fields, row.1)) ((nest (evar options)).gives [] row.0) ≡ piece_rows row
  row-exploded row has =
      let (distinct, text, is) = has in
      ap (λ found. map (λ fields. (fields, row.1)) (elim (option_map shown found) as (λ _. List Fields) [
        | Some text ↦ map (λ made. replaced name made row.0) (map (λ piece. (name, text_value piece) ∷ []) (pieces_of options.separator text))
        | None ↦ row.0 ∷ []
      ])) is
      ∙ pieces-exploded row has (pieces_of options.separator (shown (text_value text)))
      ∙ sym (ap (λ found. map (with_piece row) (pieces_of options.separator (option_map_or shown found []))) is)

  rows-exploded : (rows : List Row) → AllByRecursion (HasText name) rows → exploded_rows options rows ≡ flat_map piece_rows rows
  rows-exploded [] have = refl
  rows-exploded (row ∷ rows) have = ap₂ (λ xs ys. xs ++ ys) (row-exploded row have.0) (rows-exploded rows have.1)

  -- put together
  texts-back : (row : Row) (pieces : List (List ℕ)) → texts_at name (map (with_piece row) pieces) ≡ pieces
  texts-back row [] = refl
  texts-back row (piece ∷ pieces) =
      ap₂ (λ text texts. text ∷ texts) (ap (λ found. option_map_or shown found []) (value-put name (text_value piece) row.0) ∙ text-shown piece) (texts-back row pieces)

  row-back : (row : Row) → HasText name row → (ctx : Ctx) → imploded name options.separator (piece_rows row) ctx ≡ row ∷ []
  row-back row has ctx =
      let (distinct, text, is) = has in
      let shows : option_map_or shown (value_at name row.0) [] ≡ text = ap (λ found. option_map_or shown found []) is ∙ text-shown text in
      let (first, more, pieces) = some-pieces options.separator (option_map_or shown (value_at name row.0) []) in
      let begun : Fields = put_at name (text_value first) row.0 in
      ap (λ ps. imploded name options.separator (map (with_piece row) ps) ctx) pieces
      ∙ ap (λ texts. (put_at name (text_value (joined options.separator texts)) begun, row.1) ∷ []) (texts-back row (first ∷ more) ∙ sym pieces)
      ∙ ap (λ t. (put_at name (text_value t) begun, row.1) ∷ []) (joined-pieces options.separator (option_map_or shown (value_at name row.0) []) ∙ shows)
      ∙ ap (λ (fields : Fields). (fields, row.1) ∷ []) (put-again name (text_value text) (text_value first) row.0 ∙ put-same name (text_value text) row.0 is)

  all-back : (rows : List Row) → AllByRecursion (HasText name) rows → (ctx : Ctx) → flat_map (λ row. imploded name options.separator (piece_rows row) ctx) rows ≡ rows
  all-back [] have ctx = refl
  all-back (row ∷ rows) have ctx = ap₂ (λ xs ys. xs ++ ys) (row-back row have.0 ctx) (all-back rows have.1 ctx)

  -- no two records are in one group
  none-own : (row : Row) → HasText name row → (rows : List Row) → AllByRecursion (HasText name) rows
      → ((j : ℕ) (d : Row) → j < length rows → common_in by row.0 ≢ common_in by (slice_index_or rows j d).0)
      → list_any (texts_eq (own row)) (map own rows) ≡ false
  none-own row has [] have differs = refl
  none-own row has (other ∷ rows) have differs =
      or_from (texts_eq (own row) (own other)) (list_any (texts_eq (own row)) (map own rows)) here
      (none-own row has rows have.1 (λ j d below. differs (suc j) d (omega (arith, below))))
    where
      here : texts_eq (own row) (own other) ≡ false
      here = elim (cases_Bool (texts_eq (own row) (own other))) as (λ _. texts_eq (own row) (own other) ≡ false) [
        | inr differ ↦ differ
        | inl same ↦ absurd (differs zero row (omega arith) (
            common-found row.0 (text_value has.1) has.2
            ∙ ap Some ((texts_eq-Decides (own row) (own other)).0 same)
            ∙ sym (common-found other.0 (text_value have.0.1) have.0.2)))
      ]

  own-apart : (rows : List Row) → AllByRecursion (HasText name) rows → AreApart name rows → once.AreApart texts_eq texts_eq-Decides (map own rows)
  own-apart [] have differ = tt
  own-apart (row ∷ rows) have differ = (
    none-own row have.0 rows have.1 (λ j d below. differ zero (suc j) d (omega arith) (omega (arith, below))),
    own-apart rows have.1 (λ i j d less below. differ (suc i) (suc j) d (omega (arith, less)) (omega (arith, below))),
  )

  pub rows-back : (rows : List Row) (ctx : Ctx) → AllByRecursion (HasText name) rows → AreApart name rows → (nest (ivar options)).late (exploded_rows options rows) ctx ≡ rows
  rows-back rows ctx have differ =
      ap (λ given. (nest (ivar options)).late given ctx) (rows-exploded rows have)
      ∙ ap (λ groups. flat_map (λ group. imploded name options.separator group ctx) groups)
      (gathered by own with_piece pieces_in common-piece (λ row. some-pieces options.separator (option_map_or shown (value_at name row.0) [])) rows (own-apart rows have differ))
      ∙ flat_map-map (λ group. imploded name options.separator group ctx) piece_rows rows
      ∙ all-back rows have ctx

  -- before the end none is given
  abbrev given_from : List Fields → List Row → List Fields
  given_from before rows = given_after (nest (ivar options)) before (records rows)

  none-pieces : (before : List Fields) (row : Row) (pieces : List (List ℕ)) (rows : List Row) → ((before : List Fields) → given_from before rows ≡ []) → given_from before (map (with_piece row) pieces ++ rows) ≡ []
  none-pieces before row [] rows none = none before
  none-pieces before row (piece ∷ pieces) rows none =
      let fields : Fields = (with_piece row piece).0 in
      ap (λ common. cond (is_none common) (fields ∷ []) [] ++ given_from (before ++ fields ∷ []) (map (with_piece row) pieces ++ rows)) (common-piece row piece)
      ∙ none-pieces (before ++ fields ∷ []) row pieces rows none

  none-rows : (rows : List Row) (before : List Fields) → given_from before (flat_map piece_rows rows) ≡ []
  none-rows [] before = refl
  none-rows (row ∷ rows) before = none-pieces before row (pieces_in row) (flat_map piece_rows rows) (none-rows rows)

  pub none-given : (rows : List Row) → AllByRecursion (HasText name) rows → given_by (nest (ivar options)) (records (exploded_rows options rows)) ≡ []
  none-given rows have = ap (given_from []) (rows-exploded rows have) ∙ none-rows rows []
