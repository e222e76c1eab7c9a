-- Names that are seen one after another, each once.
use Rattle.std.proofs.Common.{◌+◌, ◌<◌, drop, length, get_or, arith, ◌≡◌, ℕ, not, cond, List, [], ◌∷◌, ◌++◌, map, refl, ap, sym, ◌∙◌, inl, inr, append_assoc}
use Rattle.std.specs.List.{filter, flat_map, fold}
use Rattle.std.specs.Str.{bytes_eq}
use Rattle.std.proofs.lemmas.Bool.{cases_Bool}
use Rattle.std.proofs.lemmas.Grind.{flat_map-append}
use Rattle.std.proofs.lemmas.List.{append-nil, get_or-map, length-map}
use Rattle.std.proofs.lemmas.Slice.Eq.{bytes_eq-Decides}
use Rattle.mlr_event.specs.Reading.{is_among}
use Rattle.mlr_event.proofs.Naming.{at-place}
use Rattle.mlr_groups.specs.Grouping.{each_once}
use Rattle.mlr_groups.specs.Keys.{entered}
use Rattle.mlr_groups.proofs.Once.{each_once-known, each_once-new}
use Rattle.mlr_record.specs.Fields.{pairs_of}
use Rattle.mlr_record.specs.declared.record.Field.{Field}
use Rattle.mlr_spec.specs.Pairs.{keys_of}
use Rattle.verbs_base.specs.Choosing.{once}
use Rattle.verbs_base.specs.Records.{Row}
use Rattle.verbs_hold.specs.Unsparsify.{all_names}

pub once-each : (names : List (List ℕ)) → once names ≡ each_once bytes_eq names
once-each [] = refl
once-each (name ∷ names) = ap (λ left. name ∷ filter (λ other. not (bytes_eq name other)) left) (once-each names)

-- one more name is entered
once-entered : (before : List (List ℕ)) (name : List ℕ) → entered (once before) name ≡ once (before ++ name ∷ [])
once-entered before name =
    ap (λ names. entered names name) (once-each before)
    ∙ elim (cases_Bool (is_among (each_once bytes_eq before) name)) as (λ _. entered (each_once bytes_eq before) name ≡ each_once bytes_eq (before ++ name ∷ [])) [
      | inl known ↦
          ap (λ t. cond t (each_once bytes_eq before) (each_once bytes_eq before ++ name ∷ [])) known ∙ sym (each_once-known bytes_eq bytes_eq-Decides before name known)
      | inr new ↦
          ap (λ t. cond t (each_once bytes_eq before) (each_once bytes_eq before ++ name ∷ [])) new ∙ sym (each_once-new bytes_eq bytes_eq-Decides before name new)
    ]
    ∙ sym (once-each (before ++ name ∷ []))

all-entered : (before names : List (List ℕ)) → fold entered (once before) names ≡ once (before ++ names)
all-entered before [] = ap once (sym (append-nil before))
all-entered before (name ∷ names) =
    ap (λ now. fold entered now names) (once-entered before name)
    ∙ all-entered (before ++ name ∷ []) names
    ∙ ap once (append_assoc before (name ∷ []) names)

-- the names of one more record are entered
pub names-more : (rows : List Row) (row : Row) → fold entered (all_names rows) (keys_of row.0) ≡ all_names (rows ++ row ∷ [])
names-more rows row =
    all-entered (flat_map (λ row. keys_of row.0) rows) (keys_of row.0)
    ∙ ap once (sym (flat_map-append (λ (row : Row). keys_of row.0) rows (row ∷ []) ∙ ap (λ names. flat_map (λ (row : Row). keys_of row.0) rows ++ names) (append-nil (keys_of row.0))))

-- the names of the fields from a place on
pub keys-next : (fields : List Field) (i : ℕ) (field : Field) → i < length fields → field ≡ get_or fields i field → drop i (keys_of (pairs_of fields)) ≡ field.name ∷ drop (i + 1) (keys_of (pairs_of fields))
keys-next fields i field below is =
    let name_of = λ (field : Field). field.name in
    ap (drop i) (keys-map fields)
    ∙ at-place (map name_of fields) i field.name (omega (arith, below, length-map fields name_of)) (ap name_of is ∙ sym (get_or-map name_of fields i field field.name below))
    ∙ ap (λ names. field.name ∷ drop (i + 1) names) (sym (keys-map fields))
  where
    keys-map : (fields : List Field) → keys_of (pairs_of fields) ≡ map (λ (field : Field). field.name) fields
    keys-map [] = refl
    keys-map (field ∷ fields) = ap (λ names. field.name ∷ names) (keys-map fields)
