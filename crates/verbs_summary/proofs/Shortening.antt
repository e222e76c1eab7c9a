-- The short names of fields, and what is kept for each of them, with one more field.
use Rattle.std.proofs.Common.{◌≡◌, ℕ, zero, suc, ◌+◌, ◌<◌, Bool, true, false, not, cond, if◌then◌else◌, List, [], ◌∷◌, ◌++◌, drop, take, length, set, Option, Some, None, get_or, slice_get, refl, ap, sym, subst, ◌∙◌, append_assoc, inl, inr, arith}
use Rattle.std.specs.List.{cons_option, filter, filter_map, flat_map}
use Rattle.std.specs.Str.{bytes_eq}
use Rattle.std.proofs.lemmas.Bool.{cases_Bool, or_parts, true≢false}
use Rattle.std.proofs.lemmas.List.{append-nil, get_or-map, length-map, take_more}
use Rattle.std.proofs.lemmas.List.Elements.{filter_map-append}
use Rattle.std.proofs.lemmas.Slice.Eq.{bytes_eq-Decides}
use Rattle.mlr_event.specs.Reading.{is_among}
use Rattle.mlr_groups.specs.Grouping.{each_once}
use Rattle.mlr_groups.specs.Keys.{entered}
use Rattle.mlr_groups.proofs.Once.{AreApart, any-at, any-once, each_once-apart, each_once-known, each_once-new, eq-swap}
use Rattle.mlr_record.specs.Fields.{pair_of, pairs_of}
use Rattle.mlr_record.specs.declared.record.Field.{Field}
use Rattle.mlr_spec.proofs.Flattening.{drop-more}
use Rattle.mlr_spec.specs.Tree.{Tree}
use Rattle.mlr_stats.specs.Kept.{Summarizes}
use Rattle.mlr_stats.specs.declared.summary.Summary.{Summary}
use Rattle.stat_base.specs.declared.accumulator.Accumulator.{Accumulator}
use Rattle.verbs_base.specs.Choosing.{once}
use Rattle.verbs_base.specs.Records.{Fields}
use Rattle.verbs_summary.specs.KeptOfGroup.{KeepsEach}
use Rattle.verbs_summary.specs.Shortened.{short_names, shortened, value_if_short, values_of_short, without}

-- a name that doesn't hold a text, or that does
pub shortened-next : (texts : List (List ℕ)) (i : ℕ) (text name : List ℕ) → slice_get texts i ≡ Some text → without text name ≡ None → shortened (drop (i + 1) texts) name ≡ shortened (drop i texts) name
shortened-next texts i text name at lacks = sym (ap (λ left. shortened left name) (drop-more texts i text at) ∙ passed (without text name) lacks)
  where
    passed : (o : Option (List ℕ)) → o ≡ None → elim o [ Some short ↦ Some short | None ↦ shortened (drop (i + 1) texts) name ] ≡ shortened (drop (i + 1) texts) name
    passed None is = refl
    passed (Some short) is = absurd (let e : Some short ≡ None = is in cc)

pub shortened-found : (texts : List (List ℕ)) (i : ℕ) (text name short : List ℕ) → slice_get texts i ≡ Some text → without text name ≡ Some short → shortened (drop i texts) name ≡ Some short
shortened-found texts i text name short at holds =
    ap (λ left. shortened left name) (drop-more texts i text at)
    ∙ ap (λ (o : Option (List ℕ)). elim o [ Some short ↦ Some short | None ↦ shortened (drop (i + 1) texts) name ]) holds

once-each : (names : List (List ℕ)) → once names ≡ each_once bytes_eq names
once-each [] = refl
once-each (name ∷ names) = ap (λ left. name ∷ filter (λ other. not (bytes_eq name other)) left) (once-each names)

-- one more name is entered
pub once-entered : (before : List (List ℕ)) (name : List ℕ) → entered (once before) name ≡ once (before ++ name ∷ [])
once-entered before name =
    ap (λ names. entered names name) (once-each before)
    ∙ elim (cases_Bool (is_among (each_once bytes_eq before) name)) as (λ _. entered (each_once bytes_eq before) name ≡ each_once bytes_eq (before ++ name ∷ [])) [
      | inl known ↦
          ap (λ t. cond t (each_once bytes_eq before) (each_once bytes_eq before ++ name ∷ [])) known ∙ sym (each_once-known bytes_eq bytes_eq-Decides before name known)
      | inr new ↦
          ap (λ t. cond t (each_once bytes_eq before) (each_once bytes_eq before ++ name ∷ [])) new ∙ sym (each_once-new bytes_eq bytes_eq-Decides before name new)
    ]
    ∙ sym (once-each (before ++ name ∷ []))

once-apart : (names : List (List ℕ)) → AreApart bytes_eq bytes_eq-Decides (once names)
once-apart names = subst (AreApart bytes_eq bytes_eq-Decides) (sym (once-each names)) (each_once-apart bytes_eq bytes_eq-Decides names)

-- what is kept for each name is as well what is kept in another sense
pub keeps-each : (P Q : List ℕ → Summary → Type 0) (names : List (List ℕ)) (summaries : List Summary) → ((name : List ℕ) (summary : Summary) → P name summary → Q name summary) → KeepsEach P names summaries → KeepsEach Q names summaries
keeps-each P Q [] [] so keeps = tt
keeps-each P Q [] (summary ∷ summaries) so keeps = absurd keeps
keeps-each P Q (name ∷ names) [] so keeps = absurd keeps
keeps-each P Q (name ∷ names) (summary ∷ summaries) so keeps = (so name summary keeps.0, keeps-each P Q names summaries so keeps.1)

module _ (P Q : List ℕ → Summary → Type 0) (short : List ℕ) (other : (name : List ℕ) (summary : Summary) → bytes_eq short name ≡ false → P name summary → Q name summary) where
  keeps-others : (names : List (List ℕ)) (summaries : List Summary) → is_among names short ≡ false → KeepsEach P names summaries → KeepsEach Q names summaries
  keeps-others [] [] none keeps = tt
  keeps-others [] (summary ∷ summaries) none keeps = absurd keeps
  keeps-others (name ∷ names) [] none keeps = absurd keeps
  keeps-others (name ∷ names) (summary ∷ summaries) none keeps =
      let parts = or_parts (bytes_eq short name) (is_among names short) none in
      (other name summary parts.0 keeps.0, keeps-others names summaries parts.1 keeps.1)

  -- what is kept for one name is changed
  keeps-set : (names : List (List ℕ)) (summaries : List Summary) (place : ℕ) (summary : Summary) → AreApart bytes_eq bytes_eq-Decides names → slice_get names place ≡ Some short → KeepsEach P names summaries → Q short summary
      → KeepsEach Q names (set summaries place summary)
  keeps-set [] summaries place summary apart at keeps is = absurd (let e : None ≡ Some short = at in cc)
  keeps-set (name ∷ names) [] place summary apart at keeps is = absurd keeps
  keeps-set (name ∷ names) (old ∷ summaries) zero summary apart at keeps is =
      let e : short ≡ name = cc in
      (subst (λ n. Q n summary) e is, keeps-others names summaries (ap (is_among names) e ∙ apart.0) keeps.1)
  keeps-set (name ∷ names) (old ∷ summaries) (suc place) summary apart at keeps is =
      let there : is_among names short ≡ true = any-at bytes_eq bytes_eq-Decides names place short at in
      (other name old (differs name there apart.0) keeps.0, keeps-set names summaries place summary apart.1 at keeps.1 is)
    where
      differs : (name : List ℕ) → is_among names short ≡ true → is_among names name ≡ false → bytes_eq short name ≡ false
      differs name there none =
          elim (cases_Bool (bytes_eq short name)) as (λ _. bytes_eq short name ≡ false) [
            | inl same ↦ absurd (true≢false (sym there ∙ ap (is_among names) ((bytes_eq-Decides short name).0 same) ∙ none))
            | inr isnt ↦ isnt
          ]

-- one more value is kept for a name
pub keeps-value : (accumulators : List Accumulator) (given : List (List ℕ)) (values : List ℕ → List Tree) (short : List ℕ) (value : Tree) (names : List (List ℕ)) (summaries : List Summary) (place : ℕ) (summary : Summary)
    → names ≡ once given → slice_get names place ≡ Some short → KeepsEach (λ name. Summarizes accumulators (values name)) names summaries → Summarizes accumulators (values short ++ value ∷ []) summary
    → KeepsEach (λ name. Summarizes accumulators (values name ++ (if bytes_eq short name then value ∷ [] else []))) names (set summaries place summary)
keeps-value accumulators given values short value names summaries place summary are at keeps is =
    keeps-set (λ name. Summarizes accumulators (values name)) (λ name. Summarizes accumulators (values name ++ (if bytes_eq short name then value ∷ [] else []))) short
    (λ name summary apart kept. subst (λ vs. Summarizes accumulators vs summary) (sym (ap (λ t. values name ++ cond t (value ∷ []) []) apart ∙ append-nil (values name))) kept)
    names summaries place summary (subst (AreApart bytes_eq bytes_eq-Decides) (sym are) (once-apart given)) at keeps
    (subst (λ vs. Summarizes accumulators vs summary) (sym (ap (λ t. values short ++ cond t (value ∷ []) []) ((bytes_eq-Decides short short).1 refl))) is)

module _ (texts : List (List ℕ)) (before : Fields) (pair : List ℕ × Tree) where
  -- one more field whose name holds one of the texts
  pub names-more : (own : List ℕ) → shortened texts pair.0 ≡ Some own → entered (short_names texts before) own ≡ short_names texts (before ++ pair ∷ [])
  names-more own is =
      let so_far = filter_map (λ (pair : List ℕ × Tree). shortened texts pair.0) before in
      once-entered so_far own
      ∙ ap once (sym (filter_map-append (λ (pair : List ℕ × Tree). shortened texts pair.0) before (pair ∷ []) ∙ ap (λ o. so_far ++ cons_option o []) is))

  pub values-more : (own name : List ℕ) → shortened texts pair.0 ≡ Some own
      → values_of_short texts before name ++ (if bytes_eq own name then pair.1 ∷ [] else []) ≡ values_of_short texts (before ++ pair ∷ []) name
  values-more own name is =
      sym (filter_map-append (value_if_short texts name) before (pair ∷ [])
      ∙ ap (λ (o : Option (List ℕ)). values_of_short texts before name ++ cons_option (elim o [ Some own ↦ (if bytes_eq own name then Some pair.1 else None) | None ↦ None ]) []) is
      ∙ ap (λ vs. values_of_short texts before name ++ vs) (one (bytes_eq own name)))
    where
      one : (t : Bool) → cons_option (cond t (Some pair.1) None) [] ≡ cond t (pair.1 ∷ []) []
      one true = refl
      one false = refl

  -- one more field whose name holds none
  pub names-same : shortened texts pair.0 ≡ None → short_names texts before ≡ short_names texts (before ++ pair ∷ [])
  names-same is =
      let so_far = filter_map (λ (pair : List ℕ × Tree). shortened texts pair.0) before in
      ap once (sym (filter_map-append (λ (pair : List ℕ × Tree). shortened texts pair.0) before (pair ∷ []) ∙ ap (λ o. so_far ++ cons_option o []) is ∙ append-nil so_far))

  pub values-same : (name : List ℕ) → shortened texts pair.0 ≡ None → values_of_short texts before name ≡ values_of_short texts (before ++ pair ∷ []) name
  values-same name is =
      sym (filter_map-append (value_if_short texts name) before (pair ∷ [])
      ∙ ap (λ (o : Option (List ℕ)). values_of_short texts before name ++ cons_option (elim o [ Some own ↦ (if bytes_eq own name then Some pair.1 else None) | None ↦ None ]) []) is
      ∙ append-nil (values_of_short texts before name))

-- a new short name has no values
pub no-values : (texts : List (List ℕ)) (fields : Fields) (short : List ℕ) → is_among (short_names texts fields) short ≡ false → values_of_short texts fields short ≡ []
no-values texts fields short none =
    nothing fields (sym (any-once bytes_eq bytes_eq-Decides short (shorts fields)) ∙ ap (λ names. is_among names short) (sym (once-each (shorts fields))) ∙ none)
  where
    shorts : Fields → List (List ℕ)
    shorts fields = filter_map (λ (pair : List ℕ × Tree). shortened texts pair.0) fields

    here : (pair : List ℕ × Tree) (fields : Fields) (o : Option (List ℕ)) → (is_among (shorts fields) short ≡ false → values_of_short texts fields short ≡ []) → is_among (cons_option o (shorts fields)) short ≡ false
        → cons_option (elim o [ Some own ↦ (if bytes_eq own short then Some pair.1 else None) | None ↦ None ]) (values_of_short texts fields short) ≡ []
    here pair fields None so none = so none
    here pair fields (Some own) so none =
        let parts = or_parts (bytes_eq short own) (is_among (shorts fields) short) none in
        ap (λ t. cons_option (cond t (Some pair.1) None) (values_of_short texts fields short)) (eq-swap bytes_eq bytes_eq-Decides own short ∙ parts.0)
        ∙ so parts.1

    nothing : (fields : Fields) → is_among (shorts fields) short ≡ false → values_of_short texts fields short ≡ []
    nothing [] none = refl
    nothing (pair ∷ fields) none = here pair fields (shortened texts pair.0) (nothing fields) none

-- a name that made the list longer wasn't among the names
pub not-among : (names : List (List ℕ)) (name : List ℕ) → length names < length (entered names name) → is_among names name ≡ false
not-among names name longer =
    elim (cases_Bool (is_among names name)) as (λ _. is_among names name ≡ false) [
      | inl known ↦ absurd (omega (arith, longer, ap (λ t. length (cond t names (names ++ name ∷ []))) known))
      | inr new ↦ new
    ]

-- the fields so far with one more
pub fields-more : (fields : List Field) (i : ℕ) (field : Field) → i < length fields → field ≡ get_or fields i field → take (i + 1) (pairs_of fields) ≡ take i (pairs_of fields) ++ pair_of field ∷ []
fields-more fields i field below is =
    take_more (pairs_of fields) i (pair_of field) (omega (arith, below, length-map fields pair_of))
    ∙ ap (λ pair. take i (pairs_of fields) ++ pair ∷ []) (get_or-map pair_of fields i field (pair_of field) below ∙ ap pair_of (sym is))

-- what is made for one name and for those after it
pub made-next : (made : List ℕ → Fields) (names : List (List ℕ)) (i : ℕ) (name : List ℕ) (into after : Fields) → slice_get names i ≡ Some name → after ≡ into ++ made name
    → after ++ flat_map made (drop (i + 1) names) ≡ into ++ flat_map made (drop i names)
made-next made names i name into after at is =
    let rest = flat_map made (drop (i + 1) names) in
    ap (λ fields. fields ++ rest) is
    ∙ append_assoc into (made name) rest
    ∙ ap (λ names. into ++ flat_map made names) (sym (drop-more names i name at))
