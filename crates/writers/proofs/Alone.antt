-- Texts without records.
use Rattle.std.proofs.Common.{◌≡◌, ℕ, Bool, true, false, if◌then◌else◌, List, [], ◌∷◌, ◌++◌, codes, map, refl, ap, ap₂, sym, ◌∙◌}
use Rattle.std.specs.List.{flat_map}
use Rattle.std.proofs.lemmas.List.{append-nil, map-append}
use Rattle.mlr_event.specs.declared.event.Body.{Body}
use Rattle.mlr_event.specs.declared.event.Body.TheVariants.{Rec, Text}
use Rattle.mlr_event.specs.declared.options.Format.{Format}
use Rattle.mlr_event.specs.declared.options.Format.TheVariants.{Csv, Tsv, Json, Jsonl, Dkvp, Nidx, Xtab, Pprint, Markdown}
use Rattle.writers.specs.declared.options.WriteOpts.{WriteOpts}
use Rattle.writers.specs.Before.{records_in}
use Rattle.writers.specs.Json.{is_listed}
use Rattle.writers.specs.Joined.{are_any}
use Rattle.writers.specs.Runs.{line_end_after}
use Rattle.writers.specs.Pprint.{block_end}
use Rattle.writers.specs.Written.{end_text, given, written}

module _ (opts : WriteOpts) where
  -- after texts no line end is missing, and no record came
  none-missing : (texts : List (List ℕ)) → line_end_after (map Text texts) ≡ []
  none-missing [] = refl
  none-missing (text ∷ []) = refl
  none-missing (text ∷ next ∷ texts) = none-missing (next ∷ texts)

  no-records : (texts : List (List ℕ)) → records_in opts (map Text texts) ≡ []
  no-records [] = refl
  no-records (text ∷ texts) = no-records texts

  nothing-first : (listed : Bool) (text : List ℕ) → (if listed then [] else []) ++ text ≡ text
  nothing-first true text = refl
  nothing-first false text = refl

  texts-given : (before texts : List (List ℕ)) → given opts (map Text before) (map Text texts) ≡ flat_map (λ (text : List ℕ). text) texts
  texts-given before [] = refl
  texts-given before (text ∷ texts) =
      let listed = is_listed opts.format opts in
      ap₂ (λ (t more : List ℕ). t ++ more)
      (ap (λ t. (if listed then t else []) ++ text) (none-missing before) ∙ nothing-first listed text)
      (ap (λ b. given opts b (map Text texts)) (sym (map-append Text before (text ∷ []))) ∙ texts-given (before ++ text ∷ []) texts)

  pub texts-alone : (texts : List (List ℕ)) → written opts (map Text texts) false ≡ flat_map (λ (text : List ℕ). text) texts
  texts-alone texts = append-nil (given opts [] (map Text texts)) ∙ texts-given [] texts

  -- the end of a list of no records; nothing in any other format
  abbrev brackets : Bool → List ℕ
  brackets listed = if listed then codes "[\n]\n" else []

  end-alone : (fmt : Format) (texts : List (List ℕ)) → end_text fmt opts (map Text texts) ≡ brackets (is_listed fmt opts)
  end-alone Csv texts = refl
  end-alone Tsv texts = refl
  end-alone Json texts =
      ap (λ rs. if opts.listwrap then (if are_any rs then line_end_after (map Text texts) else codes "[\n") ++ codes "]\n" else []) (no-records texts)
  end-alone Jsonl texts = refl
  end-alone Dkvp texts = refl
  end-alone Nidx texts = refl
  end-alone Xtab texts = refl
  end-alone Pprint texts = ap (block_end opts) (no-records texts)
  end-alone Markdown texts = refl

  pub texts-ended : (texts : List (List ℕ)) → written opts (map Text texts) true ≡ flat_map (λ (text : List ℕ). text) texts ++ brackets (is_listed opts.format opts)
  texts-ended texts = ap₂ (λ (text more : List ℕ). text ++ more) (texts-given [] texts) (end-alone opts.format texts)
