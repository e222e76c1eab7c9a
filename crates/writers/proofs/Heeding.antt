-- What a format ignores has no effect on what is written.
use Rattle.std.proofs.Common.{◌≡◌, Bool, true, false, not, ◌&&◌, ◌||◌, if◌then◌else◌, nat_lt, List, [], ◌∷◌, ◌++◌, length, codes, refl, ap, ap₂, sym, ◌∙◌}
use Rattle.mlr_event.specs.declared.event.Body.{Body}
use Rattle.mlr_event.specs.declared.event.Body.TheVariants.{Rec, Text}
use Rattle.mlr_event.specs.declared.options.Format.{Format}
use Rattle.mlr_event.specs.declared.options.Format.TheVariants.{Csv, Tsv, Json, Jsonl, Dkvp, Nidx, Xtab, Pprint, Markdown}
use Rattle.mlr_spec.specs.Flatten.{flat, unflat}
use Rattle.writers.specs.declared.options.WriteOpts.{WriteOpts}
use Rattle.writers.specs.Before.{records_in}
use Rattle.writers.specs.Cells.{shaped}
use Rattle.writers.specs.Joined.{are_any}
use Rattle.writers.specs.Json.{is_listed}
use Rattle.writers.specs.Pprint.{block_end}
use Rattle.writers.specs.Runs.{Record, line_end_after}
use Rattle.writers.specs.Style.{IsSameStyle, heeded}
use Rattle.writers.specs.Written.{end_text, given, gives, record_text, written}

module _ (fmt : Format) (opts : WriteOpts) where
  abbrev less : WriteOpts
  less = heeded fmt opts

  shaped-less : (r : Record) → shaped less r ≡ shaped opts r
  shaped-less r = by opts.flatten opts.unflatten (nat_lt 0 (length opts.flatsep)) refl
    where
      by : (flattened unflattened some : Bool) → nat_lt 0 (length opts.flatsep) ≡ some
          → (let nested = not flattened && (unflattened && some) in
          let flatsep = if flattened || nested then opts.flatsep else [] in
          if flattened then flat flatsep r else (if nested && nat_lt 0 (length flatsep) then unflat flatsep r else r))
          ≡ (if flattened then flat opts.flatsep r else (if unflattened && some then unflat opts.flatsep r else r))
      by true unflattened some is = refl
      by false true true is = ap (λ t. if t then unflat opts.flatsep r else r) is
      by false true false is = refl
      by false false some is = refl

  records-less : (bodies : List Body) → records_in less bodies ≡ records_in opts bodies
  records-less [] = refl
  records-less (Rec r ∷ bodies) = ap₂ (λ x (xs : List Record). x ∷ xs) (shaped-less r) (records-less bodies)
  records-less (Text text ∷ bodies) = records-less bodies

text-less : (fmt : Format) (opts : WriteOpts) (before : List Record) (r : Record) → record_text fmt (heeded fmt opts) before r ≡ record_text fmt opts before r
text-less Csv opts before r = refl
text-less Tsv opts before r = refl
text-less Json opts before r = refl
text-less Jsonl opts before r = refl
text-less Dkvp opts before r = refl
text-less Nidx opts before r = refl
text-less Xtab opts before r = refl
text-less Pprint opts before r = refl
text-less Markdown opts before r = refl

listed-less : (fmt : Format) (opts : WriteOpts) → is_listed fmt (heeded fmt opts) ≡ is_listed fmt opts
listed-less Csv opts = refl
listed-less Tsv opts = refl
listed-less Json opts = refl
listed-less Jsonl opts = refl
listed-less Dkvp opts = refl
listed-less Nidx opts = refl
listed-less Xtab opts = refl
listed-less Pprint opts = refl
listed-less Markdown opts = refl

end-less : (fmt : Format) (opts : WriteOpts) (bodies : List Body) → end_text fmt (heeded fmt opts) bodies ≡ end_text fmt opts bodies
end-less Csv opts bodies = refl
end-less Tsv opts bodies = refl
end-less Json opts bodies = ap (λ rs. if opts.listwrap then (if are_any rs then line_end_after bodies else codes "[\n") ++ codes "]\n" else []) (records-less Json opts bodies)
end-less Jsonl opts bodies = refl
end-less Dkvp opts bodies = refl
end-less Nidx opts bodies = refl
end-less Xtab opts bodies = refl
end-less Pprint opts bodies = ap (block_end opts) (records-less Pprint opts bodies)
end-less Markdown opts bodies = refl

module _ (opts : WriteOpts) where
  abbrev least : WriteOpts
  least = heeded opts.format opts

  gives-less : (before : List Body) (body : Body) → gives least before body ≡ gives opts before body
  gives-less before (Rec r) =
      ap₂ (record_text opts.format least) (records-less opts.format opts before) (shaped-less opts.format opts r)
      ∙ text-less opts.format opts (records_in opts before) (shaped opts r)
  gives-less before (Text text) = ap (λ listed. (if listed then line_end_after before else []) ++ text) (listed-less opts.format opts)

  given-less : (before bodies : List Body) → given least before bodies ≡ given opts before bodies
  given-less before [] = refl
  given-less before (body ∷ bodies) = ap₂ (λ text more. text ++ more) (gives-less before body) (given-less (before ++ body ∷ []) bodies)

  written-less : (bodies : List Body) (ended : Bool) → written least bodies ended ≡ written opts bodies ended
  written-less bodies ended = ap₂ (λ text more. text ++ (if ended then more else [])) (given-less [] bodies) (end-less opts.format opts bodies)

pub same-style : (opts other : WriteOpts) (bodies : List Body) (ended : Bool) → IsSameStyle opts other → written opts bodies ended ≡ written other bodies ended
same-style opts other bodies ended same = sym (written-less opts bodies ended) ∙ ap (λ o. written o bodies ended) same ∙ written-less other bodies ended
