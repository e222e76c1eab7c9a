-- JSON: records are one list, or one after another.
use Rattle.std.proofs.Common.{◌≡◌, ℕ, Bool, true, false, if◌then◌else◌, List, [], ◌∷◌, ◌++◌, map, codes, refl, ap, sym, ◌∙◌, append_assoc}
use Rattle.std.specs.List.{flat_map}
use Rattle.std.proofs.lemmas.List.{append-nil, map-append}
use Rattle.mlr_event.specs.declared.event.Body.{Body}
use Rattle.mlr_event.specs.declared.event.Body.TheVariants.{Rec}
use Rattle.mlr_spec.specs.Json.{joined, json_record}
use Rattle.writers.specs.declared.options.WriteOpts.{WriteOpts}
use Rattle.writers.specs.Before.{records_in}
use Rattle.writers.specs.Cells.{shaped}
use Rattle.writers.specs.Joined.{are_any}
use Rattle.writers.specs.Json.{json_end, json_written, list_lead, style_of}
use Rattle.writers.specs.Runs.{Record, line_end_after, list_begun, list_of}
use Rattle.writers.proofs.Lines.{lines-grow}
use Rattle.writers.proofs.Separated.{joined-append}

list-grows : (item : Record → List ℕ) (before : List Record) (r : Record) → list_begun item (before ++ r ∷ []) ≡ list_begun item before ++ (list_lead before ++ item r)
list-grows item [] r = refl
list-grows item (first ∷ before) r =
    ap (λ texts. codes "[\n" ++ joined (codes ",\n") texts) (map-append item (first ∷ before) (r ∷ []))
    ∙ ap (λ t. codes "[\n" ++ t) (joined-append (codes ",\n") (map item (first ∷ before)) (item r))
    ∙ sym (append_assoc (codes "[\n") (joined (codes ",\n") (map item (first ∷ before))) (codes ",\n" ++ item r))

last-record : (r : Record) (rs : List Record) → line_end_after (map Rec (r ∷ rs)) ≡ 10 ∷ []
last-record r [] = refl
last-record r (next ∷ rs) = last-record next rs

module _ (opts : WriteOpts) where
  abbrev item : Record → List ℕ
  item r = json_record (style_of opts) r

  pub listed-grows : opts.listwrap ≡ true → (before : List Record) (r : Record) → list_begun item (before ++ r ∷ []) ≡ list_begun item before ++ json_written opts before r
  listed-grows listed before r =
      list-grows item before r
      ∙ ap (λ l. list_begun item before ++ (if l then list_lead before ++ item r else item r ++ 10 ∷ [])) (sym listed)

  pub bare-grows : opts.listwrap ≡ false → (before : List Record) (r : Record)
      → flat_map (λ r. item r ++ 10 ∷ []) (before ++ r ∷ []) ≡ flat_map (λ r. item r ++ 10 ∷ []) before ++ json_written opts before r
  bare-grows bare before r =
      lines-grow (λ r. item r ++ 10 ∷ []) before r
      ∙ ap (λ l. flat_map (λ r. item r ++ 10 ∷ []) before ++ (if l then list_lead before ++ item r else item r ++ 10 ∷ [])) (sym bare)

  -- a list that has begun, and its end
  pub list-ends : opts.listwrap ≡ true → (rs : List Record) → list_begun item (map (shaped opts) rs) ++ json_end opts (map Rec rs) ≡ list_of item (map (shaped opts) rs)
  list-ends listed [] = ap (λ l. if l then codes "[\n]\n" else []) listed
  list-ends listed (r ∷ rs) =
      let begun = list_begun item (map (shaped opts) (r ∷ rs)) in
      ap (λ l. begun ++ (if l then line_end_after (map Rec (r ∷ rs)) ++ codes "]\n" else [])) listed
      ∙ ap (λ t. begun ++ (t ++ codes "]\n")) (last-record r rs)

  -- without a list the end adds nothing
  pub bare-ends : opts.listwrap ≡ false → (ended : Bool) (text : List ℕ) (bodies : List Body) → text ++ (if ended then json_end opts bodies else []) ≡ text
  bare-ends bare true text bodies =
      ap (λ l. text ++ (if l then (if are_any (records_in opts bodies) then line_end_after bodies else codes "[\n") ++ codes "]\n" else [])) bare ∙ append-nil text
  bare-ends bare false text bodies = append-nil text
