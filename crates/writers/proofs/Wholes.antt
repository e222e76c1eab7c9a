-- What is written of records alone, one after another.
use Rattle.std.proofs.Common.{◌≡◌, ℕ, Bool, true, false, if◌then◌else◌, List, [], ◌∷◌, ◌++◌, map, ap, ap₂, sym, subst, ◌∙◌, append_assoc}
use Rattle.std.proofs.lemmas.List.{append-nil}
use Rattle.mlr_event.specs.declared.event.Body.{Body}
use Rattle.mlr_event.specs.declared.event.Body.TheVariants.{Rec}
use Rattle.mlr_event.specs.declared.options.Format.{Format}
use Rattle.writers.specs.declared.options.WriteOpts.{WriteOpts}
use Rattle.writers.specs.Before.{records_in}
use Rattle.writers.specs.Cells.{shaped}
use Rattle.writers.specs.Runs.{Record}
use Rattle.writers.specs.Written.{end_text, given, record_text, written}
use Rattle.writers.proofs.Bodies.{records-append, records-are}

-- a whole to which each record adds what it gives after those before it
module _ (opts : WriteOpts) (whole : List Record → List ℕ) (grows : (before : List Record) (r : Record) → whole (before ++ r ∷ []) ≡ whole before ++ record_text opts.format opts before r) where
  given-whole : (before : List Body) (rs : List Record) → whole (records_in opts before) ++ given opts before (map Rec rs) ≡ whole (records_in opts (before ++ map Rec rs))
  given-whole before [] = append-nil (whole (records_in opts before)) ∙ ap (λ bodies. whole (records_in opts bodies)) (sym (append-nil before))
  given-whole before (r ∷ rs) =
      let text = record_text opts.format opts (records_in opts before) (shaped opts r) in
      sym (append_assoc (whole (records_in opts before)) text (given opts (before ++ Rec r ∷ []) (map Rec rs)))
      ∙ ap (λ t. t ++ given opts (before ++ Rec r ∷ []) (map Rec rs))
      (sym (ap whole (records-append opts before (Rec r ∷ [])) ∙ grows (records_in opts before) (shaped opts r)))
      ∙ given-whole (before ++ Rec r ∷ []) rs
      ∙ ap (λ bodies. whole (records_in opts bodies)) (append_assoc before (Rec r ∷ []) (map Rec rs))

-- what the end adds, if it has come
abbrev last_text : Format → WriteOpts → Bool → List Body → List ℕ
last_text format opts ended bodies = if ended then end_text format opts bodies else []

abbrev Grows : Format → WriteOpts → (List Record → List ℕ) → Type 0
Grows format opts whole = (before : List Record) (r : Record) → whole (before ++ r ∷ []) ≡ whole before ++ record_text format opts before r

pub written-whole : (format : Format) (opts : WriteOpts) → opts.format ≡ format → (whole : List Record → List ℕ) → whole [] ≡ [] → Grows format opts whole → (rs : List Record) (ended : Bool)
    → written opts (map Rec rs) ended ≡ whole (map (shaped opts) rs) ++ last_text format opts ended (map Rec rs)
written-whole format opts format_is whole none grows rs ended =
    let here = subst (λ f. Grows f opts whole) (sym format_is) grows in
    let given_is : given opts [] (map Rec rs) ≡ whole (map (shaped opts) rs) =
    ap (λ t. t ++ given opts [] (map Rec rs)) (sym none) ∙ given-whole opts whole here [] rs ∙ ap whole (records-are opts rs) in
    ap₂ (λ t f. t ++ last_text f opts ended (map Rec rs)) given_is format_is

-- where the end adds nothing
pub no-end : (ended : Bool) (text : List ℕ) → text ++ (if ended then [] else []) ≡ text
no-end true text = append-nil text
no-end false text = append-nil text
