-- Records and texts: the records among them, and the line end that is missing after them in a list.
use Rattle.std.proofs.Common.{◌≡◌, ℕ, false, true≢false, if◌then◌else◌, List, [], ◌∷◌, ◌++◌, map, refl, ap}
use Rattle.mlr_event.specs.declared.event.Body.{Body}
use Rattle.mlr_event.specs.declared.event.Body.TheVariants.{Rec, Text}
use Rattle.writers.specs.declared.options.WriteOpts.{WriteOpts}
use Rattle.writers.specs.Before.{records_in}
use Rattle.writers.specs.Cells.{shaped}
use Rattle.writers.specs.Joined.{are_any}
use Rattle.writers.specs.Runs.{Record, line_end_after}

pub any-line_end : (bodies : List Body) → (if are_any (line_end_after bodies) then 10 ∷ [] else []) ≡ line_end_after bodies
any-line_end [] = refl
any-line_end (Rec r ∷ []) = refl
any-line_end (Text text ∷ []) = refl
any-line_end (body ∷ next ∷ bodies) = any-line_end (next ∷ bodies)

pub after-text : (before : List Body) (text : List ℕ) → line_end_after (before ++ Text text ∷ []) ≡ []
after-text [] text = refl
after-text (body ∷ []) text = refl
after-text (body ∷ next ∷ bodies) text = after-text (next ∷ bodies) text

pub after-record : (before : List Body) (r : Record) → line_end_after (before ++ Rec r ∷ []) ≡ 10 ∷ []
after-record [] r = refl
after-record (body ∷ []) r = refl
after-record (body ∷ next ∷ bodies) r = after-record (next ∷ bodies) r

module _ (opts : WriteOpts) where
  pub records-append : (before more : List Body) → records_in opts (before ++ more) ≡ records_in opts before ++ records_in opts more
  records-append [] more = refl
  records-append (Rec r ∷ before) more = ap (λ rs. shaped opts r ∷ rs) (records-append before more)
  records-append (Text text ∷ before) more = records-append before more

  pub records-are : (rs : List Record) → records_in opts (map Rec rs) ≡ map (shaped opts) rs
  records-are [] = refl
  records-are (r ∷ rs) = ap (λ more. shaped opts r ∷ more) (records-are rs)

  -- no line end is missing where there was no record
  pub none-missing : (bodies : List Body) → are_any (records_in opts bodies) ≡ false → line_end_after bodies ≡ []
  none-missing [] none = refl
  none-missing (Rec r ∷ bodies) none = absurd (true≢false none)
  none-missing (Text text ∷ []) none = refl
  none-missing (Text text ∷ next ∷ bodies) none = none-missing (next ∷ bodies) none
