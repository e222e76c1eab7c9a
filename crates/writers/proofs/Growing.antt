-- What is written grows as more records and texts come.
use Rattle.std.proofs.Common.{◌≡◌, ℕ, Bool, true, false, if◌then◌else◌, List, [], ◌∷◌, ◌++◌, refl, ap, ap₂, sym, ◌∙◌, append_assoc}
use Rattle.std.proofs.lemmas.List.{append-nil}
use Rattle.mlr_event.specs.declared.event.Body.{Body}
use Rattle.writers.specs.declared.options.WriteOpts.{WriteOpts}
use Rattle.writers.specs.declared.writer.Writer.{Writer}
use Rattle.mlr_event.specs.Adding.{Adds}
use Rattle.writers.specs.Represents.{Represents, run_of}
use Rattle.writers.specs.Running as running
use Rattle.writers.specs.Running.{after, run_after, start}
use Rattle.writers.specs.Written.{end_text, given, gives, written}
use Rattle.writers.proofs.Histories.{end-is, gives-is}

module _ (opts : WriteOpts) where
  -- those before a record or a text, and it, before the others
  pub with-next : (before : List Body) (body : Body) (bodies : List Body) → (before ++ body ∷ []) ++ bodies ≡ before ++ body ∷ bodies
  with-next before body bodies = append_assoc before (body ∷ []) bodies

  pub given-append : (before bodies more : List Body) → given opts before (bodies ++ more) ≡ given opts before bodies ++ given opts (before ++ bodies) more
  given-append before [] more = ap (λ t. given opts t more) (sym (append-nil before))
  given-append before (body ∷ bodies) more =
      let text = gives opts before body in
      let later = given opts (before ++ body ∷ []) bodies in
      ap (λ t. text ++ t) (given-append (before ++ body ∷ []) bodies more ∙ ap (λ t. later ++ given opts t more) (with-next before body bodies))
      ∙ sym (append_assoc text later (given opts (before ++ body ∷ bodies) more))

  abbrev ending : Bool → List Body → List ℕ
  ending ended bodies = if ended then end_text opts.format opts bodies else []

  pub written-append : (bodies more : List Body) (ended : Bool)
      → written opts (bodies ++ more) ended ≡ written opts bodies false ++ (given opts bodies more ++ ending ended (bodies ++ more))
  written-append bodies more ended =
      let prefix = given opts [] bodies in
      let rest = given opts bodies more in
      ap (λ t. t ++ ending ended (bodies ++ more)) (given-append [] bodies more)
      ∙ append_assoc prefix rest (ending ended (bodies ++ more))
      ∙ ap (λ t. t ++ (rest ++ ending ended (bodies ++ more))) (sym (append-nil prefix))

  run-append : (run : running.Run) (bodies more : List Body) → run_after opts run (bodies ++ more) ≡ run_after opts (run_after opts run bodies) more
  run-append run [] more = refl
  run-append run (body ∷ bodies) more = run-append (after opts run body) bodies more

  -- a record or a text more
  module _ (old new : Writer) (body : Body) (into following : List ℕ) (run_is : run_of new.state ≡ after old.opts (run_of old.state) body)
      (text_is : following ≡ into ++ running.gives old.opts (run_of old.state) body) (opts_is : new.opts ≡ old.opts) (bodies : List Body) (represents : Represents opts old bodies) where
    pub represents-more : Represents opts new (bodies ++ body ∷ [])
    represents-more = record {
      options = opts_is ∙ represents.options;
      run = run_is ∙ ap₂ (λ o run. after o run body) represents.options represents.run ∙ sym (run-append start bodies (body ∷ []));
    }

    pub adds-more : Adds into following (written opts bodies false) (written opts (bodies ++ body ∷ []) false)
    adds-more =
        let text = gives opts bodies body in (
          text,
          written-append bodies (body ∷ []) false ∙ ap (λ t. written opts bodies false ++ t) (append-nil (text ++ []) ∙ append-nil text),
          text_is ∙ ap₂ (λ o run. into ++ running.gives o run body) represents.options represents.run ∙ ap (λ t. into ++ t) (gives-is opts bodies body),
        )

  -- the end
  pub adds-end : (old : Writer) (into following : List ℕ) → following ≡ into ++ running.end_text old.opts.format old.opts (run_of old.state) → (bodies : List Body) → Represents opts old bodies
      → Adds into following (written opts bodies false) (written opts bodies true)
  adds-end old into following text_is bodies represents =
      let last = end_text opts.format opts bodies in (
        last,
        ap (λ t. t ++ last) (sym (append-nil (given opts [] bodies))),
        text_is ∙ ap₂ (λ (o : WriteOpts) run. into ++ running.end_text o.format o run) represents.options represents.run ∙ ap (λ t. into ++ t) (end-is opts bodies),
      )
