-- A text among records and texts.
use Rattle.std.proofs.Common.{◌≡◌, ℕ, Bool, true, false, if◌then◌else◌, List, [], ◌∷◌, ◌++◌, codes, refl, ap, ap₂, sym, ◌∙◌, append_assoc}
use Rattle.std.proofs.lemmas.List.{append-nil}
use Rattle.mlr_event.specs.declared.event.Body.{Body}
use Rattle.mlr_event.specs.declared.event.Body.TheVariants.{Rec, Text}
use Rattle.mlr_event.specs.declared.options.Format.{Format}
use Rattle.mlr_event.specs.declared.options.Format.TheVariants.{Json, Pprint}
use Rattle.writers.specs.declared.options.WriteOpts.{WriteOpts}
use Rattle.writers.specs.Before.{records_in}
use Rattle.writers.specs.Cells.{shaped}
use Rattle.writers.specs.Joined.{are_any}
use Rattle.writers.specs.Json.{is_listed}
use Rattle.writers.specs.Pprint.{block_end}
use Rattle.writers.specs.Runs.{Record, line_end_after, wants_line_end}
use Rattle.writers.specs.Written.{end_text, given, gives, record_text, written}
use Rattle.writers.proofs.Bodies.{after-record, after-text, none-missing, records-append}
use Rattle.writers.proofs.Growing.{with-next, written-append}

-- the end of a list or of none, after the records before it and the line end that is missing
abbrev list_end : Bool → List Record → List ℕ → List ℕ
list_end listed rs line_end = if listed then (if are_any rs then line_end else codes "[\n") ++ codes "]\n" else []

module _ (opts : WriteOpts) where
  -- what is written after others, with the end or before it
  abbrev pub rest : Bool → List Body → List Body → List ℕ
  rest ended before following = given opts before following ++ (if ended then end_text opts.format opts (before ++ following) else [])

  -- the first of what follows, and the rest of it
  rest-next : (ended : Bool) (before : List Body) (body : Body) (following : List Body)
      → rest ended before (body ∷ following) ≡ gives opts before body ++ rest ended (before ++ body ∷ []) following
  rest-next ended before body following =
      let text = gives opts before body in
      let later = given opts (before ++ body ∷ []) following in
      ap (λ t. (text ++ later) ++ (if ended then end_text opts.format opts t else [])) (sym (with-next opts before body following))
      ∙ append_assoc text later (if ended then end_text opts.format opts ((before ++ body ∷ []) ++ following) else [])

  -- the line end that is missing, in a list
  abbrev line_end : List Body → List ℕ
  line_end before = if is_listed opts.format opts then line_end_after before else []

  written-text : (ended : Bool) (before following : List Body) (text : List ℕ)
      → written opts (before ++ Text text ∷ following) ended
      ≡ ((written opts before false ++ line_end before) ++ text) ++ rest ended (before ++ Text text ∷ []) following
  written-text ended before following text =
      let prefix = written opts before false in
      let more = rest ended (before ++ Text text ∷ []) following in
      written-append opts before (Text text ∷ following) ended
      ∙ ap (λ t. prefix ++ t) (rest-next ended before (Text text) following)
      ∙ sym (append_assoc prefix (line_end before ++ text) more)
      ∙ ap (λ t. t ++ more) (sym (append_assoc prefix (line_end before) text))

  -- what follows is written by the records before and the line end that is missing
  record Alike (before others : List Body) : Type 0 where
    pub records : records_in opts before ≡ records_in opts others
    pub line_ends : line_end before ≡ line_end others

  alike-next : (before others : List Body) (body : Body) → records_in opts before ≡ records_in opts others → Alike (before ++ body ∷ []) (others ++ body ∷ [])
  alike-next before others body same = record {
    records = records-append opts before (body ∷ []) ∙ ap (λ rs. rs ++ records_in opts (body ∷ [])) same ∙ sym (records-append opts others (body ∷ []));
    line_ends = ap (λ t. if is_listed opts.format opts then t else []) (by body);
  }
    where
      by : (body : Body) → line_end_after (before ++ body ∷ []) ≡ line_end_after (others ++ body ∷ [])
      by (Rec r) = after-record before r ∙ sym (after-record others r)
      by (Text text) = after-text before text ∙ sym (after-text others text)

  records-text : (before : List Body) (text : List ℕ) → records_in opts before ≡ records_in opts (before ++ Text text ∷ [])
  records-text before text = sym (records-append opts before (Text text ∷ []) ∙ append-nil (records_in opts before))

  alike-gives : (before others : List Body) (body : Body) → Alike before others → gives opts before body ≡ gives opts others body
  alike-gives before others (Rec r) alike = ap (λ rs. record_text opts.format opts rs (shaped opts r)) alike.records
  alike-gives before others (Text text) alike = ap (λ t. t ++ text) alike.line_ends

  end-alike : (f : Format) (before others : List Body) → records_in opts before ≡ records_in opts others
      → (if is_listed f opts then line_end_after before else []) ≡ (if is_listed f opts then line_end_after others else []) → end_text f opts before ≡ end_text f opts others
  end-alike Json before others records line_ends = by opts.listwrap line_ends
    where
      by : (listed : Bool) → (if listed then line_end_after before else []) ≡ (if listed then line_end_after others else []) → list_end listed (records_in opts before) (line_end_after before) ≡ list_end listed (records_in opts others) (line_end_after others)
      by true same = ap₂ (list_end true) records same
      by false same = refl
  end-alike Pprint before others records line_ends = ap (block_end opts) records
  end-alike _ before others records line_ends = refl

  alike-rest : (ended : Bool) (following before others : List Body) → Alike before others → rest ended before following ≡ rest ended others following
  alike-rest false [] before others alike = refl
  alike-rest true [] before others alike =
      ap (end_text opts.format opts) (append-nil before)
      ∙ end-alike opts.format before others alike.records alike.line_ends
      ∙ sym (ap (end_text opts.format opts) (append-nil others))
  alike-rest ended (body ∷ following) before others alike =
      rest-next ended before body following
      ∙ ap₂ (λ text more. text ++ more) (alike-gives before others body alike)
      (alike-rest ended following (before ++ body ∷ []) (others ++ body ∷ []) (alike-next before others body alike.records))
      ∙ sym (rest-next ended others body following)

  -- a text outside a list
  not-listed : (f : Format) → (f ≡ Json → opts.listwrap ≡ false) → is_listed f opts ≡ false
  not-listed Json bare = bare refl
  not-listed _ bare = refl

  module _ (bare : opts.format ≡ Json → opts.listwrap ≡ false) (ended : Bool) (before following : List Body) (text : List ℕ) where
    no-line_end : (bodies : List Body) → line_end bodies ≡ []
    no-line_end bodies = ap (λ listed. if listed then line_end_after bodies else []) (not-listed opts.format bare)

    pub text-among : written opts (before ++ Text text ∷ following) ended ≡ (written opts before false ++ text) ++ rest ended before following
    text-among =
        let prefix = written opts before false in
        written-text ended before following text
        ∙ ap₂ (λ line_end more. ((prefix ++ line_end) ++ text) ++ more) (no-line_end before)
        (sym (alike-rest ended following before (before ++ Text text ∷ []) (record { records = records-text before text; line_ends = no-line_end before ∙ sym (no-line_end (before ++ Text text ∷ [])) })))
        ∙ ap (λ t. (t ++ text) ++ rest ended before following) (append-nil prefix)

  -- a text in a JSON list
  module _ (format_is : opts.format ≡ Json) (listed : opts.listwrap ≡ true) (ended : Bool) (before : List Body) (text : List ℕ) where
    abbrev within : List Body
    within = before ++ Text text ∷ []

    listed-line_end : (bodies : List Body) → line_end bodies ≡ line_end_after bodies
    listed-line_end bodies = ap (λ l. if l then line_end_after bodies else []) (ap (λ f. is_listed f opts) format_is ∙ listed)

    end-is : (bodies : List Body) → end_text opts.format opts bodies ≡ list_end true (records_in opts bodies) (line_end_after bodies)
    end-is bodies = ap (λ f. end_text f opts bodies) format_is ∙ ap (λ l. list_end l (records_in opts bodies) (line_end_after bodies)) listed

    end-split : end_text opts.format opts before ≡ line_end_after before ++ end_text opts.format opts within
    end-split =
        end-is before
        ∙ by (are_any (records_in opts before)) (none-missing opts before)
        ∙ ap₂ (λ rs t. line_end_after before ++ list_end true rs t) (records-text before text) (sym (after-text before text))
        ∙ sym (ap (λ t. line_end_after before ++ t) (end-is within))
      where
        by : (any : Bool) → (any ≡ false → line_end_after before ≡ []) → (if any then line_end_after before else codes "[\n") ++ codes "]\n" ≡ line_end_after before ++ ((if any then [] else codes "[\n") ++ codes "]\n")
        by true none = refl
        by false none = sym (ap (λ t. t ++ codes "[\n]\n") (none refl))

    -- what follows writes the line end that is missing, or doesn't
    rest-split : (following : List Body) → rest ended before following ≡ (if wants_line_end following ended then line_end_after before else []) ++ rest ended within following
    rest-split [] = by ended
      where
        by : (ended : Bool) → (if ended then end_text opts.format opts (before ++ []) else [])
            ≡ (if ended then line_end_after before else []) ++ (if ended then end_text opts.format opts (within ++ []) else [])
        by true =
            ap (end_text opts.format opts) (append-nil before) ∙ end-split ∙ ap (λ t. line_end_after before ++ end_text opts.format opts t) (sym (append-nil within))
        by false = refl
    rest-split (Rec r ∷ following) =
        rest-next ended before (Rec r) following
        ∙ ap₂ (λ rs more. record_text opts.format opts rs (shaped opts r) ++ more) (records-text before text)
        (alike-rest ended following (before ++ Rec r ∷ []) (within ++ Rec r ∷ []) (alike-next before within (Rec r) (records-text before text)))
        ∙ sym (rest-next ended within (Rec r) following)
    rest-split (Text other ∷ following) =
        let more = rest ended (within ++ Text other ∷ []) following in
        rest-next ended before (Text other) following
        ∙ ap₂ (λ t more. (t ++ other) ++ more) (listed-line_end before)
        (alike-rest ended following (before ++ Text other ∷ []) (within ++ Text other ∷ []) (alike-next before within (Text other) (records-text before text)))
        ∙ append_assoc (line_end_after before) other more
        ∙ ap (λ t. line_end_after before ++ ((t ++ other) ++ more)) (sym (listed-line_end within ∙ after-text before text))
        ∙ ap (λ t. line_end_after before ++ t) (sym (rest-next ended within (Text other) following))

    pub list-without : (following : List Body)
        → written opts (before ++ following) ended ≡ (written opts before false ++ (if wants_line_end following ended then line_end_after before else [])) ++ rest ended within following
    list-without following =
        let prefix = written opts before false in
        written-append opts before following ended
        ∙ ap (λ t. prefix ++ t) (rest-split following)
        ∙ sym (append_assoc prefix (if wants_line_end following ended then line_end_after before else []) (rest ended within following))

    pub list-with : (following : List Body) → written opts (before ++ Text text ∷ following) ended ≡ ((written opts before false ++ line_end_after before) ++ text) ++ rest ended within following
    list-with following = written-text ended before following text ∙ ap (λ t. ((written opts before false ++ t) ++ text) ++ rest ended within following) (listed-line_end before)
