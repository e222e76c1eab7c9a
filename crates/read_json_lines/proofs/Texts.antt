-- Whether a string is allowed, whatever its text.
use Rattle.std.proofs.Common.{◌≡◌, ℕ, ◌≤◌, ◌<◌, ◌⊎◌, inl, inr, Bool, true, false, cond, List, [], ◌∷◌, length, refl, ap, sym, subst, ◌∙◌}
use Rattle.std.proofs.lemmas.Bool.{le-ltb, lt-ltb, cases_Bool, cases_lt}
use Rattle.mlr_spec.specs.JsonTokens.{text_token}
use Rattle.mlr_json.specs.declared.frame.Frame.{Frame}
use Rattle.mlr_json.specs.declared.frame.Frame.TheVariants.{Array, Map}
use Rattle.mlr_json.specs.declared.frame.Phase.{Phase}
use Rattle.mlr_json.specs.declared.frame.Phase.TheVariants as phase
use Rattle.mlr_json.specs.Machine.{step}
use Rattle.mlr_json.specs.Steps.{is_within, takes_text}
use Rattle.read_json_lines.specs.declared.listing.Listing.{Listing}
use Rattle.read_json_lines.specs.declared.listing.Trouble.{Trouble}
use Rattle.read_json_lines.specs.declared.listing.Trouble.TheVariants.{Syntax, Deep}
use Rattle.read_json_lines.specs.Records.{State, Turn, fails, turn, value_turn, turn_between, other_value}
use Rattle.read_json_lines.specs.Turns.{IsOn}

module _ (list : Listing) (text : List ℕ) where
  on-step : (frames : List Frame) (at : Phase) → length frames ≤ 100 → is_within frames ≡ true → takes_text frames at ≡ true → IsOn (value_turn list (step frames at (text_token text)))
  unfolding step
  on-step [] at small within takes = absurd (let e : false ≡ true = within in cc)
  on-step (Array items ∷ frames) phase.Value small within takes = rw (le-ltb 100 _ small) tt
  on-step (Map pairs key ∷ frames) phase.Value small within takes = rw (le-ltb 100 _ small) tt
  on-step (Array items ∷ frames) phase.FirstItem small within takes = rw (le-ltb 100 _ small) tt
  on-step (Map pairs key ∷ frames) phase.FirstItem small within takes = rw (le-ltb 100 _ small) tt
  on-step (Array items ∷ frames) phase.FirstKey small within takes = absurd (let e : false ≡ true = takes in cc)
  on-step (Map pairs key ∷ frames) phase.FirstKey small within takes = rw (le-ltb 100 _ small) tt
  on-step (Array items ∷ frames) phase.Key small within takes = absurd (let e : false ≡ true = takes in cc)
  on-step (Map pairs key ∷ frames) phase.Key small within takes = rw (le-ltb 100 _ small) tt
  on-step (frame ∷ frames) phase.Colon small within takes = absurd (let e : false ≡ true = takes in cc)
  on-step (frame ∷ frames) phase.Later small within takes = absurd (let e : false ≡ true = takes in cc)

  deep-step : (frames : List Frame) (at : Phase) → 100 < length frames → is_within frames ≡ true → takes_text frames at ≡ true → value_turn list (step frames at (text_token text)) ≡ fails Deep
  unfolding step
  deep-step [] at deep within takes = absurd (let e : false ≡ true = within in cc)
  deep-step (Array items ∷ frames) phase.Value deep within takes = rw (lt-ltb 100 _ deep) refl
  deep-step (Map pairs key ∷ frames) phase.Value deep within takes = rw (lt-ltb 100 _ deep) refl
  deep-step (Array items ∷ frames) phase.FirstItem deep within takes = rw (lt-ltb 100 _ deep) refl
  deep-step (Map pairs key ∷ frames) phase.FirstItem deep within takes = rw (lt-ltb 100 _ deep) refl
  deep-step (Array items ∷ frames) phase.FirstKey deep within takes = absurd (let e : false ≡ true = takes in cc)
  deep-step (Map pairs key ∷ frames) phase.FirstKey deep within takes = rw (lt-ltb 100 _ deep) refl
  deep-step (Array items ∷ frames) phase.Key deep within takes = absurd (let e : false ≡ true = takes in cc)
  deep-step (Map pairs key ∷ frames) phase.Key deep within takes = rw (lt-ltb 100 _ deep) refl
  deep-step (frame ∷ frames) phase.Colon deep within takes = absurd (let e : false ≡ true = takes in cc)
  deep-step (frame ∷ frames) phase.Later deep within takes = absurd (let e : false ≡ true = takes in cc)

  wrong-step : (frames : List Frame) (at : Phase) → is_within frames ≡ true → takes_text frames at ≡ false → value_turn list (step frames at (text_token text)) ≡ fails Syntax
  unfolding step
  wrong-step [] at within takes = absurd (let e : false ≡ true = within in cc)
  wrong-step (frame ∷ frames) phase.Value within takes = absurd (let e : true ≡ false = takes in cc)
  wrong-step (frame ∷ frames) phase.FirstItem within takes = absurd (let e : true ≡ false = takes in cc)
  wrong-step (Array items ∷ frames) phase.FirstKey within takes = refl
  wrong-step (Map pairs key ∷ frames) phase.FirstKey within takes = absurd (let e : true ≡ false = takes in cc)
  wrong-step (Array items ∷ frames) phase.Key within takes = refl
  wrong-step (Map pairs key ∷ frames) phase.Key within takes = absurd (let e : true ≡ false = takes in cc)
  wrong-step (frame ∷ frames) phase.Colon within takes = refl
  wrong-step (frame ∷ frames) phase.Later within takes = refl

module _ (s : State) where
  abbrev turned : List ℕ → Bool → Turn
  turned text within = cond within (value_turn s.list (step s.frames s.phase (text_token text))) (turn_between s (text_token text))

  pub text-on : length s.frames ≤ 100 → is_within s.frames ≡ true → takes_text s.frames s.phase ≡ true → (text : List ℕ) → IsOn (turn s (text_token text))
  text-on small within takes text =
      subst IsOn (sym (ap (turned text) within)) (on-step s.list text s.frames s.phase small within takes)

  pub text-wrong : is_within s.frames ≡ true → takes_text s.frames s.phase ≡ false → (text : List ℕ) → turn s (text_token text) ≡ fails Syntax
  text-wrong within takes text = ap (turned text) within ∙ wrong-step s.list text s.frames s.phase within takes

  pub text-between : is_within s.frames ≡ false → (text : List ℕ) → turn s (text_token text) ≡ fails (other_value s.list)
  text-between between text = ap (turned text) between

  pub text-deep : 100 < length s.frames → is_within s.frames ≡ true → takes_text s.frames s.phase ≡ true → (text : List ℕ) → turn s (text_token text) ≡ fails Deep
  text-deep deep within takes text = ap (turned text) within ∙ deep-step s.list text s.frames s.phase deep within takes

  -- the outcome of a string doesn't depend on its text
  pub text-either : ((text : List ℕ) → IsOn (turn s (text_token text))) ⊎ ((trouble : Trouble) × ((text : List ℕ) → turn s (text_token text) ≡ fails trouble))
  text-either = elim (cases_Bool (is_within s.frames)) [
    | inr between ↦ inr (other_value s.list, text-between between)
    | inl within ↦ elim (cases_Bool (takes_text s.frames s.phase)) [
      | inr wrong ↦ inr (Syntax, text-wrong within wrong)
      | inl takes ↦ elim (cases_lt 100 (length s.frames)) [
        | inl deep ↦ inr (Deep, text-deep deep within takes)
        | inr small ↦ inl (text-on small within takes)
      ]
    ]
  ]
