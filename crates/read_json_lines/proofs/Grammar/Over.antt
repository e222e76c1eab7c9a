-- Within a bracket, the machine takes the same steps when more brackets are open around it.
use Rattle.std.proofs.Common.{◌≡◌, ℕ, List, [], ◌∷◌, ◌++◌, refl}
use Rattle.mlr_spec.specs.declared.json.JsonMark.TheVariants.{BeginMap, EndMap, BeginArray, EndArray, Colon, Comma}
use Rattle.mlr_spec.specs.Tree.{Tree, map_of, array_of}
use Rattle.mlr_spec.specs.Pairs.{put_at}
use Rattle.mlr_spec.specs.JsonTokens.{Token, sign, text_token, word_token}
use Rattle.mlr_spec.specs.JsonGrammar.{text_value}
use Rattle.mlr_json.specs.declared.frame.Frame.{Frame}
use Rattle.mlr_json.specs.declared.frame.Frame.TheVariants.{Array, Map}
use Rattle.mlr_json.specs.declared.frame.Phase.{Phase}
use Rattle.mlr_json.specs.declared.frame.Phase.TheVariants as phase
use Rattle.mlr_json.specs.Machine.{Step, on, whole, wrong, with_value, with_key, map_ended, array_ended, colon_read, comma_read, step_mark, step}

-- within a bracket a value is accepted
pub value-represents : (value : Tree) (f : Frame) (frames : List Frame) → with_value value (f ∷ frames) ≡ wrong → ⊥
value-represents value (Array items) frames e = let x : on (Array (items ++ value ∷ []) ∷ frames) phase.Later ≡ wrong = e in cc
value-represents value (Map pairs key) frames e = let x : on (Map (put_at key value pairs) key ∷ frames) phase.Later ≡ wrong = e in cc

-- a step, with these frames around it
abbrev pub over : List Frame → Step → Step
over outer (on frames at) = on (frames ++ outer) at
over outer (whole value) = with_value value outer
over outer wrong = wrong

module _ (outer : List Frame) where
  over-value : (value : Tree) (frames : List Frame) → with_value value (frames ++ outer) ≡ over outer (with_value value frames)
  over-value value [] = refl
  over-value value (Array items ∷ frames) = refl
  over-value value (Map pairs key ∷ frames) = refl

  over-map_end : (f : Frame) (frames : List Frame) (at : Phase) → map_ended (f ∷ frames ++ outer) at ≡ over outer (map_ended (f ∷ frames) at)
  over-map_end (Array items) frames at = refl
  over-map_end (Map pairs key) frames phase.FirstKey = over-value (map_of pairs) frames
  over-map_end (Map pairs key) frames phase.Later = over-value (map_of pairs) frames
  over-map_end (Map pairs key) frames phase.Value = refl
  over-map_end (Map pairs key) frames phase.FirstItem = refl
  over-map_end (Map pairs key) frames phase.Key = refl
  over-map_end (Map pairs key) frames phase.Colon = refl

  over-array_end : (f : Frame) (frames : List Frame) (at : Phase) → array_ended (f ∷ frames ++ outer) at ≡ over outer (array_ended (f ∷ frames) at)
  over-array_end (Map pairs key) frames at = refl
  over-array_end (Array items) frames phase.FirstItem = over-value (array_of items) frames
  over-array_end (Array items) frames phase.Later = over-value (array_of items) frames
  over-array_end (Array items) frames phase.Value = refl
  over-array_end (Array items) frames phase.FirstKey = refl
  over-array_end (Array items) frames phase.Key = refl
  over-array_end (Array items) frames phase.Colon = refl

  over-open : (f : Frame) (frames : List Frame) (at : Phase) → step_mark (f ∷ frames ++ outer) at BeginMap ≡ over outer (step_mark (f ∷ frames) at BeginMap)
  over-open f frames phase.Value = refl
  over-open f frames phase.FirstItem = refl
  over-open f frames phase.FirstKey = refl
  over-open f frames phase.Key = refl
  over-open f frames phase.Colon = refl
  over-open f frames phase.Later = refl

  over-array : (f : Frame) (frames : List Frame) (at : Phase) → step_mark (f ∷ frames ++ outer) at BeginArray ≡ over outer (step_mark (f ∷ frames) at BeginArray)
  over-array f frames phase.Value = refl
  over-array f frames phase.FirstItem = refl
  over-array f frames phase.FirstKey = refl
  over-array f frames phase.Key = refl
  over-array f frames phase.Colon = refl
  over-array f frames phase.Later = refl

  over-colon : (f : Frame) (frames : List Frame) (at : Phase) → colon_read (f ∷ frames ++ outer) at ≡ over outer (colon_read (f ∷ frames) at)
  over-colon f frames phase.Colon = refl
  over-colon f frames phase.Value = refl
  over-colon f frames phase.FirstItem = refl
  over-colon f frames phase.FirstKey = refl
  over-colon f frames phase.Key = refl
  over-colon f frames phase.Later = refl

  over-comma : (f : Frame) (frames : List Frame) (at : Phase) → comma_read (f ∷ frames ++ outer) at ≡ over outer (comma_read (f ∷ frames) at)
  over-comma (Array items) frames phase.Later = refl
  over-comma (Map pairs key) frames phase.Later = refl
  over-comma f frames phase.Value = refl
  over-comma f frames phase.FirstItem = refl
  over-comma f frames phase.FirstKey = refl
  over-comma f frames phase.Key = refl
  over-comma f frames phase.Colon = refl

  over-key : (key : List ℕ) (f : Frame) (frames : List Frame) → with_key key (f ∷ frames ++ outer) ≡ over outer (with_key key (f ∷ frames))
  over-key key (Array items) frames = refl
  over-key key (Map pairs last) frames = refl

  over-text : (t : List ℕ) (f : Frame) (frames : List Frame) (at : Phase) → step (f ∷ frames ++ outer) at (text_token t) ≡ over outer (step (f ∷ frames) at (text_token t))
  unfolding step
  over-text t f frames phase.Value = over-value (text_value t) (f ∷ frames)
  over-text t f frames phase.FirstItem = over-value (text_value t) (f ∷ frames)
  over-text t f frames phase.FirstKey = over-key t f frames
  over-text t f frames phase.Key = over-key t f frames
  over-text t f frames phase.Colon = refl
  over-text t f frames phase.Later = refl

  over-word : (value : Tree) (f : Frame) (frames : List Frame) (at : Phase) → step (f ∷ frames ++ outer) at (word_token value) ≡ over outer (step (f ∷ frames) at (word_token value))
  unfolding step
  over-word value f frames phase.Value = over-value value (f ∷ frames)
  over-word value f frames phase.FirstItem = over-value value (f ∷ frames)
  over-word value f frames phase.FirstKey = refl
  over-word value f frames phase.Key = refl
  over-word value f frames phase.Colon = refl
  over-word value f frames phase.Later = refl

  pub step-over : (f : Frame) (frames : List Frame) (at : Phase) (t : Token) → step (f ∷ frames ++ outer) at t ≡ over outer (step (f ∷ frames) at t)
  unfolding step
  step-over f frames at (text_token t) = over-text t f frames at
  step-over f frames at (word_token value) = over-word value f frames at
  step-over f frames at (sign BeginMap) = over-open f frames at
  step-over f frames at (sign BeginArray) = over-array f frames at
  step-over f frames at (sign EndMap) = over-map_end f frames at
  step-over f frames at (sign EndArray) = over-array_end f frames at
  step-over f frames at (sign Colon) = over-colon f frames at
  step-over f frames at (sign Comma) = over-comma f frames at
