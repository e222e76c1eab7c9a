-- The events of each longer file begin with those that its first bytes fix.
use Rattle.std.proofs.Common.{◌≡◌, ℕ, ◌+◌, ◌≤◌, ◌==◌, Bool, false, List, [], ◌∷◌, ◌++◌, length, inl, inr, refl, ap, sym, subst, ◌∙◌, arith}
use Rattle.std.proofs.lemmas.Bool.{cases_Bool, eqb-true}
use Rattle.std.proofs.lemmas.List.{length-append}
use Rattle.mlr_spec.specs.declared.infer.InferOpts.{InferOpts}
use Rattle.mlr_event.specs.declared.event.Ctx.{Ctx}
use Rattle.mlr_event.specs.declared.event.Event.{Event}
use Rattle.mlr_event.specs.declared.names.FileRef.{FileRef}
use Rattle.mlr_event.specs.Reading as reading
use Rattle.mlr_event.specs.Reading.{ctx_after, events_of}
use Rattle.mlr_event.specs.Stream.{has_fault, events_after}
use Rattle.mlr_event.proofs.Streams.{events_of-append}
use Rattle.read_json_lines.specs.declared.listing.Trouble.TheVariants.{Syntax}
use Rattle.read_json_lines.specs.Records.{start_state, fault_of}
use Rattle.read_json_lines.specs.Json.{items_in, file_items}
use Rattle.read_json_lines.specs.Streams.{outside}
use Rattle.read_json_lines.proofs.Marks.{first-other, second-other, third-other, marked}
use Rattle.read_json_lines.proofs.Representing.{marked-nothing}
use Rattle.read_json_lines.proofs.Stays.{IsPrefix, prefix-none, prefix-same, prefix-by, outside-stays}

module _ (whole : Bool) (infer : InferOpts) (file : FileRef) (rest : List ℕ) where
  abbrev Stays : List ℕ → Type 0
  Stays bytes = IsPrefix (file_items false infer file bytes) (file_items whole infer file (bytes ++ rest))

  -- both give the items of the bytes from a place on
  both-from : (bytes text : List ℕ) (end wide : ℕ) → length text ≤ end → wide ≡ end + length rest
      → file_items false infer file bytes ≡ items_in file start_state (outside false infer end text)
      → file_items whole infer file (bytes ++ rest) ≡ items_in file start_state (outside whole infer wide (text ++ rest)) → Stays bytes
  both-from bytes text end wide fits wide_is left right =
      prefix-by (file_items false infer file bytes) (items_in file start_state (outside false infer end text))
      (file_items whole infer file (bytes ++ rest)) (items_in file start_state (outside whole infer wide (text ++ rest)))
      left right (outside-stays whole infer file rest (length text) text end wide (omega arith) fits wide_is start_state)

  both-fault : (bytes : List ℕ) (place : ℕ) → file_items false infer file bytes ≡ reading.fault (fault_of file Syntax place) ∷ [] → file_items whole infer file (bytes ++ rest) ≡ reading.fault (fault_of file Syntax place) ∷ [] → Stays bytes
  both-fault bytes place left right = prefix-same (file_items false infer file bytes) (file_items whole infer file (bytes ++ rest)) (right ∙ sym left)

  none-yet : (bytes : List ℕ) → file_items false infer file bytes ≡ [] → Stays bytes
  none-yet bytes none = prefix-none (file_items false infer file bytes) (file_items whole infer file (bytes ++ rest)) none

  following-two : (t : List ℕ) → Stays (239 ∷ 187 ∷ t)
  following-two [] = none-yet (239 ∷ 187 ∷ []) refl
  following-two (b ∷ t) = elim (cases_Bool (b == 191)) [
    | inl same ↦
        subst (λ x. Stays (239 ∷ 187 ∷ x ∷ t)) (sym (eqb-true b 191 same))
        (both-from (239 ∷ 187 ∷ 191 ∷ t) t (4 + length t) (4 + length (t ++ rest)) (omega arith) (omega (arith, length-append t rest)) (marked false infer file t) (marked whole infer file (t ++ rest)))
    | inr other ↦ both-fault (239 ∷ 187 ∷ b ∷ t) 3 (third-other false infer file b t other) (third-other whole infer file b (t ++ rest) other)
  ]

  following-one : (t : List ℕ) → Stays (239 ∷ t)
  following-one [] = none-yet (239 ∷ []) refl
  following-one (b ∷ t) = elim (cases_Bool (b == 187)) [
    | inl same ↦ subst (λ x. Stays (239 ∷ x ∷ t)) (sym (eqb-true b 187 same)) (following-two t)
    | inr other ↦ both-fault (239 ∷ b ∷ t) 2 (second-other false infer file b t other) (second-other whole infer file b (t ++ rest) other)
  ]

  pub file-stays : (bytes : List ℕ) → Stays bytes
  file-stays [] = none-yet [] (marked-nothing infer file 0 (omega arith))
  file-stays (b ∷ t) = elim (cases_Bool (b == 239)) [
    | inl same ↦ subst (λ x. Stays (x ∷ t)) (sym (eqb-true b 239 same)) (following-one t)
    | inr other ↦
        both-from (b ∷ t) (b ∷ t) (length (b ∷ t) + 1) (length (b ∷ t ++ rest) + 1) (omega arith) (omega (arith, length-append (b ∷ t) rest)) (first-other false infer file b t other) (first-other whole infer file b (t ++ rest) other)
  ]

  pub events-stay : (start : Ctx) (bytes : List ℕ) → (more : List Event) × (events_of start (file_items whole infer file (bytes ++ rest)) ≡ events_of start (file_items false infer file bytes) ++ more)
  events-stay start bytes =
      let items = file_items false infer file bytes in
      let prefix = file-stays bytes in
      (events_after (has_fault items) (ctx_after start items) prefix.0, ap (events_of start) prefix.1 ∙ events_of-append start items prefix.0)
