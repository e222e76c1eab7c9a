-- The text of a string that is being read.
use Rattle.std.proofs.Common.{◌≡◌, ℕ, List, [], ◌∷◌, ◌++◌, Option, Some, None, refl, ap, sym, ◌∙◌}
use Rattle.mlr_spec.specs.JsonTokens.{Piece, raw, decoded}
use Rattle.mlr_json.specs.declared.string.StringBuilder.{StringBuilder}
use Rattle.mlr_json.specs.Decoding.{Holds, pending}
use Rattle.read_json_lines.specs.Streams.{text_after}

-- the builder holds the text so far, and a surrogate that waits for its pair
pub pieces_so_far : StringBuilder → List Piece
pieces_so_far builder = raw builder.text ∷ pending builder.high

pub holds-so-far : (builder : StringBuilder) → Holds builder (pieces_so_far builder)
unfolding pieces_so_far
holds-so-far builder = record { decodes = λ rest. refl }

pending-nil : (high : Option ℕ) → pending high ++ [] ≡ pending high
pending-nil None = refl
pending-nil (Some u) = refl

pub so-far-decoded : (builder : StringBuilder) → decoded (pieces_so_far builder) ≡ text_after builder []
unfolding pieces_so_far
so-far-decoded builder = ap (λ p. builder.text ++ decoded p) (sym (pending-nil builder.high))

-- one more piece
pub piece-pushed : (old new : StringBuilder) (p : Piece) → ((pieces : List Piece) → Holds old pieces → Holds new (pieces ++ p ∷ [])) → (more : List Piece) → text_after old (p ∷ more) ≡ text_after new more
unfolding pieces_so_far
piece-pushed old new p pushed more =
    ap (λ q. old.text ++ decoded q) (pending-push old.high) ∙ (pushed (pieces_so_far old) (holds-so-far old)).decodes more
  where
    pending-push : (high : Option ℕ) → pending high ++ (p ∷ more) ≡ (pending high ++ p ∷ []) ++ more
    pending-push None = refl
    pending-push (Some u) = refl

-- a string without pieces
pub nothing-held : (builder : StringBuilder) → Holds builder [] → (more : List Piece) → text_after builder more ≡ decoded more
nothing-held builder holds more = sym (holds.decodes more)
