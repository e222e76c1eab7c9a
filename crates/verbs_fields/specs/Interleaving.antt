-- Two lists as one.
use Rattle.std.specs.Prelude.{◌≡◌, ◌⊎◌, List, [], ◌∷◌}

-- a list is made of two others, which both keep their order
abbrev pub Interleaves : {A : Type 0} → List A → List A → List A → Type 0
Interleaves [] kept others = (kept ≡ []) × (others ≡ [])
Interleaves {A} (x ∷ all) kept others =
    ((rest : List A) × (kept ≡ x ∷ rest) × Interleaves all rest others) ⊎ ((rest : List A) × (others ≡ x ∷ rest) × Interleaves all kept rest)
