-- Two lists that grow by the same elements.
use Rattle.std.specs.Prelude.{◌≡◌, List, ◌++◌}

-- `new` extends `old` by the same elements by which `to` extends `from`
abbrev pub Adds : {A : Type 0} → List A → List A → List A → List A → Type 0
Adds {A} old new before after = (more : List A) × (after ≡ before ++ more) × (new ≡ old ++ more)
