-- Where a text lies. No public clause cites this module.
use Rattle.std.specs.Prelude.{ℕ, List}
use Rattle.mlr_value.specs.declared.bytes.Room.{Room}
use Rattle.mlr_value.specs.declared.bytes.Room.TheVariants.{Inline, Heap}

abbrev pub text_in : Room → List ℕ
text_in (Inline text) = text
text_in (Heap text) = text.items
