-- The key of a list of texts: one text, and different lists have different keys.
use Rattle.std.specs.Prelude.{ℕ, if◌then◌else◌, nat_eq, List, [], ◌∷◌, ◌++◌}
use Rattle.mlr_event.specs.Reading.{is_among}

-- a text with a 1 after each byte 0
abbrev pub escaped : List ℕ → List ℕ
escaped [] = []
escaped (byte ∷ text) = if nat_eq byte 0 then 0 ∷ 1 ∷ escaped text else byte ∷ escaped text

-- the texts, each followed by 0 0
abbrev pub key_of : List (List ℕ) → List ℕ
key_of [] = []
key_of (text ∷ texts) = escaped text ++ 0 ∷ 0 ∷ key_of texts

-- the keys with one more, which is added at the end if it is new
abbrev pub entered : List (List ℕ) → List ℕ → List (List ℕ)
entered keys key = if is_among keys key then keys else keys ++ key ∷ []
