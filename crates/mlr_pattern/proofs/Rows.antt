-- Worked examples of the definitions.
use Rattle.std.proofs.Common.{◌≡◌, codes, true, false, List, ℕ, [], ◌∷◌, refl}
use Rattle.mlr_pattern.specs.Word.{shed, is_either_case}
use Rattle.mlr_pattern.specs.Weight.{weight}
use Rattle.mlr_pattern.specs.Replacing.{filled}

quoted_word : shed (codes "\"abc\"") ≡ codes "abc"
quoted_word = refl

either_case_word : shed (codes "\"abc\"i") ≡ codes "abc"
either_case_word = refl

either_case_flag : is_either_case (codes "\"abc\"i") ≡ true
either_case_flag = refl

empty_word : shed (codes "\"\"") ≡ []
empty_word = refl

lone_quote : shed (codes "\"") ≡ codes "\""
lone_quote = refl

lone_quote_i : is_either_case (codes "\"i") ≡ false
lone_quote_i = refl

plain_weight : weight (codes "a|b") ≡ 3
plain_weight = refl

repeated_weight : weight (codes "a{2,50}b{3}") ≡ 3300
repeated_weight = refl

zero_weight : weight (codes "a{0,x}") ≡ 6
zero_weight = refl

-- the texts of the groups in the examples: `<` and the number of the group
groups : ℕ → List ℕ
groups n = 60 ∷ n ∷ []

groups_filled : filled groups (codes "a\\1\\0") ≡ 97 ∷ 60 ∷ 1 ∷ 60 ∷ 0 ∷ []
unfolding groups
groups_filled = refl

other_escapes : filled groups (codes "\\n\\\\") ≡ codes "\\n\\\\"
unfolding groups
other_escapes = refl
