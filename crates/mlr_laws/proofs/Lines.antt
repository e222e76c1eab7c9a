-- The lines of a text of lines, without the byte order mark.
use Rattle.std.proofs.Common.{◌≡◌, ℕ, eqb, Bool, true, false, ◌&&◌, List, [], ◌∷◌, ◌++◌, take, refl, ap, ◌∙◌, append_assoc}
use Rattle.std.specs.List.{flat_map}
use Rattle.std.specs.Str.{bytes_eq}
use Rattle.std.proofs.lemmas.Bool.{not-true}
use Rattle.mlr_lines.specs.Lines.{begun_after, begun_line, ended_after, ended_lines, without_mark}
use Rattle.mlr_laws.specs.Sheets.{is_unmarked}
use Rattle.mlr_laws.proofs.Bytes.{begun-rows, ended-rows, text_of_lines}

-- a text whose first line doesn't begin with the mark doesn't either
no-mark : (line rest : List ℕ) → is_unmarked line ≡ true → bytes_eq (take 3 (line ++ 10 ∷ rest)) (239 ∷ 187 ∷ 191 ∷ []) ≡ false
no-mark [] rest none = refl
no-mark (a ∷ []) rest none = first a (eqb a 239)
  where
    first : (a : ℕ) (t : Bool) → (t && false) ≡ false
    first a true = refl
    first a false = refl
no-mark (a ∷ b ∷ []) rest none = second (eqb a 239) (eqb b 187)
  where
    second : (t u : Bool) → (t && (u && false)) ≡ false
    second true true = refl
    second true false = refl
    second false u = refl
no-mark (a ∷ b ∷ c ∷ line) rest none = not-true _ none

unmarked : (line : List ℕ) (lines : List (List ℕ)) → is_unmarked line ≡ true → without_mark (text_of_lines (line ∷ lines)) ≡ text_of_lines (line ∷ lines)
unmarked line lines none =
    let all = text_of_lines (line ∷ lines) in
    let shape : all ≡ line ++ 10 ∷ text_of_lines lines = append_assoc line (10 ∷ []) (text_of_lines lines) in
    let isnt : bytes_eq (take 3 all) (239 ∷ 187 ∷ 191 ∷ []) ≡ false = ap (λ text. bytes_eq (take 3 text) (239 ∷ 187 ∷ 191 ∷ [])) shape ∙ no-mark line (text_of_lines lines) none in
    rw isnt refl

pub lines-ended : (row : List ℕ) (rows : List (List ℕ)) → is_unmarked row ≡ true → ended_lines (text_of_lines (row ∷ rows)) ≡ flat_map (λ row. ended_after [] (row ++ 10 ∷ [])) (row ∷ rows)
lines-ended row rows none = ap (ended_after []) (unmarked row rows none) ∙ ended-rows (row ∷ rows)

pub line-begun : (row : List ℕ) (rows : List (List ℕ)) → is_unmarked row ≡ true → begun_line (text_of_lines (row ∷ rows)) ≡ []
line-begun row rows none = ap (begun_after []) (unmarked row rows none) ∙ begun-rows (row ∷ rows)
