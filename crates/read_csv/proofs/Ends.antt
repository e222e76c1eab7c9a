-- The CR before a line ending.
use Rattle.std.proofs.Common.{◌≡◌, ℕ, suc, ◌-◌, false, cond, eqb, List, [], ◌∷◌, ◌++◌, length, take, drop, get_or, ◌⊎◌, refl, ap, ap₂, sym, subst, ◌∙◌, append_assoc, arith, inl, inr}
use Rattle.std.specs.Option.{option_map}
use Rattle.std.proofs.Math.Seq.{drop-append_seam, drop-length}
use Rattle.std.proofs.lemmas.Bool.{cases_Bool}
use Rattle.std.proofs.lemmas.Bool.Decides.{nat_tests}
use Rattle.mlr_lines.specs.Lines.{without_return}
use Rattle.read_csv.specs.Csv.{quoted_at}
use Rattle.read_csv.specs.Rules.{line_end}
use Rattle.read_csv.proofs.Opening.{after_text, quoted-open, quoted-other}

abbrev cut_at : ℕ → List ℕ → List ℕ
cut_at k line = cond (eqb (get_or line k 0) 13) (take k line) line

cut_at-cons : (k a : ℕ) (line : List ℕ) → cut_at (suc k) (a ∷ line) ≡ a ∷ cut_at k line
cut_at-cons k a line =
    elim (cases_Bool (eqb (get_or line k 0) 13)) as (λ _. cut_at (suc k) (a ∷ line) ≡ a ∷ cut_at k line) [
      | inl here ↦ ap (λ t. cond t (a ∷ take k line) (a ∷ line)) here ∙ sym (ap (λ t. a ∷ cond t (take k line) line) here)
      | inr other ↦ ap (λ t. cond t (a ∷ take k line) (a ∷ line)) other ∙ sym (ap (λ t. a ∷ cond t (take k line) line) other)
    ]

return-cons : (a b : ℕ) (line : List ℕ) → without_return (a ∷ b ∷ line) ≡ a ∷ without_return (b ∷ line)
return-cons a b line =
    let e : length (a ∷ b ∷ line) - 1 ≡ suc (length (b ∷ line) - 1) = omega arith in
    ap (λ k. cut_at k (a ∷ b ∷ line)) e ∙ cut_at-cons (length (b ∷ line) - 1) a (b ∷ line)

-- only the last line of several lines loses its CR
pub return-following : (prefix line : List ℕ) → without_return (prefix ++ 10 ∷ line) ≡ prefix ++ 10 ∷ without_return line
return-following [] [] = refl
return-following [] (b ∷ line) = return-cons 10 b line
return-following (a ∷ []) line = return-cons a 10 line ∙ ap (λ t. a ∷ t) (return-following [] line)
return-following (a ∷ c ∷ prefix) line = return-cons a c (prefix ++ 10 ∷ line) ∙ ap (λ t. a ∷ t) (return-following (c ∷ prefix) line)

-- a line is either without a CR at its end, or is the rest and that CR
return-parts : (line : List ℕ) → (without_return line ≡ line) ⊎ (line ≡ without_return line ++ 13 ∷ [])
return-parts [] = inl refl
return-parts (b ∷ []) =
    elim (cases_Bool (eqb b 13)) as (λ _. (without_return (b ∷ []) ≡ b ∷ []) ⊎ (b ∷ [] ≡ without_return (b ∷ []) ++ 13 ∷ [])) [
      | inl here ↦
          let same : b ≡ 13 = grind (arith, nat_tests) in
          inr (ap (λ c. c ∷ []) same ∙ sym (ap (λ t. cond t [] (b ∷ []) ++ 13 ∷ []) here))
      | inr other ↦ inl (ap (λ t. cond t [] (b ∷ [])) other)
    ]
return-parts (a ∷ b ∷ line) =
    elim (return-parts (b ∷ line)) as (λ _. (without_return (a ∷ b ∷ line) ≡ a ∷ b ∷ line) ⊎ (a ∷ b ∷ line ≡ without_return (a ∷ b ∷ line) ++ 13 ∷ [])) [
      | inl same ↦ inl (return-cons a b line ∙ ap (λ t. a ∷ t) same)
      | inr cut ↦ inr (ap (λ t. a ∷ t) cut ∙ ap (λ t. t ++ 13 ∷ []) (sym (return-cons a b line)))
    ]

abbrev IsEnd : List ℕ → Type 0
IsEnd end = (more : List ℕ) → quoted_at (end ++ more) ≡ option_map (after_text end) (quoted_at more)

byte-end : (b : ℕ) (more : List ℕ) → eqb b 34 ≡ false → quoted_at (b ∷ more) ≡ option_map (after_text (b ∷ [])) (quoted_at more)
byte-end b more other = quoted-open (b ∷ []) more (quoted-other b [] other)

feed-end : IsEnd (10 ∷ [])
feed-end = λ more. byte-end 10 more refl

return-end : IsEnd (13 ∷ 10 ∷ [])
return-end = λ more. quoted-open (13 ∷ 10 ∷ []) more refl

-- a line's ending is its CR, if there is one, and LF; it contains no quote
pub line_end-is : (line : List ℕ) → (without_return line ++ line_end line ≡ line ++ 10 ∷ []) × IsEnd (line_end line)
line_end-is line =
    elim (return-parts line) as (λ _. (without_return line ++ line_end line ≡ line ++ 10 ∷ []) × IsEnd (line_end line)) [
      | inl same ↦
          let rest : drop (length (without_return line)) line ≡ [] = ap (λ t. drop (length t) line) same ∙ drop-length line in
          let end : line_end line ≡ 10 ∷ [] = ap (λ t. t ++ 10 ∷ []) rest in
          (ap₂ (λ t e. t ++ e) same end, subst IsEnd (sym end) feed-end)
      | inr cut ↦
          let rest : drop (length (without_return line)) line ≡ 13 ∷ [] = ap (drop (length (without_return line))) cut ∙ drop-append_seam (without_return line) (13 ∷ []) in
          let end : line_end line ≡ 13 ∷ 10 ∷ [] = ap (λ t. t ++ 10 ∷ []) rest in (
            ap (λ e. without_return line ++ e) end ∙ sym (append_assoc (without_return line) (13 ∷ []) (10 ∷ [])) ∙ ap (λ t. t ++ 10 ∷ []) (sym cut),
            subst IsEnd (sym end) return-end,
          )
    ]
