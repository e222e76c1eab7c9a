-- The tokens of a value are as deep as its maps and arrays.
use Rattle.std.proofs.Common.{◌≡◌, ℕ, zero, suc, ◌+◌, ◌-◌, ◌≤◌, Bool, true, false, cond, List, [], ◌∷◌, ◌++◌, take, refl, ap, sym, subst, ◌∙◌, arith, zero-add}
use Rattle.std.specs.List.{count_by}
use Rattle.std.proofs.lemmas.List.Sums.{sum_by-append}
use Rattle.mlr_spec.specs.declared.json.JsonMark.TheVariants.{BeginMap, EndMap, BeginArray, EndArray, Colon, Comma}
use Rattle.mlr_spec.specs.Tree.{Tree, absent, empty, string, int, fraction, wide, boolean, mapping, array, error, Trees, no_trees, tree_and, Fields, no_fields, field_and}
use Rattle.mlr_spec.specs.JsonTokens.{Token, sign, text_token, word_token}
use Rattle.mlr_spec.specs.JsonGrammar.{tokens_in, member_tokens, later_members, element_tokens, later_elements, is_opening, is_closing, IsShallow}
use Rattle.mlr_value.specs.Depth.{depth, fields_depth, trees_depth}
use Rattle.mlr_json.proofs.GrammarOutcome.{one_if}
use Rattle.mlr_json.proofs.WrittenValues.{syntax_of, members_of, elements_of}

-- the level after a token
abbrev moved : ℕ → Token → ℕ
moved level t = level + one_if (is_opening t) - one_if (is_closing t)

abbrev moved_by : ℕ → List Token → ℕ
moved_by level [] = level
moved_by level (t ∷ tokens) = moved_by (moved level t) tokens

-- from a level on, no token leads below 0 or past the highest level
abbrev Within : ℕ → ℕ → List Token → Type 0
Within level most [] = level ≤ most
Within level most (t ∷ tokens) = (level ≤ most) × (one_if (is_closing t) ≤ level + one_if (is_opening t)) × Within (moved level t) most tokens

record Keeps (level most : ℕ) (tokens : List Token) : Type 0 where
  within : Within level most tokens
  back : moved_by level tokens ≡ level

within-append : (level most : ℕ) (xs ys : List Token) → Within level most xs → Within (moved_by level xs) most ys → Within level most (xs ++ ys)
within-append level most [] ys h k = k
within-append level most (x ∷ xs) ys h k = (h.0, h.1, within-append (moved level x) most xs ys h.2 k)

moved-append : (level : ℕ) (xs ys : List Token) → moved_by level (xs ++ ys) ≡ moved_by (moved_by level xs) ys
moved-append level [] ys = refl
moved-append level (x ∷ xs) ys = moved-append (moved level x) xs ys

keeps-append : (level most : ℕ) (xs ys : List Token) → Keeps level most xs → Keeps level most ys → Keeps level most (xs ++ ys)
keeps-append level most xs ys h k = record {
  within = within-append level most xs ys h.within (subst (λ n. Within n most ys) (sym h.back) k.within);
  back = moved-append level xs ys ∙ ap (λ n. moved_by n ys) h.back ∙ k.back;
}

-- a token that is no bracket
keeps-cons : (level most : ℕ) (t : Token) (tokens : List Token) → is_opening t ≡ false → is_closing t ≡ false → Keeps level most tokens → level ≤ most → Keeps level most (t ∷ tokens)
keeps-cons level most t tokens o c h low =
    let same : moved level t ≡ level = rw (o, c) (omega arith) in
    record {
      within = (low, rw c (omega arith), subst (λ n. Within n most tokens) (sym same) h.within);
      back = ap (λ n. moved_by n tokens) same ∙ h.back;
    }

keeps-nothing : (level most : ℕ) → level ≤ most → Keeps level most []
keeps-nothing level most low = record { within = low; back = refl }

-- brackets round tokens of the next level
enclosed : (level most : ℕ) (left right : Token) (tokens : List Token) → is_opening left ≡ true → is_closing left ≡ false → is_opening right ≡ false → is_closing right ≡ true
    → level + 1 ≤ most → Keeps (level + 1) most tokens → Keeps level most (left ∷ tokens ++ right ∷ [])
enclosed level most left right tokens lo lc ro rc low h =
    let up : moved level left ≡ level + 1 = rw (lo, lc) (omega arith) in
    let down : moved (level + 1) right ≡ level = rw (ro, rc) (omega arith) in
    let last : Within (level + 1) most (right ∷ []) = (low, rw (ro, rc) (omega arith), subst (λ n. n ≤ most) (sym down) (omega arith)) in
    record {
      within = (
        omega arith,
        rw (lo, lc) (omega arith),
        subst (λ n. Within n most (tokens ++ right ∷ [])) (sym up)
            (within-append (level + 1) most tokens (right ∷ []) h.within (subst (λ n. Within n most (right ∷ [])) (sym h.back) last)),
      );
      back = ap (λ n. moved_by n (tokens ++ right ∷ [])) up ∙ moved-append (level + 1) tokens (right ∷ []) ∙ ap (λ n. moved n right) h.back ∙ down;
    }

mutual
  value-keeps : (v : Tree) (level most : ℕ) → level + depth v ≤ most → Keeps level most (tokens_in (syntax_of v))
  value-keeps absent level most h = keeps-cons level most (text_token []) [] refl refl (keeps-nothing level most (omega arith)) (omega arith)
  value-keeps empty level most h = keeps-cons level most (text_token []) [] refl refl (keeps-nothing level most (omega arith)) (omega arith)
  value-keeps (string t) level most h = keeps-cons level most (text_token t) [] refl refl (keeps-nothing level most (omega arith)) (omega arith)
  value-keeps (int n spelling) level most h = keeps-cons level most (word_token _) [] refl refl (keeps-nothing level most (omega arith)) (omega arith)
  value-keeps (fraction t) level most h = keeps-cons level most (word_token _) [] refl refl (keeps-nothing level most (omega arith)) (omega arith)
  value-keeps (wide t) level most h = keeps-cons level most (word_token _) [] refl refl (keeps-nothing level most (omega arith)) (omega arith)
  value-keeps (boolean b) level most h = keeps-cons level most (word_token _) [] refl refl (keeps-nothing level most (omega arith)) (omega arith)
  value-keeps error level most h = keeps-cons level most (text_token []) [] refl refl (keeps-nothing level most (omega arith)) (omega arith)
  value-keeps (mapping pairs) level most h =
      enclosed level most (sign BeginMap) (sign EndMap) (member_tokens (members_of pairs)) refl refl refl refl (omega arith) (members-keep pairs (level + 1) most (omega arith))
  value-keeps (array items) level most h =
      enclosed level most (sign BeginArray) (sign EndArray) (element_tokens (elements_of items)) refl refl refl refl (omega arith) (elements-keep items (level + 1) most (omega arith))

  members-keep : (pairs : Fields) (level most : ℕ) → level + fields_depth pairs ≤ most → Keeps level most (member_tokens (members_of pairs))
  members-keep no_fields level most h = keeps-nothing level most (omega arith)
  members-keep (field_and key value more) level most h =
      keeps-cons level most (text_token key) (sign Colon ∷ tokens_in (syntax_of value) ++ later_members (members_of more)) refl refl
      (keeps-cons level most (sign Colon) (tokens_in (syntax_of value) ++ later_members (members_of more)) refl refl
      (keeps-append level most (tokens_in (syntax_of value)) (later_members (members_of more)) (value-keeps value level most (omega arith)) (later_members-keep more level most (omega arith))) (omega arith)) (omega arith)

  later_members-keep : (pairs : Fields) (level most : ℕ) → level + fields_depth pairs ≤ most → Keeps level most (later_members (members_of pairs))
  later_members-keep no_fields level most h = keeps-nothing level most (omega arith)
  later_members-keep (field_and key value more) level most h =
      keeps-cons level most (sign Comma) (text_token key ∷ sign Colon ∷ tokens_in (syntax_of value) ++ later_members (members_of more)) refl refl
      (keeps-cons level most (text_token key) (sign Colon ∷ tokens_in (syntax_of value) ++ later_members (members_of more)) refl refl
      (keeps-cons level most (sign Colon) (tokens_in (syntax_of value) ++ later_members (members_of more)) refl refl
      (keeps-append level most (tokens_in (syntax_of value)) (later_members (members_of more)) (value-keeps value level most (omega arith)) (later_members-keep more level most (omega arith))) (omega arith)) (omega arith)) (omega arith)

  elements-keep : (items : Trees) (level most : ℕ) → level + trees_depth items ≤ most → Keeps level most (element_tokens (elements_of items))
  elements-keep no_trees level most h = keeps-nothing level most (omega arith)
  elements-keep (tree_and item more) level most h =
      keeps-append level most (tokens_in (syntax_of item)) (later_elements (elements_of more)) (value-keeps item level most (omega arith)) (later_elements-keep more level most (omega arith))

  later_elements-keep : (items : Trees) (level most : ℕ) → level + trees_depth items ≤ most → Keeps level most (later_elements (elements_of items))
  later_elements-keep no_trees level most h = keeps-nothing level most (omega arith)
  later_elements-keep (tree_and item more) level most h =
      keeps-cons level most (sign Comma) (tokens_in (syntax_of item) ++ later_elements (elements_of more)) refl refl
      (keeps-append level most (tokens_in (syntax_of item)) (later_elements (elements_of more)) (value-keeps item level most (omega arith)) (later_elements-keep more level most (omega arith))) (omega arith)

-- ---- the level of each prefix

count-cons : (p : Token → Bool) (t : Token) (tokens : List Token) → count_by p (t ∷ tokens) ≡ one_if (p t) + count_by p tokens
count-cons p t tokens = sum_by-append (λ x. cond (p x) 1 0) (t ∷ []) tokens ∙ ap (λ n. n + count_by p tokens) (zero-add (one_if (p t)))

prefix-level : (tokens : List Token) (level most n : ℕ) → Within level most tokens → count_by is_opening (take n tokens) + level ≤ count_by is_closing (take n tokens) + most
prefix-level [] level most zero h = omega arith
prefix-level [] level most (suc n) h = omega arith
prefix-level (t ∷ tokens) level most zero h = let low : level ≤ most = h.0 in omega arith
prefix-level (t ∷ tokens) level most (suc n) h =
    let later : count_by is_opening (take n tokens) + moved level t ≤ count_by is_closing (take n tokens) + most = prefix-level tokens (moved level t) most n h.2 in
    let o : count_by is_opening (t ∷ take n tokens) ≡ one_if (is_opening t) + count_by is_opening (take n tokens) = count-cons is_opening t (take n tokens) in
    let c : count_by is_closing (t ∷ take n tokens) ≡ one_if (is_closing t) + count_by is_closing (take n tokens) = count-cons is_closing t (take n tokens) in
    let fits : one_if (is_closing t) ≤ level + one_if (is_opening t) = h.1 in
    omega arith

pub value-shallow : (v : Tree) → depth v ≤ 100 → IsShallow (tokens_in (syntax_of v))
value-shallow v h n =
    let low : count_by is_opening (take n (tokens_in (syntax_of v))) + 0 ≤ count_by is_closing (take n (tokens_in (syntax_of v))) + 100 =
    prefix-level (tokens_in (syntax_of v)) 0 100 n (value-keeps v 0 100 (omega arith)).within in
    omega arith
