-- Without grouping fields all records are one group: `cat` may pass each record as it is, and `head` closes.
use Rattle.std.proofs.Common.{◌≡◌, ℕ, pos, ◌+◌, ◌≤◌, nat_le, nat_lt, true, false, not, if◌then◌else◌, List, [], ◌∷◌, ◌++◌, length, Option, Some, None, cond, refl, ap, sym, ◌∙◌, subst, arith}
use Rattle.std.specs.Prelude.{is_none}
use Rattle.std.proofs.lemmas.Bool.{and_parts, not-true}
use Rattle.std.proofs.lemmas.List.{length-append}
use Rattle.mlr_spec.specs.Tree.{int}
use Rattle.mlr_spec.specs.Pairs.{remove_at}
use Rattle.mlr_groups.specs.Grouping.{members}
use Rattle.mlr_groups.specs.declared.group_by.GroupBy.TheVariants.{Texts}
use Rattle.mlr_groups.specs.Tallying.{capped}
use Rattle.verbs_base.specs.Laws.{shuts-early}
use Rattle.verbs_base.specs.Records.{Fields, StaysShut}
use Rattle.verbs_state.specs.declared.cat.Cat.{Cat}
use Rattle.verbs_state.specs.declared.head.Head.{Head}
use Rattle.verbs_state.specs.Cat.{cat_gives, is_plain, numbered}
use Rattle.verbs_state.specs.Counted.{earlier}
use Rattle.verbs_state.specs.Head.{head, head_closed, head_gives}

pub one-group : (records : List Fields) → members (Texts []) [] records ≡ records
one-group [] = refl
one-group (fields ∷ records) = ap (λ more. fields ∷ more) (one-group records)

pub no-names : (groups : Option (List (List ℕ))) → is_none groups ≡ true → groups ≡ None
no-names None is = refl
no-names (Some names) is = absurd (let e : false ≡ true = is in cc)

-- `cat` without options gives each record as it is
pub plain-gives : (options : Cat) → is_plain options ≡ true → (before : List Fields) (fields : Fields) → cat_gives options before fields ≡ fields ∷ []
plain-gives options is before fields =
    let parts = and_parts (not options.number) (is_none options.groups) is in
    let n = capped (length (members (Texts []) [] before)) in
    ap (λ groups. elim (earlier groups before fields) [ Some earlier ↦ numbered options earlier fields ∷ [] | None ↦ [] ]) (no-names options.groups parts.1)
    ∙ ap (λ b. (if b then (options.name, int (pos (capped (n + 1))) []) ∷ remove_at options.name fields else fields) ∷ []) (not-true options.number parts.0)

abbrev passed : ℕ → Fields → Option ℕ → List Fields
passed count fields o = elim o [ Some n ↦ (if nat_lt n count then fields ∷ [] else []) | None ↦ [] ]

-- `head` without grouping fields gives a record if there are fewer records before it
pub ungrouped-gives : (options : Head) → is_none options.groups ≡ true → (before : List Fields) (fields : Fields) → head_gives options before fields ≡ (if nat_lt (capped (length before)) options.count then fields ∷ [] else [])
ungrouped-gives options is before fields =
    ap (λ groups. passed options.count fields (earlier groups before fields)) (no-names options.groups is)
    ∙ ap (λ records. if nat_lt (capped (length records)) options.count then fields ∷ [] else []) (one-group before)

grows : (xs ys : List Fields) → length xs ≤ length (xs ++ ys)
grows xs ys = subst (λ n. length xs ≤ n) (sym (length-append xs ys)) (omega arith)

beyond : (count m n : ℕ) → m ≤ n → nat_le count (capped m) ≡ true → nat_lt (capped n) count ≡ false
beyond count m n le is = grind (arith)

-- a closed `head` gives nothing more
closed-gives : (options : Head) (before following : List Fields) (fields : Fields) → head_closed options before ≡ true → head_gives options (before ++ following) fields ≡ []
closed-gives options before following fields is =
    let parts = and_parts (is_none options.groups) (nat_le options.count (capped (length before))) is in
    ungrouped-gives options parts.0 (before ++ following) fields
    ∙ ap (λ b. cond b (fields ∷ []) []) (beyond options.count (length before) (length (before ++ following)) (grows before following) parts.1)

pub head-shuts : (options : Head) → StaysShut (head options)
head-shuts options = shuts-early (head_gives options) (head_closed options) (closed-gives options)
