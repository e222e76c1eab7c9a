-- The states of groups in the order of their counts, and what the first of them give.
use Rattle.std.proofs.Common.{◌≡◌, ℕ, zero, suc, Bool, true, false, cond, List, [], ◌∷◌, ◌++◌, length, take, Option, Some, None, refl, ap, ap₂, sym, subst, ◌∙◌, append_assoc, arith}
use Rattle.std.specs.List.{flat_map}
use Rattle.std.specs.Cmp.{IsTotalOrder}
use Rattle.std.specs.Ordering.{is_lt}
use Rattle.std.specs.declared.cmp.Ordering.{Ordering}
use Rattle.std.proofs.lemmas.Cmp.{back_total, nat_cmp_total}
use Rattle.std.proofs.lemmas.List.{append-nil, map-append}
use Rattle.mlr_event.specs.declared.event.Ctx.{Ctx}
use Rattle.mlr_event.specs.declared.event.Event.{Event}
use Rattle.mlr_event.specs.declared.event.Event.TheVariants as event
use Rattle.mlr_groups.specs.declared.group_by.GroupBy.{GroupBy}
use Rattle.mlr_groups.specs.declared.group_by.GroupBy.TheVariants.{Texts}
use Rattle.mlr_value.specs.declared.bytes.Bytes.{Bytes}
use Rattle.mlr_sort.specs.InOrder.{in_order, insert_first}
use Rattle.verbs_base.specs.Records.{Row, events_of}
use Rattle.group_state.specs.AtEnd.{GivesAtEnd, at_end}
use Rattle.group_state.specs.Represents.{EachHolds}
use Rattle.verbs_count.specs.Frequent.{by_count, by_number, frequent, frequent_rows}
use Rattle.verbs_count.specs.GroupCount.{GroupHolds, counted_group, group_gives}
use Rattle.verbs_count.specs.declared.frequent.Frequent.{Frequent}
use Rattle.verbs_count.specs.declared.group_counts.GroupCount.{GroupCount}

-- any two counts compare
pub count-total : (least : Bool) → IsTotalOrder (by_count least)
count-total true = nat_cmp_total
count-total false = back_total nat_cmp_total

-- the verb of these options, where the counts have this name, or none
pub frequent-of : (least : Bool) (options : Frequent) (output : Option Bytes) (by : GroupBy) (late : List Row → Ctx → List Row) → output ≡ cond options.brief None (Some options.output) → by ≡ Texts options.names
    → late ≡ (λ group ctx. (counted_group (record { groups = options.names; output = output }) group, ctx) ∷ [])
    → at_end (frequent_rows least options.count by late) ≡ frequent least options
frequent-of least options output by late named same gives =
    (λ i. at_end (frequent_rows least options.count (same i) (gives i)))
    ∙ (λ i. at_end (frequent_rows least options.count (Texts options.names) (λ group ctx. (counted_group (record { groups = options.names; output = named i }) group, ctx) ∷ [])))

-- a list of length 0
pub none-left : {A : Type 0} (xs : List A) → length xs ≡ 0 → xs ≡ []
none-left [] none = refl
none-left (x ∷ xs) none = absurd (omega arith)

module _ {S : Type 0} (gives : S → List Row → Ctx → List Row) (holds : S → List Row → Type 0) (late : List Row → Ctx → List Row) where
  -- the first states hold the first groups
  pub each-take : (n : ℕ) (states : List S) (groups : List (List Row)) → EachHolds gives holds late states groups → EachHolds gives holds late (take n states) (take n groups)
  each-take zero states groups each = tt
  each-take (suc n) [] [] each = tt
  each-take (suc n) [] (group ∷ groups) each = absurd each
  each-take (suc n) (state ∷ states) [] each = absurd each
  each-take (suc n) (state ∷ states) (group ∷ groups) each = (each.0, each.1, each-take n states groups each.2)

  -- states that compare as the groups that they hold
  module _ (cmp : S → S → Ordering) (cmp_2 : List Row → List Row → Ordering) (agree : (x y : S) (group other : List Row) → holds x group → holds y other → cmp x y ≡ cmp_2 group other) where
    each-insert : (x : S) (group : List Row) (states : List S) (groups : List (List Row)) → gives x ≡ late → holds x group → EachHolds gives holds late states groups
        → EachHolds gives holds late (insert_first cmp x states) (insert_first cmp_2 group groups)
    each-insert x group [] [] same held each = (same, held, tt)
    each-insert x group [] (other ∷ groups) same held each = absurd each
    each-insert x group (y ∷ states) [] same held each = absurd each
    each-insert x group (y ∷ states) (other ∷ groups) same held each =
        subst (λ o. EachHolds gives holds late (insert_first cmp x (y ∷ states)) (cond (is_lt o) (other ∷ insert_first cmp_2 group groups) (group ∷ other ∷ groups))) (agree y x other group each.1 held)
        (chosen (is_lt (cmp y x)) (each-insert x group states groups same held each.2))
      where
        chosen : (t : Bool) → EachHolds gives holds late (insert_first cmp x states) (insert_first cmp_2 group groups)
            → EachHolds gives holds late (cond t (y ∷ insert_first cmp x states) (x ∷ y ∷ states)) (cond t (other ∷ insert_first cmp_2 group groups) (group ∷ other ∷ groups))
        chosen true rest = (each.0, each.1, rest)
        chosen false rest = (same, held, each)

    -- the states in order hold the groups in order
    pub each-in_order : (states : List S) (groups : List (List Row)) → EachHolds gives holds late states groups → EachHolds gives holds late (in_order cmp states) (in_order cmp_2 groups)
    each-in_order [] [] each = tt
    each-in_order [] (group ∷ groups) each = absurd each
    each-in_order (state ∷ states) [] each = absurd each
    each-in_order (state ∷ states) (group ∷ groups) each =
        each-insert state group (in_order cmp states) (in_order cmp_2 groups) each.0 each.1 (each-in_order states groups each.2)

  -- At the end the first states have given their records, and the others hold theirs.
  pub record Given (ctx : Ctx) (groups : List (List Row)) (out : List Event) (left : List S) (out' : List Event) : Type 0 where
    pub rest : List (List Row)
    pub each : EachHolds gives holds late left rest
    pub same : out' ++ events_of (flat_map (λ group. late group ctx) rest) ≡ out ++ events_of (flat_map (λ group. late group ctx) groups)

  module _ (ctx : Ctx) (groups : List (List Row)) (out : List Event) where
    pub none-given : (states : List S) → EachHolds gives holds late states groups → Given ctx groups out states out
    none-given states each = record { rest = groups; each = each; same = refl }

    module _ (items : List S) (state : S) (left : List S) (out' : List Event) (split : items ≡ state ∷ left) (given : Given ctx groups out items out') where
      given-split : Given ctx groups out (state ∷ left) out'
      given-split = subst (λ states. Given ctx groups out states out') split given

      -- the next state holds some records
      pub next-holds : (rows : List Row) × holds state rows
      next-holds = held given-split.rest given-split.each
        where
          held : (rest : List (List Row)) → EachHolds gives holds late (state ∷ left) rest → (rows : List Row) × holds state rows
          held [] each = absurd each
          held (group ∷ rest) each = (group, each.1)

      -- the next state gives its records
      pub one-given : (out'' : List Event) → GivesAtEnd (gives state) (holds state) ctx out' out'' → Given ctx groups out left out''
      one-given out'' more = next given-split.rest given-split.each given-split.same
        where
          next : (rest : List (List Row)) → EachHolds gives holds late (state ∷ left) rest → out' ++ events_of (flat_map (λ group. late group ctx) rest) ≡ out ++ events_of (flat_map (λ group. late group ctx) groups) → Given ctx groups out left out''
          next [] each same = absurd each
          next (group ∷ rest) each same = record {
            rest = rest;
            each = each.2;
            same =
                ap (λ now. now ++ events_of (flat_map (λ group. late group ctx) rest)) (more.gives group each.1 ∙ ap (λ of. out' ++ events_of (of group ctx)) each.0)
                ∙ append_assoc out' (events_of (late group ctx)) (events_of (flat_map (λ group. late group ctx) rest))
                ∙ ap (λ events. out' ++ events) (sym (map-append (λ row. event.Rec row.0 row.1) (late group ctx) (flat_map (λ group. late group ctx) rest)))
                ∙ same;
          }

    -- no state is left
    pub all-given : (out' : List Event) → Given ctx groups out [] out' → out' ≡ out ++ events_of (flat_map (λ group. late group ctx) groups)
    all-given out' given = done given.rest given.each given.same
      where
        done : (rest : List (List Row)) → EachHolds gives holds late [] rest → out' ++ events_of (flat_map (λ group. late group ctx) rest) ≡ out ++ events_of (flat_map (λ group. late group ctx) groups) → out' ≡ out ++ events_of (flat_map (λ group. late group ctx) groups)
        done [] each same = sym (append-nil out') ∙ same
        done (group ∷ rest) each same = absurd each

-- states compare as the groups that they hold
counts-agree : (least : Bool) (x y : GroupCount) (group other : List Row) → GroupHolds x group → GroupHolds y other → by_count least x.count y.count ≡ by_number least group other
counts-agree least x y group other own others = ap₂ (by_count least) own.0 others.0

-- the first states in the order of their counts hold the first groups in the order of their numbers of records
pub first-hold : (least : Bool) (count : ℕ) (late : List Row → Ctx → List Row) (states sorted first : List GroupCount) (groups : List (List Row)) → EachHolds group_gives GroupHolds late states groups
    → sorted ≡ in_order (λ state other. by_count least state.count other.count) states → first ≡ take count sorted
    → EachHolds group_gives GroupHolds late first (take count (in_order (by_number least) groups))
first-hold least count late states sorted first groups each ordered taken =
    let cmp = λ (state other : GroupCount). by_count least state.count other.count in
    subst (λ some. EachHolds group_gives GroupHolds late some (take count (in_order (by_number least) groups))) (sym (taken ∙ ap (take count) ordered))
    (each-take group_gives GroupHolds late count (in_order cmp states) (in_order (by_number least) groups) (each-in_order group_gives GroupHolds late cmp (by_number least) (counts-agree least) states groups each))
