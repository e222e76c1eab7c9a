use Rattle.std.proofs.Common.{◌≡◌, Bool, true, cond, List, [], ◌∷◌, ◌++◌, Option, Some, None, ap, sym, ◌∙◌}
use Rattle.std.specs.Option.{option_map}
use Rattle.std.specs.Ordering.{is_lt}
use Rattle.mlr_spec.specs.Tree.{Tree}
use Rattle.mlr_value.specs.Value.{tree_of}
use Rattle.mlr_stats.specs.Statistic.{by_value, first_by}
use Rattle.mlr_stats.proofs.Firsts.{after_all, by_value-total, first_by-last, keeps-better}
use Rattle.mlr_stats.proofs.extremes.keep_extreme.Goals as goal
use Rattle.mlr_stats.proofs.extremes.keep_extreme.Goals.{else-needed-via-then-needed+else-precedes, else-needed-via-else-needed}

-- what is kept after one more value
kept : (greatest : Bool) (values : List Tree) (value : Tree) (o : Option Tree) (t : Bool) → o ≡ first_by (by_value greatest) values
    → (o ≡ None → t ≡ true) → ((first : Tree) → o ≡ Some first → t ≡ is_lt (by_value greatest value first))
    → cond t (Some value) o ≡ first_by (by_value greatest) (values ++ value ∷ [])
kept greatest values value o t is none some =
    keeps-better (by_value greatest) o value t none some
    ∙ ap (λ o. after_all (by_value greatest) o value) is
    ∙ sym (first_by-last (by_value greatest) (by_value-total greatest) values value)

pub returns-in_ok-copy : goal.returns-in_ok-copy
returns-in_ok-copy c = λ values keeps needed.
    ap Some c.in_ok-copy.ensures
    ∙ sym (ap (λ t. cond t (Some (tree_of c.args.value.now)) (option_map tree_of c.args.kept.now)) c.if-precedes.true)
    ∙ kept c.args.greatest values (tree_of c.args.value.now) (option_map tree_of c.args.kept.now) c.precedes.result (keeps needed) c.precedes.ensures.none c.precedes.ensures.some

pub returns-else-needed : goal.returns-else-needed
returns-else-needed c = λ values keeps needed. elim c.else-needed.branch [
  | else-needed-via-then-needed+else-precedes w ↦
      sym (ap (λ t. cond t (Some (tree_of c.args.value.now)) (option_map tree_of c.args.kept.now)) w.if-precedes.false)
      ∙ kept c.args.greatest values (tree_of c.args.value.now) (option_map tree_of c.args.kept.now) w.precedes.result (keeps needed) w.precedes.ensures.none w.precedes.ensures.some
  | else-needed-via-else-needed w ↦ absurd (let e = sym needed ∙ w.if-needed.false in cc)
]
