use Rattle.std.proofs.Common.{◌∷◌, ◌++◌, ◌<◌, ◌≤◌, [], Some, length, sym, ap, subst, ◌∙◌, arith}
use Rattle.std.specs.Option.{option_map}
use Rattle.mlr_groups.specs.Grouping.{IsGroupPlace, members}
use Rattle.mlr_groups.specs.Tallying.{count_in}
use Rattle.mlr_groups.proofs.Counts.{count-known, counts-known, counts-new, counts-none, tally-new}
use Rattle.mlr_groups.proofs.tallies.Tallies.count.Goals as goal

pub returns-in_default-clause-represents : goal.returns-in_default-clause-represents
returns-in_default-clause-represents c = λ by before represents. (
    let fields = c.args.fields.now in
    let none = subst (λ place. IsGroupPlace by (before ++ fields ∷ []) fields place) c.in_default.is (c.in_ok-place.ensures.place by before represents.0) in (
      c.in_ok-place.ensures.represents by before represents.0,
      counts-none by before fields c.args.self.now.counts.items represents.1 none,
    )
    )

pub returns-then-place-len-clause-represents : goal.returns-then-place-len-clause-represents
returns-then-place-len-clause-represents c = λ by before represents. (
    let fields = c.args.fields.now in
    let counts = c.args.self.now.counts.items in
    let p = c.in-Some.place in
    let at = subst (λ place. IsGroupPlace by (before ++ fields ∷ []) fields place) c.in-Some.is (c.in_ok-place.ensures.place by before represents.0) in
    let below : p < length counts = omega (arith, c.len.ensures, c.if-place-len.true) in (
      c.in_ok-place.ensures.represents by before represents.0,
      counts-known by before fields counts represents.1 p at below c.next_count.result
          (c.next_count.ensures.counted (length (members by at.0 before)) (c.index-count.ensures ∙ count-known by before fields counts represents.1 p at below c.index-count.result.now)),
    )
    )

pub returns-then-place-len-clause-count : goal.returns-then-place-len-clause-count
returns-then-place-len-clause-count c = λ by before represents. (
    let fields = c.args.fields.now in
    let counts = c.args.self.now.counts.items in
    let p = c.in-Some.place in
    let at = subst (λ place. IsGroupPlace by (before ++ fields ∷ []) fields place) c.in-Some.is (c.in_ok-place.ensures.place by before represents.0) in
    let below : p < length counts = omega (arith, c.len.ensures, c.if-place-len.true) in
    ap Some (c.index-count.ensures ∙ count-known by before fields counts represents.1 p at below c.index-count.result.now) ∙ sym (ap (option_map (count_in by before)) at.1)
    )

pub returns-in_ok-push-clause-represents : goal.returns-in_ok-push-clause-represents
returns-in_ok-push-clause-represents c = λ by before represents. (
    let fields = c.args.fields.now in
    let counts = c.args.self.now.counts.items in
    let p = c.in-Some.place in
    let at = subst (λ place. IsGroupPlace by (before ++ fields ∷ []) fields place) c.in-Some.is (c.in_ok-place.ensures.place by before represents.0) in
    let following : length counts ≤ p = omega (arith, c.len.ensures, c.if-place-len.false) in (
      c.in_ok-place.ensures.represents by before represents.0,
      c.in_ok-push.ensures.items ∙ counts-new by before fields counts represents.1 p at following,
    )
    )

pub returns-in_ok-push-clause-count : goal.returns-in_ok-push-clause-count
returns-in_ok-push-clause-count c = λ by before represents. (
    let fields = c.args.fields.now in
    let counts = c.args.self.now.counts.items in
    let p = c.in-Some.place in
    let at = subst (λ place. IsGroupPlace by (before ++ fields ∷ []) fields place) c.in-Some.is (c.in_ok-place.ensures.place by before represents.0) in
    let following : length counts ≤ p = omega (arith, c.len.ensures, c.if-place-len.false) in
    sym (tally-new by before fields counts represents.1 p at following)
    )
