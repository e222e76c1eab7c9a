use Rattle.std.proofs.Common.{◌++◌, ◌∷◌, ◌<◌, ◌≤◌, [], Some, length, ap, map, ◌∙◌, arith}
use Rattle.mlr_groups.specs.Keys.{entered, key_of}
use Rattle.mlr_value.specs.Value.{tree_of}
use Rattle.text_forms.specs.Shown.{shown}
use Rattle.mlr_stats.specs.Statistic.{with_text}
use Rattle.mlr_stats.proofs.Counting.{count-known, counts-known, counts-new, firsts-known, firsts-new, table-more}
use Rattle.mlr_stats.proofs.text_counts.TextCounts.add.Goals as goal

pub returns-then-place-len : goal.returns-then-place-len
returns-then-place-len c = λ values counts.
    let value = tree_of c.args.value.now in
    let kept = c.args.self.now in
    let p = c.in_ok-place.place in
    let key = c.as_slice.ensures ∙ c.in_ok-append_own.ensures ∙ ap (λ key. key ++ key_of (shown value ∷ [])) c.clear.ensures in
    let entering = c.in_ok-place.ensures.entered ∙ ap (entered kept.table) key in
    let found = c.in_ok-place.ensures.place ∙ ap Some key in
    let below : p < length kept.counts.items = omega (arith, c.len.ensures, c.if-place-len.true) in
    record {
      table = table-more values value kept counts p c.enter.new.self entering found;
      firsts = firsts-known values value kept counts p c.enter.new.self entering found below;
      counts =
          counts-known values value kept counts p c.enter.new.self entering found below c.next_count.result
          (c.next_count.ensures.counted (length (with_text values (shown value ∷ []))) (c.index-count.ensures ∙ count-known values value kept counts p c.enter.new.self entering found below c.index-count.result.now));
    }

pub returns-in_ok-push-2 : goal.returns-in_ok-push-2
returns-in_ok-push-2 c = λ values counts.
    let value = tree_of c.args.value.now in
    let kept = c.args.self.now in
    let p = c.in_ok-place.place in
    let key = c.as_slice.ensures ∙ c.in_ok-append_own.ensures ∙ ap (λ key. key ++ key_of (shown value ∷ [])) c.clear.ensures in
    let entering = c.in_ok-place.ensures.entered ∙ ap (entered kept.table) key in
    let found = c.in_ok-place.ensures.place ∙ ap Some key in
    let following : length kept.counts.items ≤ p = omega (arith, c.len.ensures, c.if-place-len.false) in
    record {
      table = table-more values value kept counts p c.enter.new.self entering found;
      firsts =
          ap (map (λ value. Some (tree_of value))) c.in_ok-push.ensures.items
          ∙ firsts-new values value kept counts p c.enter.new.self entering found following c.in_ok-copy.field-0 c.in_ok-copy.ensures;
      counts = c.in_ok-push-2.ensures.items ∙ counts-new values value kept counts p c.enter.new.self entering found following;
    }
