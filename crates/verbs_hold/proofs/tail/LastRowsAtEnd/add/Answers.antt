use Rattle.std.proofs.Common.{◌≡◌, ◌++◌, ◌∷◌, [], ◌+◌, length, ap, sym, ◌∙◌, arith}
use Rattle.std.proofs.lemmas.List.{length-append, length-map, map-append}
use Rattle.mlr_event.specs.declared.event.Event.TheVariants as event
use Rattle.verbs_base.specs.Records.{Row, events_of}
use Rattle.verbs_hold.specs.Tail.{last_rows}
use Rattle.verbs_hold.proofs.Lasts.{last-more, rest-of}
use Rattle.verbs_hold.proofs.tail.LastRowsAtEnd.add.Goals as goal

pub returns-then-len-self-clause-holds : goal.returns-then-len-self-clause-holds
returns-then-len-self-clause-holds c = record {
  follows = λ rows holds. (
      let row : Row = (c.args.fields, c.args.ctx) in
      let kept = last_rows c.args.self.now.count rows in
      let pushed : c.push.new.self ≡ events_of (kept ++ row ∷ []) =
      c.in_ok-push.ensures ∙ ap (λ events. events ++ event.Rec c.args.fields c.args.ctx ∷ []) holds ∙ sym (map-append (λ (row : Row). event.Rec row.0 row.1) kept (row ∷ [])) in
      let many : length c.push.new.self ≡ length kept + 1 = ap length pushed ∙ length-map (kept ++ row ∷ []) (λ (row : Row). event.Rec row.0 row.1) ∙ length-append kept (row ∷ []) in
      rest-of (kept ++ row ∷ []) c.pop_first.result c.push.new.self c.pop_first.new.self pushed c.pop_first.ensures.events c.pop_first.ensures.none
      ∙ ap events_of (last-more c.args.self.now.count rows row (omega (arith, c.if-len-self.true, c.len.ensures, many)))
      );
}
