use Rattle.std.proofs.Common.{◌≡◌, true, false, refl, subst}
use Rattle.std.proofs.lemmas.Option.{MatchOption-at_some}
use Rattle.verbs_sort.specs.Kept.{HasValues, keys_in, trees_of}
use Rattle.verbs_sort.specs.Sort.{has_keys}
use Rattle.verbs_sort.specs.declared.sort.KeyValues.{KeyValues}
use Rattle.verbs_sort.proofs.Keeping.{keeps-entry}
use Rattle.verbs_sort.proofs.sort.SortRowsAtEnd.add.Goals as goal

pub returns-in_ok-push-in-Some-clause-holds : goal.returns-in_ok-push-in-Some-clause-holds
returns-in_ok-push-in-Some-clause-holds c =
    let s = c.args.self.now in
    let fields = c.args.fields in
    let keys = keys_in c.deref.result.now in
    let found = MatchOption-at_some (has_keys keys fields ≡ false) (λ (values : KeyValues). (has_keys keys fields ≡ true) × HasValues keys fields (trees_of values)) c.in-Some.values c.in-Some.is c.in_ok-values.ensures in
    record {
      follows = λ given holds.
          keeps-entry (keys_in s.keys.items) s.entries.items c.push.new.self.items s.others.items given
          (record { values = c.in-Some.values; row = record { fields = fields; ctx = c.args.ctx } }) (fields, c.args.ctx) holds
          refl
          (subst (λ ks. has_keys (keys_in ks) fields ≡ true) c.deref.ensures.value found.0)
          (subst (λ ks. HasValues (keys_in ks) fields (trees_of c.in-Some.values)) c.deref.ensures.value found.1)
          c.in_ok-push-in-Some.ensures.items;
    }
