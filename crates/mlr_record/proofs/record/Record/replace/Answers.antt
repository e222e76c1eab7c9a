use Rattle.std.proofs.Common.{◌≡◌, ◌<◌, true, length, set, sym, ap, ap₂, subst, ◌∙◌, get_or}
use Rattle.std.proofs.lemmas.List.{get_or-map, length-map, map-set}
use Rattle.std.proofs.Math.Seq.{map-set_same}
use Rattle.mlr_spec.specs.Pairs.{keys_of, are_distinct}
use Rattle.mlr_value.specs.Value.{tree_of}
use Rattle.mlr_record.specs.declared.record.Field.{Field}
use Rattle.mlr_record.specs.Fields.{pair_of, pairs_of}
use Rattle.mlr_record.proofs.record.Record.replace.Goals as goal

pub invariant_of-self : goal.invariant_of-self
invariant_of-self c =
    let fields = c.self.inside.fields.items in
    let i = c.args.place in
    let old = c.index_mut.result.now in
    let new : Field = record { name = old.name; value = c.replace.new.dest } in
    let below : i < length fields = subst (λ n. i < n) (ap length (sym c.self.view_is) ∙ length-map fields pair_of) c.requires in
    let name : old.name ≡ (get_or (pairs_of fields) i (pair_of old)).0 =
    ap (λ f. f.name) c.index_mut.ensures.value ∙ ap (λ p. p.0) (sym (get_or-map pair_of fields i old (pair_of old) below)) in
    subst (λ keys. are_distinct keys ≡ true)
    (sym (ap keys_of (map-set pair_of fields i new) ∙ map-set_same (λ p. p.0) (pairs_of fields) i (pair_of new) (pair_of old) name))
    c.self.invariant

pub returns-clause-new : goal.returns-clause-new
returns-clause-new c pair =
    let fields = c.self.inside.fields.items in
    let i = c.args.place in
    let old = c.index_mut.result.now in
    let new : Field = record { name = old.name; value = c.replace.new.dest } in
    let below : i < length fields = subst (λ n. i < n) (ap length (sym c.self.view_is) ∙ length-map fields pair_of) c.requires in
    let name : old.name ≡ (get_or c.args.self.now i pair).0 =
    ap (λ f. f.name) c.index_mut.ensures.value ∙ ap (λ p. p.0) (sym (get_or-map pair_of fields i old pair below)) ∙ ap (λ ps. (get_or ps i pair).0) c.self.view_is in
    map-set pair_of fields i new
    ∙ ap₂ (λ ps p. set ps i p) c.self.view_is (ap₂ (λ n v. (n, tree_of v)) name c.replace.ensures.after)
