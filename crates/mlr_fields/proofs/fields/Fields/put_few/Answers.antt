use Rattle.std.proofs.Common.{◌≡◌, ◌≤◌, true, false, length, IfSome, is_ok, refl, ap, sym, subst, ◌∙◌, arith}
use Rattle.mlr_spec.specs.Pairs.{keys_of}
use Rattle.mlr_value.specs.Value.{tree_of}
use Rattle.mlr_event.specs.Reading.{free_name, is_among}
use Rattle.mlr_event.proofs.Putting.{length-keys, value_at-free}
use Rattle.mlr_fields.specs.Marks.{AreMarked}
use Rattle.mlr_fields.specs.Prefixes.{IsPrefix}
use Rattle.mlr_fields.proofs.Suffixing.{free_name-chosen}
use Rattle.mlr_fields.proofs.Building.{keys-set-ok, put-free, put-lacked, with_field-free}
use Rattle.mlr_fields.proofs.fields.Fields.put_few.Goals as goal

pub push-requires : goal.push-requires
push-requires c =
    value_at-free c.args.name.now c.args.self.now (ap (λ pairs. is_among (keys_of pairs) c.args.name.now) (sym c.self.view_is) ∙ sym c.has.ensures ∙ c.if-not-has.true)

pub push-requires-then-dedupe : goal.push-requires-then-dedupe
push-requires-then-dedupe c =
    value_at-free c.as_slice.result.now c.args.self.now (
    ap (λ pairs. is_among (keys_of pairs) c.as_slice.result.now) (sym c.self.view_is)
    ∙ ap (is_among (keys_of c.self.inside.record)) c.as_slice.ensures ∙ c.in_ok-free.ensures.free
    )

pub invariant_of-self : goal.invariant_of-self
invariant_of-self c =
    let old = c.self.inside.record in
    let same = keys-set-ok (is_ok c.put.result) c.args.name.now (tree_of c.args.value) old c.put.new.self (sym c.has.ensures ∙ c.if-not-has.false) c.put.ensures in
    subst (λ keys. AreMarked c.self.inside.marks keys × IfSome c.self.inside.index (λ index. IsPrefix index keys × (64 ≤ length index))) (sym same) c.self.invariant

pub returns-then-not-has : goal.returns-then-not-has
returns-then-not-has c =
    let value = tree_of c.args.value in
    let lacked : is_among (keys_of c.args.self.now) c.args.name.now ≡ false =
    ap (λ pairs. is_among (keys_of pairs) c.args.name.now) (sym c.self.view_is) ∙ sym c.has.ensures ∙ c.if-not-has.true in
    put-lacked c.push.result c.args.self.now c.push.new.self c.args.dedupe c.args.name.now value value lacked refl c.push.ensures

pub returns-in_ok-free : goal.returns-in_ok-free
returns-in_ok-free c =
    let pairs = c.args.self.now in
    let keys : keys_of c.self.inside.record ≡ keys_of pairs = ap keys_of c.self.view_is in
    let found = c.in_ok-free in
    let name = c.args.name.now in
    let there : is_among (keys_of c.self.inside.record) name ≡ true = sym c.has.ensures ∙ c.if-not-has.false in
    let free = free_name-chosen (keys_of c.self.inside.record) name (omega (arith, length-keys pairs, ap length keys, c.requires)) there found.field-0-0 found.free found.ensures.name found.ensures.least found.ensures.free in
    put-free c.push-then-dedupe.result pairs c.push-then-dedupe.new.self _ _ c.push-then-dedupe.ensures
    (with_field-free c.args.dedupe c.if-dedupe.true pairs name c.as_slice.result.now (tree_of c.args.value) (c.as_slice.ensures ∙ free ∙ ap (λ names. free_name names name) keys))
