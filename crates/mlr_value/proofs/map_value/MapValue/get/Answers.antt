use Rattle.std.proofs.Common.{Some, ap, sym, ◌∙◌, arith}
use Rattle.mlr_spec.specs.Pairs.{value_at}
use Rattle.mlr_value.specs.Value.{tree_of}
use Rattle.mlr_value.specs.Collections.{has_key}
use Rattle.mlr_value.proofs.Places.{value_at-absent, value_at-first, first-below}
use Rattle.mlr_value.proofs.map_value.MapValue.get.Goals as goal

pub returns-in_err-place : goal.returns-in_err-place
returns-in_err-place c =
    let key = c.args.key.now in
    rw c.from_residual.ensures (sym (ap (value_at key) (sym c.self.view_is) ∙ value_at-absent key c.self.inside.columns.pairs.items c.in_err-place.ensures))

pub index-requires : goal.index-requires
index-requires c =
    let pairs = c.self.inside.columns.pairs in
    omega (arith, first-below (has_key c.args.key.now) pairs.items c.in_ok-place.place c.in_ok-place.ensures, pairs.ok.0)

pub returns : goal.returns
returns c =
    let key = c.args.key.now in
    ap (λ pair. Some (tree_of pair.value)) c.index.ensures
    ∙ sym (ap (value_at key) (sym c.self.view_is) ∙ value_at-first key c.self.inside.columns.pairs.items c.in_ok-place.place c.index.result.now c.in_ok-place.ensures)
