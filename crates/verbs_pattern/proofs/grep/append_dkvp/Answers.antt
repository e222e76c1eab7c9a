use Rattle.std.proofs.Common.{◌≡◌, ◌++◌, ◌∷◌, [], ℕ, List, length, take, ap, ◌∙◌, arith}
use Rattle.std.proofs.Math.Seq.{take-length}
use Rattle.std.proofs.lemmas.Option.{get_or_from_slice_get, slice_get_within}
use Rattle.mlr_spec.specs.Tree.{Tree}
use Rattle.mlr_value.specs.Value.{tree_of}
use Rattle.text_forms.specs.Dkvp.{pair_text}
use Rattle.verbs_pattern.specs.Grep.{record_text}
use Rattle.verbs_pattern.proofs.Commas.{put_more}
use Rattle.verbs_pattern.proofs.grep.append_dkvp.Goals as goal

pub loop-place-preserved : goal.loop-place-preserved
loop-place-preserved c =
    let fields = c.args.fields.now in
    let place = c.loop-place.place in
    let field : List ℕ × Tree = (c.entry.result.0.now, tree_of c.entry.result.1.now) in
    put_more (pair_text (61 ∷ [])) fields place field c.args.out.now c.loop-place.out c.append_comma.new.out c.append_pair.new.out
    (slice_get_within fields place field c.entry.ensures) (get_or_from_slice_get fields place field field c.entry.ensures)
    c.loop-place.invariant c.in_ok-append_comma.ensures c.in_ok-append_pair.ensures

pub returns : goal.returns
returns c =
    let fields = c.args.fields.now in
    let all : c.loop-place.place ≡ length fields = omega (arith, c.loop-place-test.false, c.loop-place.auto.place-end, c.len-place-end.ensures.length) in
    c.loop-place.invariant ∙ ap (λ l. c.args.out.now ++ record_text l) (ap (λ n. take n fields) all ∙ take-length fields)
