use Rattle.std.proofs.Common.{◌≡◌, ◌<◌, ◌≤◌, ◌++◌, ◌∷◌, [], List, Some, length, get_or, set, slice_get, sym, subst, add-one, arith}
use Rattle.std.proofs.lemmas.Grind.{common_steps}
use Rattle.std.proofs.lemmas.Option.{slice_get-get_or}
use Rattle.verbs_base.specs.Records.{Fields}
use Rattle.verbs_summary.specs.KeptOfGroup.{KeepsEach, KeepsValues}
use Rattle.verbs_summary.proofs.Keeping.{Partly, partly-all, partly-at, partly-set}
use Rattle.verbs_summary.proofs.Meeting.{met-more}
use Rattle.verbs_summary.proofs.stats1.add_values.Goals as goal

pub loop-place-preserved : goal.loop-place-preserved
loop-place-preserved c =
    let loop = c.loop-place in
    let options = c.args.options.now in
    let i = loop.place in
    let fields = c.args.fields.now in
    let below : i < length options.names = omega (arith, c.loop-place-test.true, c.len-place-end.ensures) in
    let name = get_or options.names i [] in
    let at : slice_get options.names i ≡ Some name = slice_get-get_or options.names i [] below in
    let old = λ (before : List Fields) (keeps : KeepsEach (KeepsValues options before) options.names c.args.summaries.now).
    (partly-at (KeepsValues options before) (KeepsValues options (before ++ fields ∷ [])) i options.names loop.summaries (loop.invariant.summaries before keeps) name at c.index-summaries-place.result) in
    record {
      places = grind (arith, common_steps, loop.invariant.places);
      summaries = λ before keeps.
          subst (λ n. Partly (KeepsValues options before) (KeepsValues options (before ++ fields ∷ [])) n options.names (set loop.summaries i c.add_value.new.summary)) (sym (add-one i))
          (partly-set (KeepsValues options before) (KeepsValues options (before ++ fields ∷ [])) i options.names loop.summaries (loop.invariant.summaries before keeps) name at c.add_value.new.summary
          (c.in_ok-add_value.ensures.summary before name at (old before keeps)));
      met = λ before keeps.
          met-more options.names before fields i name c.args.met.now.items loop.met.items c.add_value.new.met.items at (loop.invariant.met before keeps) (c.in_ok-add_value.ensures.met before name at (old before keeps));
    }

pub returns-clause-summaries : goal.returns-clause-summaries
returns-clause-summaries c = λ before keeps.
    let options = c.args.options.now in
    let loop = c.loop-place in
    let all : length options.names ≤ loop.place = omega (arith, c.loop-place-test.false, c.len-place-end.ensures) in
    partly-all (KeepsValues options before) (KeepsValues options (before ++ c.args.fields.now ∷ [])) loop.place options.names loop.summaries (loop.invariant.summaries before keeps) all
