use Rattle.std.proofs.Common.{◌≡◌, ◌<◌, ◌∙◌, ◌++◌, ap, ap₂, get_or, length, length-set, map, sym, arith}
use Rattle.std.proofs.lemmas.List.{with_items_is}
use Rattle.verbs_step.specs.Kept.{kept}
use Rattle.verbs_step.specs.Made.{kept_by, made_by, present_at, trees_of}
use Rattle.verbs_step.proofs.Named.{making-more}
use Rattle.verbs_step.proofs.making.make_each.Goals as goal

pub loop-place-preserved : goal.loop-place-preserved
loop-place-preserved c =
    let loop = c.loop-place in
    let fields = c.args.fields.now in
    let name = c.index-names-place.result in
    let any = c.index-tracks-place.result in
    let below : loop.place < length c.args.names.now = omega (arith, c.loop-place-test.true) in
    let room : loop.place < length loop.tracks = omega (arith, below, loop.invariant.places) in
    let found : present_at c.as_slice.result.now fields ≡ present_at name fields = ap (λ n. present_at n fields) c.as_slice.ensures in
    let old : map kept c.deref_mut.result.now ≡ map kept (get_or loop.tracks loop.place any).items = ap (map kept) c.deref_mut.ensures.value in
    let track = get_or loop.tracks loop.place any in
    let as-long : length c.make.new.tracks ≡ track.len = c.make.auto.tracks ∙ ap length c.deref_mut.ensures.value ∙ sym track.ok.0 in
    record {
      places = simp length-set loop.invariant.places;
      making = λ steppers before same.
          making-more steppers c.args.names.now before fields c.args.made.now.items loop.place name loop.tracks loop.made.items any c.index-names-place.is below room (loop.invariant.making steppers before same)
          _ c.make.new.made.items
          (c.in_ok-make.ensures.made ∙ ap₂ (λ f t. trees_of loop.made.items ++ made_by f t) found old)
          (ap (map kept) (with_items_is track c.make.new.tracks as-long) ∙ c.in_ok-make.ensures.kept ∙ ap₂ kept_by found old);
    }
