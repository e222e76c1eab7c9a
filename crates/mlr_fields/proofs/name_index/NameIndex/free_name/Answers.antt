use Rattle.std.proofs.Common.{◌≡◌, ◌<◌, ◌^◌, true, length, Some, slice_get, ap, sym, subst, arith}
use Rattle.std.proofs.lemmas.Option.{slice_get_within}
use Rattle.std.specs.Vec.{vec_len}
use Rattle.mlr_keys.specs.Keys.{texts_in}
use Rattle.mlr_event.specs.Reading.{is_among}
use Rattle.mlr_fields.specs.Suffixes.{AreTaken}
use Rattle.mlr_fields.proofs.Suffixing.{free_name-chosen, known-at, known-length, known-set}
use Rattle.mlr_fields.proofs.name_index.NameIndex.free_name.Goals as goal
use Rattle.mlr_fields.proofs.name_index.NameIndex.free_name.Goals.{In-Some}

-- the names, as they lie in the table
abbrev at : (c : In-Some) → slice_get (texts_in c.self.inside.names.keys) c.in-Some.place ≡ Some c.args.name.now
at c = subst (λ names. slice_get names c.in-Some.place ≡ Some c.args.name.now) (sym c.self.view_is) c.in-Some.ensures.place

below : (c : In-Some) → c.in-Some.place < vec_len c.self.inside.numbers
below c =
    let names = texts_in c.self.inside.names.keys in
    omega (arith, slice_get_within names c.in-Some.place c.args.name.now (at c), known-length names names c.self.inside.numbers.items c.self.invariant, c.self.inside.numbers.ok.0)

pub index-requires : goal.index-requires
index-requires c = below (goal.at.index-requires c).In-Some

pub first_free-requires-clause-few : goal.first_free-requires-clause-few
first_free-requires-clause-few c =
    let names = texts_in c.self.inside.names.keys in
    omega (arith, ap length c.self.view_is, known-length names names c.self.inside.numbers.items c.self.invariant, c.self.inside.numbers.ok.0, c.self.inside.numbers.small)

pub first_free-requires-clause-taken : goal.first_free-requires-clause-taken
first_free-requires-clause-taken c =
    let names = texts_in c.self.inside.names.keys in
    subst (λ names. AreTaken names c.args.name.now c.index.result.now) c.self.view_is
    (known-at names names c.self.inside.numbers.items c.in-Some.place c.args.name.now c.index.result.now c.self.invariant (at (goal.at.first_free-requires-clause-taken c).In-Some) c.index.ensures)

pub index_mut-requires : goal.index_mut-requires
index_mut-requires c = below (goal.at.index_mut-requires c).In-Some

pub invariant_of-self : goal.invariant_of-self
invariant_of-self c =
    let names = texts_in c.self.inside.names.keys in
    known-set names names c.self.inside.numbers.items c.in-Some.place c.args.name.now c.in_ok-number.number c.self.invariant (at (goal.at.invariant_of-self c).In-Some)
    (subst (λ names. AreTaken names c.args.name.now c.in_ok-number.number) (sym c.self.view_is) c.in_ok-number.ensures.least)

pub returns-clause-free : goal.returns-clause-free
returns-clause-free c =
    let names = texts_in c.self.inside.names.keys in
    let there : is_among c.args.self.now c.args.name.now ≡ true = sym c.in-Some.ensures.found in
    let few : length c.args.self.now < 2 ^ 63 =
    omega (arith, ap length c.self.view_is, known-length names names c.self.inside.numbers.items c.self.invariant, c.self.inside.numbers.ok.0, c.self.inside.numbers.small) in
    free_name-chosen c.args.self.now c.args.name.now few there c.in_ok-number.number c.in_ok-number.free c.in_ok-number.ensures.name c.in_ok-number.ensures.least c.in_ok-number.ensures.free
