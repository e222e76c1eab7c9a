use Rattle.std.proofs.Common.{◌≡◌, ◌+◌, ◌-◌, ◌≤◌, ◌++◌, ◌∷◌, [], false, take, drop, length, length-drop, None, Some, ap, sym, subst, ◌∙◌, arith}
use Rattle.std.specs.List.{zip}
use Rattle.std.proofs.Math.Seq.{take-length}
use Rattle.std.proofs.lemmas.List.{length-map, drop-drop}
use Rattle.mlr_spec.specs.Infer.{tree_of_data}
use Rattle.mlr_spec.specs.Split.{place_in}
use Rattle.mlr_spec.proofs.Splitting.{place_in-fits}
use Rattle.mlr_record.specs.Fields.{pairs_of}
use Rattle.read_csv.specs.Naming.{with_values}
use Rattle.read_csv.specs.OpenRow.{csv_reading, row_with, starts_quoted, value_in, values_in}
use Rattle.read_csv.proofs.Naming.{named-more, plain-last, plain-more}
use Rattle.read_csv.proofs.Separating.{rest-is}
use Rattle.read_csv.proofs.plain.take_between.Goals as goal

pub returns-in_default-clause-names : goal.returns-in_default-clause-names
returns-in_default-clause-names g c =
    let names = c.args.names.now in
    let fields = c.loop-name.fields in
    let now = c.push_first.new.fields in
    let line = c.args.text.now in
    let left = take (length line - c.loop-name.from) (drop c.loop-name.from line) in
    let given = c.in_ok-push_first.ensures in
    named-more names c.loop-name.name-index c.name-item.result (tree_of_data c.args.opts.now.infer (take (length left) left)) (pairs_of fields.items) (pairs_of now.items) (values_in fields.items) (values_in now.items)
    c.loop-name-test.true (omega (arith, length-map fields.items value_in, fields.ok, c.loop-name.invariant.len)) c.name-item.is c.loop-name.invariant.names given.pairs given.values
    ∙ ap (λ n. zip (take n names) (values_in now.items)) (sym (given.len ∙ ap (λ n. n + 1) c.loop-name.invariant.len))

pub returns-in_default-clause-values : goal.returns-in_default-clause-values
returns-in_default-clause-values g c =
    let opts = c.args.opts.now in
    let line = c.args.text.now in
    let from = c.loop-name.from in
    let rest = drop from line in
    let left = take (length line - from) rest in
    let values = values_in c.loop-name.fields.items in
    let plain : starts_quoted rest ≡ false = ap starts_quoted (sym (rest-is line from)) ∙ sym c.starts_quoted.ensures ∙ c.if-starts_quoted.false in
    let none : place_in opts.ifs rest ≡ None = ap (λ s. place_in s rest) (sym c.requires.separators) ∙ sym c.in_default.ensures in
    plain-last opts values (values_in c.push_first.new.fields.items) rest c.requires.ifs plain none
    (c.in_ok-push_first.ensures.values ∙ ap (λ t. values ++ tree_of_data opts.infer t ∷ []) (take-length left ∙ rest-is line from))
    ∙ c.loop-name.invariant.values

pub push_first-requires-in-loop-name-clause-len : goal.push_first-requires-in-loop-name-clause-len
push_first-requires-in-loop-name-clause-len g c =
    let line = c.args.text.now in
    let from = c.loop-name.from in
    let rest = drop from line in
    let fits = place_in-fits c.args.opts.now.ifs rest c.in-Some.len (ap (λ s. place_in s rest) (sym c.requires.separators) ∙ sym c.in-Some.ensures) in
    subst (λ t. c.in-Some.len ≤ length t) (sym (rest-is line from)) (omega (arith, fits))

pub overflow_add-from : goal.overflow_add-from
overflow_add-from g c =
    let line = c.args.text.now in
    let rest = drop c.loop-name.from line in
    let fits = place_in-fits c.args.opts.now.ifs rest c.in-Some.len (ap (λ s. place_in s rest) (sym c.requires.separators) ∙ sym c.in-Some.ensures) in
    omega (arith, fits, length-drop c.loop-name.from line, ap length c.requires.separators, c.width.ensures)

pub overflow_add-from-in-loop-name : goal.overflow_add-from-in-loop-name
overflow_add-from-in-loop-name g c =
    let line = c.args.text.now in
    let rest = drop c.loop-name.from line in
    let fits = place_in-fits c.args.opts.now.ifs rest c.in-Some.len (ap (λ s. place_in s rest) (sym c.requires.separators) ∙ sym c.in-Some.ensures) in
    omega (arith, fits, length-drop c.loop-name.from line, ap length c.requires.separators, c.width.ensures, c.loop-name.invariant.within)

pub loop-name-preserved : goal.loop-name-preserved
loop-name-preserved g c =
    let names = c.args.names.now in
    let opts = c.args.opts.now in
    let line = c.args.text.now in
    let from = c.loop-name.from in
    let rest = drop from line in
    let left = take (length line - from) rest in
    let len = c.in-Some.len in
    let fields = c.loop-name.fields in
    let values = values_in fields.items in
    let now = c.push_first-in-loop-name.new.fields in
    let given = c.in_ok-push_first-2.ensures in
    let plain : starts_quoted rest ≡ false = ap starts_quoted (sym (rest-is line from)) ∙ sym c.starts_quoted.ensures ∙ c.if-starts_quoted.false in
    let found : place_in opts.ifs rest ≡ Some len = ap (λ s. place_in s rest) (sym c.requires.separators) ∙ sym c.in-Some.ensures in
    let width : c.width.result ≡ length opts.ifs = c.width.ensures ∙ ap length c.requires.separators in
    record {
      names = named-more names c.loop-name.name-index c.name-item.result (tree_of_data opts.infer (take len left)) (pairs_of fields.items) (pairs_of now.items) values (values_in now.items)
          c.loop-name-test.true (omega (arith, length-map fields.items value_in, fields.ok, c.loop-name.invariant.len)) c.name-item.is c.loop-name.invariant.names given.pairs given.values;
      values =
          ap (λ n. row_with opts.infer (with_values (values_in now.items)) (csv_reading opts.ifs (drop (from + (len + n)) line))) width
          ∙ ap (λ t. row_with opts.infer (with_values (values_in now.items)) (csv_reading opts.ifs t)) (sym (drop-drop (len + length opts.ifs) from line))
          ∙ plain-more opts values (values_in now.items) rest c.requires.ifs plain len found (given.values ∙ ap (λ t. values ++ tree_of_data opts.infer (take len t) ∷ []) (rest-is line from))
          ∙ c.loop-name.invariant.values;
      len = given.len ∙ ap (λ n. n + 1) c.loop-name.invariant.len;
      room = omega (arith, given.capacity, c.loop-name.invariant.room);
      within = omega (arith, place_in-fits opts.ifs rest len found, length-drop from line, width, c.loop-name.invariant.within);
    }
