-- What is written of a value is read as that value.
use Rattle.std.proofs.Common.{◌≡◌, ◌≤◌, [], ◌∷◌, refl, ap, sym, subst, ◌∙◌}
use Rattle.std.proofs.lemmas.List.{append-nil}
use Rattle.mlr_spec.specs.declared.json.JsonStyle.{JsonStyle}
use Rattle.mlr_spec.specs.Tree.{Tree, absent, empty, string, int, fraction, wide, boolean, mapping, array, error, Trees, no_trees, tree_and, Fields, no_fields, field_and, fields_of, trees_of, pairs_in}
use Rattle.mlr_spec.specs.Pairs.{keys_of, are_distinct}
use Rattle.mlr_spec.specs.Json.{json_text}
use Rattle.mlr_spec.specs.JsonGrammar.{tokens_in, value_of, pairs_of, values_of, IsJson}
use Rattle.mlr_spec.proofs.Flattening.{put_each-distinct}
use Rattle.mlr_value.specs.Depth.{depth}
use Rattle.mlr_json.specs.Readable.{plain, read_back, pairs_read_back, items_read_back, IsReadable, ArePairsReadable, AreItemsReadable}
use Rattle.mlr_json.proofs.WrittenTokens.{Reads, reads-all}
use Rattle.mlr_json.proofs.WrittenValues.{syntax_of, members_of, elements_of, value-read}
use Rattle.mlr_json.proofs.WrittenLevels.{value-shallow}

same-keys : (pairs : Fields) → keys_of (pairs_of (members_of pairs)) ≡ keys_of (pairs_in pairs)
same-keys no_fields = refl
same-keys (field_and key value more) = ap (λ t. key ∷ t) (same-keys more)

mutual
  value-back : (v : Tree) → IsReadable v → value_of (syntax_of v) ≡ read_back v
  value-back absent h = refl
  value-back empty h = refl
  value-back (string t) h = refl
  value-back (int n spelling) h = refl
  value-back (fraction t) h = refl
  value-back (wide t) h = refl
  value-back (boolean b) h = refl
  value-back (mapping pairs) h =
      ap (λ ps. mapping (fields_of ps)) (put_each-distinct [] (pairs_of (members_of pairs)) (ap are_distinct (same-keys pairs) ∙ h.0))
      ∙ ap mapping (pairs-back pairs h.1)
  value-back (array items) h = ap array (items-back items h)
  value-back error h = absurd h

  pairs-back : (pairs : Fields) → ArePairsReadable pairs → fields_of (pairs_of (members_of pairs)) ≡ pairs_read_back pairs
  pairs-back no_fields h = refl
  pairs-back (field_and key value more) h =
      ap (λ v. field_and key v (fields_of (pairs_of (members_of more)))) (value-back value h.0) ∙ ap (field_and key (read_back value)) (pairs-back more h.1)

  items-back : (items : Trees) → AreItemsReadable items → trees_of (values_of (elements_of items)) ≡ items_read_back items
  items-back no_trees h = refl
  items-back (tree_and item more) h =
      ap (λ v. tree_and v (trees_of (values_of (elements_of more)))) (value-back item h.0) ∙ ap (tree_and (read_back item)) (items-back more h.1)

pub written-is-read : (style : JsonStyle) (v : Tree) → IsReadable v → depth v ≤ 100 → IsJson plain (json_text style v) (read_back v)
written-is-read style v h shallow =
    let reads : Reads (json_text style v) (tokens_in (syntax_of v)) [] =
    subst (λ t. Reads t (tokens_in (syntax_of v)) []) (append-nil (json_text style v)) ((value-read style 0 v h).reads [] refl) in
    let all = reads-all (json_text style v) (tokens_in (syntax_of v)) reads in
    record {
      syntax = syntax_of v;
      tokens = all.0;
      ends = all.1;
      shallow = value-shallow v shallow;
      is = sym (value-back v h);
    }
