-- The definitions on worked examples: each computes to the value beside it.
use Rattle.std.specs.Prelude.{◌≡◌, ℕ, Bool, true, false, List, [], ◌∷◌, ◌++◌, None, codes, refl, pos, negsuc}
use Rattle.mlr_spec.specs.declared.infer.Kind.{Kind}
use Rattle.mlr_spec.specs.declared.infer.Kind.TheVariants.{Empty, Str, Int, Frac, Wide}
use Rattle.mlr_spec.specs.declared.infer.InferOpts.{InferOpts}
use Rattle.mlr_spec.specs.declared.json.JsonStyle.TheVariants.{Stacked, Single}
use Rattle.mlr_spec.specs.Tree.{Tree, string, int, boolean, text_of, map_of, array_of}
use Rattle.mlr_spec.specs.Infer.{kind_of, kind_after_sign, tree_of_data}
use Rattle.mlr_spec.specs.Pairs.{put_at}
use Rattle.mlr_spec.specs.Lines.{lines_of}
use Rattle.mlr_spec.specs.Json.{json_string, json_text, json_list}
use Rattle.mlr_spec.specs.JsonTokens.{sign, text_token, word_token, tokens_of, lexeme_outside, lexeme_inside}
use Rattle.std.specs.Fmt.{digits}
use lib.Utf8.{encode}
use Rattle.mlr_spec.specs.declared.json.JsonMark.TheVariants.{BeginArray, EndArray, Comma}
use Rattle.mlr_spec.specs.Split.{split_by}
use Rattle.mlr_spec.specs.Flatten.{flat, unflat}

abbrev opts : Bool → Bool → InferOpts
opts none octal = record { none = none; octal = octal }

abbrev kind : List ℕ → Kind
kind text = kind_of (opts false false) text

no_bytes : kind [] ≡ Empty
no_bytes = refl

hexadecimal : kind (codes "0x0F") ≡ Int (pos 15)
unfolding kind_after_sign
hexadecimal = refl

upper_case : kind (codes "0XfF") ≡ Int (pos 255)
unfolding kind_after_sign
upper_case = refl

leading_zeros : kind (codes "007") ≡ Int (pos 7)
unfolding kind_after_sign
leading_zeros = refl

octal_with_flag : kind_of (opts false true) (codes "-010") ≡ Int (negsuc 7)
unfolding kind_after_sign
octal_with_flag = refl

one_zero_is_decimal : kind_of (opts false true) (codes "0") ≡ Int (pos 0)
unfolding kind_after_sign
one_zero_is_decimal = refl

no_inference : kind_of (opts true true) (codes "7") ≡ Str
no_inference = refl

no_digit : kind (codes "0x1G") ≡ Str
unfolding kind_after_sign
no_digit = refl

largest_int : kind (codes "9223372036854775807") ≡ Int (pos 9223372036854775807)
unfolding kind_after_sign
largest_int = refl

two_to_63 : kind (codes "9223372036854775808") ≡ Wide
unfolding kind_after_sign
two_to_63 = refl

minus_two_to_63 : kind (codes "-9223372036854775808") ≡ Int (negsuc 9223372036854775807)
unfolding kind_after_sign
minus_two_to_63 = refl

complement : kind (codes "0xffffffffffffffff") ≡ Int (negsuc 0)
unfolding kind_after_sign
complement = refl

no_complement : kind (codes "-0xffffffffffffffff") ≡ Wide
unfolding kind_after_sign
no_complement = refl

seventeen_digits : kind (codes "0x10000000000000000") ≡ Wide
unfolding kind_after_sign
seventeen_digits = refl

point_after : kind (codes "-1.") ≡ Frac
unfolding kind_after_sign
point_after = refl

exponent : kind (codes "+.5E-3") ≡ Frac
unfolding kind_after_sign
exponent = refl

no_mantissa : kind (codes ".e5") ≡ Str
unfolding kind_after_sign
no_mantissa = refl

no_exponent : kind (codes "1e") ≡ Str
unfolding kind_after_sign
no_exponent = refl

two_points : kind (codes "1.2.3") ≡ Str
unfolding kind_after_sign
two_points = refl

sign_alone : kind (codes "-") ≡ Str
unfolding kind_after_sign
sign_alone = refl

spelling : text_of (tree_of_data (opts false false) (codes "0x0F")) ≡ codes "0x0F"
unfolding kind_after_sign
spelling = refl

put_keeps_the_place : put_at {V = ℕ} (codes "a") 3 ((codes "a", 1) ∷ (codes "b", 2) ∷ []) ≡ (codes "a", 3) ∷ (codes "b", 2) ∷ []
put_keeps_the_place = refl

lines : lines_of (codes "a\n\nb") ≡ codes "a" ∷ [] ∷ codes "b" ∷ []
lines = refl

last_line_ended : lines_of (codes "a\n") ≡ codes "a" ∷ []
last_line_ended = refl

no_lines : lines_of [] ≡ []
no_lines = refl

escapes : json_string (1 ∷ 9 ∷ 34 ∷ 92 ∷ 31 ∷ 195 ∷ []) ≡ codes "\"\\u0001\\t\\\"\\\\\\u001f" ++ 195 ∷ 34 ∷ []
escapes = refl

two_records : json_list (((codes "a", int (pos 1) (codes "1")) ∷ (codes "b", string (codes "xyz")) ∷ []) ∷ [] ∷ [])
    ≡ codes "[\n{\n  \"a\": 1,\n  \"b\": \"xyz\"\n},\n{}\n]\n"
two_records = refl

no_records : json_list [] ≡ codes "[\n]\n"
no_records = refl

abbrev one : Tree
one = int (pos 1) (codes "1")

abbrev two : Tree
two = int (pos 2) (codes "2")

abbrev nested : Tree
nested = map_of ((codes "a", array_of (one ∷ two ∷ [])) ∷ (codes "b", map_of ((codes "x", map_of []) ∷ [])) ∷ (codes "c", array_of (one ∷ array_of [] ∷ [])) ∷ [])

stacked : json_text Stacked nested ≡ codes "{\n  \"a\": [1, 2],\n  \"b\": {\n    \"x\": {}\n  },\n  \"c\": [\n    1,\n    []\n  ]\n}"
stacked = refl

on_one_line : json_text Single nested ≡ codes "{\"a\": [1, 2], \"b\": {\"x\": {}}, \"c\": [1, []]}"
on_one_line = refl

tokens : tokens_of (opts false false) (codes " [1,\"x\\n\\u00e9\" ,true]") ≡ record {
  tokens = (2, sign BeginArray) ∷ (3, word_token one) ∷ (4, sign Comma) ∷ (5, text_token (120 ∷ 10 ∷ 195 ∷ 169 ∷ [])) ∷ (17, sign Comma) ∷ (18, word_token (boolean true)) ∷ (22, sign EndArray) ∷ [];
  stop = None;
}
unfolding kind_after_sign lexeme_outside lexeme_inside encode
tokens = refl

parts : split_by (codes "::") (codes "a:::b::") ≡ codes "a" ∷ codes ":b" ∷ [] ∷ []
parts = refl

flattened : flat (codes ".") ((codes "a", map_of ((codes "b", one) ∷ (codes "c", array_of (two ∷ map_of [] ∷ [])) ∷ [])) ∷ [])
    ≡ (codes "a.b", one) ∷ (codes "a.c.1", two) ∷ (codes "a.c.2", string (codes "{}")) ∷ []
unfolding digits
flattened = refl

unflattened : unflat (codes ".") ((codes "a.1", one) ∷ (codes "a.2", two) ∷ (codes "b.x", string (codes "{}")) ∷ [])
    ≡ (codes "a", array_of (one ∷ two ∷ [])) ∷ (codes "b", map_of ((codes "x", map_of []) ∷ [])) ∷ []
unfolding digits
unflattened = refl
