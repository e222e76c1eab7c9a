-- The JSON that is written: the text of a value, of a record and of a list of records, after RFC 8259.
use Rattle.std.specs.Prelude.{ℕ, ◌+◌, ◌*◌, ◌/◌, ◌%◌, ◌==◌, nat_lt, Bool, true, false, ◌&&◌, if◌then◌else◌, List, [], ◌∷◌, ◌++◌, map, replicate, codes}
use Rattle.std.specs.List.{flat_map, list_any}
use Rattle.mlr_spec.specs.Ascii.{backspace, tab, line_feed, form_feed, carriage_return, space, quote_mark, comma, digit_zero, left_bracket, backslash, right_bracket, letter_b, letter_f, letter_n, letter_r, letter_t, left_brace, right_brace}
use Rattle.mlr_spec.specs.declared.json.JsonStyle.{JsonStyle}
use Rattle.mlr_spec.specs.declared.json.JsonStyle.TheVariants.{Stacked, Single}
use Rattle.mlr_spec.specs.Tree.{Tree, absent, empty, string, int, fraction, wide, boolean, mapping, array, error, Trees, no_trees, tree_and, Fields, no_fields, field_and, items_in, is_collection, spelled, text_of}

-- a lower-case hexadecimal digit
abbrev pub hex_digit : ℕ → ℕ
hex_digit n = if nat_lt n 10 then digit_zero + n else 87 + n

-- the letter after the backslash for a quote, a backslash and the controls b, t, n, f, r; 0 for other bytes
abbrev pub escape_letter : ℕ → ℕ
escape_letter b =
    if b == quote_mark then quote_mark else (
    if b == backslash then backslash else (
    if b == backspace then letter_b else (
    if b == tab then letter_t else (
    if b == line_feed then letter_n else (
    if b == form_feed then letter_f else (
    if b == carriage_return then letter_r else 0))))))

-- a byte in a string: with a backslash and its letter, as `\u00` and two digits if it is another control,
-- else as it is
abbrev pub escaped : ℕ → List ℕ
escaped b =
    if nat_lt 0 (escape_letter b) then backslash ∷ escape_letter b ∷ [] else (
    if nat_lt b space then codes "\\u00" ++ hex_digit (b / 16) ∷ hex_digit (b % 16) ∷ [] else b ∷ [])

abbrev pub json_string : List ℕ → List ℕ
json_string text = quote_mark ∷ flat_map escaped text ++ quote_mark ∷ []

-- the texts in a row, with a separator between each two
abbrev pub joined : List ℕ → List (List ℕ) → List ℕ
joined separator [] = []
joined separator (text ∷ []) = text
joined separator (text ∷ next ∷ more) = text ++ separator ++ joined separator (next ∷ more)

-- a line end, and two spaces for each level
abbrev pub new_line : ℕ → List ℕ
new_line level = line_feed ∷ replicate (2 * level) space

-- the texts between two brackets: each on a line of its own, one level deeper than the brackets, or all on one line
abbrev pub bracketed : Bool → ℕ → ℕ → ℕ → List (List ℕ) → List ℕ
bracketed on_lines level left right [] = left ∷ right ∷ []
bracketed true level left right (text ∷ texts) =
    left ∷ new_line (level + 1) ++ joined (comma ∷ new_line (level + 1)) (text ∷ texts) ++ new_line level ++ right ∷ []
bracketed false level left right (text ∷ texts) = left ∷ joined (codes ", ") (text ∷ texts) ++ right ∷ []

abbrev pub is_stacked : JsonStyle → Bool
is_stacked Stacked = true
is_stacked Single = false

-- a value in a style, where its first line is at this level: numbers and booleans bare, texts in quotes,
-- error bare. In the stacked style the fields of a map are on lines of their own, and so are the items of an
-- array that contains a map or an array.
abbrev mutual
  pub json_at : JsonStyle → ℕ → Tree → List ℕ
  json_at style level absent = json_string []
  json_at style level empty = json_string []
  json_at style level (string text) = json_string text
  json_at style level (int n spelling) = spelled n spelling
  json_at style level (fraction text) = text
  json_at style level (wide text) = text
  json_at style level (boolean b) = text_of (boolean b)
  json_at style level (mapping pairs) = bracketed (is_stacked style) level left_brace right_brace (json_pairs style (level + 1) pairs)
  json_at style level (array items) = bracketed (is_stacked style && list_any is_collection (items_in items)) level left_bracket right_bracket (json_items style (level + 1) items)
  json_at style level error = text_of error

  pub json_pairs : JsonStyle → ℕ → Fields → List (List ℕ)
  json_pairs style level no_fields = []
  json_pairs style level (field_and key value more) = (json_string key ++ codes ": " ++ json_at style level value) ∷ json_pairs style level more

  pub json_items : JsonStyle → ℕ → Trees → List (List ℕ)
  json_items style level no_trees = []
  json_items style level (tree_and item more) = json_at style level item ∷ json_items style level more

-- the text of a whole value
abbrev pub json_text : JsonStyle → Tree → List ℕ
json_text style value = json_at style 0 value

-- one field of a record, at the level of its key
abbrev pub json_field : JsonStyle → ℕ → List ℕ × Tree → List ℕ
json_field style level pair = json_string pair.0 ++ codes ": " ++ json_at style level pair.1

-- a record is written as the map of its fields
abbrev pub json_record : JsonStyle → List (List ℕ × Tree) → List ℕ
json_record style pairs = bracketed (is_stacked style) 0 left_brace right_brace (map (json_field style 1) pairs)

-- all records of a run, in brackets
abbrev pub json_list : List (List (List ℕ × Tree)) → List ℕ
json_list [] = codes "[\n]\n"
json_list (r ∷ records) = codes "[\n" ++ joined (codes ",\n") (map (json_record Stacked) (r ∷ records)) ++ codes "\n]\n"
