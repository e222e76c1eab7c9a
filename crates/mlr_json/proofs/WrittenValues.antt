-- A value that was written is read back: its text has the tokens of that value.
use Rattle.std.proofs.Common.{◌≡◌, ℕ, ◌+◌, ◌*◌, Bool, true, false, not, ◌&&◌, List, [], ◌∷◌, ◌++◌, Some, refl, ap, sym, subst, ◌∙◌, append_assoc}
use Rattle.std.specs.Prelude.{codes}
use Rattle.std.specs.List.{list_all, list_any}
use Rattle.std.proofs.lemmas.Bool.{and_parts}
use Rattle.std.proofs.lemmas.List.{append-nil}
use Rattle.mlr_spec.specs.declared.json.JsonStyle.{JsonStyle}
use Rattle.mlr_spec.specs.declared.json.JsonMark.{JsonMark}
use Rattle.mlr_spec.specs.declared.json.JsonMark.TheVariants.{BeginMap, EndMap, BeginArray, EndArray, Colon, Comma}
use Rattle.mlr_spec.specs.Infer.{kind_of}
use Rattle.mlr_spec.specs.Json.{json_string, joined, new_line, bracketed, is_stacked, json_at, json_pairs, json_items}
use Rattle.mlr_spec.specs.Tree.{Tree, absent, empty, string, int, fraction, wide, boolean, mapping, array, error, Trees, no_trees, tree_and, Fields, no_fields, field_and, items_in, is_collection, spelled}
use Rattle.mlr_spec.specs.JsonTokens.{Token, sign, text_token, word_token, mark_of, is_word_byte, is_blank, number_of_kind}
use Rattle.mlr_spec.specs.JsonGrammar.{Syntax, text, word, object, elements, Members, no_members, member_and, Elements, no_elements, element_and, tokens_in, member_tokens, element_tokens}
use Rattle.mlr_json.specs.Readable.{plain, IsReadable, ArePairsReadable, AreItemsReadable}
use Rattle.mlr_json.proofs.WrittenTokens.{Reads, reads-append, reads-string, reads-mark, reads-space, reads-line, reads-word, is_filled, ends_word, word-byte-prefix}
use Rattle.mlr_json.proofs.NumberWords.{IsNumber, number-words, number-value}

-- how a value is written
abbrev mutual
  pub syntax_of : Tree → Syntax
  syntax_of absent = text []
  syntax_of empty = text []
  syntax_of (string t) = text t
  syntax_of (int n spelling) = word (int n (spelled n spelling))
  syntax_of (fraction t) = word (fraction t)
  syntax_of (wide t) = word (wide t)
  syntax_of (boolean b) = word (boolean b)
  syntax_of (mapping pairs) = object (members_of pairs)
  syntax_of (array items) = elements (elements_of items)
  syntax_of error = text []

  pub members_of : Fields → Members
  members_of no_fields = no_members
  members_of (field_and key value more) = member_and key (syntax_of value) (members_of more)

  pub elements_of : Trees → Elements
  elements_of no_trees = no_elements
  elements_of (tree_and item more) = element_and (syntax_of item) (elements_of more)

-- a text that is read as these tokens, where no word follows it
pub record IsRead (t : List ℕ) (tokens : List Token) : Type 0 where
  pub reads : (rest : List ℕ) → ends_word rest ≡ true → Reads (t ++ rest) tokens rest
  pub filled : (rest : List ℕ) → is_filled (t ++ rest) ≡ true

-- texts one by one
abbrev pub AreRead : List (List ℕ) → List (List Token) → Type 0
AreRead [] [] = Unit {0}
AreRead [] (ts ∷ more) = ⊥
AreRead (t ∷ texts) [] = ⊥
AreRead (t ∷ texts) (ts ∷ more) = IsRead t ts × AreRead texts more

abbrev between_commas : List (List Token) → List Token
between_commas [] = []
between_commas (ts ∷ []) = ts
between_commas (ts ∷ us ∷ more) = ts ++ sign Comma ∷ between_commas (us ∷ more)

-- a comma and what is between it and the next text
record Separates (separator : List ℕ) : Type 0 where
  comma : (rest : List ℕ) → is_filled rest ≡ true → Reads (separator ++ rest) (sign Comma ∷ []) rest
  ends : (rest : List ℕ) → ends_word (separator ++ rest) ≡ true

joined-filled : (separator t : List ℕ) (texts : List (List ℕ)) (ts : List Token) → IsRead t ts → (rest : List ℕ) → is_filled (joined separator (t ∷ texts) ++ rest) ≡ true
joined-filled separator t [] ts h rest = h.filled rest
joined-filled separator t (u ∷ texts) ts h rest =
    ap is_filled (append_assoc (t ++ separator) (joined separator (u ∷ texts)) rest ∙ append_assoc t separator (joined separator (u ∷ texts) ++ rest))
    ∙ h.filled (separator ++ (joined separator (u ∷ texts) ++ rest))

joined-read : (separator t : List ℕ) (texts : List (List ℕ)) (ts : List Token) (more : List (List Token)) → Separates separator → IsRead t ts → AreRead texts more
    → (rest : List ℕ) → ends_word rest ≡ true → Reads (joined separator (t ∷ texts) ++ rest) (between_commas (ts ∷ more)) rest
joined-read separator t [] ts [] s h k rest e = h.reads rest e
joined-read separator t [] ts (us ∷ more) s h k rest e = absurd k
joined-read separator t (u ∷ texts) ts [] s h k rest e = absurd k
joined-read separator t (u ∷ texts) ts (us ∷ more) s h k rest e =
    let following : List ℕ = joined separator (u ∷ texts) ++ rest in
    let here = h.reads (separator ++ following) (s.ends following) in
    let comma = s.comma following (joined-filled separator u texts us k.0 rest) in
    let later = joined-read separator u texts us more s k.0 k.1 rest e in
    subst (λ x. Reads x (ts ++ sign Comma ∷ between_commas (us ∷ more)) rest)
    (sym (append_assoc (t ++ separator) (joined separator (u ∷ texts)) rest ∙ append_assoc t separator following))
    (reads-append (t ++ (separator ++ following)) (separator ++ following) rest ts (sign Comma ∷ between_commas (us ∷ more)) here
    (reads-append (separator ++ following) following rest (sign Comma ∷ []) (between_commas (us ∷ more)) comma later))

line-separates : (level : ℕ) → Separates (44 ∷ new_line level)
line-separates level = record {
  comma = λ rest filled. reads-append (44 ∷ new_line level ++ rest) (new_line level ++ rest) rest (sign Comma ∷ []) [] (reads-mark 44 Comma (new_line level ++ rest) refl) (reads-line (2 * level) rest filled);
  ends = λ rest. refl;
}

space-separates : Separates (codes ", ")
space-separates = record {
  comma = λ rest filled. reads-append (44 ∷ 32 ∷ rest) (32 ∷ rest) rest (sign Comma ∷ []) [] (reads-mark 44 Comma (32 ∷ rest) refl) (reads-space rest filled);
  ends = λ rest. refl;
}

-- the texts between two brackets
module _ (left right : ℕ) (begins ends : JsonMark) (left_is : mark_of left ≡ Some begins) (right_is : mark_of right ≡ Some ends) (right_fills : (rest : List ℕ) → is_filled (right ∷ rest) ≡ true) (right_ends : (rest : List ℕ) → ends_word (right ∷ rest) ≡ true) where
  bracketed-read : (on_lines : Bool) (level : ℕ) (texts : List (List ℕ)) (tokens : List (List Token)) → AreRead texts tokens
      → (rest : List ℕ) → Reads (bracketed on_lines level left right texts ++ rest) (sign begins ∷ between_commas tokens ++ sign ends ∷ []) rest
  bracketed-read on_lines level [] [] h rest =
      reads-append (left ∷ right ∷ rest) (right ∷ rest) rest (sign begins ∷ []) (sign ends ∷ []) (reads-mark left begins (right ∷ rest) left_is) (reads-mark right ends rest right_is)
  bracketed-read on_lines level [] (ts ∷ more) h rest = absurd h
  bracketed-read on_lines level (t ∷ texts) [] h rest = absurd h
  bracketed-read true level (t ∷ texts) (ts ∷ more) h rest =
      let close : List ℕ = new_line level ++ right ∷ rest in
      let inner : List ℕ = joined (44 ∷ new_line (level + 1)) (t ∷ texts) ++ close in
      let shape : bracketed true level left right (t ∷ texts) ++ rest ≡ left ∷ (new_line (level + 1) ++ inner) = simp append_assoc in
      let last = reads-append close (right ∷ rest) rest [] (sign ends ∷ []) (reads-line (2 * level) (right ∷ rest) (right_fills rest)) (reads-mark right ends rest right_is) in
      let items = joined-read (44 ∷ new_line (level + 1)) t texts ts more (line-separates (level + 1)) h.0 h.1 close refl in
      let line = reads-line (2 * (level + 1)) inner (joined-filled (44 ∷ new_line (level + 1)) t texts ts h.0 close) in
      subst (λ x. Reads x (sign begins ∷ between_commas (ts ∷ more) ++ sign ends ∷ []) rest) (sym shape)
      (reads-append (left ∷ (new_line (level + 1) ++ inner)) (new_line (level + 1) ++ inner) rest (sign begins ∷ []) (between_commas (ts ∷ more) ++ sign ends ∷ [])
      (reads-mark left begins (new_line (level + 1) ++ inner) left_is)
      (reads-append (new_line (level + 1) ++ inner) inner rest [] (between_commas (ts ∷ more) ++ sign ends ∷ []) line
      (reads-append inner close rest (between_commas (ts ∷ more)) (sign ends ∷ []) items last)))
  bracketed-read false level (t ∷ texts) (ts ∷ more) h rest =
      let inner : List ℕ = joined (codes ", ") (t ∷ texts) ++ right ∷ rest in
      let shape : bracketed false level left right (t ∷ texts) ++ rest ≡ left ∷ inner = simp append_assoc in
      let items = joined-read (codes ", ") t texts ts more space-separates h.0 h.1 (right ∷ rest) (right_ends rest) in
      subst (λ x. Reads x (sign begins ∷ between_commas (ts ∷ more) ++ sign ends ∷ []) rest) (sym shape)
      (reads-append (left ∷ inner) inner rest (sign begins ∷ []) (between_commas (ts ∷ more) ++ sign ends ∷ [])
      (reads-mark left begins inner left_is)
      (reads-append inner (right ∷ rest) rest (between_commas (ts ∷ more)) (sign ends ∷ []) items (reads-mark right ends rest right_is)))

bracketed-filled : (on_lines : Bool) (level left right : ℕ) (texts : List (List ℕ)) (rest : List ℕ) → not (is_blank left) ≡ true → is_filled (bracketed on_lines level left right texts ++ rest) ≡ true
bracketed-filled on_lines level left right [] rest h = h
bracketed-filled true level left right (t ∷ texts) rest h = h
bracketed-filled false level left right (t ∷ texts) rest h = h

-- the tokens of the members and of the elements, each by itself
abbrev pub each_member : Fields → List (List Token)
each_member no_fields = []
each_member (field_and key value more) = (text_token key ∷ sign Colon ∷ tokens_in (syntax_of value)) ∷ each_member more

abbrev pub each_element : Trees → List (List Token)
each_element no_trees = []
each_element (tree_and item more) = tokens_in (syntax_of item) ∷ each_element more

members-between : (pairs : Fields) → member_tokens (members_of pairs) ≡ between_commas (each_member pairs)
members-between no_fields = refl
members-between (field_and key value no_fields) = ap (λ t. text_token key ∷ sign Colon ∷ t) (append-nil (tokens_in (syntax_of value)))
members-between (field_and key value (field_and next later more)) =
    ap (λ t. text_token key ∷ sign Colon ∷ (tokens_in (syntax_of value) ++ sign Comma ∷ t)) (members-between (field_and next later more))

elements-between : (items : Trees) → element_tokens (elements_of items) ≡ between_commas (each_element items)
elements-between no_trees = refl
elements-between (tree_and item no_trees) = append-nil (tokens_in (syntax_of item))
elements-between (tree_and item (tree_and next more)) = ap (λ t. tokens_in (syntax_of item) ++ sign Comma ∷ t) (elements-between (tree_and next more))

-- a number
number-read : (t : List ℕ) (value : Tree) → IsNumber (kind_of plain t) → number_of_kind (kind_of plain t) false t ≡ Some value → IsRead t (word_token value ∷ [])
number-read [] value h is = absurd h
number-read (b ∷ t) value h is =
    let words = number-words (b ∷ t) h in
    record {
      reads = λ rest e. reads-word b t rest (word_token value) words e (number-value (b ∷ t) value h is);
      filled = λ rest. ap not (word-byte-prefix b t (and_parts (is_word_byte b) (list_all is_word_byte t) words).0).1;
    }

string-read : (t : List ℕ) → IsRead (json_string t) (text_token t ∷ [])
string-read t = record { reads = λ rest e. reads-string t rest; filled = λ rest. refl }

member-read : (key t : List ℕ) (tokens : List Token) → IsRead t tokens → IsRead (json_string key ++ codes ": " ++ t) (text_token key ∷ sign Colon ∷ tokens)
member-read key t tokens h = record {
  reads = λ rest e.
      subst (λ x. Reads x (text_token key ∷ sign Colon ∷ tokens) rest) (sym (append_assoc (json_string key ++ codes ": ") t rest ∙ append_assoc (json_string key) (codes ": ") (t ++ rest)))
      (reads-append (json_string key ++ (58 ∷ 32 ∷ (t ++ rest))) (58 ∷ 32 ∷ (t ++ rest)) rest (text_token key ∷ []) (sign Colon ∷ tokens) (reads-string key (58 ∷ 32 ∷ (t ++ rest)))
      (reads-append (58 ∷ 32 ∷ (t ++ rest)) (32 ∷ (t ++ rest)) rest (sign Colon ∷ []) tokens (reads-mark 58 Colon (32 ∷ (t ++ rest)) refl)
      (reads-append (32 ∷ (t ++ rest)) (t ++ rest) rest [] tokens (reads-space (t ++ rest) (h.filled rest)) (h.reads rest e))));
  filled = λ rest. refl;
}

mutual
  pub value-read : (style : JsonStyle) (level : ℕ) (v : Tree) → IsReadable v → IsRead (json_at style level v) (tokens_in (syntax_of v))
  value-read style level absent h = string-read []
  value-read style level empty h = string-read []
  value-read style level (string t) h = string-read t
  value-read style level (int n spelling) h =
      number-read (spelled n spelling) (int n (spelled n spelling)) (subst IsNumber (sym h) tt) (ap (λ k. number_of_kind k false (spelled n spelling)) h)
  value-read style level (fraction t) h = number-read t (fraction t) (subst IsNumber (sym h) tt) (ap (λ k. number_of_kind k false t) h)
  value-read style level (wide t) h = number-read t (wide t) (subst IsNumber (sym h) tt) (ap (λ k. number_of_kind k false t) h)
  value-read style level (boolean true) h = record { reads = λ rest e. reads-word 116 (codes "rue") rest (word_token (boolean true)) refl e refl; filled = λ rest. refl }
  value-read style level (boolean false) h = record { reads = λ rest e. reads-word 102 (codes "alse") rest (word_token (boolean false)) refl e refl; filled = λ rest. refl }
  value-read style level (mapping pairs) h = record {
    reads = λ rest e. subst (λ t. Reads (json_at style level (mapping pairs) ++ rest) (sign BeginMap ∷ t ++ sign EndMap ∷ []) rest) (sym (members-between pairs))
        (bracketed-read 123 125 BeginMap EndMap refl refl (λ r. refl) (λ r. refl) (is_stacked style) level (json_pairs style (level + 1) pairs) (each_member pairs) (pairs-read style (level + 1) pairs h.1) rest);
    filled = λ rest. bracketed-filled (is_stacked style) level 123 125 (json_pairs style (level + 1) pairs) rest refl;
  }
  value-read style level (array items) h = record {
    reads = λ rest e. subst (λ t. Reads (json_at style level (array items) ++ rest) (sign BeginArray ∷ t ++ sign EndArray ∷ []) rest) (sym (elements-between items))
        (bracketed-read 91 93 BeginArray EndArray refl refl (λ r. refl) (λ r. refl) (is_stacked style && list_any is_collection (items_in items)) level (json_items style (level + 1) items) (each_element items) (items-read style (level + 1) items h) rest);
    filled = λ rest. bracketed-filled (is_stacked style && list_any is_collection (items_in items)) level 91 93 (json_items style (level + 1) items) rest refl;
  }
  value-read style level error h = absurd h

  pairs-read : (style : JsonStyle) (level : ℕ) (pairs : Fields) → ArePairsReadable pairs → AreRead (json_pairs style level pairs) (each_member pairs)
  pairs-read style level no_fields h = tt
  pairs-read style level (field_and key value more) h = (member-read key (json_at style level value) (tokens_in (syntax_of value)) (value-read style level value h.0), pairs-read style level more h.1)

  items-read : (style : JsonStyle) (level : ℕ) (items : Trees) → AreItemsReadable items → AreRead (json_items style level items) (each_element items)
  items-read style level no_trees h = tt
  items-read style level (tree_and item more) h = (value-read style level item h.0, items-read style level more h.1)
