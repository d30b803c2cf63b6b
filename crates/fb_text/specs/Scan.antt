-- How many bytes each form takes at the start of a text, 0 if it takes none.
use Rattle.std.specs.Prelude.{◌≡◌, ℕ, suc, ◌+◌, ◌<◌, ◌≤◌, Bool, false, not, ◌&&◌, ◌==◌, if◌then◌else◌, List, [], ◌∷◌, drop, slice_index, Option, Some, None, option_map}
use Rattle.std.specs.{List.{prefix_len}, Char.{is_ascii_digit}}
use Rattle.fb_text.specs.Bytes.{is_word_byte, is_line_end, is_number_byte, is_exponent_mark, is_quote, hash, point, escape, first}
use Rattle.fb_text.specs.declared.quotes.OpenQuotes.{OpenQuotes}
use Rattle.fb_text.specs.Forms.{sign_len, after_sign, is_date, is_real, is_value_byte, leading_word, after_word, is_symbol_byte, is_symbol_pair}

-- k, or 0 if n is 0
abbrev pub where_some : ℕ → ℕ → ℕ
where_some n k = if n == 0 then 0 else k

unfoldable pub exponent_len : List ℕ → ℕ
exponent_len [] = 0
exponent_len (b ∷ bs) = if is_exponent_mark b then where_some (prefix_len is_ascii_digit (after_sign bs)) (1 + sign_len bs + prefix_len is_ascii_digit (after_sign bs)) else 0

unfoldable pub fraction_len : List ℕ → ℕ
fraction_len bs = where_some (prefix_len is_ascii_digit bs) (prefix_len is_ascii_digit bs + exponent_len (drop (prefix_len is_ascii_digit bs) bs))

unfoldable pub number_tail_len : List ℕ → ℕ
number_tail_len [] = 0
number_tail_len (b ∷ bs) =
    if b == hash then where_some (prefix_len is_word_byte bs) (1 + prefix_len is_word_byte bs)
    else if b == point then where_some (fraction_len bs) (1 + fraction_len bs)
    else 0

unfoldable pub number_len : List ℕ → ℕ
number_len bs = prefix_len is_number_byte bs + number_tail_len (drop (prefix_len is_number_byte bs) bs)

unfoldable pub value_len : Bool → Bool → ℕ → List ℕ → ℕ
value_len date real before [] = 0
value_len date real before (b ∷ bs) = if is_value_byte date real before b (first bs) then suc (value_len date real b bs) else 0

unfoldable pub typed_tail_len : Bool → Bool → List ℕ → ℕ
typed_tail_len date real [] = 0
typed_tail_len date real (b ∷ bs) =
    if b == hash then where_some (value_len date real hash (after_sign bs)) (1 + sign_len bs + value_len date real hash (after_sign bs)) else 0

-- how many bytes after the word at the start belong to a typed literal
unfoldable pub typed_len : List ℕ → ℕ
typed_len bs = typed_tail_len (is_date (leading_word bs)) (is_real (leading_word bs)) (after_word bs)

-- How many bytes go through the closing quote, if one comes before the line's end. A byte that is escaped
-- neither closes nor escapes.
unfoldable pub through_quote : ℕ → Bool → List ℕ → Option ℕ
through_quote quote escaped [] = None
through_quote quote escaped (b ∷ bs) =
    if is_line_end b then None
    else if not escaped && b == quote then Some 1
    else option_map suc (through_quote quote (not escaped && b == escape) bs)

abbrev pub through_len : Option ℕ → ℕ
through_len None = 0
through_len (Some n) = suc n

unfoldable pub string_len : List ℕ → ℕ
string_len [] = 0
string_len (b ∷ bs) = if is_quote b then through_len (through_quote b false bs) else 0

-- how many bytes come before the line's end
abbrev pub line_rest : List ℕ → ℕ
line_rest bs = prefix_len (λ b. not (is_line_end b)) bs

-- up to where quotes of a kind open no string
abbrev pub reach_of : OpenQuotes → ℕ → ℕ
reach_of quotes quote = if quote == 34 then quotes.double else quotes.single

abbrev pub extended : OpenQuotes → ℕ → ℕ → OpenQuotes
extended quotes quote end = if quote == 34 then record { single = quotes.single; double = end } else record { single = end; double = quotes.double }

abbrev pub no_quotes : OpenQuotes
no_quotes = record { single = 0; double = 0 }

-- no string begins with the quote from one place up to another
abbrev pub NoString : List ℕ → ℕ → ℕ → ℕ → Type 0
NoString text quote from end = (k : ℕ) → from ≤ k → k < end → slice_index text k ≡ quote → string_len (drop k text) ≡ 0

-- from a place on no string begins up to where the open quotes reach
pub record AreOpen (text : List ℕ) (place : ℕ) (quotes : OpenQuotes) : Type 0 where
  pub single : NoString text 39 place quotes.single
  pub double : NoString text 34 place quotes.double

unfoldable pub symbol_len : List ℕ → ℕ
symbol_len [] = 0
symbol_len (a ∷ []) = if is_symbol_byte a then 1 else 0
symbol_len (a ∷ b ∷ bs) = if is_symbol_pair a b then 2 else (if is_symbol_byte a then 1 else 0)
