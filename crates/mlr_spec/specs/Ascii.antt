-- Bytes by their names in ASCII.
use Rattle.std.specs.Prelude.{ℕ}

abbrev pub backspace : ℕ
backspace = 8

abbrev pub tab : ℕ
tab = 9

abbrev pub line_feed : ℕ
line_feed = 10

abbrev pub form_feed : ℕ
form_feed = 12

abbrev pub carriage_return : ℕ
carriage_return = 13

abbrev pub space : ℕ
space = 32

abbrev pub quote_mark : ℕ
quote_mark = 34

abbrev pub plus_sign : ℕ
plus_sign = 43

abbrev pub comma : ℕ
comma = 44

abbrev pub dash : ℕ
dash = 45

abbrev pub minus_sign : ℕ
minus_sign = 45

abbrev pub dot : ℕ
dot = 46

abbrev pub slash : ℕ
slash = 47

abbrev pub digit_zero : ℕ
digit_zero = 48

abbrev pub digit_nine : ℕ
digit_nine = 57

abbrev pub colon : ℕ
colon = 58

abbrev pub equals_sign : ℕ
equals_sign = 61

abbrev pub letter_upper_a : ℕ
letter_upper_a = 65

abbrev pub letter_upper_b : ℕ
letter_upper_b = 66

abbrev pub letter_upper_e : ℕ
letter_upper_e = 69

abbrev pub letter_upper_f : ℕ
letter_upper_f = 70

abbrev pub letter_upper_o : ℕ
letter_upper_o = 79

abbrev pub letter_upper_t : ℕ
letter_upper_t = 84

abbrev pub letter_upper_x : ℕ
letter_upper_x = 88

abbrev pub letter_upper_z : ℕ
letter_upper_z = 90

abbrev pub left_bracket : ℕ
left_bracket = 91

abbrev pub backslash : ℕ
backslash = 92

abbrev pub right_bracket : ℕ
right_bracket = 93

abbrev pub underscore : ℕ
underscore = 95

abbrev pub letter_a : ℕ
letter_a = 97

abbrev pub letter_b : ℕ
letter_b = 98

abbrev pub letter_e : ℕ
letter_e = 101

abbrev pub letter_f : ℕ
letter_f = 102

abbrev pub letter_n : ℕ
letter_n = 110

abbrev pub letter_o : ℕ
letter_o = 111

abbrev pub letter_r : ℕ
letter_r = 114

abbrev pub letter_t : ℕ
letter_t = 116

abbrev pub letter_u : ℕ
letter_u = 117

abbrev pub letter_x : ℕ
letter_x = 120

abbrev pub letter_z : ℕ
letter_z = 122

abbrev pub left_brace : ℕ
left_brace = 123

abbrev pub vertical_bar : ℕ
vertical_bar = 124

abbrev pub right_brace : ℕ
right_brace = 125
