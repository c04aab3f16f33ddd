-- The signs that stand between and in the parts of a text, by their names (RFC 3261 section 25.1).
use Rattle.std.specs.Prelude.{ℕ}

-- a tab
abbrev pub tab : ℕ
tab = 9

-- the line feed, the second byte of a line's end
abbrev pub line_feed : ℕ
line_feed = 10

-- the carriage return, the first byte of a line's end
abbrev pub carriage_return : ℕ
carriage_return = 13

-- a space
abbrev pub space : ℕ
space = 32

-- `!`
abbrev pub exclamation : ℕ
exclamation = 33

-- `"`, before and behind a quoted string
abbrev pub quote : ℕ
quote = 34

-- `#`
abbrev pub number_sign : ℕ
number_sign = 35

-- `$`
abbrev pub dollar : ℕ
dollar = 36

-- `%`, before the two digits of an escaped byte
abbrev pub percent : ℕ
percent = 37

-- `&`
abbrev pub ampersand : ℕ
ampersand = 38

-- `'`
abbrev pub apostrophe : ℕ
apostrophe = 39

-- `(`
abbrev pub left_parenthesis : ℕ
left_parenthesis = 40

-- `)`
abbrev pub right_parenthesis : ℕ
right_parenthesis = 41

-- `*`
abbrev pub asterisk : ℕ
asterisk = 42

-- `+`
abbrev pub plus : ℕ
plus = 43

-- `,`
abbrev pub comma : ℕ
comma = 44

-- `-`
abbrev pub hyphen : ℕ
hyphen = 45

-- `.`
abbrev pub dot : ℕ
dot = 46

-- `/`
abbrev pub slash : ℕ
slash = 47

-- `0`
abbrev pub zero_digit : ℕ
zero_digit = 48

-- `:`
abbrev pub colon : ℕ
colon = 58

-- `;`
abbrev pub semicolon : ℕ
semicolon = 59

-- `<`, before an address's URI
abbrev pub left_angle : ℕ
left_angle = 60

-- `=`
abbrev pub equal : ℕ
equal = 61

-- `>`, behind an address's URI
abbrev pub right_angle : ℕ
right_angle = 62

-- `?`
abbrev pub question : ℕ
question = 63

-- `@`
abbrev pub at_sign : ℕ
at_sign = 64

-- `[`, before an IPv6 address
abbrev pub left_bracket : ℕ
left_bracket = 91

-- `\`, before an escaped byte of a quoted string
abbrev pub backslash : ℕ
backslash = 92

-- `]`, behind an IPv6 address
abbrev pub right_bracket : ℕ
right_bracket = 93

-- `_`
abbrev pub underscore : ℕ
underscore = 95

-- the backquote
abbrev pub backquote : ℕ
backquote = 96

-- `~`
abbrev pub tilde : ℕ
tilde = 126
