-- How marks, reserved words and numbers are written.
use Rattle.std.specs.Prelude.{◌≡◌, ◌≢◌, ◌⊎◌, ℕ, ◌+◌, ◌*◌, ◌-◌, ◌<◌, ◌≤◌, ◌^◌, Bool, true, ◌&&◌, ◌||◌, ◌==◌, nat_le, List, [], ◌∷◌, ◌++◌, length, if◌then◌else◌, codes}
use Rattle.std.specs.List.{list_all, list_any, count_by}
use Rattle.gang_model.specs.declared.marks.Mark.{Mark}
use Rattle.gang_model.specs.declared.marks.Mark.TheVariants as mark

-- the bytes of a mark or a reserved word
unfoldable pub text_of : Mark → List ℕ
text_of mark.LeftParen = codes "("
text_of mark.RightParen = codes ")"
text_of mark.LeftBrace = codes "{"
text_of mark.RightBrace = codes "}"
text_of mark.LeftBracket = codes "["
text_of mark.RightBracket = codes "]"
text_of mark.Comma = codes ","
text_of mark.Semicolon = codes ";"
text_of mark.Question = codes "?"
text_of mark.Colon = codes ":"
text_of mark.Plus = codes "+"
text_of mark.Minus = codes "-"
text_of mark.Star = codes "*"
text_of mark.Slash = codes "/"
text_of mark.Percent = codes "%"
text_of mark.Ampersand = codes "&"
text_of mark.Bar = codes "|"
text_of mark.Caret = codes "^"
text_of mark.Tilde = codes "~"
text_of mark.Exclamation = codes "!"
text_of mark.Less = codes "<"
text_of mark.Greater = codes ">"
text_of mark.ShiftLeft = codes "<<"
text_of mark.ShiftRight = codes ">>"
text_of mark.LessEqual = codes "<="
text_of mark.GreaterEqual = codes ">="
text_of mark.EqualEqual = codes "=="
text_of mark.NotEqual = codes "!="
text_of mark.AndAnd = codes "&&"
text_of mark.OrOr = codes "||"
text_of mark.Assign = codes "="
text_of mark.PlusAssign = codes "+="
text_of mark.MinusAssign = codes "-="
text_of mark.StarAssign = codes "*="
text_of mark.SlashAssign = codes "/="
text_of mark.PercentAssign = codes "%="
text_of mark.AmpersandAssign = codes "&="
text_of mark.BarAssign = codes "|="
text_of mark.CaretAssign = codes "^="
text_of mark.ShiftLeftAssign = codes "<<="
text_of mark.ShiftRightAssign = codes ">>="
text_of mark.PlusPlus = codes "++"
text_of mark.MinusMinus = codes "--"
text_of mark.Dots = codes "..."
text_of mark.Export = codes "export"
text_of mark.Static = codes "static"
text_of mark.Inline = codes "inline"
text_of mark.Const = codes "const"
text_of mark.Uniform = codes "uniform"
text_of mark.Varying = codes "varying"
text_of mark.Unsigned = codes "unsigned"
text_of mark.Void = codes "void"
text_of mark.Bool = codes "bool"
text_of mark.Int = codes "int"
text_of mark.Int8 = codes "int8"
text_of mark.Int16 = codes "int16"
text_of mark.Int32 = codes "int32"
text_of mark.Int64 = codes "int64"
text_of mark.Uint = codes "uint"
text_of mark.Uint8 = codes "uint8"
text_of mark.Uint16 = codes "uint16"
text_of mark.Uint32 = codes "uint32"
text_of mark.Uint64 = codes "uint64"
text_of mark.True = codes "true"
text_of mark.False = codes "false"
text_of mark.If = codes "if"
text_of mark.Else = codes "else"
text_of mark.Cif = codes "cif"
text_of mark.While = codes "while"
text_of mark.Cwhile = codes "cwhile"
text_of mark.Do = codes "do"
text_of mark.Cdo = codes "cdo"
text_of mark.For = codes "for"
text_of mark.Cfor = codes "cfor"
text_of mark.Break = codes "break"
text_of mark.Continue = codes "continue"
text_of mark.Return = codes "return"
text_of mark.Foreach = codes "foreach"
text_of mark.ForeachTiled = codes "foreach_tiled"
text_of mark.ForeachActive = codes "foreach_active"
text_of mark.ForeachUnique = codes "foreach_unique"
text_of mark.In = codes "in"
text_of mark.Switch = codes "switch"
text_of mark.Case = codes "case"
text_of mark.Default = codes "default"

-- space, tab, LF and CR
abbrev pub is_blank : ℕ → Bool
is_blank b = b == 32 || b == 9 || b == 10 || b == 13

-- `0` to `9`
abbrev pub is_digit : ℕ → Bool
is_digit b = nat_le 48 b && nat_le b 57

-- `A` to `Z`, `a` to `z` and `_`
abbrev pub is_letter : ℕ → Bool
is_letter b = nat_le 65 b && nat_le b 90 || nat_le 97 b && nat_le b 122 || b == 95

-- what names, reserved words and numbers are made of
abbrev pub is_word : ℕ → Bool
is_word b = is_letter b || is_digit b

-- ---- numbers

pub data Radix : Type 0 where
  decimal : Radix
  hexadecimal : Radix
  binary : Radix

abbrev pub base : Radix → ℕ
base decimal = 10
base hexadecimal = 16
base binary = 2

-- what stands before the digits
abbrev pub IsPrefix : Radix → List ℕ → Type 0
IsPrefix decimal text = text ≡ []
IsPrefix hexadecimal text = (text ≡ codes "0x") ⊎ (text ≡ codes "0X")
IsPrefix binary text = (text ≡ codes "0b") ⊎ (text ≡ codes "0B")

-- `a` to `f`
abbrev pub is_small_digit : ℕ → Bool
is_small_digit b = nat_le 97 b && nat_le b 102

-- `A` to `F`
abbrev pub is_large_digit : ℕ → Bool
is_large_digit b = nat_le 65 b && nat_le b 70

abbrev pub is_digit_in : Radix → ℕ → Bool
is_digit_in decimal b = is_digit b
is_digit_in hexadecimal b = is_digit b || is_small_digit b || is_large_digit b
is_digit_in binary b = b == 48 || b == 49

-- of `a` and `A` it is 10
abbrev pub digit_value : ℕ → ℕ
digit_value b = if is_digit b then b - 48 else (if is_small_digit b then b - 97 + 10 else (if is_large_digit b then b - 65 + 10 else 0))

-- each digit counts its value times the power of the base for the digits after it
abbrev pub value_in : Radix → List ℕ → ℕ
value_in radix [] = 0
value_in radix (d ∷ ds) = digit_value d * base radix ^ length ds + value_in radix ds

-- several decimal digits do not begin with 0
abbrev pub NoLeadingZero : Radix → List ℕ → Type 0
NoLeadingZero decimal digits = (d : ℕ) (more : List ℕ) → digits ≡ 48 ∷ d ∷ more → ⊥
NoLeadingZero _ digits = Unit {0}

-- `u` and `U`
abbrev pub is_u : ℕ → Bool
is_u b = b == 117 || b == 85

-- `l` and `L`
abbrev pub is_l : ℕ → Bool
is_l b = b == 108 || b == 76

-- at most one u and at most two l, in any case and order
pub record IsSuffix (text : List ℕ) : Type 0 where
  pub letters : list_all (λ b. is_u b || is_l b) text ≡ true
  pub one_u : count_by is_u text ≤ 1
  pub two_l : count_by is_l text ≤ 2

-- a prefix, digits and a suffix, for a value of 64 bits
pub record IsNumber (text : List ℕ) (value : ℕ) (is_unsigned is_long : Bool) : Type 0 where
  pub radix : Radix
  pub prefix : List ℕ
  pub digits : List ℕ
  pub suffix : List ℕ
  pub parts : text ≡ prefix ++ digits ++ suffix
  pub prefixed : IsPrefix radix prefix
  pub some_digit : digits ≢ []
  pub only_digits : list_all (is_digit_in radix) digits ≡ true
  pub no_zero : NoLeadingZero radix digits
  pub value_is : value ≡ value_in radix digits
  pub fits : value < 2 ^ 64
  pub suffixed : IsSuffix suffix
  pub unsigned_is : is_unsigned ≡ list_any is_u suffix
  pub long_is : is_long ≡ list_any is_l suffix
