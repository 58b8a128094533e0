-- Lines, and what they stand for, computed.
use Rattle.std.proofs.Common.{◌≡◌, refl, true, false}
use Rattle.std.specs.Prelude.{[], ◌++◌, None, Some, codes, replicate}
use Rattle.prompt_lines.specs.declared.line.Kind.TheVariants as kind
use Rattle.prompt_lines.specs.declared.line.Look.TheVariants as look
use Rattle.prompt_lines.specs.Conditions.{before_if, behind_first, condition_in, first_word}
use Rattle.prompt_lines.specs.Numbers.{are_numbers, names_number, range_of}
use Rattle.prompt_lines.specs.Lines.{line_of}
use Rattle.prompt_lines.specs.Words.{moment_of}

temporary_row : line_of (codes "tbreak 5") ≡ record { kind = kind.Temporary; text = codes "break  5" }
temporary_row = refl

set_row : line_of (codes "  set x[1] = 3") ≡ record { kind = kind.Set; text = codes "set var  x[1] = 3" }
set_row = refl

set_var_row : line_of (codes "set var x = 3") ≡ record { kind = kind.Set; text = codes "set var  x = 3" }
set_var_row = refl

hexadecimal_row : line_of (codes "p/x x") ≡ record { kind = kind.Formatted; text = codes "print/x  x" }
hexadecimal_row = refl

-- a letter behind a blank
parted_row : line_of (codes "print /x x") ≡ record { kind = kind.Formatted; text = codes "print/x  x" }
parted_row = refl

parted_display_row : line_of (codes "display /t x[1]") ≡ record { kind = kind.Display; text = codes "print/t  x[1]" }
parted_display_row = refl

-- a longer word is no letter
no_letter_row : line_of (codes "p /xy") ≡ record { kind = kind.Print; text = codes "print  /xy" }
no_letter_row = refl

binary_row : line_of (codes "print/t x[1]") ≡ record { kind = kind.Formatted; text = codes "print/t  x[1]" }
binary_row = refl

display_row : line_of (codes "display/o x + 1") ≡ record { kind = kind.Display; text = codes "print/o  x + 1" }
display_row = refl

when_row : line_of (codes "when x > 2") ≡ record { kind = kind.When; text = codes "when  x > 2" }
when_row = refl

lanes_row : line_of (codes "info lanes") ≡ record { kind = kind.Lanes; text = codes "lanes " }
lanes_row = refl

own_row : line_of (codes "reverse-next 2") ≡ record { kind = kind.Own; text = codes "reverse-next 2" }
own_row = refl

list_row : line_of (codes "info  b") ≡ record { kind = kind.Own; text = codes "info breakpoints " }
list_row = refl

look_row : line_of (codes "up 2") ≡ record { kind = kind.Look look.Up; text = codes "step  2" }
look_row = refl

short_row : line_of (codes "i line 9") ≡ record { kind = kind.Look look.Line; text = codes "break 9" }
short_row = refl

goto_row : line_of (codes "goto 4711") ≡ record { kind = kind.Goto; text = codes "goto  4711" }
goto_row = refl

last_row : line_of (codes "last x[1]") ≡ record { kind = kind.Last; text = codes "watch  x[1]" }
last_row = refl

forget_row : line_of (codes "delete checkpoint 2") ≡ record { kind = kind.Forget; text = codes "delete  2" }
forget_row = refl

start_row : line_of (codes "start") ≡ record { kind = kind.Start; text = codes "start " }
start_row = refl

disable_row : line_of (codes "disable breakpoints 1 3-4") ≡ record { kind = kind.Disable; text = codes "disable  1 3-4" }
disable_row = refl

enable_row : line_of (codes "en 2") ≡ record { kind = kind.Enable; text = codes "enable  2" }
enable_row = refl

moment_row : moment_of (codes "100000") ≡ Some 100000
moment_row = refl

no_moment_row : moment_of (codes "99999999999999999999") ≡ None
no_moment_row = refl

-- a longer word is another one
longer_row : line_of (codes "upwards") ≡ record { kind = kind.Own; text = codes "upwards" }
longer_row = refl

blank_row : line_of (codes "  ") ≡ record { kind = kind.Again; text = [] }
blank_row = refl

-- a comment, also behind blanks; a mark within a line begins none
comment_row : line_of (codes "  # step 5") ≡ record { kind = kind.Look look.Text; text = [] }
comment_row = refl

no_comment_row : line_of (codes "p x # y") ≡ record { kind = kind.Print; text = codes "print  x # y" }
no_comment_row = refl

-- ---- fronts

front_row : line_of (codes "disp x") ≡ record { kind = kind.Display; text = codes "print x" }
front_row = refl

-- of two commands with one front the first one
first_front_row : line_of (codes "con") ≡ record { kind = kind.Own; text = codes "continue " }
first_front_row = refl

second_front_row : line_of (codes "cond 1 x") ≡ record { kind = kind.Condition; text = codes " 1 x" }
second_front_row = refl

-- two letters are too few, and a longer word is no front
two_letters_row : line_of (codes "ne 2") ≡ record { kind = kind.Own; text = codes "ne 2" }
two_letters_row = refl

longer_front_row : line_of (codes "nexts") ≡ record { kind = kind.Own; text = codes "nexts" }
longer_front_row = refl

last_front_row : line_of (codes "las total") ≡ record { kind = kind.Last; text = codes "watch total" }
last_front_row = refl

record_front_row : line_of (codes "rec") ≡ record { kind = kind.Look look.Recording; text = codes " " }
record_front_row = refl

-- a front of `info` that nothing stands behind
info_alone_row : line_of (codes "inf") ≡ record { kind = kind.Look look.Lists; text = codes " " }
info_alone_row = refl

-- no shorter front of these moves the program
reverse_row : line_of (codes "rev") ≡ record { kind = kind.Own; text = codes "reverse- " }
reverse_row = refl

-- what `info` lists by one letter, by more, and behind a front of `info`
list_letter_row : line_of (codes "i l") ≡ record { kind = kind.Look look.Locals; text = codes " " }
list_letter_row = refl

list_front_row : line_of (codes "info wat") ≡ record { kind = kind.Look look.Watches; text = codes " " }
list_front_row = refl

info_front_row : line_of (codes "inf line 9") ≡ record { kind = kind.Look look.Line; text = codes "break 9" }
info_front_row = refl

-- registers are none of the record
registers_row : line_of (codes "i r") ≡ record { kind = kind.Look look.Lists; text = codes " " }
registers_row = refl

no_list_row : line_of (codes "info xyz") ≡ record { kind = kind.Look look.Lists; text = codes "  xyz" }
no_list_row = refl

-- ---- conditions

before_row : before_if (codes "break 12 if i == 3") ≡ codes "break 12 "
before_row = refl

condition_row : condition_in (codes "break 12 if i == 3") ≡ Some (codes "i == 3")
condition_row = refl

marked_row : condition_in (codes "watch x[2] if(x[2] > 4)") ≡ Some (codes "(x[2] > 4)")
marked_row = refl

-- a name that begins or ends with `if`, and an `if` with nothing behind it
named_row : condition_in (codes "break iffy") ≡ None
named_row = refl

ended_row : condition_in (codes "break gif x") ≡ None
ended_row = refl

alone_row : before_if (codes "break 12 if ") ≡ codes "break 12 if "
alone_row = refl

-- a command line that was cut has no condition
long_row : condition_in (codes "break 12 if " ++ replicate 245 97) ≡ None
long_row = refl

numbered_row : line_of (codes "condition 2 i == 3") ≡ record { kind = kind.Condition; text = codes "  2 i == 3" }
numbered_row = refl

number_row : first_word (codes "  2 i == 3") ≡ codes "2"
number_row = refl

rest_row : behind_first (codes "  2 i == 3") ≡ codes "i == 3"
rest_row = refl

nothing_row : behind_first (codes "  2 ") ≡ []
nothing_row = refl

delete_row : line_of (codes "d 2") ≡ record { kind = kind.Delete; text = codes "delete  2" }
delete_row = refl

-- ---- numbers

range_row : range_of (codes "5-7") ≡ Some (record { first = 5; last = 7 })
range_row = refl

one_row : range_of (codes "12") ≡ Some (record { first = 12; last = 12 })
one_row = refl

upside_down_row : range_of (codes "7-5") ≡ None
upside_down_row = refl

not_closed_row : range_of (codes "5-") ≡ None
not_closed_row = refl

not_begun_row : range_of (codes "-5") ≡ None
not_begun_row = refl

two_dashes_row : range_of (codes "1-2-3") ≡ None
two_dashes_row = refl

the_last_row : names_number 7 (codes "delete  2 5-7") ≡ true
the_last_row = refl

behind_the_last_row : names_number 8 (codes "delete  2 5-7") ≡ false
behind_the_last_row = refl

between_row : names_number 4 (codes "delete  2 5-7") ≡ false
between_row = refl

all_row : names_number 4 (codes "disable ") ≡ true
all_row = refl

are_row : are_numbers (codes "delete  2 5-7") ≡ true
are_row = refl

are_not_row : are_numbers (codes "enable  once 1") ≡ false
are_not_row = refl

too_long_row : are_numbers (codes "delete " ++ replicate 250 49) ≡ false
too_long_row = refl

-- ---- functions

functions_row : line_of (codes "info functions tw") ≡ record { kind = kind.Look look.Functions; text = codes "functions tw" }
functions_row = refl

short_functions_row : line_of (codes "i functions") ≡ record { kind = kind.Look look.Functions; text = codes "functions " }
short_functions_row = refl

list_size_row : line_of (codes "show listsize") ≡ record { kind = kind.Look look.Layout; text = codes "listsize " }
list_size_row = refl

set_list_size_row : line_of (codes "set listsize 20") ≡ record { kind = kind.Look look.ListSize; text = codes "listsize  20" }
set_list_size_row = refl
