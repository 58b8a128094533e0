-- Worked rows of what is told of lines of the console that begin with words of the prompt or of GDB.
use Rattle.std.proofs.Common.{◌≡◌, refl, true, false, Some, None, codes}
use Rattle.frame_values.specs.declared.values.NoValue.TheVariants as no
use Rattle.adapter_requests.specs.declared.request.Context.TheVariants.{Console, Hover, Watch}
use Rattle.adapter_replies.specs.declared.console.Asked.TheVariants as asked
use Rattle.adapter_replies.specs.declared.hints.Hint.TheVariants as hint
use Rattle.adapter_replies.specs.Console.{asked_in}
use Rattle.adapter_replies.specs.Hints.{hint_in, hinted_text}

-- ---- lines with a hint

one_word : hint_in (codes "list") ≡ Some (record { hint = hint.Source; is_alone = true })
one_word = refl

a_number : hint_in (codes "tbreak 17") ≡ Some (record { hint = hint.Line; is_alone = false })
a_number = refl

behind_blanks : hint_in (codes "  frame 1 ") ≡ Some (record { hint = hint.Frames; is_alone = false })
behind_blanks = refl

with_a_format : hint_in (codes "display/x v") ≡ Some (record { hint = hint.Displays; is_alone = false })
with_a_format = refl

with_a_condition : hint_in (codes "b 14 if v > 3") ≡ Some (record { hint = hint.Breakpoints; is_alone = false })
with_a_condition = refl

with_a_quotation : hint_in (codes "printf \"%d\", v") ≡ Some (record { hint = hint.OfGdb; is_alone = false })
with_a_quotation = refl

-- ---- lines with none

another_word : hint_in (codes "lis") ≡ None
another_word = refl

only_blanks : hint_in (codes "  ") ≡ None
only_blanks = refl

what_is_printed : hint_in (codes "print list") ≡ None
what_is_printed = refl

-- an expression may begin with a name that is a word of the prompt
a_sum : hint_in (codes "i + 1") ≡ None
a_sum = refl

a_quotient : hint_in (codes "d/n") ≡ None
a_quotient = refl

an_element : hint_in (codes "last[2]") ≡ None
an_element = refl

-- ---- in the console alone

in_the_console : asked_in Console (codes "run") ≡ asked.Words (record { hint = hint.Beginning; is_alone = true })
in_the_console = refl

a_list_comes_first : asked_in Console (codes "info args") ≡ asked.Parameters
a_list_comes_first = refl

under_the_mouse : asked_in Hover (codes "run") ≡ asked.Value
under_the_mouse = refl

in_a_watch_list : asked_in Watch (codes "tbreak 17") ≡ asked.Value
in_a_watch_list = refl

-- ---- what is told

of_a_word_alone : hinted_text (record { hint = hint.Settings; is_alone = true }) no.NoFrame
    ≡ codes "the program has ended, and no frame has values. `set var T = V` and `set record full insn-number-max N` are done here."
of_a_word_alone = refl

of_a_line : hinted_text (record { hint = hint.Settings; is_alone = false }) no.NoFrame ≡ codes "`set var T = V` and `set record full insn-number-max N` are done here."
of_a_line = refl
