-- Worked rows of what a text names, what opens and what the console asks for.
use Rattle.std.proofs.Common.{◌≡◌, refl, false, [], ◌∷◌, Some, None, codes}
use Rattle.gang_model.specs.Texts.Text.{Bytes}
use Rattle.debug_answers.specs.declared.answer.Answer.TheVariants as answer
use Rattle.debug_answers.specs.declared.answer.Refusal.TheVariants as refusal
use Rattle.adapter_requests.specs.declared.reply.VariableKind.TheVariants as kind
use Rattle.adapter_requests.specs.declared.request.Context.TheVariants.{Console, Watch}
use Rattle.adapter_replies.specs.declared.console.Asked.TheVariants as asked
use Rattle.adapter_replies.specs.declared.places.Place.{Place}
use Rattle.adapter_replies.specs.declared.places.Place.TheVariants as place
use Rattle.adapter_replies.specs.declared.places.Scope.TheVariants.{Arguments, Locals}
use Rattle.value_digits.specs.declared.digits.Digits.TheVariants as in_digits
use Rattle.adapter_replies.specs.Asking.{printed_in}
use Rattle.adapter_replies.specs.Console.{asked_in, parameter_line, parameters_text}
use Rattle.adapter_replies.specs.Opened.{first_place, parts_named, unless_refused}
use Rattle.adapter_replies.specs.Targets.{target_in}
use Rattle.adapter_replies.specs.Variables.{ToldVariable}

-- ---- what a text names

a_name : target_in (codes "x") ≡ Some (record { name = codes "x"; at = None })
a_name = refl

a_lane : target_in (codes "x[2]") ≡ Some (record { name = codes "x"; at = Some 2 })
a_lane = refl

between_blanks : target_in (codes " x [ 2 ] ") ≡ Some (record { name = codes "x"; at = Some 2 })
between_blanks = refl

a_sum : target_in (codes "x + 1") ≡ None
a_sum = refl

a_computed_index : target_in (codes "x[1 + 1]") ≡ None
a_computed_index = refl

a_value_is_set : target_in (codes "x = 1") ≡ None
a_value_is_set = refl

-- ---- what opens

abbrev told : (name : Bytes) → Place → ToldVariable
told name parts = record { name = name; value = codes "1 2"; type = codes "varying int32"; kind = kind.Plain; is_constant = false; is_read_only = false; parts = parts }

the_second : parts_named (codes "y") (told (codes "x") (place.OfFile 0) ∷ told (codes "y") (place.OfFile 1) ∷ []) ≡ Some (place.OfFile 1)
the_second = refl

no_such_name : parts_named (codes "z") (told (codes "x") (place.OfFile 0) ∷ []) ≡ None
no_such_name = refl

a_local_before_one_of_the_file : first_place (Some (place.Parts Locals 2 0)) None (Some (place.OfFile 0)) ≡ place.Parts Locals 2 0
a_local_before_one_of_the_file = refl

a_parameter : first_place None (Some (place.Parts Arguments 2 0)) None ≡ place.Parts Arguments 2 0
a_parameter = refl

a_refusal_opens_nothing : unless_refused (answer.Refused refusal.OutOfRange) place.File ≡ place.Nothing
a_refusal_opens_nothing = refl

-- ---- the console

help_for_a_word : asked_in Console (codes "help next") ≡ asked.Help
help_for_a_word = refl

the_parameters : asked_in Console (codes "info args") ≡ asked.Parameters
the_parameters = refl

the_locals : asked_in Console (codes "info locals") ≡ asked.Locals
the_locals = refl

another_word : asked_in Console (codes "helpless") ≡ asked.Value
another_word = refl

no_help_in_a_list : asked_in Watch (codes "help") ≡ asked.Value
no_help_in_a_list = refl

no_parameter : parameters_text [] ≡ codes "no parameters"
no_parameter = refl

line_of_one : parameter_line (told (codes "x") place.Nothing) ≡ codes "x = 1 2\n"
line_of_one = refl

-- ---- what is printed

printed_name : printed_in Console (codes "print k") ≡ record { digits = None; text = codes "k" }
printed_name = refl

printed_sum : printed_in Console (codes "p k + 1") ≡ record { digits = None; text = codes "k + 1" }
printed_sum = refl

in_hexadecimal : printed_in Console (codes "p/x k") ≡ record { digits = Some in_digits.Hexadecimal; text = codes " k" }
in_hexadecimal = refl

behind_a_blank : printed_in Console (codes "print /c k") ≡ record { digits = Some in_digits.Character; text = codes " k" }
behind_a_blank = refl

-- `p` is a variable here, as the letter is none of digits or nothing stands behind it
a_quotient : printed_in Console (codes "p/x") ≡ record { digits = None; text = codes "p/x" }
a_quotient = refl

another_quotient : printed_in Console (codes "p/k + 1") ≡ record { digits = None; text = codes "p/k + 1" }
another_quotient = refl

no_print_in_a_list : printed_in Watch (codes "p/x k") ≡ record { digits = None; text = codes "p/x k" }
no_print_in_a_list = refl
