-- The values that an answer shows, and what is told of them.
use Rattle.std.proofs.Common.{◌≡◌, refl, ℕ, Bool, true, false, option_map, string_bytes, Option, Some, None}
use Rattle.gang_model.specs.Debugger.Debugger.{Debugger, Setting}
use Rattle.gang_model.specs.Texts.Text.{Bytes}
use Rattle.debug_answers.specs.declared.answer.Answer.{Answer}
use Rattle.debug_answers.specs.declared.answer.Answer.TheVariants as answer
use Rattle.adapter_requests.specs.declared.reply.Reply.{Reply}
use Rattle.adapter_requests.specs.declared.reply.Reply.TheVariants as reply
use Rattle.adapter_requests.specs.declared.request.Context.{Context}
use Rattle.adapter_replies.specs.Expressions.{shown_in}
use Rattle.adapter_replies.specs.Opened.{opened_by, unless_refused}
use Rattle.adapter_replies.specs.declared.places.Place.{Place}
use Rattle.adapter_replies.specs.declared.places.Place.TheVariants as place
use Rattle.adapter_replies.specs.Meanings.{unset_text}
use Rattle.adapter_replies.specs.Told.{IsGivenTold, IsLineTold, IsOpenedBy, IsSetTold, IsValueTold, has_values, shown_option, told_stop, told_value}

-- a variable is set to the values that an answer shows
pub set_to : (given : Answer) (text values : Bytes) (value : _) (reference : ℕ) → Some (string_bytes value) ≡ shown_option given values → IsSetTold (Some given) text values (reply.Set value reference)
set_to (answer.Shows target shown) text values value reference some = cc
set_to other text values value reference some = absurd cc

-- what shows no values opens nothing
pub nothing_opens : (s : Setting) (d : Debugger) (given : Answer) → has_values given ≡ false → place.Nothing ≡ opened_by s d given
nothing_opens s d (answer.Shows target shown) has = absurd cc
nothing_opens s d other has = refl

-- what an answer opens that says something, or none
pub given_opened : (s : Setting) (d : Debugger) (last : Option Answer) (deep : ℕ) (name : Bytes) (is_hexadecimal : Bool) (told : Reply) → (last ≡ Some answer.Silent → ⊥)
    → IsOpenedBy s d last told → IsGivenTold s d last deep name is_hexadecimal told
given_opened s d None deep name is_hexadecimal told says is = is
given_opened s d (Some answer.Silent) deep name is_hexadecimal told says is = absurd (says refl)
given_opened s d (Some other) deep name is_hexadecimal told says is = is

-- where it shows none, it is told as why the variable was not set
pub not_set : (given : Answer) (text values : Bytes) (told : Reply) → None ≡ shown_option given values → told_stop told ≡ Some (None, unset_text given text) → IsSetTold (Some given) text values told
not_set (answer.Shows target shown) text values told none says = absurd cc
not_set answer.Silent text values told none says = tt
not_set other text values told none says = says

-- or in a line of the console as the line is
pub line_alone : (context : Context) (given : Answer) (text values : Bytes) (told : Reply) → None ≡ shown_option given values → IsLineTold given text told → IsValueTold context given text values told
line_alone context (answer.Shows target shown) text values told none says = absurd cc
line_alone context other text values told none says = says

-- values that it shows are told
pub values_told : (context : Context) (given : Answer) (text values words : Bytes) (told : Reply) → Some words ≡ shown_option given values → told_value told ≡ Some (None, shown_in context words)
    → IsValueTold context given text values told
values_told context (answer.Shows target shown) text values words told some says = cc
values_told context other text values words told some says = absurd cc

-- one that shows values refuses nothing
pub opens_what_is_shown : (given : Answer) (at : Place) → true ≡ has_values given → unless_refused given at ≡ at
opens_what_is_shown (answer.Refused why) at has = absurd cc
opens_what_is_shown other at has = refl
