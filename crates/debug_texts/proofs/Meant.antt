-- The text of what an answer means.
use Rattle.std.proofs.Common.{◌≡◌, ◌⊎◌, sym, subst, length, ℕ, Bool, List, Option, Result}
use Rattle.gang_model.specs.Debugger.Debugger as model
use Rattle.gang_model.specs.Types.Tree.{Variable}
use Rattle.gang_model.specs.Debugger.Events.{Event}
use Rattle.gang_model.specs.Debugger.Positions.{scope_now}
use Rattle.gang_model.specs.Debugger.Debugger.{Debugger, Setting, now, shown_words}
use Rattle.gang_model.specs.Texts.Text.{Bytes, text}
use Rattle.debug_traits.specs.Devices.{Writes}
use Rattle.debug_traits.specs.declared.machine.Shown.{Shown}
use Rattle.debug_traits.specs.Machines.{IsOneOf, IsShown, file_variables}
use Rattle.debug_answers.specs.Meanings.{Means}
use Rattle.debug_answers.specs.declared.answer.Answer.{Answer}

-- a debugger with other events
abbrev pub with_events : Debugger → List Event → Debugger
with_events d events = record d { events = events }

-- what can be shown of a variable is the same wherever the same happened
pub shown_at : (s : Setting) (at d : Debugger) (v : Variable) (shown : Shown) → at.events ≡ d.events → IsShown s d v shown → IsShown s at v shown
shown_at s at d v shown same is = record {
  there = subst (λ events. IsOneOf (scope_now s.program (now s (with_events d events))) v ⊎ IsOneOf (file_variables s) v) (sym same) is.there;
  id = is.id;
  type = is.type;
  rate = is.rate;
  is_array = is.is_array;
  is_constant = is.is_constant;
  count = subst (λ events. length (shown_words (now s (with_events d events)) v) ≡ shown.count) (sym same) is.count;
}

-- what was written is the text of the only answer that a given one means
pub meant_text : {X E : Type 0} (s : Setting) (d : Debugger) (answer given : Answer) (meant only : model.Answer) (old new : Option (List ℕ)) (failed : Bool) (r : Result X E)
    → answer ≡ given → Means s d answer meant → (Means s d given meant → meant ≡ only) → Writes (text s only d) old new failed r → Writes (text s meant d) old new failed r
meant_text s d answer given meant only old new failed r is means one says =
    subst (λ a. Writes (text s a d) old new failed r) (sym (one (subst (λ a. Means s d a meant) is means))) says

-- what was written is the text wherever the same happened
pub moved_text : {X E : Type 0} (words : List Event → Bytes) (events others : List Event) (old new : Option (List ℕ)) (failed : Bool) (r : Result X E)
    → events ≡ others → Writes (words events) old new failed r → Writes (words others) old new failed r
moved_text words events others old new failed r same says = subst (λ l. Writes (words l) old new failed r) same says
