-- What an editor can open of what an expression names: the lanes or elements of a variable.
use Rattle.std.specs.Prelude.{ℕ, List, find, take, option_map, Option, Some, None}
use Rattle.gang_model.specs.Source.Names.{same_text}
use Rattle.gang_model.specs.Debugger.Debugger.{Debugger, Setting, Target, depth, now}
use Rattle.gang_model.specs.Texts.Text.{Bytes}
use Rattle.debug_answers.specs.declared.answer.Answer.{Answer}
use Rattle.debug_answers.specs.declared.answer.Answer.TheVariants as answer
use Rattle.debug_commands.specs.Views.{target_view}
use Rattle.debug_traits.specs.Machines.{file_variables}
use Rattle.adapter_replies.specs.declared.places.Place.{Place}
use Rattle.adapter_replies.specs.declared.places.Place.TheVariants as place
use Rattle.adapter_replies.specs.declared.places.Scope.{Scope}
use Rattle.adapter_replies.specs.declared.places.Scope.TheVariants.{Locals, Arguments}
use Rattle.adapter_replies.specs.declared.forms.Form.TheVariants as form
use Rattle.adapter_replies.specs.Variables.{ToldVariable, scope_list, told_each}

-- where the lanes or elements are of the first of some variables that has a name
abbrev pub parts_named : (name : Bytes) → List ToldVariable → Option Place
parts_named name variables = option_map (λ v. v.parts) (find (λ v. same_text v.name name) variables)

-- the same among the local variables or the parameters of the frame at a depth, and among the variables of the file
abbrev pub parts_in_frame : Setting → Debugger → Scope → (depth : ℕ) → (name : Bytes) → Option Place
parts_in_frame s d scope deep name = parts_named name (told_each form.Value s d deep (place.Parts scope deep) 0 (scope_list s d scope deep))

abbrev pub parts_in_file : Setting → Debugger → (name : Bytes) → Option Place
parts_in_file s d name = parts_named name (told_each form.Value s d (depth (now s d)) place.OfFile 0 (take 1000 (file_variables s)))

-- the first place that is there
abbrev pub first_place : (local parameter of_file : Option Place) → Place
first_place (Some at) parameter of_file = at
first_place None (Some at) of_file = at
first_place None None (Some at) = at
first_place None None None = place.Nothing

-- where the lanes or elements are of the variable that a name finds in the frame at a depth
abbrev pub opened_by_name : Setting → Debugger → (depth : ℕ) → (name : Bytes) → Place
opened_by_name s d deep name = first_place (parts_in_frame s d Locals deep name) (parts_in_frame s d Arguments deep name) (parts_in_file s d name)

-- what a target opens: a whole variable its lanes or elements, one of these nothing
abbrev pub opened_at : Setting → Debugger → (depth : ℕ) → (name : Bytes) → (at : Option ℕ) → Place
opened_at s d deep name None = opened_by_name s d deep name
opened_at s d deep name (Some k) = place.Nothing

abbrev pub opened : Setting → Debugger → (depth : ℕ) → Target → Place
opened s d deep target = opened_at s d deep target.name target.at

-- what an answer opens in the top frame: what it shows
abbrev pub opened_by : Setting → Debugger → Answer → Place
opened_by s d (answer.Shows target shown) = opened s d (depth (now s d)) (target_view target)
opened_by s d other = place.Nothing

-- what an answer opens that shows something here, and one that refuses nothing
abbrev pub unless_refused : Answer → Place → Place
unless_refused (answer.Refused why) at = place.Nothing
unless_refused other at = at
