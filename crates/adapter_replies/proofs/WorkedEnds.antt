-- Worked rows of the frame of a program that has ended.
use Rattle.std.proofs.Common.{◌≡◌, refl, ap, ℕ, true, false, List, [], ◌∷◌, ◌++◌, Option, Some, None, codes, map, arith}
use Rattle.std.proofs.lemmas.Str.{IsUtf8-from_ascii, utf8_lossy-IsUtf8}
use Rattle.std.proofs.lemmas.Str.Ascii.{IsAscii-cons, IsAscii-nil}
use Rattle.gang_types.specs.declared.places.Place.{Place}
use Rattle.gang_types.specs.declared.types.IntType.TheVariants.{Int32}
use Rattle.gang_types.specs.declared.types.Rate.TheVariants.{Uniform}
use Rattle.gang_model.specs.Types.Tree.{Empty, Function, Program, Standing}
use Rattle.gang_model.specs.Debugger.Debugger.{Debugger, Setting}
use Rattle.gang_model.specs.Texts.Text.{Bytes, line_and_column}
use Rattle.adapter_requests.specs.declared.reply.Reply.{Reply}
use Rattle.adapter_requests.specs.declared.reply.Reply.TheVariants as reply
use Rattle.adapter_requests.specs.declared.request.Request.TheVariants as request
use Rattle.adapter_replies.specs.declared.places.Place.TheVariants as place
use Rattle.adapter_replies.specs.declared.places.Scope.TheVariants.{Locals, Arguments}
use Rattle.adapter_replies.specs.Ends.{IsToldThen, IsToldWhere, closing_place, end_frames, end_name, ended_in}
use Rattle.adapter_replies.specs.Frames.{asked_frames}
use Rattle.adapter_replies.specs.Threads.{IsLaneStackTold}
use Rattle.adapter_replies.specs.Told.{call_scopes}

-- two functions: the second has a step at 5:5, and its closing brace at 6:1
abbrev at_place : ℕ → ℕ → Standing
at_place line col = record { place = record { line = line; col = col }; scope = [] }

abbrev function : Bytes → List Standing → Function
function name standings = record { name = name; result = Uniform; result_type = Int32; body = Empty; standings = standings }

abbrev entry : Function
entry = function (codes "go") (at_place 5 5 ∷ at_place 6 1 ∷ [])

abbrev two : Program
two = record { functions = function (codes "f") (at_place 2 1 ∷ []) ∷ entry ∷ []; globals = [] }

closing_brace : closing_place entry ≡ Some (record { line = 6; col = 1 })
closing_brace = refl

number_of_the_end : map (λ it. it.depth) (end_frames two (Some 1)) ≡ 1 ∷ []
number_of_the_end = refl

place_of_the_end : map (λ it. it.place) (end_frames two (Some 1)) ≡ line_and_column (record { line = 6; col = 1 }) ∷ []
place_of_the_end = refl

place_of_the_other : map (λ it. it.place) (end_frames two (Some 0)) ≡ line_and_column (record { line = 2; col = 1 }) ∷ []
place_of_the_other = refl

name_of_the_end : end_name (codes "f") ≡ codes "f (ended)"
name_of_the_end = ap (λ name. name ++ codes " (ended)") (utf8_lossy-IsUtf8 (codes "f") (IsUtf8-from_ascii (codes "f") (IsAscii-cons 102 [] (omega arith) IsAscii-nil)))

-- a function that is not known, or not there, or has no step, has none
unknown_function : end_frames two None ≡ []
unknown_function = refl

no_function : end_frames two (Some 2) ≡ []
no_function = refl

no_step : ended_in (Some (function (codes "f") [])) ≡ []
no_step = refl

-- behind the one frame there is none
behind_the_end : asked_frames (Some 1) None (end_frames two (Some 1)) ≡ []
behind_the_end = refl

-- no function runs at the end
scopes_of_the_end : call_scopes true 1 ≡ None
scopes_of_the_end = refl

scopes_of_a_call : call_scopes false 3 ≡ Some (place.Variables Locals 3, place.Variables Arguments 3)
scopes_of_a_call = refl

-- another request is told its reply then, and so is each before
another_request : (told : Reply) → IsToldThen two (Some 1) request.Threads told told
another_request told = refl

before_the_end : (thread start levels : Option ℕ) (told : Reply) → IsToldWhere false two (Some 1) (request.StackTrace thread start levels) told told
before_the_end thread start levels told = refl

-- at the end a lane has no stack of its own
lane_at_the_end : (s : Setting) (d : Debugger) → IsLaneStackTold true s d 2 None None None
lane_at_the_end s d = refl
