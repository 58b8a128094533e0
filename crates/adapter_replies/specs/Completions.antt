-- The names that can stand where a text has its cursor.
use Rattle.std.specs.Prelude.{ℕ, ◌-◌, ◌+◌, ◌||◌, Bool, List, [], ◌∷◌, ◌++◌, codes, drop, length, map, nat_eq, string_bytes, take, Option, Some, None}
use Rattle.std.specs.List.{filter, starts_with, suffix_len}
use Rattle.gang_model.specs.Debugger.Debugger.{Debugger, Setting, depth, now}
use Rattle.gang_model.specs.Texts.Spellings.{is_digit, is_letter}
use Rattle.gang_model.specs.Texts.Text.{Bytes}
use Rattle.debug_traits.specs.Machines.{file_variables}
use Rattle.adapter_requests.specs.declared.reply.Completion.{Completion}
use Rattle.adapter_replies.specs.declared.places.Place.TheVariants as place
use Rattle.adapter_replies.specs.declared.places.Scope.{Scope}
use Rattle.adapter_replies.specs.declared.places.Scope.TheVariants.{Arguments, Locals}
use Rattle.adapter_replies.specs.Columns.{utf16_length}
use Rattle.adapter_replies.specs.declared.forms.Form.TheVariants as form
use Rattle.adapter_replies.specs.Variables.{ToldVariable, scope_list, told_each}

-- a name in place of so many units from a column on; columns count from 1
pub record ToldCompletion : Type 0 where
  pub name : Bytes
  pub start : ℕ
  pub many : ℕ

abbrev pub completion_view : Completion → ToldCompletion
completion_view c = record { name = string_bytes c.name; start = c.start; many = c.many }

-- how many bytes the name at the end of a text has
abbrev pub is_name_byte : ℕ → Bool
is_name_byte byte = is_letter byte || is_digit byte

abbrev pub name_length : Bytes → ℕ
name_length text = suffix_len is_name_byte text

-- a name in place of so many bytes at the end of a text
abbrev pub in_place : (front : Bytes) → (many : ℕ) → (name : Bytes) → ToldCompletion
in_place front many name = record {
  name = name;
  start = utf16_length (take (length front - many) front) + 1;
  many = utf16_length (drop (length front - many) front);
}

-- those of some names that begin with so many bytes at the end of a text, in their place
abbrev pub completed : (front : Bytes) → (many : ℕ) → (names : List Bytes) → List ToldCompletion
completed front many names = map (in_place front many) (filter (λ name. starts_with nat_eq name (drop (length front - many) front)) names)

-- the debugger's commands by their whole words
abbrev pub command_names : List Bytes
command_names =
    codes "step" ∷ codes "next" ∷ codes "finish" ∷ codes "continue" ∷ codes "reverse-step" ∷ codes "reverse-next" ∷ codes "reverse-continue" ∷ codes "reverse-finish"
    ∷ codes "undo" ∷ codes "print" ∷ codes "set var" ∷ codes "set record full insn-number-max" ∷ codes "break" ∷ codes "watch" ∷ codes "delete"
    ∷ codes "info breakpoints" ∷ codes "info locals" ∷ codes "backtrace" ∷ codes "quit" ∷ []

-- the names of variables
abbrev pub names_of : List ToldVariable → List Bytes
names_of told = map (λ v. v.name) told

-- variables whose names can stand in place of the name at the end of a text
abbrev pub named : (front : Bytes) → List ToldVariable → List ToldCompletion
named front told = completed front (name_length front) (names_of told)

-- the local variables of the frame at a depth, or its parameters, and the variables of the file
abbrev pub of_frame : Setting → Debugger → Scope → (depth : ℕ) → (front : Bytes) → List ToldCompletion
of_frame s d scope deep front = named front (told_each form.Value s d deep (place.Parts scope deep) 0 (scope_list s d scope deep))

abbrev pub of_file : Setting → Debugger → (front : Bytes) → List ToldCompletion
of_file s d front = named front (told_each form.Value s d (depth (now s d)) place.OfFile 0 (take 1000 (file_variables s)))

-- commands in place of the whole text; then, in place of its last name, the local variables, the parameters and the variables of the file that a name finds
abbrev pub completions : Setting → Debugger → (depth : ℕ) → (front : Bytes) → List ToldCompletion
completions s d deep front = ((completed front (length front) command_names ++ of_frame s d Locals deep front) ++ of_frame s d Arguments deep front) ++ of_file s d front

-- the depth of the frame of a number, or of the top one
abbrev pub frame_or : (top : ℕ) → (frame : Option ℕ) → ℕ
frame_or top None = top
frame_or top (Some frame) = frame
