-- What may still have a row, by names.
use Rattle.std.specs.Prelude.{ℕ, ◌&&◌, not, List, [], ◌∷◌, ◌++◌, map, filter, Option, Some, None, option_map, if◌then◌else◌, Vec, find}
use Rattle.std.specs.Global.{Global}
use Rattle.gang_model.specs.Source.Names.{same_text}
use Rattle.gang_model.specs.Types.Tree.{Variable, Global as FileVariable}
use Rattle.gang_model.specs.Texts.InputText as text
use Rattle.typed_tree.specs.Views.{variable_view}
use Rattle.debug_inputs.specs.declared.receivers.Receiver.{Receiver}
use Rattle.debug_inputs.specs.declared.receivers.Receivers.{Receivers}

-- a receiver, as the definitions have it
abbrev pub receiver_view : Receiver → text.Receiver
receiver_view r = record { variable = variable_view r.variable.now; most = r.most }

abbrev pub Entries : Type 0
Entries = List (Vec ℕ Global × Option Receiver)

-- the receiver of a name in the index
abbrev pub found_in : Entries → List ℕ → Option Receiver
found_in [] name = None
found_in (e ∷ entries) name = if same_text name e.0.items then e.1 else found_in entries name

-- the receiver that a name still has
abbrev pub remaining_at : Receivers → List ℕ → Option text.Receiver
remaining_at receivers name = option_map receiver_view (found_in receivers.index.entries name)

-- the receiver, if it has this name
abbrev pub if_named : text.Receiver → List ℕ → Option text.Receiver
if_named receiver name = if same_text receiver.variable.name name then Some receiver else None

-- the first of this name
abbrev pub first_named : List text.Receiver → List ℕ → Option text.Receiver
first_named receivers name = find (λ receiver. same_text receiver.variable.name name) receivers

-- the file-scope variables that may have a row
abbrev pub file_receivers : List FileVariable → List text.Receiver
file_receivers globals = map text.global_receiver (filter (λ g. text.is_uniform g.variable.rate && not g.variable.is_constant) globals)

-- parameters, then the variables of the file
abbrev pub all_receivers : List Variable → List FileVariable → List text.Receiver
all_receivers parameters globals = map text.parameter_receiver parameters ++ file_receivers globals

-- the receiver that a variable of the file is, if it may have a row
abbrev pub file_receiver : FileVariable → Option text.Receiver
file_receiver g = if text.is_uniform g.variable.rate && not g.variable.is_constant then Some (text.global_receiver g) else None
