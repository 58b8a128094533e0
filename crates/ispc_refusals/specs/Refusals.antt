-- Why a run is refused, as the definitions have it.
use Rattle.gang_model.specs.Texts.InputText as text
use Rattle.gang_model.specs.Texts.RunRefusals.{RunRefusal, FromSource, NoEntry, NoScript, FromInput, Memory}
use Rattle.debug_inputs.specs.declared.fault.InputFault.{InputFault}
use Rattle.debug_inputs.specs.declared.fault.InputFault.TheVariants as fault
use Rattle.ispc_refusals.specs.declared.refusal.Refusal.{Refusal}
use Rattle.ispc_refusals.specs.declared.refusal.Refusal.TheVariants as refusal

-- why an input is refused; out of memory is told as everywhere
abbrev pub input_view : InputFault → RunRefusal
input_view (fault.BadLine line) = FromInput (text.BadLine line)
input_view (fault.Missing name) = FromInput (text.Missing name.items)
input_view (fault.Range line) = FromInput (text.Range line)
input_view (fault.TooLarge line) = FromInput (text.TooLarge line)
input_view fault.Memory = Memory

abbrev pub refusal_view : Refusal → RunRefusal
refusal_view (refusal.Source r) = FromSource r
refusal_view refusal.NoScript = NoScript
refusal_view refusal.NoEntry = NoEntry
refusal_view (refusal.Input f) = input_view f
refusal_view refusal.Memory = Memory
