-- What an editor is told of a fault at which the program stands still.
use Rattle.std.specs.Prelude.{◌≡◌, ℕ, ◌++◌, Option, Some, None, codes, decimal, find, option_map, string_bytes, take}
use Rattle.std.specs.Str.Lossy.{utf8_lossy}
use Rattle.gang_types.specs.declared.faults.FaultName.{FaultName}
use Rattle.gang_model.specs.Texts.Text.{Bytes, fault_text}
use Rattle.refusal_pages.specs.declared.page.Page.{Page}
use Rattle.refusal_pages.specs.Pages.{heading_of, headings, is_named}
use Rattle.adapter_requests.specs.declared.reply.StopReason.{StopReason}
use Rattle.adapter_requests.specs.declared.reply.StopReason.TheVariants as reason
use Rattle.adapter_requests.specs.declared.reply.Reply.{Reply}
use Rattle.adapter_requests.specs.declared.reply.Reply.TheVariants as reply

-- why it is refused where the last stop was at no fault
abbrev pub no_fault : Bytes
no_fault = codes "the program stands at no fault"

-- the number of a fault
abbrev pub fault_number : FaultName → Bytes
fault_number name = take 2 (fault_text name)

-- the text of a page
abbrev pub page_text : Option Page → Bytes
page_text None = codes ""
page_text (Some page) = page.text.now

-- the lane of a fault, an empty line, and its page
abbrev pub meaning : (lane : ℕ) → Option Page → Bytes
meaning lane page = codes "in lane " ++ decimal lane ++ codes "\n\n" ++ utf8_lossy (page_text page)

-- the name and the text of a fault that is told
abbrev pub told_exception : Reply → Option (Bytes × Bytes)
told_exception (reply.Exception shown) = Some (string_bytes shown.name, string_bytes shown.text)
told_exception other = None

-- a fault of a lane is told: its number and name, the lane, and what the page of its number says
pub record IsFaultTold (name : FaultName) (lane : ℕ) (told : Reply) : Type 0 where
  pub page : Option Page
  pub found : option_map heading_of page ≡ find (is_named (fault_number name)) headings
  pub is : told_exception told ≡ Some (fault_text name, meaning lane page)

-- what is told of the last stop: the fault, or a refusal where it was at none
abbrev pub IsExceptionTold : StopReason → Reply → Type 0
IsExceptionTold (reason.Exception name lane) told = IsFaultTold name lane told
IsExceptionTold other (reply.Refused text) = string_bytes text ≡ no_fault
IsExceptionTold other told = ⊥
