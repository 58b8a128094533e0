-- The path by which a program is known to a request: a source that is the program's may be spelled otherwise, or lead to its file by links.
use Rattle.std.specs.Prelude.{◌≡◌, ◌==◌, ◌&&◌, Bool, true, false, Option, Some, None, if◌then◌else◌}
use Rattle.gang_model.specs.Texts.Text.{Bytes}
use Rattle.adapter_paths.specs.Ways.{is_same_file}
use Rattle.adapter_requests.specs.declared.request.Request.{Request}
use Rattle.adapter_requests.specs.declared.request.Request.TheVariants as request
use Rattle.adapter_messages.specs.Arguments.{text_of}
use Rattle.adapter_server.specs.declared.files.FileNumber.{FileNumber}

-- the path of the source that a request is about
abbrev pub source_of : Request → Option Bytes
source_of (request.SetBreakpoints source lines) = text_of source
source_of (request.BreakpointLocations source first last) = text_of source
source_of (request.GotoTargets source line) = text_of source
source_of other = None

-- two paths lead to a file each, and these are one
abbrev pub are_one : (program source : Option FileNumber) → Bool
are_one (Some program) (Some source) = program.device == source.device && program.number == source.number
are_one program source = false

-- files were looked for, of which `leads` says what may be found: the path of a source that leads to the program's file, or else the program's
pub record IsFound (leads : Bytes → Option FileNumber → Type 0) (program source path : Bytes) : Type 0 where
  pub of_program : Option FileNumber
  pub of_source : Option FileNumber
  pub program_leads : leads program of_program
  pub source_leads : leads source of_source
  pub path_is : path ≡ (if are_one of_program of_source then source else program)

-- the path of a source that is spelled as the program's may be; else files are looked for
abbrev pub IsPathIf : (is_spelled_so : Bool) → (Bytes → Option FileNumber → Type 0) → (program source path : Bytes) → Type 0
IsPathIf true leads program source path = path ≡ source
IsPathIf false leads program source path = IsFound leads program source path

-- the path of a program, or of a source that is the program's
abbrev pub IsPathBy : (Bytes → Option FileNumber → Type 0) → (program source path : Bytes) → Type 0
IsPathBy leads program source path = IsPathIf (is_same_file program source) leads program source path

-- without a source it is the program's
abbrev pub IsPathIn : (Bytes → Option FileNumber → Type 0) → (program : Bytes) → (source : Option Bytes) → (path : Bytes) → Type 0
IsPathIn leads program None path = path ≡ program
IsPathIn leads program (Some source) path = IsPathBy leads program source path

abbrev pub IsPathFor : (Bytes → Option FileNumber → Type 0) → (program : Bytes) → Request → (path : Bytes) → Type 0
IsPathFor leads program request path = IsPathIn leads program (source_of request) path
