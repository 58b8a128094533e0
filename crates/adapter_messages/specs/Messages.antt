-- The messages of the protocol.
use Rattle.std.specs.Prelude.{ℕ, ◌==◌, ◌||◌, Bool, true, false, Option, Some, codes, if◌then◌else◌}
use Rattle.std.specs.List.{list_any}
use Rattle.serde_json.specs.Data.{Data, boolean, member, no_members, number, object, string, unsigned}
use Rattle.gang_model.specs.Texts.Text.{Bytes}
use Rattle.adapter_requests.specs.declared.reply.StopReason.{StopReason}
use Rattle.adapter_requests.specs.declared.reply.StopReason.TheVariants as reason
use Rattle.adapter_messages.specs.declared.names.Name.{Name}
use Rattle.adapter_messages.specs.declared.names.Name.TheVariants as name
use Rattle.adapter_messages.specs.Names.{named}

-- a number
abbrev pub natural : ℕ → Data
natural n = number (unsigned n)

-- the reply to a request that is done; members stand in the order of their keys
abbrev pub response : (seq request : ℕ) → (command : Bytes) → (body : Data) → Data
response seq request command body = object
    (member (codes "body") body
    (member (codes "command") (string command)
    (member (codes "request_seq") (natural request)
    (member (codes "seq") (natural seq)
    (member (codes "success") (boolean true)
    (member (codes "type") (string (codes "response")) no_members))))))

-- whether the user is shown why a request was refused: what editors ask for by themselves, or show in the place of a value, is refused quietly
abbrev pub shows_user : Option Name → Bool
shows_user (Some name.BreakpointLocations) = false
shows_user (Some name.ExceptionInfo) = false
shows_user (Some name.DataBreakpointInfo) = false
shows_user (Some name.StackTrace) = false
shows_user (Some name.Scopes) = false
shows_user (Some name.Variables) = false
shows_user (Some name.Completions) = false
shows_user (Some name.Evaluate) = false
shows_user other = true

-- whether a text has a brace, by which a format names a variable
abbrev pub has_brace : Bytes → Bool
has_brace text = list_any (λ byte. (byte == 123) || (byte == 125)) text

-- an error by its text, which is its format
abbrev pub plain_error : (shows_user : Bool) → (text : Bytes) → Data
plain_error shows_user text = object
    (member (codes "format") (string text)
    (member (codes "id") (natural 1)
    (member (codes "showUser") (boolean shows_user) no_members)))

-- an error by its text, which is that of the one variable of its format: braces in the text name none
abbrev pub error_by_variable : (shows_user : Bool) → (text : Bytes) → Data
error_by_variable shows_user text = object
    (member (codes "format") (string (codes "{text}"))
    (member (codes "id") (natural 1)
    (member (codes "showUser") (boolean shows_user)
    (member (codes "variables") (object (member (codes "text") (string text) no_members)) no_members))))

-- an error by its text
abbrev pub error : (shows_user : Bool) → (text : Bytes) → Data
error shows_user text = if has_brace text then error_by_variable shows_user text else plain_error shows_user text

-- what a refused request is told
abbrev pub error_body : (command text : Bytes) → Data
error_body command text = object (member (codes "error") (error (shows_user (named command)) text) no_members)

-- the reply to a request that is refused
abbrev pub failure : (seq request : ℕ) → (command text : Bytes) → Data
failure seq request command text = object
    (member (codes "body") (error_body command text)
    (member (codes "command") (string command)
    (member (codes "message") (string text)
    (member (codes "request_seq") (natural request)
    (member (codes "seq") (natural seq)
    (member (codes "success") (boolean false)
    (member (codes "type") (string (codes "response")) no_members)))))))

-- an event
abbrev pub event : (seq : ℕ) → (name : Bytes) → (body : Data) → Data
event seq name body = object
    (member (codes "body") body
    (member (codes "event") (string name)
    (member (codes "seq") (natural seq)
    (member (codes "type") (string (codes "event")) no_members))))

-- the protocol's word for why a program stands still
abbrev pub reason_text : StopReason → Bytes
reason_text reason.Entry = codes "entry"
reason_text reason.Step = codes "step"
reason_text (reason.Breakpoint n) = codes "breakpoint"
reason_text (reason.DataBreakpoint n) = codes "data breakpoint"
reason_text (reason.Exception fault lane) = codes "exception"
reason_text reason.Pause = codes "pause"
reason_text reason.Goto = codes "goto"
