-- What an editor is told of the messages that it sends.
use Rattle.std.specs.Prelude.{◌≡◌, ◌⊎◌, ℕ, List, [], ◌∷◌, ◌++◌, codes, Option, Some, None, unwrap_or}
use Rattle.serde_json.specs.Data.{Data, no_members, object}
use Rattle.serde_json.specs.View.{view}
use Rattle.gang_model.specs.Debugger.Debugger.{Debugger, Setting}
use Rattle.gang_model.specs.Texts.Text.{Bytes}
use Rattle.debug_session.specs.declared.session.Session.{Session}
use Rattle.opened_texts.specs.Texts.{texts_of}
use Rattle.adapter_requests.specs.declared.reply.Reply.TheVariants as reply
use Rattle.adapter_requests.specs.declared.request.Launch.{Launch}
use Rattle.adapter_requests.specs.declared.request.Request.{Request}
use Rattle.adapter_requests.specs.declared.request.Request.TheVariants as request
use Rattle.adapter_messages.specs.Arguments.{IsRequest, head_of}
use Rattle.adapter_messages.specs.Faults.{IsRefused}
use Rattle.adapter_messages.specs.Messages.{event, failure}
use Rattle.adapter_messages.specs.declared.requests.RequestFault.{RequestFault}
use Rattle.adapter_server.specs.declared.connection.Connection.{Connection}
use Rattle.adapter_server.specs.declared.connection.Ended.{Ended}
use Rattle.adapter_server.specs.declared.connection.Ended.TheVariants as ended
use Rattle.adapter_server.specs.declared.files.FileNumber.{FileNumber}
use Rattle.adapter_server.specs.declared.launching.Before.{Before}
use Rattle.adapter_server.specs.declared.launching.Before.TheVariants as turn
use Rattle.adapter_server.specs.declared.launching.LaunchMessage.{LaunchMessage}
use Rattle.adapter_server.specs.declared.serving.Served.{Served}
use Rattle.adapter_server.specs.Ending.{IsEndOf, end_behind, turn_before}
use Rattle.adapter_server.specs.Events.{Says}
use Rattle.adapter_server.specs.Sending.{SaysLines, Sends, SendsOne}
use Rattle.adapter_server.specs.Serving.{ReadsJson, Restores, Run, Setup, unread}
use Rattle.adapter_server.specs.Telling.{SendsReply, Tells, TellsBeginning, reply_to}
use Rattle.adapter_server.specs.Writing.{console_line}

-- ---- a message

-- a request was refused with a text
pub record Refuses {R O : Type 0} (contents : O → Option Bytes) (head : ℕ × Bytes) (text : Bytes) (before after : Connection R O) : Type 0 where
  pub reply : SendsReply contents before after (λ number. failure number head.0 head.1 text)
  pub opened : after.opened ≡ before.opened

-- a request that lacks what it needs was refused, with a text of the reason
pub record RefusesFault {R O : Type 0} (contents : O → Option Bytes) (head : ℕ × Bytes) (message : Data) (before after : Connection R O) : Type 0 where
  pub fault : RequestFault
  pub is_fault : IsRefused head.1 message fault
  pub text : Bytes
  pub refuses : Refuses contents head text before after

-- a message that is no request was refused on the console
abbrev pub RefusesMessage : {R O : Type 0} → (O → Option Bytes) → (before after : Connection R O) → Type 0
RefusesMessage contents before after = Sends contents before after (Says (console_line (codes "a message is refused: NoRequest")) ∷ [])

-- what is told of a message, and done, by its number and its command; and what serving ends by behind it, where it ends
abbrev pub HearsBy : {M R O : Type 0} → (M → Setting → Debugger → Type 0) → (Bytes → Option FileNumber → Type 0) → (O → Option Bytes) → Setup → (end : Option Served) → (head : Option (ℕ × Bytes)) → (message : Data) → (before after : Connection R O) → (old new : Run M) → Type 0
HearsBy stands leads contents setup end None message before after old new = RefusesMessage contents before after × (new ≡ old) × (end ≡ None)
HearsBy stands leads contents setup end (Some head) message before after old new =
    (RefusesFault contents head message before after × (new ≡ old) × (end ≡ None))
    ⊎ ((asked : Request) × IsRequest head.1 message asked × Tells stands leads contents setup head asked before after old new × (end ≡ end_behind asked))

abbrev pub Hears : {M R O : Type 0} → (M → Setting → Debugger → Type 0) → (Bytes → Option FileNumber → Type 0) → (O → Option Bytes) → Setup → (end : Option Served) → (message : Data) → (before after : Connection R O) → (old new : Run M) → Type 0
Hears stands leads contents setup end message before after old new = HearsBy stands leads contents setup end (head_of message) message before after old new

-- ---- messages

-- the next JSON text was read, and lines of the console told why what was before it is refused
pub record ReadsNext {R O : Type 0} (left : R → Option Bytes) (contents : O → Option Bytes) (before after : Connection R O) (message : Data) : Type 0 where
  pub said : SaysLines contents before after
  pub read : ReadsJson (unread left before) (unread left after) message

-- messages were read one after another, and each was heard, and ended nothing
abbrev pub HearsEach : {M R O : Type 0} → (M → Setting → Debugger → Type 0) → (Bytes → Option FileNumber → Type 0) → (R → Option Bytes) → (O → Option Bytes) → Setup → List Data → (before after : Connection R O) → (old new : Run M) → Type 0
HearsEach stands leads left contents setup [] before after old new = (after ≡ before) × (new ≡ old)
HearsEach stands leads left contents setup (message ∷ messages) before after old new =
    (read told : Connection _ _) × (middle : Run _) × ReadsNext left contents before read message × Hears stands leads contents setup None message read told old middle × HearsEach stands leads left contents setup messages told after middle new

pub record HearsAll {M R O : Type 0} (stands : M → Setting → Debugger → Type 0) (leads : Bytes → Option FileNumber → Type 0) (left : R → Option Bytes) (contents : O → Option Bytes) (setup : Setup) (before after : Connection R O) (old new : Run M) : Type 0 where
  pub messages : List Data
  pub each : HearsEach stands leads left contents setup messages before after old new

-- and then another one was read and heard, behind which serving ended so
pub record HearsUntil {M R O : Type 0} (stands : M → Setting → Debugger → Type 0) (leads : Bytes → Option FileNumber → Type 0) (left : R → Option Bytes) (contents : O → Option Bytes) (setup : Setup) (end : Served) (before after : Connection R O) (old new : Run M) : Type 0 where
  pub told : Connection R O
  pub middle : Run M
  pub others : HearsAll stands leads left contents setup before told old middle
  pub read : Connection R O
  pub last : Data
  pub reads : ReadsNext left contents told read last
  pub hears : Hears stands leads contents setup (Some end) last read after middle new

-- ---- a launch and a restart

-- the number and the command of a launch
abbrev pub head_in : LaunchMessage → ℕ × Bytes
head_in launch = unwrap_or (head_of (view launch.message)) (0, codes "launch")

-- a launch was answered, the editor was told that breakpoints can be set, and then each message was heard until one ended it so
pub record HearsLaunch {M R O : Type 0} (stands : M → Setting → Debugger → Type 0) (leads : Bytes → Option FileNumber → Type 0) (left : R → Option Bytes) (contents : O → Option Bytes) (launch : LaunchMessage) (setup : Setup) (end : Served) (before after : Connection R O) (old new : Run M) : Type 0 where
  pub replied : Connection R O
  pub initialized : Connection R O
  pub reply : SendsReply contents before replied (reply_to (head_in launch) [] reply.Done)
  pub sent : SendsOne contents replied initialized (λ number. event number (codes "initialized") (object no_members))
  pub stopped : initialized.stopped ≡ before.stopped
  pub opened : initialized.opened ≡ before.opened
  pub hears : HearsUntil stands leads left contents setup end initialized after old new

-- a session got the breakpoints and watches of another one, the request to restart was answered, what is told where a run begins was told, and then each
-- message was heard until one ended it so
pub record HearsRestart {M R O : Type 0} (stands : M → Setting → Debugger → Type 0) (leads : Bytes → Option FileNumber → Type 0) (left : R → Option Bytes) (contents : O → Option Bytes) (setup : Setup) (other : Session M) (end : Served) (before after : Connection R O) (old new : Run M) : Type 0 where
  pub replied : Connection R O
  pub told : Connection R O
  pub restored : Run M
  pub begun : Run M
  pub restores : Restores stands other old restored
  pub reply : SendsReply contents before replied (reply_to (before.restart, codes "restart") [] reply.Done)
  pub opened : texts_of replied.opened ≡ []
  pub begins : TellsBeginning stands contents setup.threads setup.program setup.stops_on_entry replied told restored begun
  pub hears : HearsUntil stands leads left contents setup end told after begun new

-- ---- what comes before a launch

-- what a request is told before a launch; a launch is not answered yet
abbrev pub TellsBefore : {R O : Type 0} → (O → Option Bytes) → (head : ℕ × Bytes) → Request → (before after : Connection R O) → Type 0
TellsBefore contents head (request.Launch launch) before after = after ≡ before
TellsBefore contents head (request.Initialize hears) before after = SendsReply contents (record before { hears_changes = hears }) after (reply_to head [] reply.Capabilities)
TellsBefore contents head request.Disconnect before after = SendsReply contents before after (reply_to head [] reply.Done)
TellsBefore contents head (request.Unknown name) before after = Refuses contents head (codes "no request " ++ name.now) before after
TellsBefore contents head other before after = Refuses contents head (codes "no program is launched") before after

-- what is told of a message before a launch, and what it leads to
abbrev pub HearsBefore : {R O : Type 0} → (O → Option Bytes) → Before → (head : Option (ℕ × Bytes)) → (message : Data) → (before after : Connection R O) → Type 0
HearsBefore contents leads None message before after = RefusesMessage contents before after × (leads ≡ turn.Goes)
HearsBefore contents leads (Some head) message before after =
    (RefusesFault contents head message before after × (leads ≡ turn.Goes))
    ⊎ ((asked : Request) × IsRequest head.1 message asked × TellsBefore contents head asked before after × (leads ≡ turn_before asked))

-- messages were read one after another before a launch, and each was heard, and ended nothing
abbrev pub HearsEachBefore : {R O : Type 0} → (R → Option Bytes) → (O → Option Bytes) → List Data → (before after : Connection R O) → Type 0
HearsEachBefore left contents [] before after = after ≡ before
HearsEachBefore left contents (message ∷ messages) before after =
    (read told : Connection _ _) × ReadsNext left contents before read message × HearsBefore contents turn.Goes (head_of message) message read told × HearsEachBefore left contents messages told after

pub record HearsAllBefore {R O : Type 0} (left : R → Option Bytes) (contents : O → Option Bytes) (before after : Connection R O) : Type 0 where
  pub messages : List Data
  pub each : HearsEachBefore left contents messages before after

-- a message is a launch
pub record IsLaunching (message : Data) : Type 0 where
  pub head : ℕ × Bytes
  pub is_head : head_of message ≡ Some head
  pub launch : Launch
  pub is_launch : IsRequest head.1 message (request.Launch launch)

-- each message was heard, and then a launch was read
pub record AwaitsLaunch {R O : Type 0} (left : R → Option Bytes) (contents : O → Option Bytes) (launch : LaunchMessage) (before after : Connection R O) : Type 0 where
  pub told : Connection R O
  pub hears : HearsAllBefore left contents before told
  pub read : ReadsNext left contents told after (view launch.message)
  pub launches : IsLaunching (view launch.message)

-- each message was heard, and then one was that disconnects
pub record HearsDisconnect {R O : Type 0} (left : R → Option Bytes) (contents : O → Option Bytes) (before after : Connection R O) : Type 0 where
  pub told : Connection R O
  pub hears : HearsAllBefore left contents before told
  pub read : Connection R O
  pub last : Data
  pub reads : ReadsNext left contents told read last
  pub disconnects : HearsBefore contents turn.Disconnects (head_of last) last read after

-- a connection ended before a launch came: the editor disconnected, or it ended by itself
abbrev pub EndsBefore : {R O : Type 0} → (R → Option Bytes) → (O → Option Bytes) → (before after : Connection R O) → Ended → Type 0
EndsBefore left contents before after ended.Disconnected = HearsDisconnect left contents before after
EndsBefore left contents before after other = IsEndOf left after other
