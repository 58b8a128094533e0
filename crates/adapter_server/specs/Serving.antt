-- What serving an editor does to a session, and which messages it is done for.
use Rattle.std.specs.Prelude.{◌≡◌, ◌⊎◌, Bool, true, false, List, [], ◌∷◌, Option, Some, None, Result, MatchResult, codes, option_and_then, unwrap_or}
use Rattle.std.specs.Io.KnownBytes.{Consumes}
use Rattle.serde_json.specs.Data.{Data}
use Rattle.serde_json.specs.Find.{as_str, get}
use Rattle.serde_json.specs.Read.{read}
use Rattle.serde_json.specs.View.{view}
use Rattle.gang_model.specs.Debugger.Debugger.{Debugger, Setting}
use Rattle.gang_model.specs.Texts.Text.{Bytes}
use Rattle.debug_session.specs.declared.session.Session.{Session}
use Rattle.debug_session.specs.Sessions.{StandsFor}
use Rattle.command_lists.specs.Lists.{HasDone}
use Rattle.conditional_stops.specs.declared.reasons.CountedStop.{CountedStop}
use Rattle.conditional_stops.specs.Reasons as asking
use Rattle.conditional_stops.specs.Reasons.{breakpoints_here}
use Rattle.log_points.specs.Points.{no_text, written_of}
use Rattle.log_points.specs.Writing.{WritesHere}
use Rattle.adapter_requests.specs.declared.request.Launch.{Launch}
use Rattle.adapter_requests.specs.declared.request.Request.{Request}
use Rattle.adapter_requests.specs.declared.request.Request.TheVariants as request
use Rattle.adapter_replies.specs.declared.threads.Threads.{Threads}
use Rattle.adapter_frames.specs.declared.reading.FrameReader.{FrameReader}
use Rattle.adapter_frames.specs.Reading as frames
use Rattle.adapter_frames.specs.Reading.{Gives}
use Rattle.adapter_messages.specs.Arguments.{IsRequest, flag_at, number_at, text_at}
use Rattle.adapter_session.specs.declared.answering.Answered.{Answered}
use Rattle.adapter_session.specs.declared.beginning.Beginning.{Beginning}
use Rattle.adapter_session.specs.declared.terms.Terms.{Terms as GivenTerms}
use Rattle.adapter_session.specs.Done.{DoesRequest}
use Rattle.adapter_session.specs.Restored.{CanKeepNumbers, numbers, restored, stop_commands, terms_anew}
use Rattle.adapter_session.specs.Terms.{Terms, terms_of}
use Rattle.adapter_server.specs.declared.connection.Connection.{Connection}
use Rattle.adapter_server.specs.declared.files.FileNumber.{FileNumber}
use Rattle.adapter_server.specs.declared.launching.LaunchMessage.{LaunchMessage}
use Rattle.adapter_server.specs.Spelling.{IsPathFor}
use Rattle.adapter_server.specs.Threads.{threads_if, threads_of}

-- the path of the program that a launch names
abbrev pub path_of : LaunchMessage → Bytes
path_of launch = unwrap_or (text_at (codes "/arguments/program") (view launch.message)) []

-- what a connection reads its messages from
abbrev pub messages_of : {R O : Type 0} → Connection R O → FrameReader R
messages_of connection = connection.messages

-- what a connection has not read yet, where that is known
abbrev pub unread : {R O : Type 0} → (R → Option Bytes) → Connection R O → Option Bytes
unread left connection = frames.unread left (messages_of connection)

-- what of a launch decides what is done and told: the path of its program, whether it stops before its first step, and its threads
pub record Setup : Type 0 where
  pub program : Bytes
  pub stops_on_entry : Bool
  pub threads : Threads

abbrev pub setup_by : Launch → Setup
setup_by launch = record { program = launch.program.now; stops_on_entry = launch.stops_on_entry; threads = threads_of launch }

abbrev pub setup_of : LaunchMessage → Setup
setup_of launch = record {
  program = path_of launch;
  stops_on_entry = unwrap_or (flag_at (codes "/arguments/stopOnEntry") (view launch.message)) true;
  threads = threads_if (unwrap_or (flag_at (codes "/arguments/laneThreads") (view launch.message)) false) (number_at (codes "/arguments/width") (view launch.message));
}

-- ---- what is done to a session

-- a session, with the conditions, the counts and the messages of its breakpoints
pub record Run (M : Type 0) : Type 0 where
  pub session : Session M
  pub terms : Terms

abbrev pub run_of : {M : Type 0} → Session M → GivenTerms → Run M
run_of session terms = record { session = session; terms = terms_of terms }

-- a request was done, whatever debugger the session stood for
pub record DoesOne {M : Type 0} (stands : M → Setting → Debugger → Type 0) (program : Bytes) (request : Request) (old new : Run M) : Type 0 where
  pub answered : Answered
  pub does : (s : Setting) (d : Debugger) → StandsFor stands old.session s d → DoesRequest stands s program request d old.terms answered new.session new.terms

-- a request was done, or nothing was
abbrev pub MayDo : {M : Type 0} → (M → Setting → Debugger → Type 0) → (program : Bytes) → Request → (old new : Run M) → Type 0
MayDo stands program request old new = (new ≡ old) ⊎ DoesOne stands program request old new

-- the same by what came back
abbrev pub Asks : {M T E : Type 0} → (M → Setting → Debugger → Type 0) → (program : Bytes) → Request → (old new : Run M) → Result T E → Type 0
Asks stands program request old new result = MatchResult result (λ answered. DoesOne stands program request old new) (λ error. new ≡ old)

-- the breakpoints on the line of the next step were asked, those that write a text have written it, and the session stays
pub record AsksHere {M : Type 0} (stands : M → Setting → Debugger → Type 0) (beginning : Beginning) (old new : Run M) : Type 0 where
  pub session : new.session ≡ old.session
  pub asked : new.terms.asked ≡ old.terms.asked
  pub logs : new.terms.logs ≡ old.terms.logs
  pub functions : new.terms.functions ≡ old.terms.functions
  pub entry : new.terms.entry ≡ old.terms.entry
  pub asks : (s : Setting) (d : Debugger) → StandsFor stands old.session s d → asking.Asks s d (breakpoints_here s d d.stops) old.terms.left beginning.first new.terms.left
  pub writes : (s : Setting) (d : Debugger) → StandsFor stands old.session s d
      → WritesHere s d old.terms.logs old.terms.log_left no_text new.terms.log_left (written_of beginning.written)

-- a run stops where it begins if a breakpoint counts there, and else goes on
abbrev pub GoesUnless : {M : Type 0} → (first : Option CountedStop) → (Goes : Run M → Run M → Type 0) → (old new : Run M) → Type 0
GoesUnless (Some counted) Goes old new = new ≡ old
GoesUnless None Goes old new = Goes old new

pub record Starts {M : Type 0} (stands : M → Setting → Debugger → Type 0) (Goes : Run M → Run M → Type 0) (old new : Run M) : Type 0 where
  pub beginning : Beginning
  pub middle : Run M
  pub asks : AsksHere stands beginning old middle
  pub goes : GoesUnless beginning.first Goes middle new

-- a run begins: by nothing where it is to stop before its first step
abbrev pub BeginsBy : {M : Type 0} → (M → Setting → Debugger → Type 0) → (stops_on_entry : Bool) → (Goes : Run M → Run M → Type 0) → (old new : Run M) → Type 0
BeginsBy stands true Goes old new = new ≡ old
BeginsBy stands false Goes old new = Starts stands Goes old new

-- a run has begun, and where it goes on that is a `continue`
abbrev pub HasBegun : {M : Type 0} → (M → Setting → Debugger → Type 0) → Setup → (old new : Run M) → Type 0
HasBegun stands setup old new = BeginsBy stands setup.stops_on_entry (DoesOne stands setup.program request.Continue) old new

-- the same where memory may have been wanting for the `continue`
abbrev pub Begins : {M : Type 0} → (M → Setting → Debugger → Type 0) → Setup → (old new : Run M) → Type 0
Begins stands setup old new = BeginsBy stands setup.stops_on_entry (MayDo stands setup.program request.Continue) old new

-- ---- the messages that it is done for

-- what may follow a request: behind `configurationDone` the run may begin
abbrev pub MayFollow : {M : Type 0} → (M → Setting → Debugger → Type 0) → Setup → Request → (old new : Run M) → Type 0
MayFollow stands setup request.ConfigurationDone old new = (new ≡ old) ⊎ Begins stands setup old new
MayFollow stands setup other old new = new ≡ old

-- a request was done, which knows the program by the path of its source, where this is the program's, and what may follow it; `leads` says
-- which files may be found at paths
pub record DoesAll {M : Type 0} (stands : M → Setting → Debugger → Type 0) (leads : Bytes → Option FileNumber → Type 0) (setup : Setup) (request : Request) (old new : Run M) : Type 0 where
  pub path : Bytes
  pub is_path : IsPathFor leads setup.program request path
  pub middle : Run M
  pub does : DoesOne stands path request old middle
  pub follows : MayFollow stands setup request middle new

-- what a request comes to: nothing, or it is done
abbrev pub Follows : {M : Type 0} → (M → Setting → Debugger → Type 0) → (Bytes → Option FileNumber → Type 0) → Setup → Request → (old new : Run M) → Type 0
Follows stands leads setup request old new = (new ≡ old) ⊎ DoesAll stands leads setup request old new

-- a message with a command is a request
pub record IsAsked (message : Data) (request : Request) : Type 0 where
  pub command : Bytes
  pub named : option_and_then as_str (get (codes "command") message) ≡ Some command
  pub is_request : IsRequest command message request

-- what a message comes to: nothing, or the request that it is is done
abbrev pub Answers : {M : Type 0} → (M → Setting → Debugger → Type 0) → (Bytes → Option FileNumber → Type 0) → Setup → (message : Data) → (old new : Run M) → Type 0
Answers stands leads setup message old new = (new ≡ old) ⊎ ((request : Request) × IsAsked message request × DoesAll stands leads setup request old new)

-- bytes in front were let go
pub record LetsGo (old new : Option Bytes) : Type 0 where
  pub gone : Bytes
  pub consumed : Consumes old new gone

-- a message was read as a frame, behind others that were let go
pub record Reads (old new : Option Bytes) (message : Bytes) : Type 0 where
  pub before : Option Bytes
  pub lets_go : LetsGo old before
  pub gives : Gives before new message

-- a JSON text was read as a frame, behind others that were let go
pub record ReadsJson (old new : Option Bytes) (message : Data) : Type 0 where
  pub text : Bytes
  pub reads : Reads old new text
  pub json : read text ≡ Some message

-- messages were read one after another, and each came to what it comes to
abbrev pub Come : {M : Type 0} → (M → Setting → Debugger → Type 0) → (Bytes → Option FileNumber → Type 0) → Setup → List Data → (old_unread new_unread : Option Bytes) → (old new : Run M) → Type 0
Come stands leads setup [] old_unread new_unread old new = LetsGo old_unread new_unread × (new ≡ old)
Come stands leads setup (message ∷ messages) old_unread new_unread old new =
    (after : Option Bytes) × (middle : Run _) × ReadsJson old_unread after message × Answers stands leads setup message old middle × Come stands leads setup messages after new_unread middle new

-- there are messages that were read one after another, and what they come to, and nothing else, was done
pub record Serves {M : Type 0} (stands : M → Setting → Debugger → Type 0) (leads : Bytes → Option FileNumber → Type 0) (setup : Setup) (old_unread new_unread : Option Bytes) (old new : Run M) : Type 0 where
  pub messages : List Data
  pub come : Come stands leads setup messages old_unread new_unread old new

-- a session has the breakpoints and watches of another one made anew in its own program, with the conditions and counts that were asked for
pub record Restores {M : Type 0} (stands : M → Setting → Debugger → Type 0) (other : Session M) (old new : Run M) : Type 0 where
  pub done : (s t : Setting) (d e : Debugger) → StandsFor stands other s d → StandsFor stands old.session t e → HasDone stands t (stop_commands t old.terms.functions d.stops e) e new.session
  pub terms : (s t : Setting) (d e f : Debugger) → StandsFor stands other s d → StandsFor stands old.session t e → StandsFor stands new.session t f
      → new.terms ≡ terms_anew old.terms (restored t old.terms.functions d.stops e []) (numbers f.stops)
  -- each that was made has the number that it had
  pub keep_numbers : (s t : Setting) (d e f : Debugger) → StandsFor stands other s d → StandsFor stands old.session t e → StandsFor stands new.session t f
      → CanKeepNumbers t e d.stops → numbers f.stops ≡ restored t old.terms.functions d.stops e []

-- the breakpoints and watches of another session were made anew, the run may have begun, and then messages were served
pub record ServesAnew {M : Type 0} (stands : M → Setting → Debugger → Type 0) (leads : Bytes → Option FileNumber → Type 0) (setup : Setup) (old_unread new_unread : Option Bytes) (other : Session M) (old new : Run M) : Type 0 where
  pub restored : Run M
  pub begun : Run M
  pub restores : Restores stands other old restored
  pub begins : (begun ≡ restored) ⊎ Begins stands setup restored begun
  pub serves : Serves stands leads setup old_unread new_unread begun new
