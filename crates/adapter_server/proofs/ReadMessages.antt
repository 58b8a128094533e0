-- Messages that are read one after another, and what is done for them.
use Rattle.std.proofs.Common.{◌≡◌, List, [], ◌∷◌, ◌++◌, Option, Some, None, Result, Ok, Err, IsErrAnd, MatchResult, refl, sym, subst}
use Rattle.std.specs.Io.KnownBytes.{Keeps}
use Rattle.std.proofs.KnownBytes.{Consumes-nil, Consumes-trans}
use Rattle.serde_json.specs.Data.{Data}
use Rattle.serde_json.specs.Read.{read}
use Rattle.gang_model.specs.Debugger.Debugger.{Debugger, Setting}
use Rattle.gang_model.specs.Texts.Text.{Bytes}
use Rattle.adapter_frames.specs.declared.reading.FrameReader.{FrameReader}
use Rattle.adapter_frames.specs.declared.reading.FrameFault.{FrameFault}
use Rattle.adapter_frames.specs.declared.reading.FrameFault.TheVariants.{Head, Unfinished, Read, Memory}
use Rattle.adapter_frames.specs.Reading as frames
use Rattle.adapter_frames.specs.Reading.{Fails}
use Rattle.adapter_server.specs.declared.connection.Connection.{Connection}
use Rattle.adapter_server.specs.declared.files.FileNumber.{FileNumber}
use Rattle.adapter_server.specs.Serving.{Answers, Come, LetsGo, Reads, ReadsJson, Run, Serves, Setup, messages_of, unread}

pub lets_nothing_go : (known : Option Bytes) → LetsGo known known
lets_nothing_go known = record { gone = []; consumed = Consumes-nil known }

pub lets_more_go : (a b c : Option Bytes) → LetsGo a b → LetsGo b c → LetsGo a c
lets_more_go a b c p q = record { gone = p.gone ++ q.gone; consumed = Consumes-trans a b c p.gone q.gone p.consumed q.consumed }

pub keeping : (a b : Option Bytes) → Keeps a b → LetsGo a b
keeping None b keeps = record { gone = []; consumed = tt }
keeping (Some xs) None keeps = absurd keeps
keeping (Some xs) (Some ys) keeps = record { gone = []; consumed = sym keeps }

-- a call that fails lets go at most what it refuses
pub failing : (old new : Option Bytes) (kept : Bytes) (left : Option Bytes) (fault : FrameFault) → Fails old new kept left fault → LetsGo old new
failing old new kept left (Head fault) fails = record { gone = fails.front; consumed = fails.consumed }
failing old new kept left Unfinished fails = keeping old new fails.0
failing old new kept left Read fails = keeping old new fails
failing old new kept left Memory fails = keeping old new fails

-- a message that was read is let go
pub reading : (old new : Option Bytes) (message : Bytes) → Reads old new message → LetsGo old new
reading old new message reads = lets_more_go old reads.before new reads.lets_go (record { gone = reads.gives.front; consumed = reads.gives.consumed })

pub reads_behind : (a b c : Option Bytes) (message : Data) → LetsGo a b → ReadsJson b c message → ReadsJson a c message
reads_behind a b c message go reads = record {
  text = reads.text;
  reads = record { before = reads.reads.before; lets_go = lets_more_go a b reads.reads.before go reads.reads.lets_go; gives = reads.reads.gives };
  json = reads.json;
}

reads_on : (a b c : Option Bytes) (message : Bytes) → LetsGo a b → Reads b c message → Reads a c message
reads_on a b c message go reads = record { before = reads.before; lets_go = lets_more_go a b reads.before go reads.lets_go; gives = reads.gives }

-- a JSON text is read, behind what was let go
pub reads_json : (a b c : Option Bytes) (text : Bytes) (message : Data) → LetsGo a b → Reads b c text → read text ≡ Some message → ReadsJson a c message
reads_json a b c text message go reads json = record { text = text; reads = reads_on a b c text go reads; json = json }

-- what is told to the editor changes nothing of what is unread
pub told : {R O : Type 0} (left : R → Option Bytes) (start : Option Bytes) (messages : FrameReader R) (b : Connection R O) → messages_of b ≡ messages → LetsGo start (frames.unread left messages) → LetsGo start (unread left b)
told left start messages b same go = subst (λ m. LetsGo start (frames.unread left m)) (sym same) go

pub ended_at : {T E : Type 0} (P : T → Type 0) (Q : Type 0) (r : Result T E) (S : E → Type 0) → IsErrAnd r S → Q → MatchResult r P (λ _. Q)
ended_at P Q (Ok x) S is q = absurd is
ended_at P Q (Err e) S is q = q

module _ {M : Type 0} (stands : M → Setting → Debugger → Type 0) (leads : Bytes → Option FileNumber → Type 0) (setup : Setup) where
  -- one message more
  come_more : (messages : List Data) (a b c : Option Bytes) (message : Data) (old middle new : Run M) → Come stands leads setup messages a b old middle → ReadsJson b c message → Answers stands leads setup message middle new
      → Come stands leads setup (messages ++ message ∷ []) a c old new
  come_more [] a b c message old middle new (go, same) reads answers =
      (c, new, reads_behind a b c message go reads, subst (λ run. Answers stands leads setup message run new) same answers, (lets_nothing_go c, refl))
  come_more (first ∷ messages) a b c message old middle new (after, between, read, does, others) reads answers =
      (after, between, read, does, come_more messages after b c message between middle new others reads answers)

  -- bytes behind are let go
  come_end : (messages : List Data) (a b c : Option Bytes) (old new : Run M) → Come stands leads setup messages a b old new → LetsGo b c → Come stands leads setup messages a c old new
  come_end [] a b c old new (go, same) more = (lets_more_go a b c go more, same)
  come_end (first ∷ messages) a b c old new (after, between, read, does, others) more = (after, between, read, does, come_end messages after b c between new others more)

  -- bytes are let go, and nothing is done
  pub serves_nothing : (a b : Option Bytes) (run : Run M) → LetsGo a b → Serves stands leads setup a b run run
  serves_nothing a b run go = record { messages = []; come = (go, refl) }

  pub serves_end : (a b c : Option Bytes) (old new : Run M) → Serves stands leads setup a b old new → LetsGo b c → Serves stands leads setup a c old new
  serves_end a b c old new serves go = record { messages = serves.messages; come = come_end serves.messages a b c old new serves.come go }

  -- a message was read and answered
  pub serves_answer : {R O : Type 0} (left : R → Option Bytes) (start : Option Bytes) (a b c : Connection R O) (by : Setup) (message : Data) (old middle new : Run M) → Serves stands leads setup start (unread left a) old middle
      → ReadsJson (unread left a) (unread left b) message → by ≡ setup → Answers stands leads by message middle new → messages_of c ≡ messages_of b → Serves stands leads setup start (unread left c) old new
  serves_answer left start a b c by message old middle new serves reads is answers same =
      let more : Serves stands leads setup start (unread left b) old new = record {
        messages = serves.messages ++ message ∷ [];
        come = come_more serves.messages start (unread left a) (unread left b) message old middle new serves.come reads (subst (λ x. Answers stands leads x message middle new) is answers);
      } in
      subst (λ messages. Serves stands leads setup start (frames.unread left messages) old new) (sym same) more
