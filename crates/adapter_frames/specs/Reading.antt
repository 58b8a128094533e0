-- What a reader of frames has not given yet, and what a call of it says of that.
use Rattle.std.specs.Prelude.{◌≡◌, ◌≢◌, ℕ, ◌≤◌, [], ◌++◌, Option, Some, None, Result, Ok, Err, Vec, length}
use Rattle.std.specs.declared.alloc.Global.{Global}
use Rattle.std.specs.Io.KnownBytes.{Consumes, IsAtEnd, Keeps, prepend_known}
use Rattle.adapter_frames.specs.declared.heads.HeadFault.{HeadFault}
use Rattle.adapter_frames.specs.declared.reading.FrameFault.{FrameFault}
use Rattle.adapter_frames.specs.declared.reading.FrameFault.TheVariants.{Head, Unfinished, Read, Memory}
use Rattle.adapter_frames.specs.declared.reading.FrameReader.{FrameReader}
use Rattle.adapter_frames.specs.Frames.{FrameOf, IsUnfinished, frame}
use Rattle.adapter_frames.specs.Heads.{Bytes, IsAtFault}

-- what was read and not given
abbrev pub kept : {R : Type 0} → FrameReader R → Bytes
kept reader = reader.bytes.items

-- what the bytes are read from
abbrev pub reader_of : {R : Type 0} → FrameReader R → R
reader_of reader = reader.reader

-- what was read and not given, and what is still to be read, where that is known
abbrev pub unread : {R : Type 0} → (R → Option Bytes) → FrameReader R → Option Bytes
unread left reader = prepend_known (kept reader) (left (reader_of reader))

-- what was unread is a frame of a message, and what is unread now
pub record Gives (old new : Option Bytes) (message : Bytes) : Type 0 where
  pub front : Bytes
  pub is_frame : FrameOf front message []
  pub consumed : Consumes old new front

-- what was unread begins with a head at fault, and is let go as far as it was read
pub record Refuses (old new : Option Bytes) (kept : Bytes) (fault : HeadFault) : Type 0 where
  pub front : Bytes
  pub at_fault : IsAtFault fault front
  pub consumed : Consumes old new front
  pub let_go : kept ≡ []

-- what is unread stays where no message is given, but for what was read of a frame that is refused
abbrev pub Fails : (old new : Option Bytes) → (kept : Bytes) → (left : Option Bytes) → FrameFault → Type 0
Fails old new kept left (Head fault) = Refuses old new kept fault
Fails old new kept left Unfinished = Keeps old new × IsAtEnd left × (kept ≢ []) × IsUnfinished kept
Fails old new kept left Read = Keeps old new
Fails old new kept left Memory = Keeps old new

-- what was kept is a frame of a message, and what is kept now
pub record Cut (old new message : Bytes) : Type 0 where
  pub front : Bytes
  pub is_frame : FrameOf front message []
  pub are : old ≡ front ++ new

-- the message of a whole frame is taken from what is kept, or a frame is refused
abbrev pub Takes : (old new : Bytes) → Result (Option (Vec ℕ Global)) FrameFault → Type 0
Takes old new (Ok (Some message)) = Cut old new message.items
Takes old new (Ok None) = (new ≡ old) × IsUnfinished old
Takes old new (Err (Head fault)) = (new ≡ []) × IsAtFault fault old
Takes old new (Err Memory) = new ≡ old
Takes old new (Err Unfinished) = ⊥
Takes old new (Err Read) = ⊥

-- at the end of the input no message is given where nothing is kept
abbrev pub Ended : (kept : Bytes) → Result (Option (Vec ℕ Global)) FrameFault → Type 0
Ended kept (Ok None) = kept ≡ []
Ended kept (Err Unfinished) = kept ≢ []
Ended kept other = ⊥

-- what a call gives where a frame that was written, and a rest, were unread: the message, and the rest is unread; or the input
-- cannot be read or memory is wanting, and the frame stays
abbrev pub Gets : (new : Option Bytes) → (written rest : Bytes) → Result (Option (Vec ℕ Global)) FrameFault → Type 0
Gets new written rest (Ok (Some message)) = (message.items ≡ written) × (new ≡ Some rest)
Gets new written rest (Ok None) = ⊥
Gets new written rest (Err (Head fault)) = ⊥
Gets new written rest (Err Unfinished) = ⊥
Gets new written rest (Err Read) = new ≡ Some (frame written ++ rest)
Gets new written rest (Err Memory) = new ≡ Some (frame written ++ rest)

-- a frame that `write_frame` writes of a message of at most 1,048,576 bytes is read back
abbrev pub IsReadBack : (old new : Option Bytes) → Result (Option (Vec ℕ Global)) FrameFault → Type 0
IsReadBack old new result = (written rest : Bytes) → length written ≤ 1048576 → old ≡ Some (frame written ++ rest) → Gets new written rest result
