-- what is unread stays until a message is given
use Rattle.std.specs.Io.KnownBytes.{Keeps}
use Rattle.adapter_frames.specs.Reading.{unread}
use Rattle.adapter_frames.proofs.reading.FrameReader.next_message.Given as goal

abbrev pub invariant-loop : goal.invariant-loop
invariant-loop g l = let left = g.R.Read.remaining in Keeps (unread left l.fn.self) (unread left l.self)
