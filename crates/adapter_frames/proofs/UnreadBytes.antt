-- What a reader of frames has unread: what stays of it, and what a message takes.
use Rattle.std.proofs.Common.{◌≡◌, ℕ, ◌++◌, Option, Some, None, Result, Ok, Err, IfErr, Vec, sym, ap, ap₂, ◌∙◌, subst, append_assoc, append-nil}
use Rattle.std.specs.Io.KnownBytes.{Consumes, IsAtEnd, Keeps, prepend_known}
use Rattle.std.proofs.KnownBytes.{Keeps-refl, Keeps-trans}
use Rattle.std.specs.declared.alloc.Global.{Global}
use Rattle.adapter_frames.specs.declared.reading.FrameFault.{FrameFault}
use Rattle.adapter_frames.specs.declared.reading.FrameFault.TheVariants.{Head, Unfinished, Read, Memory}
use Rattle.adapter_frames.specs.declared.reading.FrameReader.{FrameReader}
use Rattle.adapter_frames.specs.Frames.{IsUnfinished}
use Rattle.adapter_frames.specs.Heads.{Bytes}
use Rattle.adapter_frames.specs.Reading.{Cut, Ended, Fails, Gives, Takes, kept, reader_of, unread}

-- nothing is unread anew where neither the kept bytes nor the reader change
same_unread : {R : Type 0} (left : R → Option Bytes) (a b : FrameReader R) → kept b ≡ kept a → reader_of b ≡ reader_of a → Keeps (unread left a) (unread left b)
same_unread left a b p q = subst (Keeps (unread left a)) (sym (ap₂ (λ bytes reader. prepend_known bytes (left reader)) p q)) (Keeps-refl (unread left a))

kept_consumes : (a b c : Option Bytes) (front : Bytes) → Keeps a b → Consumes b c front → Consumes a c front
kept_consumes None b c front p q = tt
kept_consumes (Some x) None c front p q = absurd p
kept_consumes (Some x) (Some y) None front p q = absurd q
kept_consumes (Some x) (Some y) (Some z) front p q = sym p ∙ q

front_consumed : (known : Option Bytes) (old new front : Bytes) → old ≡ front ++ new → Consumes (prepend_known old known) (prepend_known new known) front
front_consumed None old new front e = tt
front_consumed (Some xs) old new front e = ap (λ bytes. bytes ++ xs) e ∙ append_assoc front new xs

-- what a reader keeps gives up a front
consumed : {R : Type 0} (left : R → Option Bytes) (start : Option Bytes) (a b : FrameReader R) (front : Bytes) → Keeps start (unread left a) → kept a ≡ front ++ kept b → reader_of b ≡ reader_of a
    → Consumes start (unread left b) front
consumed left start a b front keeps e same =
    let here = front_consumed (left (reader_of a)) (kept a) (kept b) front e in
    kept_consumes start (unread left a) (unread left b) front keeps (subst (λ known. Consumes (unread left a) (prepend_known (kept b) known) front) (ap left (sym same)) here)

pub message_given : {R : Type 0} (left : R → Option Bytes) (start : Option Bytes) (a b : FrameReader R) (message : Bytes) → Keeps start (unread left a) → Cut (kept a) (kept b) message → reader_of b ≡ reader_of a
    → Gives start (unread left b) message
message_given left start a b message keeps cut same = record { front = cut.front; is_frame = cut.is_frame; consumed = consumed left start a b cut.front keeps cut.are same }

pub taking_fails : {R : Type 0} (left : R → Option Bytes) (start : Option Bytes) (a b : FrameReader R) (fault : FrameFault) → Keeps start (unread left a) → Takes (kept a) (kept b) (Err fault) → reader_of b ≡ reader_of a
    → Fails start (unread left b) (kept b) (left (reader_of b)) fault
taking_fails left start a b (Head fault) keeps takes same = record {
  front = kept a;
  at_fault = takes.1;
  consumed = consumed left start a b (kept a) keeps (sym (ap (λ bytes. kept a ++ bytes) takes.0 ∙ append-nil (kept a))) same;
  let_go = takes.0;
}
taking_fails left start a b Unfinished keeps takes same = absurd takes
taking_fails left start a b Read keeps takes same = absurd takes
taking_fails left start a b Memory keeps takes same = Keeps-trans start (unread left a) (unread left b) keeps (same_unread left a b takes same)

-- what is unread stays where no message is whole, and more is read
pub still_unread : {R : Type 0} (left : R → Option Bytes) (start : Option Bytes) (a b c : FrameReader R) → Keeps start (unread left a) → kept b ≡ kept a → reader_of b ≡ reader_of a → Keeps (unread left b) (unread left c)
    → Keeps start (unread left c)
still_unread left start a b c keeps p q more = Keeps-trans start (unread left a) (unread left c) keeps (Keeps-trans (unread left a) (unread left b) (unread left c) (same_unread left a b p q) more)

-- the input has ended
pub end_fails : (old new : Option Bytes) (kept : Bytes) (left : Option Bytes) (result : Result (Option (Vec ℕ Global)) FrameFault) → Ended kept result → Keeps old new → IsAtEnd left → IsUnfinished kept
    → IfErr result (Fails old new kept left)
end_fails old new kept left (Ok None) ended keeps at_end unfinished = tt
end_fails old new kept left (Ok (Some message)) ended keeps at_end unfinished = tt
end_fails old new kept left (Err (Head fault)) ended keeps at_end unfinished = absurd ended
end_fails old new kept left (Err Unfinished) ended keeps at_end unfinished = (keeps, at_end, ended, unfinished)
end_fails old new kept left (Err Read) ended keeps at_end unfinished = absurd ended
end_fails old new kept left (Err Memory) ended keeps at_end unfinished = absurd ended
