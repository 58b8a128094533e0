-- Bytes that begin with a whole head: the one length that it says, its fault, and the message behind it.
use Rattle.std.proofs.Common.{◌≡◌, ℕ, ◌+◌, ◌<◌, ◌≤◌, [], ◌∷◌, ◌++◌, Ok, Err, length, take, drop, refl, sym, ap, ◌∙◌, subst, inr, arith, append_assoc, append-nil, take_at, take-append-drop, length-take-le}
use Rattle.adapter_frames.specs.declared.heads.HeadFault.{HeadFault}
use Rattle.adapter_frames.specs.declared.heads.HeadFault.TheVariants.{HeadTooLong, BadHeader, NoLength, TwoLengths, BadLength, TooLong}
use Rattle.adapter_frames.specs.Frames.{IsUnfinished}
use Rattle.adapter_frames.specs.Heads.{Bytes, Headed, IsAtFault, Say, ended, line_end}
use Rattle.adapter_frames.specs.Places.{EndsAt, HaveFault, HeadAt, SayOne, SaysLength}
use Rattle.adapter_frames.specs.Reading.{Cut}
use Rattle.adapter_frames.proofs.HeadLengths.{first_is_of_line}
use Rattle.adapter_frames.proofs.HeadLines.{heads_unique}

-- a head that is too long is the only one
pub not_headed : (bytes : Bytes) (end : ℕ) → EndsAt bytes end → 4096 < end → Headed bytes → ⊥
not_headed bytes end at long headed =
    let same = heads_unique headed.lines at.lines headed.rest (drop (end + 2) bytes) headed.head.are_lines at.head.are_lines (sym headed.head.bytes_are ∙ at.head.bytes_are) in
    omega (arith, headed.short, at.end_is, ap (λ lines. length (ended lines)) same.0)

abbrev pub headed_at : (bytes : Bytes) (end : ℕ) → EndsAt bytes end → end ≤ 4096 → Headed bytes
headed_at bytes end at short = record { lines = at.lines; rest = drop (end + 2) bytes; head = at.head; short = omega (arith, at.end_is, short) }

front_is : (bytes : Bytes) (end : ℕ) → (at : EndsAt bytes end) → take end bytes ≡ ended at.lines
front_is bytes end at = ap (take end) at.head.bytes_are ∙ take_at (ended at.lines) (line_end ++ drop (end + 2) bytes) end (sym at.end_is)

at_fault : (bytes : Bytes) (headed : Headed bytes) (fault : HeadFault) → HaveFault headed.lines fault → IsAtFault fault bytes
at_fault bytes headed HeadTooLong first = absurd (first_is_of_line headed.lines HeadTooLong first)
at_fault bytes headed BadHeader first = (headed, first)
at_fault bytes headed NoLength say = (headed, say)
at_fault bytes headed TwoLengths first = (headed, first)
at_fault bytes headed BadLength first = (headed, first)
at_fault bytes headed TooLong first = absurd (first_is_of_line headed.lines TooLong first)

-- the lines of a head are at fault
pub lines_at_fault : (bytes : Bytes) (end : ℕ) (fault : HeadFault) → EndsAt bytes end → end ≤ 4096 → SaysLength (take end bytes) (Err fault) → IsAtFault fault bytes
lines_at_fault bytes end fault at short says = at_fault bytes (headed_at bytes end at short) fault (says at.lines at.head.are_lines (front_is bytes end at))

abbrev says_one : (bytes : Bytes) (end size : ℕ) → (at : EndsAt bytes end) → SaysLength (take end bytes) (Ok size) → SayOne at.lines size
says_one bytes end size at says = says at.lines at.head.are_lines (front_is bytes end at)

-- the message is too long
pub too_long : (bytes : Bytes) (end size : ℕ) → EndsAt bytes end → end ≤ 4096 → SaysLength (take end bytes) (Ok size) → 1048576 < size → IsAtFault TooLong bytes
too_long bytes end size at short says long =
    let one = says_one bytes end size at says in
    (headed_at bytes end at short, one.number, one.say, omega (arith, one.size_is))

-- the message begins behind the empty line
pub head_at : (bytes : Bytes) (end size : ℕ) → EndsAt bytes end → end ≤ 4096 → SaysLength (take end bytes) (Ok size) → size ≤ 1048576 → HeadAt bytes (end + 2) size
head_at bytes end size at short says fits =
    let one = says_one bytes end size at says in
    let same : one.number ≡ size = omega (arith, one.size_is) in
    record {
      headed = headed_at bytes end at short;
      within = at.within;
      rest_is = refl;
      says = subst (λ n. Say at.lines (n ∷ [])) same one.say;
      fits = fits;
    }

-- ---- the message

pub message_pending : (bytes : Bytes) (start size : ℕ) → HeadAt bytes start size → length (drop start bytes) < size → IsUnfinished bytes
message_pending bytes start size at less = inr (at.headed, size, at.says, at.fits, omega (arith, less, ap length at.rest_is))

pub message_cut : (bytes message behind : Bytes) (start size : ℕ) → HeadAt bytes start size → size ≤ length (drop start bytes) → message ≡ take size (drop start bytes) → behind ≡ drop size (drop start bytes)
    → Cut bytes behind message
message_cut bytes message behind start size at enough front back =
    let head = ended at.headed.lines in
    let long : length message ≡ size = ap length front ∙ length-take-le size (drop start bytes) enough in
    let rest : at.headed.rest ≡ message ++ behind =
    at.rest_is ∙ (sym (take-append-drop size (drop start bytes)) ∙ (ap (λ xs. xs ++ drop size (drop start bytes)) (sym front) ∙ ap (λ xs. message ++ xs) (sym back))) in
    let frame : Bytes = head ++ (line_end ++ message) in
    record {
      front = frame;
      is_frame = record {
        headed = record { lines = at.headed.lines; rest = message; head = record { are_lines = at.headed.head.are_lines; bytes_are = refl }; short = at.headed.short };
        message_is = sym (append-nil message);
        says = subst (λ n. Say at.headed.lines (n ∷ [])) (sym long) at.says;
        fits = omega (arith, long, at.fits);
      };
      are = at.headed.head.bytes_are ∙ ap (λ xs. head ++ (line_end ++ xs)) rest
          ∙ sym (append_assoc head (line_end ++ message) behind ∙ ap (λ xs. head ++ xs) (append_assoc line_end message behind));
    }
