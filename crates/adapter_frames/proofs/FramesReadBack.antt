-- What is written as a frame is read back as its message, and as nothing else.
use Rattle.std.proofs.Common.{◌≡◌, ℕ, ◌+◌, ◌≤◌, ◌⊎◌, List, [], ◌∷◌, ◌++◌, Option, Some, None, Result, Ok, Err, IsOk, Vec, length, take, drop, refl, sym, ap, ◌∙◌, subst, inl, inr, arith, append_assoc, append-nil, length-append, take_at, drop_at, take-append-drop}
use Rattle.std.specs.Io.KnownBytes.{Consumes, IsAtEnd, Keeps, prepend_known}
use Rattle.std.specs.declared.alloc.Global.{Global}
use Rattle.std.proofs.KnownBytes.{Keeps-refl, prepend_known-end}
use Rattle.std.proofs.lemmas.Bool.{true≢false}
use Rattle.std.proofs.lemmas.List.{take-append-le}
use Rattle.std.proofs.lemmas.List.Concat.{flat_map-append}
use Rattle.std.proofs.lemmas.List.Elements.{All-drop, All-head, All-same}
use Rattle.adapter_frames.specs.declared.heads.HeadFault.{HeadFault}
use Rattle.adapter_frames.specs.declared.heads.HeadFault.TheVariants.{HeadTooLong, BadHeader, NoLength, TwoLengths, BadLength, TooLong}
use Rattle.adapter_frames.specs.declared.reading.FrameFault.{FrameFault}
use Rattle.adapter_frames.specs.declared.reading.FrameFault.TheVariants.{Head, Unfinished, Read, Memory}
use Rattle.adapter_frames.specs.Frames.{FrameOf, IsUnfinished, frame}
use Rattle.adapter_frames.specs.Heads.{Bytes, FirstFault, Headed, IsAtFault, Say, ended, fault_behind, lengths_of, line_end, line_says, said}
use Rattle.adapter_frames.specs.Reading.{Ended, Fails, Gets, Gives}
use Rattle.adapter_frames.proofs.HeadLines.{heads_unique}
use Rattle.adapter_frames.proofs.WrittenFrames.{frame_of}

-- bytes are cut in one way at a length
cut_unique : (xs ys r s : Bytes) → length xs ≡ length ys → xs ++ r ≡ ys ++ s → (xs ≡ ys) × (r ≡ s)
cut_unique xs ys r s same e = (
  sym (take_at xs r (length xs) refl) ∙ (ap (take (length xs)) e ∙ take_at ys s (length xs) (sym same)),
  sym (drop_at xs r (length xs) refl) ∙ (ap (drop (length xs)) e ∙ drop_at ys s (length xs) (sym same)),
)

head_behind : (bytes t : Bytes) → (headed : Headed bytes) → bytes ++ t ≡ ended headed.lines ++ (line_end ++ (headed.rest ++ t))
head_behind bytes t headed =
    let lines = ended headed.lines in
    ap (λ xs. xs ++ t) headed.head.bytes_are ∙ (append_assoc lines (line_end ++ headed.rest) t ∙ ap (λ xs. lines ++ xs) (append_assoc line_end headed.rest t))

-- bytes that begin with heads, and are the same with what stands behind them, have one head
one_head : (front other r s : Bytes) (a : Headed front) (b : Headed other) → front ++ r ≡ other ++ s → (a.lines ≡ b.lines) × (a.rest ++ r ≡ b.rest ++ s)
one_head front other r s a b e =
    heads_unique a.lines b.lines (a.rest ++ r) (b.rest ++ s) a.head.are_lines b.head.are_lines (sym (head_behind front r a) ∙ (e ∙ head_behind other s b))

-- bytes are one frame at most, and a rest
pub frames_unique : (front other message written r s : Bytes) → FrameOf front message [] → FrameOf other written [] → front ++ r ≡ other ++ s → (message ≡ written) × (r ≡ s)
frames_unique front other message written r s a b e =
    let heads = one_head front other r s a.headed b.headed e in
    let lengths : length message ∷ [] ≡ length written ∷ [] = sym a.says.lengths_are ∙ (ap lengths_of heads.0 ∙ b.says.lengths_are) in
    let plain_a : a.headed.rest ++ r ≡ message ++ r = ap (λ xs. xs ++ r) (a.message_is ∙ append-nil message) in
    let plain_b : b.headed.rest ++ s ≡ written ++ s = ap (λ xs. xs ++ s) (b.message_is ∙ append-nil written) in
    cut_unique message written r s (cc) (sym plain_a ∙ (heads.1 ∙ plain_b))

-- ---- a frame that was written is not refused, and is not unfinished where it is whole

abbrev Sound : Bytes → Type 0
Sound line = IsOk (line_says line)

not_second : (lengths : List ℕ) (says : Result (Option ℕ) HeadFault) (fault : HeadFault) (behind : List ℕ) (n : ℕ) → IsOk says → fault_behind lengths says ≡ Some fault → lengths ++ (said says ++ behind) ≡ n ∷ [] → ⊥
not_second lengths (Err own) fault behind n sound e one = true≢false (sym sound)
not_second [] (Ok None) fault behind n sound e one = absurd cc
not_second (x ∷ xs) (Ok None) fault behind n sound e one = absurd cc
not_second [] (Ok (Some k)) fault behind n sound e one = absurd cc
not_second (x ∷ xs) (Ok (Some k)) fault behind n sound e one = omega (arith, ap length one, length-append xs (k ∷ behind))

-- lines that say a length have no fault
said_or_fault : (lines : List Bytes) (n : ℕ) (fault : HeadFault) → Say lines (n ∷ []) → FirstFault lines fault → ⊥
said_or_fault lines n fault say first =
    let behind : drop (length first.before) lines ≡ first.line ∷ first.after =
    ap (drop (length first.before)) first.are ∙ drop_at first.before (first.line ∷ first.after) (length first.before) refl in
    let sound : Sound first.line =
    All-head Sound first.line first.after (All-same Sound (first.line ∷ first.after) (drop (length first.before) lines) (sym behind) (All-drop Sound (length first.before) lines say.sound)) in
    let lengths : lengths_of lines ≡ first.lengths ++ (said (line_says first.line) ++ lengths_of first.after) =
    ap lengths_of first.are
    ∙ (flat_map-append (λ line. said (line_says line)) first.before (first.line ∷ first.after) ∙ ap (λ xs. xs ++ (said (line_says first.line) ++ lengths_of first.after)) first.say.lengths_are) in
    not_second first.lengths (line_says first.line) fault (lengths_of first.after) n sound first.fault_is (sym lengths ∙ say.lengths_are)

-- what is longer than a head and begins as it does begins with it
headed_front : (front left bytes rest : Bytes) → Headed bytes → 4096 + 2 ≤ length front → front ++ left ≡ bytes ++ rest → Headed front
headed_front front left bytes rest whole long e =
    let head = ended whole.lines ++ line_end in
    let k = length head in
    let within : k ≤ length front = omega (arith, long, whole.short, length-append (ended whole.lines) line_end) in
    let begins : take k front ≡ head =
    sym (take-append-le k front left within)
    ∙ (ap (take k) (e ∙ (head_behind bytes rest whole ∙ sym (append_assoc (ended whole.lines) line_end (whole.rest ++ rest)))) ∙ take_at head (whole.rest ++ rest) k refl) in
    record {
      lines = whole.lines;
      rest = drop k front;
      head = record {
        are_lines = whole.head.are_lines;
        bytes_are = sym (take-append-drop k front) ∙ (ap (λ xs. xs ++ drop k front) begins ∙ append_assoc (ended whole.lines) line_end (drop k front));
      };
      short = whole.short;
    }

lines_say : (front left written rest : Bytes) (a : Headed front) (whole : FrameOf (frame written) written []) → front ++ left ≡ frame written ++ rest → Say a.lines (length written ∷ [])
lines_say front left written rest a whole e = subst (λ lines. Say lines (length written ∷ [])) (sym (one_head front (frame written) left rest a whole.headed e).0) whole.says

written_sound : (fault : HeadFault) (front left written rest : Bytes) → length written ≤ 1048576 → front ++ left ≡ frame written ++ rest → IsAtFault fault front → ⊥
written_sound HeadTooLong front left written rest fits e (long, none) = none (headed_front front left (frame written) rest (frame_of written fits).headed long e)
written_sound BadHeader front left written rest fits e (a, first) = said_or_fault a.lines (length written) BadHeader (lines_say front left written rest a (frame_of written fits) e) first
written_sound NoLength front left written rest fits e (a, none) =
    let one = lines_say front left written rest a (frame_of written fits) e in
    omega (arith, ap length (sym none.lengths_are ∙ one.lengths_are))
written_sound TwoLengths front left written rest fits e (a, first) = said_or_fault a.lines (length written) TwoLengths (lines_say front left written rest a (frame_of written fits) e) first
written_sound BadLength front left written rest fits e (a, first) = said_or_fault a.lines (length written) BadLength (lines_say front left written rest a (frame_of written fits) e) first
written_sound TooLong front left written rest fits e (a, n, say, long) =
    let one = lines_say front left written rest a (frame_of written fits) e in
    let both : n ∷ [] ≡ length written ∷ [] = sym say.lengths_are ∙ one.lengths_are in
    let same : n ≡ length written = cc in
    omega arith

written_whole : (kept written rest : Bytes) → length written ≤ 1048576 → kept ≡ frame written ++ rest → IsUnfinished kept → ⊥
written_whole kept written rest fits e (inl pending) =
    let whole = (frame_of written fits).headed in
    pending.1 (record { lines = whole.lines; rest = whole.rest ++ rest; head = record { are_lines = whole.head.are_lines; bytes_are = e ∙ head_behind (frame written) rest whole }; short = whole.short })
written_whole kept written rest fits e (inr (a, n, say, low, less)) =
    let whole = frame_of written fits in
    let plain : kept ++ [] ≡ frame written ++ rest = append-nil kept ∙ e in
    let heads = one_head kept (frame written) [] rest a whole.headed plain in
    let one = lines_say kept [] written rest a whole plain in
    let both : n ∷ [] ≡ length written ∷ [] = sym say.lengths_are ∙ one.lengths_are in
    let same : n ≡ length written = cc in
    omega (arith, less, same, ap length heads.1, length-append a.rest [], length-append whole.headed.rest rest, ap length whole.message_is, length-append written [])

-- ---- what a call gives of a frame that was written

-- a message that is given is the one that was written
pub given_back : (old new : Option Bytes) (message written rest : Bytes) → Gives old new message → length written ≤ 1048576 → old ≡ Some (frame written ++ rest) → (message ≡ written) × (new ≡ Some rest)
given_back old new message written rest gives fits is = back new (subst (λ known. Consumes known new gives.front) is gives.consumed)
  where
    back : (new : Option Bytes) → Consumes (Some (frame written ++ rest)) new gives.front → (message ≡ written) × (new ≡ Some rest)
    back None consumed = absurd consumed
    back (Some left) consumed =
        let same = frames_unique gives.front (frame written) message written left rest gives.is_frame (frame_of written fits) (sym consumed) in
        (same.0, ap (λ xs. Some xs) same.1)

pub stays : (new : Option Bytes) (bytes : Bytes) → Keeps (Some bytes) new → new ≡ Some bytes
stays None bytes keeps = absurd keeps
stays (Some xs) bytes keeps = ap (λ ys. Some ys) keeps

-- a call that fails leaves the frame
pub fault_back : (old new : Option Bytes) (kept : Bytes) (left : Option Bytes) (fault : FrameFault) → new ≡ prepend_known kept left → Fails old new kept left fault
    → (written rest : Bytes) → length written ≤ 1048576 → old ≡ Some (frame written ++ rest) → Gets new written rest (Err fault)
fault_back old new kept left Read unread fails written rest fits is = stays new (frame written ++ rest) (subst (λ known. Keeps known new) is fails)
fault_back old new kept left Memory unread fails written rest fits is = stays new (frame written ++ rest) (subst (λ known. Keeps known new) is fails)
fault_back old new kept left (Head fault) unread fails written rest fits is = refused new (subst (λ known. Consumes known new fails.front) is fails.consumed)
  where
    refused : (new : Option Bytes) → Consumes (Some (frame written ++ rest)) new fails.front → ⊥
    refused None consumed = consumed
    refused (Some behind) consumed = written_sound fault fails.front behind written rest fits (sym consumed) fails.at_fault
fault_back old new kept None Unfinished unread fails written rest fits is =
    let same : Some (frame written ++ rest) ≡ None = sym (stays new (frame written ++ rest) (subst (λ known. Keeps known new) is fails.0)) ∙ unread in
    absurd cc
fault_back old new kept (Some left) Unfinished unread fails written rest fits is =
    let same : Some (frame written ++ rest) ≡ Some (kept ++ left) = sym (stays new (frame written ++ rest) (subst (λ known. Keeps known new) is fails.0)) ∙ unread in
    let whole : frame written ++ rest ≡ kept ++ left = cc in
    written_whole kept written rest fits (sym (whole ∙ (ap (λ xs. kept ++ xs) fails.1 ∙ append-nil kept))) fails.3

-- the input does not end in front of a frame
pub end_back : (old new : Option Bytes) (written rest : Bytes) → Keeps old new × IsAtEnd new → old ≡ Some (frame written ++ rest) → ⊥
end_back old new written rest ends is =
    let here : IsAtEnd (Some (frame written ++ rest)) = subst IsAtEnd (stays new (frame written ++ rest) (subst (λ known. Keeps known new) is ends.0)) ends.1 in
    absurd cc

pub ended_back : (old new : Option Bytes) (kept : Bytes) (left : Option Bytes) (result : Result (Option (Vec ℕ Global)) FrameFault) → new ≡ prepend_known kept left → Ended kept result → Keeps old new → IsAtEnd left → IsUnfinished kept
    → (written rest : Bytes) → length written ≤ 1048576 → old ≡ Some (frame written ++ rest) → Gets new written rest result
ended_back old new kept left (Ok (Some message)) unread ended keeps at_end unfinished written rest fits is = absurd ended
ended_back old new kept left (Ok None) unread ended keeps at_end unfinished written rest fits is =
    end_back old new written rest (keeps, prepend_known-end new left kept (subst (Keeps new) unread (Keeps-refl new)) ended at_end) is
ended_back old new kept left (Err (Head fault)) unread ended keeps at_end unfinished written rest fits is = absurd ended
ended_back old new kept left (Err Unfinished) unread ended keeps at_end unfinished written rest fits is =
    fault_back old new kept left Unfinished unread (keeps, at_end, ended, unfinished) written rest fits is
ended_back old new kept left (Err Read) unread ended keeps at_end unfinished written rest fits is = absurd ended
ended_back old new kept left (Err Memory) unread ended keeps at_end unfinished written rest fits is = absurd ended

-- a piece was not read
pub piece_back : (old new : Option Bytes) (fault : FrameFault) → (fault ≡ Read) ⊎ (fault ≡ Memory) → Keeps old new → (written rest : Bytes) → old ≡ Some (frame written ++ rest) → Gets new written rest (Err fault)
piece_back old new fault (inl read) keeps written rest is = subst (λ f. Gets new written rest (Err f)) (sym read) (stays new (frame written ++ rest) (subst (λ known. Keeps known new) is keeps))
piece_back old new fault (inr memory) keeps written rest is = subst (λ f. Gets new written rest (Err f)) (sym memory) (stays new (frame written ++ rest) (subst (λ known. Keeps known new) is keeps))
