-- Heads and frames worked out by hand.
use Rattle.std.proofs.Common.{◌≡◌, [], ◌∷◌, ◌++◌, All, Some, None, Ok, Err, IsOk, codes, refl, ap, arith}
use Rattle.std.proofs.lemmas.Fmt.{decimal_digit}
use Rattle.std.proofs.lemmas.List.Elements.{All-cons, All-nil}
use Rattle.adapter_frames.specs.declared.heads.HeadFault.TheVariants.{BadHeader, NoLength, TwoLengths, BadLength}
use Rattle.adapter_frames.specs.Frames.{FrameOf, frame}
use Rattle.adapter_frames.specs.Heads.{Bytes, FirstFault, IsAtFault, IsLine, Say, line_says}

-- a name in small letters, or in any; white space round the number
small_letters : line_says (codes "content-length:7") ≡ Ok (Some 7)
small_letters = refl

any_letters : line_says (codes "CONTENT-length: 0120 ") ≡ Ok (Some 120)
any_letters = refl

-- another header, also one whose value has a colon
other_header : line_says (codes "Content-Type: a:b") ≡ Ok None
other_header = refl

no_colon : line_says (codes "Content-Length 7") ≡ Err BadHeader
no_colon = refl

no_number : line_says (codes "Content-Length: 12x") ≡ Err BadLength
no_number = refl

no_digits : line_says (codes "Content-Length:") ≡ Err BadLength
no_digits = refl

abbrev Sound : Bytes → Type 0
Sound line = IsOk (line_says line)

abbrev first : Bytes
first = codes "Content-Length: 2"

abbrev second : Bytes
second = codes "Content-Type: x"

are_lines : All IsLine (first ∷ second ∷ [])
are_lines = All-cons IsLine first (second ∷ []) (record { some = omega arith; one = refl }) (All-cons IsLine second [] (record { some = omega arith; one = refl }) (All-nil IsLine))

say : Say (first ∷ second ∷ []) (2 ∷ [])
say = record { sound = All-cons Sound first (second ∷ []) refl (All-cons Sound second [] refl (All-nil Sound)); lengths_are = refl }

-- a frame, and its rest
frame_and_rest : FrameOf (codes "Content-Length: 2\r\nContent-Type: x\r\n\r\nhiContent") (codes "hi") (codes "Content")
frame_and_rest = record {
  headed = record { lines = first ∷ second ∷ []; rest = codes "hiContent"; head = record { are_lines = are_lines; bytes_are = refl }; short = omega arith };
  message_is = refl;
  says = say;
  fits = omega arith;
}

written : frame (codes "hi") ≡ codes "Content-Length: 2\r\n\r\nhi"
written = ap (λ digits. (codes "Content-Length: " ++ digits ++ codes "\r\n\r\n") ++ codes "hi") (decimal_digit 2 (omega arith))

-- two lengths: the second line is at fault, though both are the same
two_lengths : FirstFault (first ∷ first ∷ second ∷ []) TwoLengths
two_lengths = record {
  before = first ∷ [];
  line = first;
  after = second ∷ [];
  are = refl;
  lengths = 2 ∷ [];
  say = record { sound = All-cons Sound first [] refl (All-nil Sound); lengths_are = refl };
  once = omega arith;
  fault_is = refl;
}

-- an empty line alone is a head of no line
empty_head : IsAtFault NoLength (codes "\r\n")
empty_head = (record { lines = []; rest = []; head = record { are_lines = All-nil IsLine; bytes_are = refl }; short = omega arith }, record { sound = All-nil Sound; lengths_are = refl })
