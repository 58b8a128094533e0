-- Frames: a head that says how long a message is, and the message.
use Rattle.std.specs.Prelude.{◌≡◌, ℕ, ◌+◌, ◌<◌, ◌≤◌, ◌⊎◌, List, [], ◌∷◌, ◌++◌, codes, decimal, length}
use Rattle.adapter_frames.specs.Heads.{Bytes, Headed, Say}

-- the head of a message of so many bytes
abbrev pub head_of : ℕ → List ℕ
head_of n = codes "Content-Length: " ++ decimal n ++ codes "\r\n\r\n"

-- a message behind its head
abbrev pub frame : List ℕ → List ℕ
frame message = head_of (length message) ++ message

-- bytes are a frame of a message, and a rest
pub record FrameOf (bytes message rest : Bytes) : Type 0 where
  pub headed : Headed bytes
  pub message_is : headed.rest ≡ message ++ rest
  pub says : Say headed.lines (length message ∷ [])
  pub fits : length message ≤ 1048576

-- bytes whose head is not whole, or whose message is not
abbrev pub IsUnfinished : Bytes → Type 0
IsUnfinished bytes = ((length bytes < 4096 + 2) × (Headed bytes → ⊥)) ⊎ ((h : Headed bytes) × (n : ℕ) × Say h.lines (n ∷ []) × (n ≤ 1048576) × (length h.rest < n))
