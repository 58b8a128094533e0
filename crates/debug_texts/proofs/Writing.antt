-- One text after another.
use Rattle.std.proofs.Common.{◌≡◌, ℕ, ◌+◌, Bool, List, ◌++◌, length, take, Option, Result, Ok, Err, sym, subst, arith, length-append}
use Rattle.std.proofs.lemmas.List.{take-append-le}
use Rattle.std.proofs.Math.Seq.{take-append-add}
use Rattle.std.proofs.KnownBytes.{Appends-trans}
use Rattle.std.specs.Io.KnownBytes.{Appends}
use Rattle.debug_traits.specs.Devices.{Writes}
use Rattle.debug_traits.proofs.Writing.{Broke}

-- the first part broke, so the whole did
pub broke_early : (front rest : List ℕ) (old new : Option (List ℕ)) (failed : Bool) → Broke front old new failed → Broke (front ++ rest) old new failed
broke_early front rest old new failed (k, below, wrote, is) =
    (k, omega (arith, length-append front rest), subst (Appends old new) (sym (take-append-le k front rest (omega arith))) wrote, is)

-- the second part broke
pub broke_late : (front rest : List ℕ) (old mid new : Option (List ℕ)) (failed : Bool) → Appends old mid front → Broke rest mid new failed → Broke (front ++ rest) old new failed
broke_late front rest old mid new failed first (k, below, wrote, is) = (
  length front + k,
  omega (arith, length-append front rest),
  subst (Appends old new) (sym (take-append-add front rest k)) (Appends-trans old mid new front (take k rest) first wrote),
  is,
)

-- after a front, the rest
pub writes_rest : {X E : Type 0} (front rest : List ℕ) (old mid new : Option (List ℕ)) (failed : Bool) (r : Result X E)
    → Appends old mid front → Writes rest mid new failed r → Writes (front ++ rest) old new failed r
writes_rest front rest old mid new failed (Ok x) first (second, is) = (Appends-trans old mid new front rest first second, is)
writes_rest front rest old mid new failed (Err e) first second = broke_late front rest old mid new failed first second

-- ---- a text in two parts

-- both parts
pub writes_parts : {X E : Type 0} (text front rest : List ℕ) (old mid new : Option (List ℕ)) (failed : Bool) (r : Result X E) → text ≡ front ++ rest
    → Appends old mid front → Writes rest mid new failed r → Writes text old new failed r
writes_parts text front rest old mid new failed r split first second = rw split (writes_rest front rest old mid new failed r first second)

-- the first part broke
pub breaks_first : {X E : Type 0} (text front rest : List ℕ) (old new : Option (List ℕ)) (failed : Bool) (r : Result X E) (y : E) → r ≡ Err y → text ≡ front ++ rest
    → Broke front old new failed → Writes text old new failed r
breaks_first text front rest old new failed r y is split broke = rw (is, split) (broke_early front rest old new failed broke)

-- the second part broke
pub breaks_second : {X E : Type 0} (text front rest : List ℕ) (old mid new : Option (List ℕ)) (failed : Bool) (r : Result X E) (y : E) → r ≡ Err y → text ≡ front ++ rest
    → Appends old mid front → Broke rest mid new failed → Writes text old new failed r
breaks_second text front rest old mid new failed r y is split first broke = rw (is, split) (broke_late front rest old mid new failed first broke)
