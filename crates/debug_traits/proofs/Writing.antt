-- What is written where a writer stops, and what one write tells.
use Rattle.std.proofs.Common.{◌≡◌, ◌≢◌, ◌&&◌, nat_eq, nat_lt, ℕ, ◌<◌, Bool, true, false, List, ◌++◌, length, take, Option, Result, Err, refl, sym, subst, ◌∙◌, arith, length-append}
use Rattle.std.proofs.lemmas.List.{take_at}
use Rattle.std.specs.Io.KnownBytes.{Appends}
use Rattle.std.proofs.lemmas.Bool.Decides.{nat_tests}
use Rattle.debug_traits.specs.Devices.{Writes}

-- some of the text was written, and then the writer failed
abbrev pub Broke : List ℕ → Option (List ℕ) → Option (List ℕ) → Bool → Type 0
Broke text old new failed = (k : ℕ) × (k < length text) × Appends old new (take k text) × (failed ≡ true)

-- what the exit of a `?` returns
pub writes_err : {X E : Type 0} (text : List ℕ) (old new : Option (List ℕ)) (failed : Bool) (r : Result X E) (y : E) → r ≡ Err y → Broke text old new failed → Writes text old new failed r
writes_err text old new failed r y e broke = rw e broke

-- the writer stopped after done, before any of rest
pub broke_at : (text done rest : List ℕ) (old new : Option (List ℕ)) (failed : Bool) → text ≡ done ++ rest → 0 < length rest → Appends old new done → failed ≡ true → Broke text old new failed
broke_at text done rest old new failed split more wrote is =
    let longer : length done < length text = rw split (omega (arith, length-append done rest)) in
    let front : take (length done) text ≡ done = rw split (take_at done rest (length done) refl) in
    (length done, longer, subst (Appends old new) (sym front) wrote, is)

-- a write that took none of one or more bytes failed, and any other did not
pub took_none : (failed : Bool) (n m : ℕ) → failed ≡ (nat_eq n 0 && nat_lt 0 m) → n ≡ 0 → 0 < m → failed ≡ true
took_none failed n m is e more = is ∙ grind (arith, nat_tests)

pub took_some : (failed : Bool) (n m : ℕ) → failed ≡ (nat_eq n 0 && nat_lt 0 m) → n ≢ 0 → failed ≡ false
took_some failed n m is e = is ∙ grind (arith, nat_tests)
