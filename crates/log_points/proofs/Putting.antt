-- Breakpoints that write a text, as they are put in and as they are found.
use Rattle.std.proofs.Common.{◌≡◌, refl, sym, ap, ◌∙◌, ℕ, Bool, true, false, List, [], ◌∷◌, ◌++◌, ◌<◌, ◌≤◌, length, map, Option, inl, inr, arith}
use Rattle.std.specs.Prelude.{◌==◌, ◌&&◌, nat_le, nat_lt, find, option_map, if◌then◌else◌}
use Rattle.std.proofs.lemmas.Bool.{cases_Bool}
use Rattle.std.proofs.lemmas.Bool.Decides.{nat_tests}
use Rattle.std.proofs.lemmas.List.{length-map, map-append}
use Rattle.log_points.specs.declared.points.LogPoint.{LogPoint}
use Rattle.log_points.specs.Points.{Log, log_of, message_of, with_log}

module _ (number : ℕ) where
  find_log : (points : List LogPoint) → find (λ (log : Log). log.number == number) (map log_of points) ≡ option_map log_of (find (λ (point : LogPoint). point.number == number) points)
  find_log [] = refl
  find_log (point ∷ points) = elim (cases_Bool (point.number == number)) [
    | inl e ↦ rw e refl
    | inr e ↦ rw e (find_log points)
  ]

  -- the message of what was found
  pub message_found : (points : List LogPoint) (found : Option LogPoint) → found ≡ find (λ (point : LogPoint). point.number == number) points
      → option_map (λ (log : Log). log.message) (option_map log_of found) ≡ message_of number (map log_of points)
  message_found points found is =
      ap (λ o. option_map (λ (log : Log). log.message) (option_map log_of o)) is ∙ ap (λ o. option_map (λ (log : Log). log.message) o) (sym (find_log points))

  module _ (message : List ℕ) where
    abbrev log : Log
    log = record { number = number; message = message }

    -- one more is put in
    pub puts : (points new : List LogPoint) (point : LogPoint) → length message ≤ 256 → length points < 64 → new ≡ points ++ point ∷ [] → log_of point ≡ log → map log_of new ≡ with_log number message (map log_of points)
    puts points new point short few is same =
        let same_length : length (map log_of points) ≡ length points = length-map points log_of in
        let room : nat_lt (length (map log_of points)) 64 ≡ true = grind (arith, nat_tests) in
        let fits : nat_le (length message) 256 ≡ true = grind (arith, nat_tests) in
        ap (map log_of) is
        ∙ map-append log_of points (point ∷ [])
        ∙ ap (λ l. map log_of points ++ l ∷ []) same
        ∙ sym (ap (λ b. if b && nat_lt (length (map log_of points)) 64 then map log_of points ++ log ∷ [] else map log_of points) fits
        ∙ ap (λ b. if b then map log_of points ++ log ∷ [] else map log_of points) room)

    no : (b : Bool) → (b && false) ≡ false
    no true = refl
    no false = refl

    -- none is, where there is no room, or the message is too long
    pub puts_none : (points : List LogPoint) → 64 ≤ length points → map log_of points ≡ with_log number message (map log_of points)
    puts_none points full =
        let same_length : length (map log_of points) ≡ length points = length-map points log_of in
        let room : nat_lt (length (map log_of points)) 64 ≡ false = grind (arith, nat_tests) in
        sym (ap (λ b. if nat_le (length message) 256 && b then map log_of points ++ log ∷ [] else map log_of points) room
        ∙ ap (λ b. if b then map log_of points ++ log ∷ [] else map log_of points) (no (nat_le (length message) 256)))

    pub puts_no_long : (points : List LogPoint) → 256 < length message → map log_of points ≡ with_log number message (map log_of points)
    puts_no_long points long =
        let fits : nat_le (length message) 256 ≡ false = grind (arith, nat_tests) in
        sym (ap (λ b. if b && nat_lt (length (map log_of points)) 64 then map log_of points ++ log ∷ [] else map log_of points) fits)
