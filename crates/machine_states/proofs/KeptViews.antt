-- Words that keep a part of an array that lies in it.
use Rattle.std.proofs.Common.{◌≡◌, ap, ℕ, ◌+◌, ◌<◌, ◌≤◌, true, List, [], ◌∷◌, length, arith}
use Rattle.std.specs.Prelude.{nat_le, if◌then◌else◌}
use Rattle.std.proofs.lemmas.Bool.Decides.{nat_tests}
use Rattle.gang_types.specs.declared.places.VarId.{VarId}
use Rattle.machine_states.specs.ArrayParts.{IsInside, array_region, no_view, view_kept, view_of_words}
use Rattle.machine_states.specs.Regions.{Regions}

fits_there : (a b : ℕ) → a ≤ b → nat_le a b ≡ true
fits_there a b h = grind (arith, nat_tests)

pub kept_whole : (regions : Regions) (v : VarId) (words : List ℕ) → 0 < length words → IsInside regions (view_of_words words) → view_kept regions v words ≡ view_of_words words
kept_whole regions v [] some inside = absurd (omega (arith, some))
kept_whole regions v (word ∷ words) some inside =
    let view = view_of_words (word ∷ words) in
    ap (λ b. if b then view else no_view v) (fits_there (view.first + view.len) (length (regions (array_region view.array))) inside)
