-- Lines and columns grow with the bytes.
use Rattle.std.proofs.Common.{◌≡◌, ℕ, ◌+◌, ◌<◌, ◌≤◌, List, [], ◌∷◌, length, drop, Bool, true, false, cond, sym, ap, ◌∙◌, arith, get_or, add-one, drop-cons}
use Rattle.std.specs.Prelude.{◌==◌}
use Rattle.gang_types.specs.declared.places.Place.{Place}
use Rattle.gang_model.specs.Source.Lexes.{place_after, next_place}
use Rattle.ispc_lexer.proofs.Runs.{drop_past}

pub place_step : (bs : List ℕ) (i : ℕ) (p : Place) → i < length bs → place_after p (drop i bs) ≡ place_after (next_place p (get_or bs i 0)) (drop (i + 1) bs)
place_step bs i p lt = ap (place_after p) (drop-cons bs i 0 lt) ∙ ap (λ (n : ℕ). place_after (next_place p (get_or bs i 0)) (drop n bs)) (sym (add-one i))

pub line_next : (p : Place) (b : ℕ) → ((next_place p b).line ≤ p.line + 1) × ((next_place p b).col ≤ p.col + 1)
line_next p b = go (b == 10)
  where
    go : (v : Bool) → ((cond {A = Place} v (record { line = p.line + 1; col = 1 }) (record { line = p.line; col = p.col + 1 })).line ≤ p.line + 1) × ((cond {A = Place} v (record { line = p.line + 1; col = 1 }) (record { line = p.line; col = p.col + 1 })).col ≤ p.col + 1)
    go true = (omega arith, omega arith)
    go false = (omega arith, omega arith)

pub place_bounds : (p : Place) (bs : List ℕ) → ((place_after p bs).line ≤ p.line + length bs) × ((place_after p bs).col ≤ p.col + length bs)
place_bounds p [] = (omega arith, omega arith)
place_bounds p (b ∷ bs) = let here = line_next p b in let rest = place_bounds (next_place p b) bs in (omega arith, omega arith)

pub line_bound : (p : Place) (b n : ℕ) → p.line ≤ n → (next_place p b).line ≤ n + 1
line_bound p b n le = let here = line_next p b in omega arith

pub col_bound : (p : Place) (b n : ℕ) → p.col ≤ n → (next_place p b).col ≤ n + 1
col_bound p b n le = let here = line_next p b in omega arith

pub place_done : (bs : List ℕ) (i : ℕ) (p total : Place) → length bs ≤ i → place_after p (drop i bs) ≡ total → p ≡ total
place_done bs i p total le e = let none : place_after p (drop i bs) ≡ p = ap (place_after p) (drop_past bs i le) in sym none ∙ e
