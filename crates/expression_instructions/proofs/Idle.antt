-- An expression that no lane evaluates has the value 0 everywhere, and no fault.
use Rattle.std.proofs.Common.{ℕ, suc, Bool, true, false, ◌≡◌, refl, ap, ◌∙◌, List, [], ◌∷◌}
use Rattle.std.specs.Prelude.{◌&&◌, Result, Ok}
use Rattle.gang_types.specs.declared.faults.FaultName.{FaultName}
use Rattle.gang_types.specs.declared.types.Rate.{Rate}
use Rattle.gang_types.specs.declared.types.Rate.TheVariants.{Uniform, Varying}
use Rattle.gang_types.specs.Lanes.{Lanes, has, no_lane, lanes_where}
use Rattle.gang_types.specs.LaneLaws.{has-lanes_where, no_lane_has}
use Rattle.gang_model.specs.Running.Lanes.{Fault, ◌>>=◌, words_from, each, tried_from, try_each}
use Rattle.gang_model.specs.Running.State.{State, seen}
use Rattle.gang_model.specs.Types.Tree.{Expr, Number, ProgramIndex, ProgramCount, LaneMask, Read, Element, Unary, Binary, Convert, And, Or, Choice, Reduce, Scan, OfOne, OfTwo, Extract, Insert, Rotate, Shift, Shuffle, ShuffleTwo, Select}
use Rattle.gang_model.specs.Running.Value.{value}
use Rattle.gang_types.specs.LaneLaws.{lowest_has}
use Rattle.gang_types.specs.Lanes.{lowest}

none_left : false ≡ true → ⊥
none_left e = cc e

pub words_idle : (k : ℕ) (lanes : Lanes) (f g : ℕ → ℕ) → no_lane lanes ≡ true → words_from k lanes f ≡ words_from k lanes g
words_idle k [] f g none = refl
words_idle k (true ∷ lanes) f g none = absurd (none_left none)
words_idle k (false ∷ lanes) f g none = ap (λ xs. 0 ∷ xs) (words_idle (suc k) lanes f g none)

tried_idle : (k : ℕ) (lanes : Lanes) (f : ℕ → Result ℕ FaultName) (g : ℕ → ℕ) → no_lane lanes ≡ true → tried_from k lanes f ≡ Ok (words_from k lanes g)
tried_idle k [] f g none = refl
tried_idle k (true ∷ lanes) f g none = absurd (none_left none)
tried_idle k (false ∷ lanes) f g none = ap (λ r. r >>= λ xs. Ok (0 ∷ xs)) (tried_idle (suc k) lanes f g none)

-- 0 in each lane
abbrev pub zeros : Lanes → List ℕ
zeros lanes = each lanes (λ k. 0)

-- a value without a fault
abbrev fine : List ℕ → Result (List ℕ) Fault
fine x = Ok x

pub each_idle : (lanes : Lanes) (f : ℕ → ℕ) → no_lane lanes ≡ true → fine (each lanes f) ≡ fine (zeros lanes)
each_idle lanes f none = ap fine (words_idle 0 lanes f (λ k. 0) none)

pub try_idle : (lanes : Lanes) (f : ℕ → Result ℕ FaultName) → no_lane lanes ≡ true → try_each lanes f ≡ Ok (zeros lanes)
try_idle lanes f none = tried_idle 0 lanes f (λ k. 0) none

part_none : (b : Bool) (lanes : Lanes) (test : ℕ → Bool) → no_lane lanes ≡ true → no_lane (lanes_where lanes test) ≡ b → b ≡ true
part_none true lanes test none e = refl
part_none false lanes test none e =
    let n : ℕ = lowest (lanes_where lanes test) in
    let here : has (lanes_where lanes test) n ≡ true = lowest_has (lanes_where lanes test) e in
    let out : (has lanes n && test n) ≡ false = ap (λ b. b && test n) (no_lane_has lanes none n) in
    let in_part : has (lanes_where lanes test) n ≡ (has lanes n && test n) = has-lanes_where lanes test n in
    cc

where_idle : (lanes : Lanes) (test : ℕ → Bool) → no_lane lanes ≡ true → no_lane (lanes_where lanes test) ≡ true
where_idle lanes test none = part_none (no_lane (lanes_where lanes test)) lanes test none refl

pub after_value : (r : Result (List ℕ) Fault) (x : List ℕ) (next : List ℕ → Result (List ℕ) Fault) (out : Result (List ℕ) Fault) → r ≡ Ok x → next x ≡ out → (r >>= next) ≡ out
after_value r x next out e f = ap (λ r. r >>= next) e ∙ f

seen_idle : (rate : Rate) (lanes : Lanes) (words : List ℕ) → no_lane lanes ≡ true → fine (seen rate lanes words) ≡ fine (zeros lanes)
seen_idle Uniform lanes words none = each_idle lanes _ none
seen_idle Varying lanes words none = each_idle lanes _ none

pub idle : (e : Expr) (lanes : Lanes) (state : State) → no_lane lanes ≡ true → value e lanes state ≡ Ok (zeros lanes)
idle (Number n) lanes state none = each_idle lanes _ none
idle ProgramIndex lanes state none = each_idle lanes _ none
idle ProgramCount lanes state none = each_idle lanes _ none
idle LaneMask lanes state none = each_idle lanes _ none
idle (Read v) lanes state none = seen_idle v.rate lanes _ none
idle (Element array i) lanes state none = after_value _ _ _ _ (idle i lanes state none) (try_idle lanes _ none)
idle (Unary op type a) lanes state none = after_value _ _ _ _ (idle a lanes state none) (each_idle lanes _ none)
idle (Binary op type a b) lanes state none = after_value _ _ _ _ (idle a lanes state none) (after_value _ _ _ _ (idle b lanes state none) (try_idle lanes _ none))
idle (Convert from to a) lanes state none = after_value _ _ _ _ (idle a lanes state none) (each_idle lanes _ none)
idle (And a b) lanes state none = after_value _ _ _ _ (idle a lanes state none) (after_value _ _ _ _ (idle b _ state (where_idle lanes _ none)) (each_idle lanes _ none))
idle (Or a b) lanes state none = after_value _ _ _ _ (idle a lanes state none) (after_value _ _ _ _ (idle b _ state (where_idle lanes _ none)) (each_idle lanes _ none))
idle (Choice c a b) lanes state none = after_value _ _ _ _ (idle c lanes state none) (after_value _ _ _ _ (idle a _ state (where_idle lanes _ none)) (after_value _ _ _ _ (idle b _ state (where_idle lanes _ none)) (each_idle lanes _ none)))
idle (Select c a b) lanes state none = after_value _ _ _ _ (idle c lanes state none) (after_value _ _ _ _ (idle a lanes state none) (after_value _ _ _ _ (idle b lanes state none) (each_idle lanes _ none)))
idle (Reduce f type a) lanes state none = after_value _ _ _ _ (idle a lanes state none) (each_idle lanes _ none)
idle (Scan f type a) lanes state none = after_value _ _ _ _ (idle a lanes state none) (each_idle lanes _ none)
idle (OfOne f type a) lanes state none = after_value _ _ _ _ (idle a lanes state none) (each_idle lanes _ none)
idle (OfTwo f type a b) lanes state none = after_value _ _ _ _ (idle a lanes state none) (after_value _ _ _ _ (idle b lanes state none) (each_idle lanes _ none))
idle (Extract a i) lanes state none = after_value _ _ _ _ (idle a lanes state none) (after_value _ _ _ _ (idle i lanes state none) (try_idle lanes _ none))
idle (Insert a i n) lanes state none = after_value _ _ _ _ (idle a lanes state none) (after_value _ _ _ _ (idle i lanes state none) (after_value _ _ _ _ (idle n lanes state none) (after_value _ _ _ _ (try_idle lanes _ none) (each_idle lanes _ none))))
idle (Rotate a n) lanes state none = after_value _ _ _ _ (idle a lanes state none) (after_value _ _ _ _ (idle n lanes state none) (each_idle lanes _ none))
idle (Shift a n) lanes state none = after_value _ _ _ _ (idle a lanes state none) (after_value _ _ _ _ (idle n lanes state none) (each_idle lanes _ none))
idle (Shuffle a p) lanes state none = after_value _ _ _ _ (idle a lanes state none) (after_value _ _ _ _ (idle p lanes state none) (try_idle lanes _ none))
idle (ShuffleTwo a b p) lanes state none = after_value _ _ _ _ (idle a lanes state none) (after_value _ _ _ _ (idle b lanes state none) (after_value _ _ _ _ (idle p lanes state none) (try_idle lanes _ none)))
