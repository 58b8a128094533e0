-- The top of a stack is the last of its items.
use Rattle.std.proofs.Common.{◌≡◌, ℕ, zero, suc, ◌-◌, ◌<◌, ◌≤◌, List, [], ◌∷◌, length, drop, reverse, get_or, refl, sym, ap, ◌∙◌, true≢false, arith}
use Rattle.std.specs.Prelude.{Option, Some, None, is_some, MatchResult, slice_get}
use Rattle.std.specs.Option.{ok_or, option_copied}
use Rattle.std.specs.Borrow.{Bor}
use Rattle.std.proofs.lemmas.List.{get_or-reverse, length-reverse}
use Rattle.std.proofs.lemmas.Option.{slice_get_within, slice_get-get_or, get_or_from_slice_get}
use Rattle.expression_instructions.specs.declared.code.Instruction.{Instruction}
use Rattle.gang_model.specs.Running.State.{State}
use Rattle.expression_runs.specs.Machine.{Vectors, Masks, Goes, Outcome, act, follow, exec}

second_by : {A : Type 0} (xs rs : List A) (c : A) → reverse xs ≡ rs → 2 ≤ length xs → c ≡ get_or xs (length xs - 2) c → (x : A) × (rest : List A) × (reverse xs ≡ x ∷ (c ∷ rest))
second_by xs [] c e h k = absurd (omega (arith, ap length e, length-reverse xs))
second_by xs (x ∷ []) c e h k = absurd (omega (arith, ap length e, length-reverse xs))
second_by xs (x ∷ (y ∷ rest)) c e h k =
    let n : length xs - 1 - 1 ≡ length xs - 2 = omega arith in
    let same : y ≡ c = sym (ap (λ l. get_or l 1 c) e) ∙ get_or-reverse xs 1 c (omega arith) ∙ ap (λ i. get_or xs i c) n ∙ sym k in
    (x, rest, e ∙ ap (λ v. x ∷ (v ∷ rest)) same)

pub second_top : {A : Type 0} (xs : List A) (c : A) → 2 ≤ length xs → c ≡ get_or xs (length xs - 2) c → (x : A) × (rest : List A) × (reverse xs ≡ x ∷ (c ∷ rest))
second_top xs c h k = second_by xs (reverse xs) c refl h k

top_by : {A : Type 0} (xs rs : List A) (a : A) → reverse xs ≡ rs → slice_get xs (length xs - 1) ≡ Some a → (rest : List A) × (reverse xs ≡ a ∷ rest)
top_by xs [] a e found = absurd (omega (arith, ap length e, length-reverse xs, slice_get_within xs (length xs - 1) a found))
top_by xs (x ∷ rest) a e found =
    let some : 0 < length xs = omega (arith, slice_get_within xs (length xs - 1) a found) in
    let n : length xs - 1 - 0 ≡ length xs - 1 = omega arith in
    let same : x ≡ a = sym (ap (λ l. get_or l 0 a) e) ∙ get_or-reverse xs 0 a some ∙ ap (λ i. get_or xs i a) n ∙ get_or_from_slice_get xs (length xs - 1) a a found in
    (rest, e ∙ ap (λ v. v ∷ rest) same)

none_top : {A : Type 0} (xs : List A) → None ≡ slice_get xs (length xs - 1) → reverse xs ≡ []
none_top [] e = refl
none_top (x ∷ xs) e = absurd (true≢false (sym (ap is_some (e ∙ slice_get-get_or (x ∷ xs) (length (x ∷ xs) - 1) x (omega arith)))))

-- the last item, if there is one
pub top_or : {A E : Type 0} (found : Option (Bor A)) (xs : List A) (stop : E) → option_copied found ≡ slice_get xs (length xs - 1) → MatchResult (ok_or found stop) (λ top. (rest : List A) × (reverse xs ≡ top.now ∷ rest)) (λ s. (s ≡ stop) × (reverse xs ≡ []))
top_or None xs stop e = (refl, none_top xs e)
top_or (Some top) xs stop e = top_by xs (reverse xs) top.now refl (sym e)

-- passing instructions is dropping them
pub pass_drop : (room nested : ℕ) (state : State) (code : List Instruction) (pass : ℕ) (stack : Vectors) (masks : Masks) → exec room nested state code pass stack masks ≡ exec room nested state (drop pass code) 0 stack masks
pass_drop room nested state [] zero stack masks = refl
pass_drop room nested state [] (suc pass) stack masks = refl
pass_drop room nested state (i ∷ code) zero stack masks = refl
pass_drop room nested state (i ∷ code) (suc pass) stack masks = pass_drop room nested state code pass stack masks

-- one turn of the machine's loop
pub one_step : (room nested : ℕ) (state : State) (i : Instruction) (rest others rest' : List Instruction) (pass : ℕ) (s s' : Vectors) (m m' : Masks) (all : Outcome) → exec room nested state rest 0 s m ≡ all → rest ≡ i ∷ others → Goes pass s' m' ≡ act room nested state i s m → rest' ≡ drop pass others → exec room nested state rest' 0 s' m' ≡ all
one_step room nested state i rest others rest' pass s s' m m' all before e step e' =
    ap (λ c. exec room nested state c 0 s' m') e'
    ∙ sym (pass_drop room nested state others pass s' m')
    ∙ ap (λ n. follow n (exec room nested state others)) step
    ∙ sym (ap (λ c. exec room nested state c 0 s m) e)
    ∙ before
