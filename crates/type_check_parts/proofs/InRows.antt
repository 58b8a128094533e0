-- Dimensions one after another: what is typed so far and what is left come to the whole.
use Rattle.std.proofs.Common.{◌≡◌, ℕ, suc, ◌+◌, List, [], ◌∷◌, ◌++◌, refl, sym, ap, ◌∙◌, arith, append_assoc, append-nil}
use Rattle.std.specs.Prelude.{Result, Ok, Err}
use Rattle.gang_types.specs.declared.types.IntType.TheVariants as t
use Rattle.gang_types.specs.declared.types.Rate.TheVariants.{Uniform, Varying}
use Rattle.gang_types.specs.declared.places.VarId.TheVariants.{Local}
use Rattle.gang_model.specs.declared.refusals.SourceRefusal.{SourceRefusal}
use Rattle.gang_model.specs.Types.Tree.{Dimension, Expr}
use Rattle.gang_model.specs.Source.Parsed.{ParsedDim}
use Rattle.gang_model.specs.Source.Judged.{Judged, Sound, Faulty, both, ◌>>=◌, answer_of, lesser, both_answers, then_answer}
use Rattle.gang_model.specs.Types.Typing.{Scope, given_value}
use Rattle.gang_model.specs.Types.Statements.{dimensions}
use Rattle.gang_model.proofs.JudgedLaws.{lesser-assoc, answer_of-both, answer_of-then}
use Rattle.type_check_parts.specs.Rows.{dimension_of, first_dimensions}

-- the answer for the whole, from what is typed so far and the answer for what is left
abbrev pub rows : Result (List Dimension) SourceRefusal → Result (List Dimension) SourceRefusal → Result (List Dimension) SourceRefusal
rows (Ok ds) (Ok es) = Ok (ds ++ es)
rows (Ok ds) (Err fault) = Err fault
rows (Err first) (Ok es) = Err first
rows (Err first) (Err fault) = Err (lesser first fault)

rows_next : (first : Result (List Dimension) SourceRefusal) (d : Result Dimension SourceRefusal) (later : Result (List Dimension) SourceRefusal)
    → rows first (then_answer (both_answers d later) (λ parts. Ok (parts.0 ∷ parts.1))) ≡ rows (first_dimensions first d) later
rows_next (Ok ds) (Ok d) (Ok es) = ap Ok (sym (append_assoc ds (d ∷ []) es))
rows_next (Ok ds) (Ok d) (Err g) = refl
rows_next (Ok ds) (Err f) (Ok es) = refl
rows_next (Ok ds) (Err f) (Err g) = refl
rows_next (Err h) (Ok d) (Ok es) = refl
rows_next (Err h) (Ok d) (Err g) = refl
rows_next (Err h) (Err f) (Ok es) = refl
rows_next (Err h) (Err f) (Err g) = sym (ap Err (lesser-assoc h f g))

abbrev row : ℕ → Expr × Expr → Dimension
row k bounds = record { index = record { id = Local k; type = t.Int32; rate = Varying }; low = bounds.0; high = bounds.1 }

one_row : (k : ℕ) (a : Judged (Expr × Expr)) (b : Judged (List Dimension))
    → (both a b >>= (λ parts. Sound (row k parts.0 ∷ parts.1))) ≡ (both (a >>= (λ bounds. Sound (row k bounds))) b >>= (λ parts. Sound (parts.0 ∷ parts.1)))
one_row k (Sound a) (Sound b) = refl
one_row k (Sound a) (Faulty first others) = refl
one_row k (Faulty first others) (Sound b) = refl
one_row k (Faulty first others) (Faulty next more) = refl

rows_of : (scope : Scope) (k : ℕ) (d : ParsedDim) (dims : List ParsedDim)
    → answer_of (dimensions scope k (d ∷ dims)) ≡ then_answer (both_answers (answer_of (dimension_of scope k d)) (answer_of (dimensions scope (suc k) dims))) (λ parts. Ok (parts.0 ∷ parts.1))
rows_of scope k d dims =
    let bounds = both (given_value d.low scope t.Int32 Uniform) (given_value d.high scope t.Int32 Uniform) in
    let later = dimensions scope (suc k) dims in
    ap answer_of (one_row k bounds later)
    ∙ (answer_of-then (both (dimension_of scope k d) later) (λ parts. Sound (parts.0 ∷ parts.1))
    ∙ ap (λ x. then_answer x (λ parts. Ok (parts.0 ∷ parts.1))) (answer_of-both (dimension_of scope k d) later))

-- What is typed so far and what is left come to the whole.
pub record AreBegun (scope : Scope) (first number : ℕ) (dims rest : List ParsedDim) (typed : Result (List Dimension) SourceRefusal) : Type 0 where
  pub answered : answer_of (dimensions scope first dims) ≡ rows typed (answer_of (dimensions scope number rest))

rows_none : (later : Result (List Dimension) SourceRefusal) → later ≡ rows (Ok []) later
rows_none (Ok ds) = refl
rows_none (Err fault) = refl

pub rows-none : (scope : Scope) (first number : ℕ) (dims : List ParsedDim) (typed : Result (List Dimension) SourceRefusal) → number ≡ first → typed ≡ Ok []
    → AreBegun scope first number dims dims typed
rows-none scope first number dims typed n e = record {
  answered = ap (λ k. answer_of (dimensions scope k dims)) (sym n) ∙ (rows_none (answer_of (dimensions scope number dims)) ∙ ap (λ x. rows x (answer_of (dimensions scope number dims))) (sym e));
}

pub rows-next : (scope : Scope) (first number number' : ℕ) (dims rest later : List ParsedDim) (d : ParsedDim) (typed typed' : Result (List Dimension) SourceRefusal) (next : Result Dimension SourceRefusal)
    → AreBegun scope first number dims rest typed → rest ≡ d ∷ later → answer_of (dimension_of scope number d) ≡ next → typed' ≡ first_dimensions typed next → number' ≡ number + 1
    → AreBegun scope first number' dims later typed'
rows-next scope first number number' dims rest later d typed typed' next h split a more n = record {
  answered =
      let k : suc number ≡ number' = omega (arith, n) in
      h.answered ∙ (ap (λ r. rows typed (answer_of (dimensions scope number r))) split
      ∙ (ap (rows typed) (rows_of scope number d later ∙ ap (λ x. then_answer (both_answers x (answer_of (dimensions scope (suc number) later))) (λ parts. Ok (parts.0 ∷ parts.1))) a)
      ∙ (rows_next typed next (answer_of (dimensions scope (suc number) later))
      ∙ (ap (λ x. rows x (answer_of (dimensions scope (suc number) later))) (sym more) ∙ ap (λ x. rows typed' (answer_of (dimensions scope x later))) k))));
}

rows_all : (typed : Result (List Dimension) SourceRefusal) → rows typed (Ok []) ≡ typed
rows_all (Ok ds) = ap Ok (append-nil ds)
rows_all (Err fault) = refl

pub rows-all : (scope : Scope) (first number : ℕ) (dims rest : List ParsedDim) (typed : Result (List Dimension) SourceRefusal) → AreBegun scope first number dims rest typed → rest ≡ []
    → answer_of (dimensions scope first dims) ≡ typed
rows-all scope first number dims rest typed h none = h.answered ∙ (ap (λ r. rows typed (answer_of (dimensions scope number r))) none ∙ rows_all typed)
