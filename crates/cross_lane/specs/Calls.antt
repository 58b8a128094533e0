-- What the calls across lanes read and answer.
use Rattle.std.specs.Prelude.{ℕ, List, Result, Ok, Err, ◌==◌, if◌then◌else◌}
use Rattle.gang_types.specs.declared.faults.FaultName.{FaultName}
use Rattle.gang_types.specs.Lanes.{Lanes}
use Rattle.gang_model.specs.Running.Lanes.{Fault, each, try_each, at, ◌>>=◌}
use Rattle.gang_model.specs.Running.Library.{lane_value}

-- the values of the lanes of the set, and 0 in the others
abbrev pub values_in : Lanes → List ℕ → List ℕ
values_in lanes words = each lanes (at words)

-- the fault, with its lane
abbrev pub fault_of : ℕ × FaultName → Fault
fault_of found = record { name = found.1; lane = found.0 }

-- a value for each lane, or the fault
abbrev pub answer_of : Result (List ℕ) (ℕ × FaultName) → Result (List ℕ) Fault
answer_of (Ok words) = Ok words
answer_of (Err found) = Err (fault_of found)

-- one value for all lanes of the set, or the fault
abbrev pub spread_answer : Lanes → Result ℕ (ℕ × FaultName) → Result (List ℕ) Fault
spread_answer lanes (Ok word) = Ok (each lanes (λ k. word))
spread_answer lanes (Err found) = Err (fault_of found)

-- one value, or the fault
abbrev pub one_answer : Result ℕ (ℕ × FaultName) → Result ℕ Fault
one_answer (Ok word) = Ok word
one_answer (Err found) = Err (fault_of found)

-- the values with a new one in lane `index`, or the fault where there is no such lane
abbrev pub inserted : Lanes → List ℕ → ℕ → ℕ → Result (List ℕ) Fault
inserted lanes words index new =
    try_each lanes (λ k. lane_value words index) >>= λ found.
    Ok (each lanes (λ k. if k == index then new else at words k))
