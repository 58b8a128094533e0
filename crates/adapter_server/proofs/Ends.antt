-- How a connection ends by itself.
use Rattle.std.proofs.Common.{◌≡◌, [], ◌∷◌, ◌++◌, Option, Some, None, Result, Ok, Err, IfErr, IfNone, IsErrAnd, subst, sym}
use Rattle.std.specs.Io.KnownBytes.{IsAtEnd, prepend_known}
use Rattle.gang_model.specs.Texts.Text.{Bytes}
use Rattle.adapter_server.specs.declared.connection.Connection.{Connection}
use Rattle.adapter_server.specs.declared.connection.Ended.{Ended}
use Rattle.adapter_server.specs.declared.connection.Ended.TheVariants as ended
use Rattle.adapter_server.specs.declared.connection.SendFault.{SendFault}
use Rattle.adapter_server.specs.declared.connection.SendFault.TheVariants.{Write, Memory}
use Rattle.adapter_server.specs.Ending.{IsEndOf, ended_by}
use Rattle.adapter_server.specs.Hearing.{EndsBefore}

nothing_behind : (front rest : Bytes) → front ++ rest ≡ [] → rest ≡ []
nothing_behind [] rest is = is
nothing_behind (x ∷ front) rest is = absurd (cc)

-- where nothing is unread, nothing is left to read
at_end : (kept : Bytes) (left : Option Bytes) → IsAtEnd (prepend_known kept left) → IsAtEnd left
at_end kept None end = tt
at_end kept (Some rest) end = nothing_behind kept rest end

-- so where no message is given
pub at_end_without : {A : Type 0} (K : Type 0) (given : Option A) (kept : Bytes) (left : Option Bytes) → given ≡ None → IfNone given (K × IsAtEnd (prepend_known kept left)) → IsAtEnd left
at_end_without K (Some message) kept left none end = absurd (cc)
at_end_without K None kept left none end = at_end kept left end.1

module _ {R O : Type 0} (left : R → Option Bytes) (after : Connection R O) where
  unsent : (fault : SendFault) → IsEndOf left after (ended_by fault)
  unsent Write = tt
  unsent Memory = tt

  -- a message was not sent
  pub by_fault : {T : Type 0} (result : Result T Ended) (fault : SendFault) → IsErrAnd result (λ ended. ended ≡ ended_by fault) → IfErr result (IsEndOf left after)
  by_fault (Ok x) fault is = absurd is
  by_fault (Err ended) fault is = subst (IsEndOf left after) (sym is) (unsent fault)

  -- the same end is told
  pub by_end : {T : Type 0} (result : Result T Ended) (found : Ended) → IsErrAnd result (λ ended. ended ≡ found) → IsEndOf left after found → IfErr result (IsEndOf left after)
  by_end (Ok x) found is end = absurd is
  by_end (Err ended) found is end = subst (IsEndOf left after) (sym is) end

  -- what ends by itself ends so before a launch too
  ends_before : (contents : O → Option Bytes) (before : Connection R O) (found : Ended) → IsEndOf left after found → EndsBefore left contents before after found
  ends_before contents before ended.EndOfInput end = end
  ends_before contents before ended.Disconnected end = absurd end
  ends_before contents before ended.ReadFault end = tt
  ends_before contents before ended.WriteFault end = tt
  ends_before contents before ended.Memory end = tt

  pub if_ends_before : {T : Type 0} (contents : O → Option Bytes) (before : Connection R O) (result : Result T Ended) → IfErr result (IsEndOf left after) → IfErr result (EndsBefore left contents before after)
  if_ends_before contents before (Ok x) end = tt
  if_ends_before contents before (Err found) end = ends_before contents before found end
