-- What it means that the points of a statement stand in a function's list of points, each at its step's number, and that each
-- `break`, `continue` and `return` in it has somewhere to go.
use Rattle.std.specs.Prelude.{◌≡◌, List, Option, Some, slice_get}
use Rattle.gang_model.specs.Types.Tree.{StepNumber, ResultFor, Nothing, Declares, Assigns, Returns, Stmt, Empty, Then, Declare, Assign, Change, If, Loop, BodyFirst, Break, Continue, Return, Switch, Segment, ForEach, Call, Check, PackedStore, PackedLoad}
use Rattle.gang_model.specs.Running.Step.{round_number}
use Rattle.mask_states.specs.Points.{Point, Put, Go, Branch, Choose, Begin, Turn, Enter, Ways, before_step, entry_of, entries_of, body_ways, update_ways, round_ways, after_result}

-- the step with this number does what the point says
abbrev pub HasPoint : List Point → StepNumber → Point → Type 0
HasPoint points number point = slice_get points number ≡ Some point

-- there is somewhere to go, and the step goes there
abbrev pub Leads : List Point → StepNumber → Option StepNumber → (StepNumber → Point) → Type 0
Leads points number way point = (next : StepNumber) × (way ≡ Some next) × HasPoint points number (point next)

-- a result is returned only where there is somewhere to return to
abbrev pub MayReturn : ResultFor → Ways → Type 0
MayReturn Nothing ways = Unit {0}
MayReturn (Declares v) ways = Unit {0}
MayReturn (Assigns v) ways = Unit {0}
MayReturn Returns ways = (next : StepNumber) × (ways.on_return ≡ Some next)

abbrev mutual
  -- the points of a statement, which is no segment of a switch
  pub IsPlaced : List Point → Stmt → Ways → Type 0
  IsPlaced points Empty ways = Unit {0}
  IsPlaced points (Then first rest) ways = IsPlaced points first (before_step (entry_of rest ways.next) ways) × IsPlaced points rest ways
  IsPlaced points (Declare number v e) ways = HasPoint points number (Put (Declare number v e) ways.next)
  IsPlaced points (Assign number target e) ways = HasPoint points number (Put (Assign number target e) ways.next)
  IsPlaced points (Change number target type op in_type e) ways = HasPoint points number (Put (Change number target type op in_type e) ways.next)
  IsPlaced points (If number test first other) ways =
      HasPoint points number (Branch test (entry_of first ways.next) (entry_of other ways.next)) × IsPlaced points first ways × IsPlaced points other ways
  IsPlaced points (Loop number test update body) ways =
      IsPlaced points body (body_ways (entry_of update number) ways) × IsPlaced points update (update_ways number ways)
      × HasPoint points number (Branch test (entry_of body (entry_of update number)) ways.next)
  IsPlaced points (BodyFirst number test body) ways =
      IsPlaced points body (body_ways number ways) × HasPoint points number (Branch test (entry_of body number) ways.next)
  IsPlaced points (Break number) ways = Leads points number ways.on_break Go
  IsPlaced points (Continue number) ways = Leads points number ways.on_continue Go
  IsPlaced points (Return number e) ways = Leads points number ways.on_return (Put (Return number e))
  IsPlaced points (Switch number e segments) ways =
      HasPoint points number (Choose e segments (entries_of segments ways.next) ways.next) × AreSegmentsPlaced points segments (record ways { on_break = Some ways.next })
  IsPlaced points (Segment label body rest) ways = ⊥
  IsPlaced points (ForEach number form body) ways =
      HasPoint points number (Begin form (round_number number body) ways.next) × IsPlaced points body (round_ways (round_number number body))
      × HasPoint points (round_number number body) (Turn (entry_of body (round_number number body)))
  IsPlaced points (Call number function args result_for) ways =
      MayReturn result_for ways × HasPoint points number (Enter function args result_for (after_result result_for ways))
  IsPlaced points (Check number e) ways = HasPoint points number (Put (Check number e) ways.next)
  IsPlaced points (PackedStore number array from e result_for) ways =
      MayReturn result_for ways × HasPoint points number (Put (PackedStore number array from e result_for) (after_result result_for ways))
  IsPlaced points (PackedLoad number array from v result_for) ways =
      MayReturn result_for ways × HasPoint points number (Put (PackedLoad number array from v result_for) (after_result result_for ways))

  -- the points of a switch's segments, the last of which nothing follows
  pub AreSegmentsPlaced : List Point → Stmt → Ways → Type 0
  AreSegmentsPlaced points (Segment label body rest) ways =
      IsPlaced points body (before_step (entry_of rest ways.next) ways) × AreSegmentsPlaced points rest ways
  AreSegmentsPlaced points s ways = s ≡ Empty
