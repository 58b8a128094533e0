-- The threads that an editor sees where each lane is one: their names, the frames of a lane, and which of them a stop names.
use Rattle.std.specs.Prelude.{◌≡◌, ℕ, ◌+◌, ◌-◌, ◌==◌, nat_le, nat_lt, Bool, true, false, ◌&&◌, ◌||◌, List, [], ◌++◌, codes, decimal, filter, map, Option, Some, None, if◌then◌else◌}
use Rattle.std.specs.List.{range_with_len}
use Rattle.gang_types.specs.declared.places.Place.{Place}
use Rattle.gang_types.specs.Lanes.{Lanes, has, lowest}
use Rattle.gang_model.specs.Types.Tree.{Program}
use Rattle.gang_model.specs.Running.State.{State}
use Rattle.gang_model.specs.Debugger.Positions.{lanes_now}
use Rattle.gang_model.specs.Debugger.Debugger.{Debugger, Setting, has_ended, now}
use Rattle.gang_model.specs.Texts.Text.{Bytes, line_and_column}
use Rattle.adapter_requests.specs.declared.reply.Reply.{Reply}
use Rattle.adapter_requests.specs.declared.reply.StopReason.{StopReason}
use Rattle.adapter_requests.specs.declared.reply.StopReason.TheVariants as reason
use Rattle.adapter_requests.specs.declared.request.Request.{Request}
use Rattle.adapter_requests.specs.declared.request.Request.TheVariants as request
use Rattle.adapter_replies.specs.declared.threads.Threads.{Threads}
use Rattle.adapter_replies.specs.declared.threads.Threads.TheVariants as threads
use Rattle.adapter_replies.specs.Frames.{ToldFrame, all_frames}
use Rattle.adapter_replies.specs.Told.{AreFramesTold, told_stop, told_threads}
use Rattle.adapter_replies.specs.Waiting.{called_lanes, lane_place, shown_lanes, waits}

-- what stands behind the name of what waits
abbrev pub mark : (waits : Bool) → Bytes
mark waits = if waits then codes " (waits)" else []

-- ---- the threads

-- the thread of a lane, its number, which is one more, and its name, where these are the lanes of the next step
abbrev pub lane_thread : Lanes → (lane : ℕ) → ℕ × Bytes
lane_thread lanes lane = (lane + 1, codes "lane " ++ decimal lane ++ mark (waits lanes lane))

-- those of the lanes of a gang of so many, lane 0 first
abbrev pub lane_threads : Lanes → (width : ℕ) → List (ℕ × Bytes)
lane_threads lanes width = map (lane_thread lanes) (range_with_len 0 width)

-- the lane of a thread, if a gang of so many lanes has it
abbrev pub lane_of : (width : ℕ) → (thread : Option ℕ) → Option ℕ
lane_of width None = None
lane_of width (Some thread) = if nat_le 1 thread && nat_le thread width then Some (thread - 1) else None

-- ---- the frames of a lane

-- whether a lane is in the frame at a depth: each is in the entry's, and the lanes of a call are in the frame that it made
abbrev pub is_in : State → (depth : ℕ) → (lane : ℕ) → Bool
is_in state deep lane = (deep == 1) || has (called_lanes (deep - 1) state.frames) lane

-- LINE:COL of a place, or what is told where there is none
abbrev pub place_or : Bytes → Option Place → Bytes
place_or told None = told
place_or told (Some place) = line_and_column place

-- a frame as a lane of it is told it: at the place where the lane waits there, and marked where it is not active at the frame's next step or call
abbrev pub own_frame : Program → State → (lane : ℕ) → ToldFrame → ToldFrame
own_frame p state lane told = record {
  depth = told.depth;
  name = told.name ++ mark (waits (shown_lanes state told.depth) lane);
  place = place_or told.place (lane_place p told.depth lane state);
}

-- of some frames those that a lane is in
abbrev pub lane_frames : Program → State → (lane : ℕ) → List ToldFrame → List ToldFrame
lane_frames p state lane frames = map (own_frame p state lane) (filter (λ told. is_in state told.depth lane) frames)

-- ---- the thread of a stop

-- the lane that a stop is about: the one that faults, or else the lowest active one
abbrev pub stop_lane : Lanes → StopReason → ℕ
stop_lane lanes (reason.Exception name lane) = lane
stop_lane lanes other = lowest lanes

-- the thread of a lane of a gang of so many; the first one's, where the gang has no such lane
abbrev pub thread_or_first : (width lane : ℕ) → ℕ
thread_or_first width lane = if nat_lt lane width then lane + 1 else 1

-- the thread that a stop names, where these are the lanes of the next step; none is active once the program has ended
abbrev pub stop_thread : Threads → Lanes → StopReason → ℕ
stop_thread threads.Gang lanes why = 1
stop_thread (threads.Lanes width) lanes why = thread_or_first width (stop_lane lanes why)

-- ---- what is told

-- what a request for the frames of a lane is told; nothing of its own once the program has ended
abbrev pub IsLaneStackTold : (has_ended : Bool) → Setting → Debugger → (lane : ℕ) → (start levels : Option ℕ) → Option Reply → Type 0
IsLaneStackTold true s d lane start levels told = told ≡ None
IsLaneStackTold false s d lane start levels None = ⊥
IsLaneStackTold false s d lane start levels (Some told) = AreFramesTold start levels (lane_frames s.program (now s d) lane (all_frames s.program (now s d).frames)) told

-- the same of a thread that a lane has, or none
abbrev pub IsStackTold : Setting → Debugger → (lane : Option ℕ) → (start levels : Option ℕ) → Option Reply → Type 0
IsStackTold s d None start levels None = ⊥
IsStackTold s d None start levels (Some told) = told_stop told ≡ Some (None, codes "no thread has this number")
IsStackTold s d (Some lane) start levels told = IsLaneStackTold (has_ended (now s d)) s d lane start levels told

-- what a request is told where each lane of a gang of so many is a thread, if it is one for threads or for the frames of one
abbrev pub IsLaneTold : Setting → Debugger → (width : ℕ) → Request → Option Reply → Type 0
IsLaneTold s d width request.Threads None = ⊥
IsLaneTold s d width request.Threads (Some told) = told_threads told ≡ Some (lane_threads (lanes_now (now s d)) width)
IsLaneTold s d width (request.StackTrace thread start levels) told = IsStackTold s d (lane_of width thread) start levels told
IsLaneTold s d width other told = told ≡ None

-- the same by what the threads are; nothing where the gang is the one thread
abbrev pub IsThreadTold : Setting → Debugger → Threads → Request → Option Reply → Type 0
IsThreadTold s d threads.Gang request told = told ≡ None
IsThreadTold s d (threads.Lanes width) request told = IsLaneTold s d width request told
