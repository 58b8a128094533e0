-- How the words of a program lie: a list of ranges, each behind the one before it. Which words each has follows from the
-- program, the lengths of the entry's arrays, and how many words the machine asks for.
use Rattle.std.specs.Prelude.{◌≡◌, ℕ, zero, suc, ◌+◌, ◌*◌, ◌≤◌, List, [], ◌++◌, All, Some, fold, length, map, max, replicate, slice_get, sum, if◌then◌else◌}
use Rattle.typed_tree.specs.declared.program.Function.{Function}
use Rattle.typed_tree.specs.declared.program.Global.{Global}
use Rattle.typed_tree.specs.declared.program.Program.{Program}
use Rattle.gang_memory.specs.declared.parts.Part.{Part}
use Rattle.gang_memory.specs.declared.frames.Frames.{Frames}
use Rattle.gang_memory.specs.declared.layout.Layout.{Layout}
use Rattle.gang_memory.specs.Ranges.{AreInOrder, ranges_from, sizes_of}
use Rattle.gang_model.specs.Running.State.{words_for}

-- how many words a file-scope variable has: an array has one for each element
abbrev pub global_words : (width : ℕ) → Global → ℕ
global_words width g = if g.variable.is_array then g.length else words_for width g.variable.rate

-- the most variables that a function has
abbrev pub most_variables : List Function → ℕ
most_variables functions = fold (λ most f. max most (length f.variables.items)) 0 functions

-- the sizes of the ranges of a frame: the parts of its head, and then its variables, each with a word for each lane
abbrev pub frame_sizes : (width : ℕ) (head : List ℕ) (variables : ℕ) → List ℕ
frame_sizes width head variables = head ++ replicate variables width

-- the same sizes so many times
abbrev pub repeated : ℕ → List ℕ → List ℕ
repeated zero sizes = []
repeated (suc n) sizes = sizes ++ repeated n sizes

-- the sizes of all ranges: the variables of the file, the arrays of the entry, the parts that the machine asks for itself,
-- and 64 frames that each have room for the variables of any function
abbrev pub layout_sizes : (width : ℕ) → Program → (lengths machine head : List ℕ) → List ℕ
layout_sizes width program lengths machine head =
    let frame = frame_sizes width head (most_variables program.functions.items) in
    map (global_words width) program.globals.items ++ (lengths ++ (machine ++ repeated 64 frame))

-- how many ranges a frame has
abbrev pub frame_parts : Frames → ℕ
frame_parts frames = length frames.head.items + frames.variables

-- how many words a frame has
abbrev pub frame_words : (width : ℕ) → Frames → ℕ
frame_words width frames = frames.head_words + frames.variables * width

-- the ranges of all frames
abbrev pub ranges_of_frames : (width : ℕ) → Frames → List Part
ranges_of_frames width frames =
    let frame = frame_sizes width (sizes_of frames.head.items) frames.variables in
    ranges_from frames.first (repeated frames.count frame)

-- the range of the frame at a depth that has this number among the parts of its head and then its variables
abbrev pub IsRangeOfFrame : (width : ℕ) → Frames → (depth number : ℕ) → Part → Type 0
IsRangeOfFrame width frames depth number part =
    slice_get (ranges_of_frames width frames) (depth * frame_parts frames + number) ≡ Some part

-- the first word behind all frames
abbrev pub end_of_frames : (width : ℕ) → Frames → ℕ
end_of_frames width frames = frames.first + frames.count * frame_words width frames

-- all ranges of a layout
abbrev pub ranges : (width : ℕ) → Layout → List Part
ranges width layout =
    layout.file.items ++ (layout.entry.items ++ (layout.machine.items ++ ranges_of_frames width layout.frames))

-- The layout is one of the program, with entry arrays of these lengths and parts of these sizes for the machine and for the
-- head of each frame: all ranges lie one behind the other from word 0 on, and the words end where the last one does.
pub record IsLayoutOf (width : ℕ) (program : Program) (lengths machine_sizes head_sizes : List ℕ) (layout : Layout)
    : Type 0 where
  pub file : sizes_of layout.file.items ≡ map (global_words width) program.globals.items
  pub entry : sizes_of layout.entry.items ≡ lengths
  pub machine : sizes_of layout.machine.items ≡ machine_sizes
  pub head : sizes_of layout.frames.head.items ≡ head_sizes
  pub frames : layout.frames.count ≡ 64
  pub most : layout.frames.variables ≡ most_variables program.functions.items
  pub variables : All (λ f. length f.variables.items ≤ layout.frames.variables) program.functions.items
  pub ranges_are : ranges width layout ≡ ranges_from 0 (layout_sizes width program lengths machine_sizes head_sizes)
  pub words : layout.words ≡ sum (layout_sizes width program lengths machine_sizes head_sizes)
  pub end : layout.words ≡ end_of_frames width layout.frames
  pub in_order : AreInOrder 0 (ranges width layout) layout.words
