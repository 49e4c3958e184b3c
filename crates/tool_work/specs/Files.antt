-- The kinds of files: their limits, what their bytes give, and the lines of their refusals.
use Rattle.std.specs.Prelude.{ℕ, List, Result, Ok, Err, codes}
use Rattle.hart_memory.specs.Image.{ImageView}
use Rattle.hart_board.specs.Event.{EventList}
use Rattle.board_inputs.specs.ImageFile.{image_text}
use Rattle.board_inputs.specs.ImageReading.{image_of}
use Rattle.board_inputs.specs.ScenarioReading.{scenario_of}
use Rattle.board_inputs.specs.declared.image_why.ImageWhy.{ImageWhy}
use Rattle.board_inputs.specs.declared.image_why.ImageWhy.TheVariants.{BadMagic, Truncated, OutsideMemory, Overlap, TooMany, Trailing}
use Rattle.board_inputs.specs.declared.scenario_why.ScenarioWhy.{ScenarioWhy}
use Rattle.board_inputs.specs.declared.scenario_why.ScenarioWhy.TheVariants.{BadLine, OutOfOrder, TooMany as TooManyEvents}
use Rattle.mem_text.specs.Reading.{read_text}
use Rattle.mem_text.specs.declared.mem_why.MemWhy.{MemWhy}
use Rattle.mem_text.specs.declared.mem_why.MemWhy.TheVariants.{BadByte, TooMany as TooManySegments, OutsideMemory as MemoryOutside, Overlap as MemoryOverlap, Truncated as MemoryTruncated}
use Rattle.hart_monitor.specs.ScriptReading.{script_of}
use Rattle.hart_monitor.specs.declared.command.Command.{Command}
use Rattle.hart_monitor.specs.declared.script_why.ScriptWhy.{ScriptWhy}
use Rattle.hart_monitor.specs.declared.script_why.ScriptWhy.TheVariants.{BadLine as BadScriptLine, TooMany as TooManyCommands}
use Rattle.asm_forms.specs.declared.asm_why.AsmWhy.{AsmWhy}
use Rattle.asm_forms.specs.declared.asm_why.AsmWhy.TheVariants.{Lex, UnknownMnemonic, BadOperands, UnknownLabel, DoubleLabel, OutOfReach, OutsideMemory as SourceOutsideMemory, Overlap as SourceOverlap, NoEntry, TooLarge}
use Rattle.rv_assembler.specs.Source.{assembled}
use Rattle.rv_assembler.specs.declared.assembled.Assembled.{Assembled}
use Rattle.rv_assembler.specs.declared.assembling.TheConstants.{MAX_SOURCE}
use Rattle.tool_frame.specs.Lines.{refused_line}
use Rattle.clap.specs.Words.{Text}
use Rattle.tool_frame.specs.Due.{Due, at_once}
use Rattle.tool_frame.specs.Plan.{Plan, measured, reads}
use Rattle.tool_frame.specs.declared.status.Status.TheVariants.{Done}
use Rattle.board_outside.specs.Shelf.{ShelfView}
use Rattle.tool_frame.specs.Answers.{Passes}

-- what is made of what a reader gives, or the line of its refusal
abbrev pub or_line : {V W F : Type 0} → (V → W) → (F → List ℕ) → Result V F → Result W (List ℕ)
or_line made line (Ok value) = Ok (made value)
or_line made line (Err fault) = Err (line fault)

-- ---- an image

-- an image file has at most so many bytes
abbrev pub image_limit : ℕ
image_limit = 262_144

-- what is wrong with an image, by name
abbrev pub image_why : ImageWhy → List ℕ
image_why BadMagic = codes "BadMagic"
image_why Truncated = codes "Truncated"
image_why OutsideMemory = codes "OutsideMemory"
image_why Overlap = codes "Overlap"
image_why TooMany = codes "TooMany"
image_why Trailing = codes "Trailing"

-- the image of a file, or the line of its refusal
unfoldable pub image_read : List ℕ → Result ImageView (List ℕ)
image_read bytes = or_line (λ image. image) (λ fault. refused_line (codes "image") (image_why fault.why) fault.place) (image_of bytes)

abbrev pub image_stage : List ℕ → Result ImageView (List ℕ)
image_stage bytes = measured (codes "image") image_limit image_read bytes

-- the file of an image, where a command writes it
abbrev pub image_due : ImageView → Due
image_due image = at_once (image_text image) Done

-- ---- a scenario

-- a scenario file has at most so many bytes
abbrev pub scenario_limit : ℕ
scenario_limit = 4_194_304

-- what is wrong with a scenario, by name
abbrev pub scenario_why : ScenarioWhy → List ℕ
scenario_why BadLine = codes "BadLine"
scenario_why OutOfOrder = codes "OutOfOrder"
scenario_why TooManyEvents = codes "TooMany"

-- the events of a file and the shape of the boards that they are for, or the line of its refusal
unfoldable pub scenario_read : List ℕ → Result EventList (List ℕ)
scenario_read bytes = or_line (λ events. events) (λ fault. refused_line (codes "scenario") (scenario_why fault.why) fault.line) (scenario_of bytes)

abbrev pub scenario_stage : List ℕ → Result EventList (List ℕ)
scenario_stage bytes = measured (codes "scenario") scenario_limit scenario_read bytes

-- ---- a script

-- a script file has at most so many bytes
abbrev pub script_limit : ℕ
script_limit = 65_536

-- what is wrong with a script, by name
abbrev pub script_why : ScriptWhy → List ℕ
script_why BadScriptLine = codes "BadLine"
script_why TooManyCommands = codes "TooMany"

-- the commands of a file, or the line of its refusal
unfoldable pub script_read : List ℕ → Result (List Command) (List ℕ)
script_read bytes = or_line (λ commands. commands) (λ fault. refused_line (codes "script") (script_why fault.why) fault.line) (script_of bytes)

abbrev pub script_stage : List ℕ → Result (List Command) (List ℕ)
script_stage bytes = measured (codes "script") script_limit script_read bytes

-- ---- a source

-- what is wrong with a source, by name: of a token that can't be read, the place in its line isn't told
abbrev pub source_why : AsmWhy → List ℕ
source_why (Lex fault) = codes "Lex"
source_why UnknownMnemonic = codes "UnknownMnemonic"
source_why BadOperands = codes "BadOperands"
source_why UnknownLabel = codes "UnknownLabel"
source_why DoubleLabel = codes "DoubleLabel"
source_why OutOfReach = codes "OutOfReach"
source_why SourceOutsideMemory = codes "OutsideMemory"
source_why SourceOverlap = codes "Overlap"
source_why NoEntry = codes "NoEntry"
source_why TooLarge = codes "TooLarge"

-- the image of a source with its labels, or the line of its refusal
unfoldable pub source_read : List ℕ → Result Assembled (List ℕ)
source_read bytes = or_line (λ program. record { image = program.image; symbols = program.symbols }) (λ fault. refused_line (codes "source") (source_why fault.why) fault.line) (assembled bytes)

abbrev pub source_stage : List ℕ → Result Assembled (List ℕ)
source_stage bytes = measured (codes "source") MAX_SOURCE source_read bytes

-- ---- a memory text

-- a memory text has at most so many bytes
abbrev pub memory_limit : ℕ
memory_limit = 1_048_576

-- what is wrong with a memory text, by name
abbrev pub memory_why : MemWhy → List ℕ
memory_why BadByte = codes "BadByte"
memory_why TooManySegments = codes "TooMany"
memory_why MemoryOutside = codes "OutsideMemory"
memory_why MemoryOverlap = codes "Overlap"
memory_why MemoryTruncated = codes "Truncated"

-- the image of a text with this entry, or the line of the text's refusal
unfoldable pub memory_read : ℕ → List ℕ → Result ImageView (List ℕ)
memory_read entry bytes = or_line (λ image. image) (λ fault. refused_line (codes "memory") (memory_why fault.why) fault.place) (read_text entry bytes)

abbrev pub memory_stage : ℕ → List ℕ → Result ImageView (List ℕ)
memory_stage entry bytes = measured (codes "memory") memory_limit (memory_read entry) bytes

-- ---- an image and then a scenario

abbrev pub scenario_plan : {B : Type 0} → Text → (EventList → Plan B) → Plan B
scenario_plan name next = reads (codes "scenario") scenario_limit scenario_read name next

abbrev pub files_plan : {B : Type 0} → Text → Text → (ImageView → EventList → Plan B) → Plan B
files_plan image_name scenario_name next = reads (codes "image") image_limit image_read image_name (λ image. scenario_plan scenario_name (next image))

-- both files were given and passed, one after the other
pub record PassesFiles (image_name scenario_name : Text) (shelf shelf' : ShelfView) (image : ImageView) (events : EventList) : Type 0 where
  pub between : ShelfView
  pub image_passed : Passes image_name image_limit image_stage shelf between image
  pub scenario_passed : Passes scenario_name scenario_limit scenario_stage between shelf' events
