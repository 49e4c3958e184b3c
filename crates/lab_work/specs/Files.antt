-- The kinds of files: their limits, what their bytes give, and the lines of their refusals.
use Rattle.std.specs.Prelude.{◌≡◌, ℕ, List, [], Bool, Option, Some, None, Result, codes}
use Rattle.clap.specs.Words.{Text}
use Rattle.board_outside.specs.Shelf.{ShelfView}
use Rattle.hart_memory.specs.Image.{ImageView}
use Rattle.lab_elf.specs.Loading.{image_of}
use Rattle.lab_elf.specs.Symbols.{symbols_of}
use Rattle.lab_elf.specs.declared.elf_why.ElfWhy.{ElfWhy}
use Rattle.lab_elf.specs.declared.elf_why.ElfWhy.TheVariants.{Truncated, BadMagic, BadClass, BadOrder, NotLinked, NotRiscV, BadHeader, NoSections, TooMany, Unplaced, OutsideMemory, Overlap, NoSymbols, BadLink, BadName}
use Rattle.lab_names.specs.Name.{NameView}
use Rattle.lab_names.specs.NamesReading.{names_of}
use Rattle.lab_names.specs.declared.names_why.NamesWhy.{NamesWhy}
use Rattle.lab_names.specs.declared.names_why.NamesWhy.TheVariants.{BadLine, TooMany as TooManyNames}
use Rattle.tool_frame.specs.Answers.{Passes}
use Rattle.tool_frame.specs.Lines.{refused_line}
use Rattle.tool_frame.specs.Plan.{Plan, measured, reads}
use Rattle.tool_work.specs.Files.{or_line}

-- ---- an ELF file

-- an ELF file has at most so many bytes
abbrev pub elf_limit : ℕ
elf_limit = 16_777_216

-- what is wrong with an ELF file, by name
abbrev pub elf_why : ElfWhy → List ℕ
elf_why Truncated = codes "Truncated"
elf_why BadMagic = codes "BadMagic"
elf_why BadClass = codes "BadClass"
elf_why BadOrder = codes "BadOrder"
elf_why NotLinked = codes "NotLinked"
elf_why NotRiscV = codes "NotRiscV"
elf_why BadHeader = codes "BadHeader"
elf_why NoSections = codes "NoSections"
elf_why TooMany = codes "TooMany"
elf_why Unplaced = codes "Unplaced"
elf_why OutsideMemory = codes "OutsideMemory"
elf_why Overlap = codes "Overlap"
elf_why NoSymbols = codes "NoSymbols"
elf_why BadLink = codes "BadLink"
elf_why BadName = codes "BadName"

-- the image that a file loads, or the line of its refusal
unfoldable pub elf_read : List ℕ → Result ImageView (List ℕ)
elf_read bytes = or_line (λ image. image) (λ fault. refused_line (codes "elf") (elf_why fault.why) fault.place) (image_of bytes)

abbrev pub elf_stage : List ℕ → Result ImageView (List ℕ)
elf_stage bytes = measured (codes "elf") elf_limit elf_read bytes

-- the names of its symbols, of all or of code alone, or the line of its refusal
unfoldable pub symbols_read : Bool → List ℕ → Result (List NameView) (List ℕ)
symbols_read code bytes = or_line (λ names. names) (λ fault. refused_line (codes "elf") (elf_why fault.why) fault.place) (symbols_of code bytes)

abbrev pub symbols_stage : Bool → List ℕ → Result (List NameView) (List ℕ)
symbols_stage code bytes = measured (codes "elf") elf_limit (symbols_read code) bytes

-- ---- a file of names

-- a file of names has at most so many bytes
abbrev pub names_limit : ℕ
names_limit = 4_194_304

-- what is wrong with a file of names, by name
abbrev pub names_why : NamesWhy → List ℕ
names_why BadLine = codes "BadLine"
names_why TooManyNames = codes "TooMany"

-- the table of a file's names, or the line of its refusal
unfoldable pub names_read : List ℕ → Result (List NameView) (List ℕ)
names_read bytes = or_line (λ table. table) (λ fault. refused_line (codes "names") (names_why fault.why) fault.line) (names_of bytes)

abbrev pub names_stage : List ℕ → Result (List NameView) (List ℕ)
names_stage bytes = measured (codes "names") names_limit names_read bytes

-- the names of a file are read where one is told; else there are none
abbrev pub names_plan : {B : Type 0} → Option Text → (List NameView → Plan B) → Plan B
names_plan None next = next []
names_plan (Some name) next = reads (codes "names") names_limit names_read name next

-- it was given and passed where one is told
abbrev pub PassesNames : Option Text → ShelfView → ShelfView → List NameView → Type 0
PassesNames None shelf shelf' names = (shelf' ≡ shelf) × (names ≡ [])
PassesNames (Some name) shelf shelf' names = Passes name names_limit names_stage shelf shelf' names
