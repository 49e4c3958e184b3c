-- What the command `asm` does with its file.
use Rattle.std.specs.Prelude.{◌++◌, ℕ, List, [], ◌∷◌, Bool, true, false, codes}
use Rattle.board_inputs.specs.ImageFile.{image_text}
use Rattle.rv_assembler.specs.Symbols.{Symbol}
use Rattle.rv_assembler.specs.declared.assembled.Assembled.{Assembled}
use Rattle.rv_assembler.specs.declared.assembling.TheConstants.{MAX_SOURCE}
use Rattle.lab_names.specs.Name.{name_line}
use Rattle.tool_frame.specs.Due.{Due, at_once}
use Rattle.tool_frame.specs.Plan.{Plan, Makes, reads}
use Rattle.tool_frame.specs.declared.status.Status.TheVariants.{Done}
use Rattle.tool_work.specs.Bench.{Bench, empty_bench}
use Rattle.tool_work.specs.Files.{source_read}
use Rattle.tool_words.specs.Assemble.{AssembleWords}

-- the line of a label is that of a name
abbrev pub symbol_line : Symbol → List ℕ
symbol_line s = name_line s.address s.name

-- labels in the order of their definition
abbrev pub symbols_text : List Symbol → List ℕ
symbols_text [] = []
symbols_text (s ∷ ss) = symbol_line s ++ symbols_text ss

-- the labels of an assembled source, or the file of its image
abbrev pub program_text : Bool → Assembled → List ℕ
program_text true a = symbols_text a.symbols
program_text false a = image_text a.image

abbrev pub program_due : AssembleWords → Assembled → Due
program_due words a = at_once (program_text words.wants_symbols a) Done

abbrev pub assemble_plan : AssembleWords → Plan Bench
assemble_plan words = reads (codes "source") MAX_SOURCE source_read words.source_name (λ a. Makes (program_due words a) empty_bench)
