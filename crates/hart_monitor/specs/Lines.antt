-- The command that a line spells, read from its front.
use Rattle.std.specs.Prelude.{ℕ, ◌-◌, List, nat_eq, Option, Some, None, option_map, if◌then◌else◌, codes}
use Rattle.std.specs.Str.{bytes_eq}
use Rattle.hart_words.specs.Cuts.{cut}
use Rattle.clic_regs.specs.Shape.{plain_shape}
use Rattle.hart_board.specs.Event.{is_free_input}
use Rattle.hart_monitor.specs.Numbers.{number_in, most_number}
use Rattle.hart_monitor.specs.Spelling.{most_steps}
use Rattle.hart_monitor.specs.declared.command.Command.{Command}
use Rattle.hart_monitor.specs.declared.command.Command.TheVariants.{Step, Run, Break, Regs, Csr, Mem, Clic, Line, Back}

-- the last input
abbrev pub last_input : ℕ
last_input = plain_shape.inputs - 1

-- a name alone
unfoldable pub alone_named : List ℕ → Option Command
alone_named name =
    if bytes_eq name (codes "regs") then Some Regs
    else (if bytes_eq name (codes "csr") then Some Csr
    else (if bytes_eq name (codes "back") then Some Back else None))

-- a name with the text of its number
unfoldable pub one_named : List ℕ → List ℕ → Option Command
one_named name text =
    if bytes_eq name (codes "step") then option_map (λ n. Step n) (number_in 1 most_steps text)
    else (if bytes_eq name (codes "run") then option_map (λ n. Run n) (number_in 1 most_steps text)
    else (if bytes_eq name (codes "break") then option_map (λ n. Break n) (number_in 0 most_number text)
    else (if bytes_eq name (codes "clic") then option_map (λ n. Clic n) (number_in 0 last_input text) else None)))

abbrev pub mem_from : Option ℕ → Option ℕ → Option Command
mem_from (Some at) (Some count) = Some (Mem at count)
mem_from _ _ = None

abbrev pub line_from : Option ℕ → Option ℕ → Option Command
line_from (Some input) (Some value) = if is_free_input input then Some (Line input (nat_eq value 1)) else None
line_from _ _ = None

-- a name with the texts of its two numbers
unfoldable pub two_named : List ℕ → List ℕ → List ℕ → Option Command
two_named name first second =
    if bytes_eq name (codes "mem") then mem_from (number_in 0 most_number first) (number_in 1 256 second)
    else (if bytes_eq name (codes "line") then line_from (number_in 0 last_input first) (number_in 0 1 second) else None)

-- what follows a name
abbrev pub command_after : List ℕ → List ℕ × Option (List ℕ) → Option Command
command_after name (first, None) = one_named name first
command_after name (first, Some second) = two_named name first second

abbrev pub command_parts : List ℕ × Option (List ℕ) → Option Command
command_parts (name, None) = alone_named name
command_parts (name, Some numbers) = command_after name (cut 32 numbers)

-- the command that a line spells
unfoldable pub command_of : List ℕ → Option Command
command_of line = command_parts (cut 32 line)
