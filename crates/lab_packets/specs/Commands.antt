-- Which texts are commands of gdb's `monitor`.
use Rattle.std.specs.Prelude.{ℕ, List, nat_eq, Option, Some, None, if◌then◌else◌, codes}
use Rattle.std.specs.Str.{bytes_eq}
use Rattle.hart_words.specs.Cuts.{cut}
use Rattle.lab_packets.specs.Numbers.{written_number, written_in}
use Rattle.lab_packets.specs.declared.command.Command.{Command}
use Rattle.lab_packets.specs.declared.command.Command.TheVariants.{Help, Steps, Bound, Until, UntilBody, UntilOff, Clic, Line, Receive, Pins, Tick, NoSuch}

-- a continue makes so many steps at most
abbrev pub most_bound : ℕ
most_bound = 1_000_000_000

-- the command that a number makes
abbrev pub numbered : Option ℕ → (ℕ → Command) → Command
numbered None f = NoSuch
numbered (Some n) f = f n

-- a name alone
unfoldable pub alone_named : List ℕ → Command
alone_named name =
    if bytes_eq name (codes "help") then Help
    else (if bytes_eq name (codes "steps") then Steps
    else NoSuch)

-- a change of what stands outside
abbrev pub outside_named : List ℕ → List ℕ → Command
outside_named name text =
    if bytes_eq name (codes "rx") then numbered (written_in 0 255 text) (λ n. Receive n)
    else (if bytes_eq name (codes "pins") then numbered (written_number text) (λ n. Pins n)
    else (if bytes_eq name (codes "tick") then numbered (written_in 1 65_535 text) (λ n. Tick n)
    else NoSuch))

-- where a continue stops
abbrev pub until_named : List ℕ → Command
until_named text = if bytes_eq text (codes "off") then UntilOff else numbered (written_number text) (λ n. Until n)

-- a name with the text of its number
unfoldable pub one_named : List ℕ → List ℕ → Command
one_named name text =
    if bytes_eq name (codes "bound") then numbered (written_in 1 most_bound text) (λ n. Bound n)
    else (if bytes_eq name (codes "until") then until_named text
    else (if bytes_eq name (codes "until-body") then numbered (written_number text) (λ n. UntilBody n)
    else (if bytes_eq name (codes "clic") then numbered (written_number text) (λ n. Clic n)
    else outside_named name text)))

abbrev pub line_from : Option ℕ → Option ℕ → Command
line_from (Some input) (Some value) = Line input (nat_eq value 1)
line_from _ _ = NoSuch

-- a name with the texts of its two numbers
unfoldable pub two_named : List ℕ → List ℕ → List ℕ → Command
two_named name first second = if bytes_eq name (codes "line") then line_from (written_number first) (written_in 0 1 second) else NoSuch

-- what follows a name
abbrev pub command_after : List ℕ → List ℕ × Option (List ℕ) → Command
command_after name (first, None) = one_named name first
command_after name (first, Some second) = two_named name first second

abbrev pub command_parts : List ℕ × Option (List ℕ) → Command
command_parts (name, None) = alone_named name
command_parts (name, Some numbers) = command_after name (cut 32 numbers)

-- the command that a text spells, its parts with single spaces between them
unfoldable pub command_of : List ℕ → Command
command_of text = command_parts (cut 32 text)
