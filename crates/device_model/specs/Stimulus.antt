-- What comes to a device from outside.
use Rattle.std.specs.Prelude.{◌^◌, ◌<◌}
use Rattle.device_model.specs.declared.stimulus.Stimulus.{Stimulus}
use Rattle.device_model.specs.declared.stimulus.Stimulus.TheVariants.{Receive, Pins, Tick}

-- its number is a byte, or a word
abbrev pub IsStimulus : Stimulus → Type 0
IsStimulus (Receive byte) = byte < 2 ^ 8
IsStimulus (Pins pins) = pins < 2 ^ 32
IsStimulus (Tick count) = count < 2 ^ 32
