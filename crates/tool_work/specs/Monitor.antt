-- What the command `monitor` does with its files.
use Rattle.std.specs.Prelude.{ℕ, List, codes, true}
use Rattle.clap.specs.Words.{Text}
use Rattle.clic_regs.specs.Shape.{plain_shape}
use Rattle.hart_memory.specs.Image.{ImageView}
use Rattle.hart_board.specs.State.{State}
use Rattle.board_inputs.specs.ImageLoading.{loaded}
use Rattle.hart_monitor.specs.Session.{opened, outcome_of}
use Rattle.hart_monitor.specs.declared.command.Command.{Command}
use Rattle.tool_frame.specs.Due.{Due}
use Rattle.tool_frame.specs.Plan.{Plan, Makes, reads}
use Rattle.tool_frame.specs.declared.status.Status.TheVariants.{Done}
use Rattle.tool_work.specs.Shipped.{shipped_meanings, shipped_board}
use Rattle.tool_work.specs.Bench.{Bench, empty_bench}
use Rattle.tool_work.specs.Files.{image_limit, image_read, script_limit, script_read}
use Rattle.tool_words.specs.Monitor.{MonitorWords}

-- the board that the script is for: at reset, with 64 inputs and 8 control bits, and with the image's bytes and its entry
abbrev pub monitored_board : ImageView → State
monitored_board image = loaded image (shipped_board plain_shape)

-- the texts of the commands, one after the other
unfoldable pub monitored_text : ImageView → List Command → List ℕ
monitored_text image commands = (outcome_of shipped_meanings commands (opened (monitored_board image))).text

-- what is due of it. A command that keeps the board's state wants memory for that, after the texts of the commands before it
abbrev pub monitor_due : ImageView → List Command → Due
monitor_due image commands = record { text = monitored_text image commands; status = Done; in_parts = true }

-- the image is read, then the script, and then its commands are done
abbrev pub script_plan : Text → ImageView → Plan Bench
script_plan name image = reads (codes "script") script_limit script_read name (λ commands. Makes (monitor_due image commands) empty_bench)

abbrev pub monitor_plan : MonitorWords → Plan Bench
monitor_plan words = reads (codes "image") image_limit image_read words.image_name (script_plan words.script_name)
