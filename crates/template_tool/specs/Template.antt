-- The board that the program runs: the hart with the four devices of board_template.
use Rattle.std.specs.Prelude.{ℕ, List, Option, Some, None, codes}
use Rattle.board_outside.specs.Shelf.{ShelfView}
use Rattle.device_model.specs.Meanings.{Meanings}
use Rattle.device_model.specs.Both.{side_by_side}
use Rattle.device_model.specs.Window.{moved_up}
use Rattle.device_model.specs.WordRegisters.{word_device}
use Rattle.board_devices.specs.Uart.{uart}
use Rattle.board_template.specs.Alarm.{alarm}
use Rattle.board_template.specs.Flash.{flash}
use Rattle.board_template.specs.Watchdog.{watchdog}
use Rattle.board_template.specs.Template.{template_state}
use Rattle.tool_frame.specs.Plan.{Plan, Makes}
use Rattle.tool_frame.specs.declared.status.Status.{Status}
use Rattle.template_tool.specs.Words.{TemplateWords}
use Rattle.template_tool.specs.Usage.{usage_due}
use Rattle.template_tool.specs.Work.{files_then_work, IsServedTo}

-- what the four devices mean, each at its place. It is opaque, so that goals stay short
unfoldable pub template_meanings : Meanings
template_meanings = side_by_side (moved_up (word_device uart)) (side_by_side (moved_up (word_device alarm)) (side_by_side (moved_up (word_device flash)) (moved_up (word_device watchdog))))

-- what the Flash holds
unfoldable pub flash_contents : List ℕ
flash_contents = codes "ok"

-- the files' run or chain on this board; other words give the usage line
abbrev pub plan_of : Option TemplateWords → Plan (Unit {0})
plan_of None = Makes usage_due tt
plan_of (Some asked) = files_then_work template_meanings (template_state flash_contents) asked

-- what is said of a chain on it
abbrev pub IsServedBy : TemplateWords → Status → ShelfView → ShelfView → Type 0
IsServedBy asked status shelf shelf' = IsServedTo template_meanings (template_state flash_contents) asked status shelf shelf'
