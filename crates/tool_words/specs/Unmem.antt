-- The words of the command `unmem`.
use Rattle.std.specs.Prelude.{ℕ, ◌%◌, ◌^◌, List, [], codes, unwrap_or}
use Rattle.clap.specs.Words.{App, Row, Text, first_of, one_of, new_app, with_rule}
use Rattle.tool_frame.specs.Options.{text_rule, number_rule, number_in}
use Rattle.tool_words.specs.declared.unmem_order.UnmemOrder.{UnmemOrder}

-- a file, and a number from 0 to 4,294,967,295
abbrev pub unmem_app : App
unmem_app = with_rule (with_rule (new_app (codes "unmem")) (text_rule (codes "FILE"))) (number_rule (codes "ENTRY") 0 4_294_967_295)

-- the file, and the entry of its image
pub record UnmemWords : Type 0 where
  pub memory_name : Text
  pub entry_is : ℕ

-- clap takes no number past 4,294,967,295, so that what is left of a division by 2 ^ 32 is the number itself
unfoldable pub unmem_in : List Row → UnmemWords
unmem_in rows = record {
  memory_name = unwrap_or (first_of (codes "FILE") rows) [];
  entry_is = unwrap_or (number_in (one_of (codes "ENTRY") rows)) 0 % 2 ^ 32;
}

abbrev pub view_unmem : UnmemOrder → UnmemWords
view_unmem u = record { memory_name = u.memory.now; entry_is = u.entry }
