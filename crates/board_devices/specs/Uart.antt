-- The Uart, bytes that wait to be read and bytes that were sent.
use Rattle.std.specs.Prelude.{◌≡◌, ℕ, ◌+◌, ◌-◌, ◌%◌, ◌^◌, ◌<◌, ◌≤◌, ◌==◌, List, [], ◌∷◌, ◌++◌, length, take, drop, Bool, false, None, All, if◌then◌else◌, min, not, nat_lt, slice_get, slice_index, unwrap_or}
use Rattle.device_model.specs.declared.stimulus.Stimulus.{Stimulus}
use Rattle.device_model.specs.declared.stimulus.Stimulus.TheVariants.{Receive, Pins, Tick}
use Rattle.device_model.specs.WordRegisters.{WordRegisters}
use Rattle.hart_words.specs.Bits.{bit}

-- the state: enable, overruns, dropped, the number of waiting bytes, the waiting bytes, the output
abbrev pub uart_list : ℕ → ℕ → ℕ → List ℕ → List ℕ → List ℕ
uart_list enable overruns dropped waiting output = enable ∷ overruns ∷ dropped ∷ length waiting ∷ (waiting ++ output)

-- the parts of a state
abbrev pub enable_of : List ℕ → ℕ
enable_of s = slice_index s 0

abbrev pub overruns_of : List ℕ → ℕ
overruns_of s = slice_index s 1

abbrev pub dropped_of : List ℕ → ℕ
dropped_of s = slice_index s 2

unfoldable pub waiting_of : List ℕ → List ℕ
waiting_of s = take (slice_index s 3) (drop 4 s)

unfoldable pub sent_of : List ℕ → List ℕ
sent_of s = drop (slice_index s 3) (drop 4 s)

-- a state with other waiting bytes, and with other output
abbrev pub with_waiting : List ℕ → List ℕ → List ℕ
with_waiting s waiting = uart_list (enable_of s) (overruns_of s) (dropped_of s) waiting (sent_of s)

abbrev pub with_output : List ℕ → List ℕ → List ℕ
with_output s output = uart_list (enable_of s) (overruns_of s) (dropped_of s) (waiting_of s) output

-- the states that it can be in
pub record IsUart (s : List ℕ) : Type 0 where
  pub listed : s ≡ with_waiting s (waiting_of s)
  pub enable : enable_of s < 2
  pub overruns : overruns_of s < 2 ^ 32
  pub dropped : dropped_of s < 2 ^ 32
  pub bytes : All (λ byte. byte < 2 ^ 8) (waiting_of s)
  pub few_waiting : length (waiting_of s) ≤ 1024
  pub few_sent : length (sent_of s) ≤ 65536

-- a byte waits
abbrev pub waits : List ℕ → Bool
waits s = not (length (waiting_of s) == 0)

-- the first of the bytes, 0 where there is none
abbrev pub first_or_zero : List ℕ → ℕ
first_or_zero bytes = unwrap_or (slice_get bytes 0) 0

-- one more, up to the greatest word
abbrev pub one_more : ℕ → ℕ
one_more n = min (n + 1) (2 ^ 32 - 1)

-- a byte that was sent is put out, or counted where 65,536 are there
abbrev pub after_send : List ℕ → ℕ → List ℕ
after_send s byte = if nat_lt (length (sent_of s)) 65536
    then with_output s (sent_of s ++ byte ∷ [])
    else uart_list (enable_of s) (overruns_of s) (one_more (dropped_of s)) (waiting_of s) (sent_of s)

-- a byte that comes waits, or is counted where 1,024 wait
abbrev pub after_receive : List ℕ → ℕ → List ℕ
after_receive s byte = if nat_lt (length (waiting_of s)) 1024
    then with_waiting s (waiting_of s ++ byte ∷ [])
    else uart_list (enable_of s) (one_more (overruns_of s)) (dropped_of s) (waiting_of s) (sent_of s)

abbrev pub uart_after : List ℕ → Stimulus → List ℕ
uart_after s (Receive byte) = after_receive s byte
uart_after s (Pins pins) = s
uart_after s (Tick n) = s

-- | offset | load                                                           | store                        |
-- | 0      | the first waiting byte, which is removed; 0 where none waits   | the low byte is sent         |
-- | 4      | bit 0: a byte waits; bit 1: always 1                           |                              |
-- | 8      | enable                                                         | enable = bit 0               |
-- | C      | overruns                                                       |                              |
-- | 10     | dropped                                                        |                              |
abbrev pub uart : WordRegisters
uart = record {
  IsState = IsUart;
  end = 0x14;
  loads = λ s. (0x0, first_or_zero (waiting_of s)) ∷ (0x4, 2 + bit (waits s)) ∷ (0x8, enable_of s) ∷ (0xC, overruns_of s) ∷ (0x10, dropped_of s) ∷ [];
  load_changes = λ s. (0x0, with_waiting s (drop 1 (waiting_of s))) ∷ [];
  stores = λ s value. (0x0, after_send s (value % 2 ^ 8))
      ∷ (0x8, uart_list (value % 2) (overruns_of s) (dropped_of s) (waiting_of s) (sent_of s))
      ∷ [];
  after_stimulus = uart_after;
  lines = λ s. (if enable_of s == 1 then waits s else false) ∷ [];
  halted = λ s. None;
  output_of = sent_of;
}
