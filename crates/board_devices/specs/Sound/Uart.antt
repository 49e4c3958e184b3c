-- The Uart meets the laws.
use Rattle.std.proofs.Common.{◌≡◌, ℕ, ◌+◌, ◌%◌, ◌^◌, ◌<◌, ◌≤◌, List, [], ◌∷◌, ◌++◌, length, drop, None, Bool, All, arith, refl}
use Rattle.std.proofs.Math.Seq.{take-append_seam, drop-append_seam}
use Rattle.std.proofs.lemmas.List.{length-append, length-drop}
use Rattle.std.proofs.lemmas.List.Elements.{All-push, All-drop}
use Rattle.std.proofs.lemmas.Bool.Decides.{nat_tests}
use Rattle.device_model.specs.declared.stimulus.Stimulus.{Stimulus}
use Rattle.device_model.specs.declared.stimulus.Stimulus.TheVariants.{Receive, Pins, Tick}
use Rattle.device_model.specs.Stimulus.{IsStimulus}
use Rattle.device_model.specs.Meanings.{Keeps, IsSound}
use Rattle.device_model.specs.WordRegisters.{row_at, word_device}
use Rattle.device_model.specs.Sound.Window.{keeps_same}
use Rattle.device_model.specs.Sound.WordRegisters.{row, word_device_is_sound}
use Rattle.hart_words.specs.Bits.{bit}
use Rattle.board_devices.specs.Uart.{IsUart, uart, uart_list, uart_after, after_receive, after_send, enable_of, overruns_of, dropped_of, waiting_of, sent_of, first_or_zero, one_more, waits}
use Rattle.hart_words.proofs.Bits.{bit_below}

-- two lists that stand in a state are read back
pub waiting_listed : (enable overruns dropped : ℕ) (w o : List ℕ) → waiting_of (enable ∷ overruns ∷ dropped ∷ length w ∷ (w ++ o)) ≡ w
unfolding waiting_of
waiting_listed enable overruns dropped w o = take-append_seam w o

pub sent_listed : (enable overruns dropped : ℕ) (w o : List ℕ) → sent_of (enable ∷ overruns ∷ dropped ∷ length w ∷ (w ++ o)) ≡ o
unfolding sent_of
sent_listed enable overruns dropped w o = drop-append_seam w o

listed_is_uart : (enable overruns dropped : ℕ) (w o : List ℕ) → enable < 2 → overruns < 2 ^ 32 → dropped < 2 ^ 32 → All (λ byte. byte < 2 ^ 8) w → length w ≤ 1024 → length o ≤ 65536 → IsUart (uart_list enable overruns dropped w o)
listed_is_uart enable overruns dropped w o e v d bytes few little = record {
  listed = rw (waiting_listed enable overruns dropped w o, sent_listed enable overruns dropped w o) refl;
  enable = e;
  overruns = v;
  dropped = d;
  bytes = rw (waiting_listed enable overruns dropped w o) bytes;
  few_waiting = rw (waiting_listed enable overruns dropped w o) few;
  few_sent = rw (sent_listed enable overruns dropped w o) little;
}

pub uart_is_state : (enable : Bool) (overruns dropped : ℕ) (w o : List ℕ) → overruns < 2 ^ 32 → dropped < 2 ^ 32 → All (λ byte. byte < 2 ^ 8) w → length w ≤ 1024 → length o ≤ 65536 → IsUart (uart_list (bit enable) overruns dropped w o)
uart_is_state enable overruns dropped w o v d bytes few little = listed_is_uart (bit enable) overruns dropped w o (bit_below enable) v d bytes few little

uart_keeps : (s : List ℕ) (enable overruns dropped : ℕ) (w o : List ℕ) → enable < 2 → overruns < 2 ^ 32 → dropped < 2 ^ 32 → All (λ byte. byte < 2 ^ 8) w → length w ≤ 1024 → length o ≤ 65536 → Keeps (word_device uart) s (uart_list enable overruns dropped w o)
uart_keeps s enable overruns dropped w o e v d bytes few little = record { is_state = listed_is_uart enable overruns dropped w o e v d bytes few little; low = refl; high = refl; line_count = refl }

first_fits : (w : List ℕ) → All (λ byte. byte < 2 ^ 8) w → first_or_zero w < 2 ^ 32
first_fits [] bytes = omega arith
first_fits (byte ∷ w) bytes = omega (arith, bytes 0 0 (omega arith))

pub rest_fits : (w : List ℕ) → All (λ byte. byte < 2 ^ 8) w → All (λ byte. byte < 2 ^ 8) (drop 1 w)
rest_fits w bytes = All-drop (λ byte. byte < 2 ^ 8) 1 w bytes

more_fits : (n : ℕ) → one_more n < 2 ^ 32
more_fits n = omega arith

status_fits : (s : List ℕ) → 2 + bit (waits s) < 2 ^ 32
status_fits s = omega (arith, bit_below (waits s))

send_keeps : (s : List ℕ) (byte : ℕ) → IsUart s → Keeps (word_device uart) s (after_send s byte)
send_keeps s byte st =
    let sent : length (sent_of s) < 65536 → Keeps (word_device uart) s (uart_list (enable_of s) (overruns_of s) (dropped_of s) (waiting_of s) (sent_of s ++ byte ∷ [])) = λ room. uart_keeps s _ _ _ _ _ st.enable st.overruns st.dropped st.bytes st.few_waiting (simp length-append (omega arith)) in
    let dropped : Keeps (word_device uart) s (uart_list (enable_of s) (overruns_of s) (one_more (dropped_of s)) (waiting_of s) (sent_of s)) = uart_keeps s _ _ _ _ _ st.enable st.overruns (more_fits (dropped_of s)) st.bytes st.few_waiting st.few_sent in
    grind (arith, nat_tests)

receive_keeps : (s : List ℕ) (byte : ℕ) → IsUart s → byte < 2 ^ 8 → Keeps (word_device uart) s (after_receive s byte)
receive_keeps s byte st f =
    let waiting : length (waiting_of s) < 1024 → Keeps (word_device uart) s (uart_list (enable_of s) (overruns_of s) (dropped_of s) (waiting_of s ++ byte ∷ []) (sent_of s)) = λ room. uart_keeps s _ _ _ _ _ st.enable st.overruns st.dropped (All-push (λ byte. byte < 2 ^ 8) (waiting_of s) byte st.bytes f) (simp length-append (omega arith)) st.few_sent in
    let overrun : Keeps (word_device uart) s (uart_list (enable_of s) (one_more (overruns_of s)) (dropped_of s) (waiting_of s) (sent_of s)) = uart_keeps s _ _ _ _ _ st.enable (more_fits (overruns_of s)) st.dropped st.bytes st.few_waiting st.few_sent in
    grind (arith, nat_tests)

stimulus_keeps : (s : List ℕ) (what : Stimulus) → IsUart s → IsStimulus what → Keeps (word_device uart) s (uart_after s what)
stimulus_keeps s (Receive byte) st f = receive_keeps s byte st f
stimulus_keeps s (Pins pins) st f = keeps_same (word_device uart) s st
stimulus_keeps s (Tick n) st f = keeps_same (word_device uart) s st

-- the one register whose load changes the state is loaded
changes_loaded : (s : List ℕ) (at : ℕ) → row_at (uart.loads s) at ≡ None → row_at (uart.load_changes s) at ≡ None
changes_loaded s at e = grind (arith, nat_tests)

pub uart_is_sound : IsSound (word_device uart)
uart_is_sound = word_device_is_sound uart record {
  loads_fit = λ s st.
      row (omega arith) (first_fits (waiting_of s) st.bytes)
      (row (omega arith) (status_fits s)
      (row (omega arith) (omega (arith, st.enable))
      (row (omega arith) st.overruns
      (row (omega arith) st.dropped tt))));
  changes_loaded = λ s at st e. changes_loaded s at e;
  loads_keep = λ s st. (uart_keeps s _ _ _ _ _ st.enable st.overruns st.dropped (rest_fits (waiting_of s) st.bytes) (simp length-drop (omega (arith, st.few_waiting))) st.few_sent, tt);
  stores_keep = λ s value st f.
      row (omega arith) (send_keeps s (value % 2 ^ 8) st)
      (row (omega arith) (uart_keeps s _ _ _ _ _ (omega arith) st.overruns st.dropped st.bytes st.few_waiting st.few_sent) tt);
  stimulus_keeps = stimulus_keeps;
}
