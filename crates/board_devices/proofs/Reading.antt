-- The Uart's bytes are read in the order in which they came.
use Rattle.std.proofs.Common.{◌≡◌, ℕ, ◌+◌, ◌<◌, ◌≤◌, List, [], ◌∷◌, ◌++◌, length, arith, refl, sym, ap, ◌∙◌, append_assoc}
use Rattle.std.proofs.lemmas.List.{length-append, append-nil}
use Rattle.std.proofs.lemmas.Bool.Decides.{nat_tests}
use Rattle.device_model.specs.WordRegisters.{word_device}
use Rattle.board_devices.specs.Uart.{uart, uart_list, after_receive, enable_of, overruns_of, dropped_of, waiting_of, sent_of}
use Rattle.board_devices.specs.Laws.{after_bytes, bytes_read, BytesAreReadInOrder}
use Rattle.board_devices.specs.Sound.Uart.{waiting_listed, sent_listed}

-- a byte that there is room for waits behind the others
received : (enable overruns dropped : ℕ) (w o : List ℕ) (byte : ℕ) → length w < 1024 → after_receive (uart_list enable overruns dropped w o) byte ≡ uart_list enable overruns dropped (w ++ byte ∷ []) o
received enable overruns dropped w o byte l = rw (waiting_listed enable overruns dropped w o, sent_listed enable overruns dropped w o) (grind (arith, nat_tests))

all_received : (enable overruns dropped : ℕ) (o bytes w : List ℕ) → length w + length bytes ≤ 1024 → after_bytes (word_device uart) bytes (uart_list enable overruns dropped w o) ≡ uart_list enable overruns dropped (w ++ bytes) o
all_received enable overruns dropped o [] w l = ap (λ x. uart_list enable overruns dropped x o) (sym (append-nil w))
all_received enable overruns dropped o (byte ∷ bytes) w l =
    ap (after_bytes (word_device uart) bytes) (received enable overruns dropped w o byte (omega arith))
    ∙ all_received enable overruns dropped o bytes (w ++ byte ∷ []) (omega (arith, length-append w (byte ∷ [])))
    ∙ ap (λ x. uart_list enable overruns dropped x o) (append_assoc w (byte ∷ []) bytes)

-- each load takes the first
all_read : (enable overruns dropped : ℕ) (o w : List ℕ) → bytes_read (word_device uart) (length w) (uart_list enable overruns dropped w o) ≡ w
all_read enable overruns dropped o [] = refl
all_read enable overruns dropped o (byte ∷ w) =
    rw (waiting_listed enable overruns dropped (byte ∷ w) o, sent_listed enable overruns dropped (byte ∷ w) o) (ap (λ x. byte ∷ x) (all_read enable overruns dropped o w))

pub bytes_are_read_in_order : BytesAreReadInOrder
bytes_are_read_in_order s bytes st l =
    let enable = enable_of s in
    let overruns = overruns_of s in
    let dropped = dropped_of s in
    let w = waiting_of s in
    let o = sent_of s in
    ap (λ x. bytes_read (word_device uart) (length w + length bytes) (after_bytes (word_device uart) bytes x)) st.listed
    ∙ ap (bytes_read (word_device uart) (length w + length bytes)) (all_received enable overruns dropped o bytes w l)
    ∙ ap (λ n. bytes_read (word_device uart) n (uart_list enable overruns dropped (w ++ bytes) o)) (sym (length-append w bytes))
    ∙ all_read enable overruns dropped o (w ++ bytes)
