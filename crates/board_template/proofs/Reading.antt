-- The Flash's bytes are read in order.
use Rattle.std.proofs.Common.{◌≡◌, ℕ, ◌+◌, ◌<◌, ◌≤◌, List, ◌∷◌, length, take, drop, zero, suc, arith, refl, sym, ap, ◌∙◌}
use Rattle.std.specs.Prelude.{min, slice_get, unwrap_or}
use Rattle.std.proofs.Math.Seq.{drop-cons}
use Rattle.std.proofs.lemmas.Option.{unwrap_or-slice_get}
use Rattle.device_model.specs.WordRegisters.{word_device}
use Rattle.board_devices.specs.Laws.{bytes_read}
use Rattle.board_template.specs.Flash.{flash, flash_list, place_of, contents_of}
use Rattle.board_template.specs.Laws.{FlashIsReadInOrder}

-- what stands at a place is the first of what is left there
taken : (contents : List ℕ) (place n : ℕ) → place < length contents → unwrap_or (slice_get contents place) 0 ∷ take n (drop (suc place) contents) ≡ take (suc n) (drop place contents)
taken contents place n l =
    ap (λ b. b ∷ take n (drop (suc place) contents)) (unwrap_or-slice_get contents place 0)
    ∙ sym (ap (take (suc n)) (drop-cons contents place 0 l))

read_on : (contents : List ℕ) (n place : ℕ) → place + n ≤ length contents → bytes_read (word_device flash) n (flash_list place contents) ≡ take n (drop place contents)
read_on contents zero place l = refl
read_on contents (suc n) place l =
    let next : min (place + 1) (length contents) ≡ suc place = omega arith in
    ap (λ p. unwrap_or (slice_get contents place) 0 ∷ bytes_read (word_device flash) n (flash_list p contents)) next
    ∙ ap (λ x. unwrap_or (slice_get contents place) 0 ∷ x) (read_on contents n (suc place) (omega arith))
    ∙ taken contents place n (omega arith)

pub flash_is_read_in_order : FlashIsReadInOrder
flash_is_read_in_order s n st l =
    ap (bytes_read (word_device flash) n) st.listed
    ∙ read_on (contents_of s) n (place_of s) l
