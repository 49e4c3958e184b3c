-- The bytes of the slot, one by one.
use Rattle.std.proofs.Common.{◌≡◌, ℕ, zero, suc, ◌+◌, ◌-◌, ◌*◌, ◌/◌, ◌%◌, ◌^◌, ◌<◌, true, List, [], ◌∷◌, ◌++◌, length, take, drop, length-take, get_or, refl, sym, ap, ap₂, ◌∙◌, arith}
use Rattle.std.specs.Prelude.{nat_lt}
use Rattle.std.specs.List.{list_all}
use Rattle.std.proofs.lemmas.Bool.{and_parts, ltb-true}
use Rattle.std.proofs.lemmas.List.{get_or_append_left}
use Rattle.byteorder.specs.Endian.{little_number, little_bytes}
use Rattle.hart_memory.specs.Bytes.{number_at}
use Rattle.std.specs.Int.{byte_at}
use Rattle.std.proofs.Math.Seq.{paste}
use Rattle.std.proofs.lemmas.List.Edits.{paste_none, paste_all, paste_more}
use Rattle.hart_memory.specs.Memory.{Memory}
use Rattle.hart_memory.specs.Access.{with_byte, with_byte_by}
use Rattle.hart_memory.specs.Place.{holds, is_in_memory}
use Rattle.hart_memory.specs.declared.address_map.TheConstants.{BANK_LEN}
use Rattle.hart_memory.proofs.PlaceLemmas.{place_rom}
use Rattle.chain_moves.specs.Slot.{base, slot_end}
use Rattle.chain_moves.specs.Words.{slot_words, dispatch_words, dispatch_word, word_count, HasDispatcher}
use Rattle.chain_moves.specs.Start.{words_bytes, slot_bytes, with_slot}
use Rattle.chain_moves.specs.declared.dispatcher.Dispatcher.{Dispatcher}
use Rattle.chain_moves.specs.declared.dispatcher.Dispatcher.TheVariants.{Looping, Returning}

pub length-slot_bytes : (d : Dispatcher) → length (slot_bytes d) ≡ slot_end - base
unfolding words_bytes
length-slot_bytes Looping = refl
length-slot_bytes Returning = refl

-- byte i of some words is a byte of word i / 4
word_byte : (ws : List ℕ) (i : ℕ) → i < 4 * length ws → get_or (words_bytes ws) i 0 ≡ byte_at (i % 4) (get_or ws (i / 4) 0)
unfolding words_bytes
word_byte [] i l = absurd (omega arith)
word_byte (w ∷ ws) zero l = refl
word_byte (w ∷ ws) (suc zero) l = refl
word_byte (w ∷ ws) (suc (suc zero)) l = refl
word_byte (w ∷ ws) (suc (suc (suc zero))) l = refl
word_byte (w ∷ ws) (suc (suc (suc (suc j)))) l =
    let same : suc (suc (suc (suc j))) % 4 ≡ j % 4 = omega arith in
    let next : suc (suc (suc (suc j))) / 4 ≡ suc (j / 4) = omega arith in
    word_byte ws j (omega arith) ∙ sym (ap₂ (λ k q. byte_at k (get_or (w ∷ ws) q 0)) same next)

shifted : (k v : ℕ) → k < 4 → v / 2 ^ (8 * k) % 256 ≡ byte_at k v
shifted zero v l = omega arith
shifted (suc zero) v l = refl
shifted (suc (suc zero)) v l = refl
shifted (suc (suc (suc zero))) v l = refl
shifted (suc (suc (suc (suc k)))) v l = absurd (omega arith)

pub slot_byte-is : (d : Dispatcher) (i : ℕ) → i < slot_end - base → get_or (slot_words d) (i / 4) 0 / 2 ^ (8 * (i % 4)) % 256 ≡ get_or (slot_bytes d) i 0
slot_byte-is d i l =
    let few : length (slot_words d) ≡ 32 = refl in
    shifted (i % 4) (get_or (slot_words d) (i / 4) 0) (omega arith) ∙ sym (word_byte (slot_words d) i (omega (arith, few)))

-- ---- they are placed one by one
pub held : (at : ℕ) → at < BANK_LEN → holds at 1 ≡ true
held at l = ap is_in_memory (place_rom at 1 (omega arith))

pub memory_before : (d : Dispatcher) (m : Memory) → m ≡ record m { rom = paste m.rom base (slot_bytes d) 0 }
memory_before d m = ap (λ (rom : List ℕ). record m { rom = rom }) (paste_none m.rom base (slot_bytes d))

pub memory_more : (d : Dispatcher) (m : Memory) (i : ℕ) → length m.rom ≡ BANK_LEN → i < slot_end - base
    → with_byte (record m { rom = paste m.rom base (slot_bytes d) i }) (base + i) (get_or (slot_bytes d) i 0) ≡ record m { rom = paste m.rom base (slot_bytes d) (i + 1) }
memory_more d m i len l =
    let there : base + i < length m.rom = omega arith in
    let inside : i < length (slot_bytes d) = omega (arith, length-slot_bytes d) in
    ap (λ p. with_byte_by p (record m { rom = paste m.rom base (slot_bytes d) i }) (get_or (slot_bytes d) i 0)) (place_rom (base + i) 1 (omega arith))
    ∙ ap (λ (rom : List ℕ). record m { rom = rom }) (paste_more m.rom base (slot_bytes d) i 0 there inside)

pub memory_all : (d : Dispatcher) (m : Memory) → record m { rom = paste m.rom base (slot_bytes d) (slot_end - base) } ≡ record m { rom = with_slot (slot_bytes d) m.rom }
unfolding with_slot
memory_all d m = ap (λ (rom : List ℕ). record m { rom = rom }) (paste_all m.rom base (slot_bytes d) (slot_end - base) (sym (length-slot_bytes d)))

-- ---- a ROM with the slot's bytes has the dispatcher
four_bytes : (w : ℕ) (rest : List ℕ) → w < 2 ^ 32 → little_number 4 (little_bytes 4 w ++ rest) ≡ w
four_bytes w rest l = omega (arith, l)

word_in : (ws rest : List ℕ) (i : ℕ) → list_all (λ w. nat_lt w (2 ^ 32)) ws ≡ true → i < length ws → little_number 4 (drop (4 * i) (words_bytes ws ++ rest)) ≡ get_or ws i 0
unfolding words_bytes
word_in [] rest i all l = absurd (omega arith)
word_in (w ∷ ws) rest zero all l = four_bytes w (words_bytes ws ++ rest) (ltb-true w (2 ^ 32) (and_parts _ _ all).0)
word_in (w ∷ ws) rest (suc i) all l =
    let next : 4 * suc i ≡ suc (suc (suc (suc (4 * i)))) = omega arith in
    ap (λ k. little_number 4 (drop k (words_bytes (w ∷ ws) ++ rest))) next ∙ word_in ws rest i (and_parts _ _ all).1 (omega arith)

all_words : (d : Dispatcher) → list_all (λ w. nat_lt w (2 ^ 32)) (slot_words d) ≡ true
all_words Looping = refl
all_words Returning = refl

same_word : (d : Dispatcher) (i : ℕ) → i < word_count → get_or (slot_words d) i 0 ≡ dispatch_word d i
same_word d i l = get_or_append_left (dispatch_words d) (0 ∷ 0 ∷ 0 ∷ []) 0 i l

drop_front : (front rest : List ℕ) (n k : ℕ) → length front ≡ n → drop (n + k) (front ++ rest) ≡ drop k rest
drop_front [] rest zero k e = let same : 0 + k ≡ k = omega arith in ap (λ j. drop j rest) same
drop_front [] rest (suc n) k e = absurd (omega (arith, e))
drop_front (x ∷ front) rest zero k e = absurd (omega (arith, e))
drop_front (x ∷ front) rest (suc n) k e = let next : suc n + k ≡ suc (n + k) = omega arith in ap (λ j. drop j (x ∷ front ++ rest)) next ∙ drop_front front rest n k (omega (arith, e))

pub slot_has : (d : Dispatcher) (rom : List ℕ) → length rom ≡ BANK_LEN → HasDispatcher d (with_slot (slot_bytes d) rom)
unfolding with_slot number_at
slot_has d rom len i l =
    ap (little_number 4) (drop_front (take base rom) (slot_bytes d ++ drop slot_end rom) base (4 * i) (omega (arith, length-take base rom, len)))
    ∙ (word_in (slot_words d) (drop slot_end rom) i (all_words d) (omega (arith, l)) ∙ same_word d i l)
