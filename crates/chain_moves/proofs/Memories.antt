-- Memories that agree outside the bytes that no body may read: what is read, and what is written.
use Rattle.std.proofs.Common.{◌≡◌, ℕ, zero, suc, ◌+◌, ◌-◌, ◌/◌, ◌%◌, ◌^◌, ◌<◌, ◌≤◌, ◌⊎◌, inl, inr, ⊎_elim, Bool, true, false, List, [], ◌∷◌, length, get_or, set, Option, Some, None, refl, sym, ap, ◌∙◌, subst, arith, length-set}
use Rattle.std.specs.Prelude.{nat_le, nat_lt, slice_index, slice_index_or}
use Rattle.std.proofs.lemmas.List.{get_or-set_same, get_or-set_other}
use Rattle.std.proofs.lemmas.Bool.{or_parts, cases_eq, cases_lt, and_from, le-leb, lt-ltb, true≢false, false≢true, false_from_ne_true}
use Rattle.hart_words.specs.TwosComplement.{word}
use Rattle.csr_file.specs.Views.{is_set}
use Rattle.hart_words.specs.Bits.{bits}
use Rattle.hart_memory.specs.Memory.{Memory}
use Rattle.hart_memory.specs.Bytes.{number_at, with_number, put_at}
use Rattle.hart_memory.specs.Place.{place}
use Rattle.hart_memory.specs.Access.{loaded, loaded_by}
use Rattle.hart_memory.specs.Fetch.{fetched, fetched_first, fetched_length, fetched_second, is_long}
use Rattle.hart_memory.specs.declared.place.Place.{Place}
use Rattle.hart_memory.specs.declared.place.Place.TheVariants.{InRom, InRam, Elsewhere}
use Rattle.hart_memory.specs.declared.address_map.TheConstants.{RAM_BASE, BANK_LEN}
use Rattle.hart_memory.proofs.PlaceLemmas.{in_rom, in_ram}
use Rattle.hart_memory.proofs.NumberLemmas.{with-is-put, number_same, slice_index-with_number, length-with_number, number-with_number_apart, number-with_number_same}
use Rattle.chain_moves.specs.Slot.{in_slot, frame_size}
use Rattle.chain_moves.specs.Servicing.{Live, marks, innermost_level}
use Rattle.chain_moves.specs.Bytes.{some_byte, is_dead, is_hidden, in_frame, in_live_frame, marked}
use Rattle.chain_moves.specs.Enter.{word_or_zero}
use Rattle.chain_moves.specs.Agreement.{AgreeRom, Agree, Frame, Frames, place_of, framed}
use Rattle.chain_moves.proofs.Marking.{none_of, marked_other}

-- ---- a store
length-marked : (n : ℕ) (dead : List Bool) (k : ℕ) (mark : Bool) → length (marked dead k n mark) ≡ length dead
unfolding marked
length-marked zero dead k mark = refl
length-marked (suc n) dead k mark = length-marked n (set dead k mark) (k + 1) mark ∙ length-set dead k mark

both_set : (m m' : List ℕ) (d : List Bool) (k b : ℕ) → k < BANK_LEN → Agree m m' d → Agree (set m k b) (set m' k b) (set d k false)
both_set m m' d k b l a = record {
  long = length-set m k b ∙ a.long;
  other_long = length-set m' k b ∙ a.other_long;
  marks = length-set d k false ∙ a.marks;
  at = λ j f. ⊎_elim
      (λ (e : j ≡ k). subst (λ i. get_or (set m k b) i 0 ≡ get_or (set m' k b) i 0) (sym e) (get_or-set_same m k b 0 (omega (arith, a.long)) ∙ sym (get_or-set_same m' k b 0 (omega (arith, a.other_long)))))
      (λ (n : j ≡ k → ⊥). get_or-set_other m k j b 0 n ∙ a.at j (sym (get_or-set_other d k j false false n) ∙ f) ∙ sym (get_or-set_other m' k j b 0 n))
      (cases_eq j k);
}

both_put : (n : ℕ) (m m' : List ℕ) (d : List Bool) (k v : ℕ) → k + n ≤ BANK_LEN → Agree m m' d → Agree (put_at m k n v) (put_at m' k n v) (marked d k n false)
unfolding put_at marked
both_put zero m m' d k v l a = a
both_put (suc n) m m' d k v l a = both_put n (set m k (v % 256)) (set m' k (v % 256)) (set d k false) (k + 1) (v / 256) (omega arith) (both_set m m' d k (v % 256) (omega arith) a)

pub stored_agree : (n : ℕ) (m m' : List ℕ) (d : List Bool) (k v : ℕ) → k + n ≤ BANK_LEN → Agree m m' d → Agree (with_number m k n v) (with_number m' k n v) (marked d k n false)
stored_agree n m m' d k v l a =
    subst (λ x. Agree x (with_number m' k n v) (marked d k n false)) (sym (with-is-put n m k v (omega (arith, a.long))))
    (subst (λ y. Agree (put_at m k n v) y (marked d k n false)) (sym (with-is-put n m' k v (omega (arith, a.other_long)))) (both_put n m m' d k v l a))

-- ---- what is read
alive_at : (dead : List Bool) (j : ℕ) → RAM_BASE ≤ j → is_dead dead j ≡ false → slice_index_or dead (j - RAM_BASE) false ≡ false
alive_at dead j l h = false_from_ne_true (slice_index_or dead (j - RAM_BASE) false) (λ t. false≢true (sym h ∙ and_from (nat_le RAM_BASE j) (slice_index_or dead (j - RAM_BASE) false) (le-leb RAM_BASE j l) t))

shown_slot : (dead : List Bool) (j : ℕ) → is_hidden dead j ≡ false → in_slot j ≡ false
shown_slot dead j h = (or_parts (in_slot j) (is_dead dead j) h).0

shown_dead : (dead : List Bool) (j : ℕ) → is_hidden dead j ≡ false → is_dead dead j ≡ false
shown_dead dead j h = (or_parts (in_slot j) (is_dead dead j) h).1

pub number_agrees : (m m' : List ℕ) (d : List Bool) (k n : ℕ) → Agree m m' d → ((j : ℕ) → k ≤ j → j < k + n → slice_index_or d j false ≡ false) → number_at m k n ≡ number_at m' k n
number_agrees m m' d k n a h = number_same m m' k n (λ j l r. a.at j (h j l r))

module _ (rom rom' ram ram' : List ℕ) (dead : List Bool) (roms : AgreeRom rom rom') (rams : Agree ram ram' dead) where
  abbrev whole : Memory
  whole = record { rom = rom; ram = ram }

  abbrev other : Memory
  other = record { rom = rom'; ram = ram' }

  pub rom_same : (at width k : ℕ) → place at width ≡ InRom k → some_byte (is_hidden dead) at width ≡ false → number_at rom k width ≡ number_at rom' k width
  rom_same at width k p h =
      let lies = in_rom at width k p in
      let is = lies.is in
      number_same rom rom' k width (λ j l r. roms.at j (shown_slot dead j (none_of (is_hidden dead) at width h j (omega arith) (omega arith))))

  pub ram_same : (at width k : ℕ) → place at width ≡ InRam k → some_byte (is_hidden dead) at width ≡ false → number_at ram k width ≡ number_at ram' k width
  ram_same at width k p h =
      let lies = in_ram at width k p in
      let is = lies.is in
      number_agrees ram ram' dead k width rams (λ j l r.
      let alive = alive_at dead (RAM_BASE + j) (omega arith) (shown_dead dead (RAM_BASE + j) (none_of (is_hidden dead) at width h (RAM_BASE + j) (omega arith) (omega arith))) in
      let e : RAM_BASE + j - RAM_BASE ≡ j = omega arith in
      subst (λ i. slice_index_or dead i false ≡ false) e alive)

  loaded_by_same : (at width : ℕ) (p : Place) → place at width ≡ p → some_byte (is_hidden dead) at width ≡ false → loaded_by p whole width ≡ loaded_by p other width
  loaded_by_same at width (InRom k) e h = ap Some (rom_same at width k e h)
  loaded_by_same at width (InRam k) e h = ap Some (ram_same at width k e h)
  loaded_by_same at width Elsewhere e h = refl

  pub loaded_same : (at width : ℕ) → some_byte (is_hidden dead) at width ≡ false → loaded whole at width ≡ loaded other at width
  loaded_same at width h = loaded_by_same at width (place at width) refl h

  -- ---- the fetch, by halves
  second_same : (low next : ℕ) → some_byte (is_hidden dead) next 2 ≡ false → fetched_second (loaded whole next 2) low next ≡ fetched_second (loaded other next 2) low next
  second_same low next h = ap (λ o. fetched_second o low next) (loaded_same next 2 h)

  length_same : (long : Bool) (low pc : ℕ) → (long ≡ true → some_byte (is_hidden dead) (word (pc + 2)) 2 ≡ false) → fetched_length long whole low pc ≡ fetched_length long other low pc
  length_same false low pc h = refl
  length_same true low pc h = second_same low (word (pc + 2)) (h refl)

  first_same : (first : Option ℕ) (pc : ℕ) → (is_long (word_or_zero first) ≡ true → some_byte (is_hidden dead) (word (pc + 2)) 2 ≡ false) → fetched_first first whole pc ≡ fetched_first first other pc
  first_same None pc h = refl
  first_same (Some low) pc h = length_same (is_long low) low pc h

  pub fetched_same : (pc : ℕ) → some_byte (is_hidden dead) pc 2 ≡ false → (is_long (word_or_zero (loaded other pc 2)) ≡ true → some_byte (is_hidden dead) (word (pc + 2)) 2 ≡ false) → fetched whole pc ≡ fetched other pc
  unfolding fetched
  fetched_same pc h l = ap (λ o. fetched_first o whole pc) (loaded_same pc 2 h) ∙ first_same (loaded other pc 2) pc l

-- ---- frames
frame_stays : (ram ram' : List ℕ) (dead dead' : List Bool) (v : Live) (outer : ℕ)
    → ((j : ℕ) → place_of v ≤ j → j < place_of v + frame_size → slice_index ram' j ≡ slice_index ram j)
    → ((j : ℕ) → place_of v ≤ j → j < place_of v + frame_size → slice_index_or dead' j false ≡ slice_index_or dead j false)
    → Frame ram dead v outer → Frame ram' dead' v outer
frame_stays ram ram' dead dead' v outer same flags f =
    let word_same : (k : ℕ) → k ≤ 28 → number_at ram' (place_of v + k) 4 ≡ number_at ram (place_of v + k) 4 = λ k q. number_same ram' ram (place_of v + k) 4 (λ j l r. same j (omega arith) (omega arith)) in
    record {
      low = f.low;
      high = f.high;
      aligned = f.aligned;
      hidden = λ j l r. flags j l r ∙ f.hidden j l r;
      ra = number_same ram' ram (place_of v) 4 (λ j l r. same j l (omega arith)) ∙ f.ra;
      a0 = word_same 4 (omega arith) ∙ f.a0;
      a1 = word_same 8 (omega arith) ∙ f.a1;
      cause = subst (λ n. n < 256 ^ 4) (sym (word_same 12 (omega arith))) f.cause;
      enabled = ap (λ n. is_set n 27) (word_same 12 (omega arith)) ∙ f.enabled;
      level = ap (λ n. bits n 16 8) (word_same 12 (omega arith)) ∙ f.level;
      pc = word_same 16 (omega arith) ∙ f.pc;
    }

-- frames that no byte of a range is in, outside which bytes and marks are as they were
pub frames_apart : (vs : List Live) (ram ram' : List ℕ) (dead dead' : List Bool) (at n k : ℕ) → at ≡ RAM_BASE + k
    → ((j : ℕ) → (j < k) ⊎ (k + n ≤ j) → slice_index ram' j ≡ slice_index ram j)
    → ((j : ℕ) → (j < k) ⊎ (k + n ≤ j) → slice_index_or dead' j false ≡ slice_index_or dead j false)
    → ((j : ℕ) → at ≤ j → j < at + n → in_live_frame (marks vs) j ≡ false) → Frames ram dead vs → Frames ram' dead' vs
unfolding in_live_frame marks
frames_apart [] ram ram' dead dead' at n k e same flags h f = tt
frames_apart (w ∷ ws) ram ram' dead dead' at n k e same flags h f =
    let low = f.0.low in
    let out : (j : ℕ) → place_of w ≤ j → j < place_of w + frame_size → (j < k) ⊎ (k + n ≤ j) = λ j q r.
    ⊎_elim
    (λ (a : j < k). inl a)
    (λ (a : k ≤ j). ⊎_elim
    (λ (b : j < k + n). absurd (true≢false (sym (and_from (nat_le w.mark.frame (RAM_BASE + j)) (nat_lt (RAM_BASE + j) (w.mark.frame + frame_size)) (le-leb _ _ (omega arith)) (lt-ltb _ _ (omega arith))) ∙ (or_parts (in_frame w.mark.frame (RAM_BASE + j)) (in_live_frame (marks ws) (RAM_BASE + j)) (h (RAM_BASE + j) (omega arith) (omega arith))).0)))
    (λ (b : k + n ≤ j). inr b)
    (cases_lt j (k + n)))
    (cases_lt j k) in (
      frame_stays ram ram' dead dead' w (innermost_level (marks ws)) (λ j q r. same j (out j q r)) (λ j q r. flags j (out j q r)) f.0,
      frames_apart ws ram ram' dead dead' at n k e same flags (λ j q r. (or_parts (in_frame w.mark.frame j) (in_live_frame (marks ws) j) (h j q r)).1) f.1,
    )

-- after a store that meets none
pub frames_stay : (vs : List Live) (ram : List ℕ) (dead : List Bool) (at n k v : ℕ) → at ≡ RAM_BASE + k → k + n ≤ length ram → ((j : ℕ) → at ≤ j → j < at + n → in_live_frame (marks vs) j ≡ false) → Frames ram dead vs → Frames (with_number ram k n v) (marked dead k n false) vs
frames_stay vs ram dead at n k v e l h f = frames_apart vs ram (with_number ram k n v) dead (marked dead k n false) at n k e (λ j o. slice_index-with_number ram k n v j l o) (λ j o. marked_other n dead k false j o) h f

-- ---- a frame that is made
pub marked_true : (n : ℕ) (dead : List Bool) (k j : ℕ) → k + n ≤ length dead → k ≤ j → j < k + n → slice_index_or (marked dead k n true) j false ≡ true
unfolding marked
marked_true zero dead k j l q r = absurd (omega arith)
marked_true (suc n) dead k j l q r =
    let long = length-set dead k true in
    ⊎_elim
    (λ (e : j ≡ k). subst (λ i. get_or (marked (set dead k true) (k + 1) n true) i false ≡ true) (sym e) (marked_other n (set dead k true) (k + 1) true k (inl (omega arith)) ∙ get_or-set_same dead k true false (omega arith)))
    (λ (ne : j ≡ k → ⊥). marked_true n (set dead k true) (k + 1) j (omega arith) (omega arith) (omega arith))
    (cases_eq j k)

-- the words of a frame, and all that stays
pub record IsFramed (ram : List ℕ) (k ra a0 a1 cause pc : ℕ) (new : List ℕ) : Type 0 where
  pub long : length new ≡ length ram
  pub ra_is : ra < 256 ^ 4 → number_at new k 4 ≡ ra
  pub a0_is : a0 < 256 ^ 4 → number_at new (k + 4) 4 ≡ a0
  pub a1_is : a1 < 256 ^ 4 → number_at new (k + 8) 4 ≡ a1
  pub cause_is : cause < 256 ^ 4 → number_at new (k + 12) 4 ≡ cause
  pub pc_is : pc < 256 ^ 4 → number_at new (k + 16) 4 ≡ pc
  pub others : (j : ℕ) → (j < k) ⊎ (k + 32 ≤ j) → slice_index new j ≡ slice_index ram j

pub is_framed : (ram : List ℕ) (k ra a0 a1 cause pc : ℕ) → k + 32 ≤ length ram → IsFramed ram k ra a0 a1 cause pc (framed ram k ra a0 a1 cause pc)
unfolding framed
is_framed ram k ra a0 a1 cause pc l =
    let r1 = with_number ram k 4 ra in
    let l1 : length r1 ≡ length ram = length-with_number ram k 4 ra (omega arith) in
    let r2 = with_number r1 (k + 4) 4 a0 in
    let l2 : length r2 ≡ length ram = length-with_number r1 (k + 4) 4 a0 (omega (arith, l1)) ∙ l1 in
    let r3 = with_number r2 (k + 8) 4 a1 in
    let l3 : length r3 ≡ length ram = length-with_number r2 (k + 8) 4 a1 (omega (arith, l2)) ∙ l2 in
    let r4 = with_number r3 (k + 12) 4 cause in
    let l4 : length r4 ≡ length ram = length-with_number r3 (k + 12) 4 cause (omega (arith, l3)) ∙ l3 in
    let r5 = with_number r4 (k + 16) 4 pc in
    let s2 : (j : ℕ) → j + 4 ≤ k + 4 → number_at r2 j 4 ≡ number_at r1 j 4 = λ j q. number-with_number_apart r1 (k + 4) 4 a0 j 4 (omega (arith, l1)) (inl q) in
    let s3 : (j : ℕ) → j + 4 ≤ k + 8 → number_at r3 j 4 ≡ number_at r2 j 4 = λ j q. number-with_number_apart r2 (k + 8) 4 a1 j 4 (omega (arith, l2)) (inl q) in
    let s4 : (j : ℕ) → j + 4 ≤ k + 12 → number_at r4 j 4 ≡ number_at r3 j 4 = λ j q. number-with_number_apart r3 (k + 12) 4 cause j 4 (omega (arith, l3)) (inl q) in
    let s5 : (j : ℕ) → j + 4 ≤ k + 16 → number_at r5 j 4 ≡ number_at r4 j 4 = λ j q. number-with_number_apart r4 (k + 16) 4 pc j 4 (omega (arith, l4)) (inl q) in
    record {
      long = length-with_number r4 (k + 16) 4 pc (omega (arith, l4)) ∙ l4;
      ra_is = λ b. s5 k (omega arith) ∙ s4 k (omega arith) ∙ s3 k (omega arith) ∙ s2 k (omega arith) ∙ number-with_number_same ram k 4 ra (omega arith) b;
      a0_is = λ b. s5 (k + 4) (omega arith) ∙ s4 (k + 4) (omega arith) ∙ s3 (k + 4) (omega arith) ∙ number-with_number_same r1 (k + 4) 4 a0 (omega (arith, l1)) b;
      a1_is = λ b. s5 (k + 8) (omega arith) ∙ s4 (k + 8) (omega arith) ∙ number-with_number_same r2 (k + 8) 4 a1 (omega (arith, l2)) b;
      cause_is = λ b. s5 (k + 12) (omega arith) ∙ number-with_number_same r3 (k + 12) 4 cause (omega (arith, l3)) b;
      pc_is = λ b. number-with_number_same r4 (k + 16) 4 pc (omega (arith, l4)) b;
      others = λ j o.
          slice_index-with_number r4 (k + 16) 4 pc j (omega (arith, l4)) (within j 16 (omega arith) o)
          ∙ slice_index-with_number r3 (k + 12) 4 cause j (omega (arith, l3)) (within j 12 (omega arith) o)
          ∙ slice_index-with_number r2 (k + 8) 4 a1 j (omega (arith, l2)) (within j 8 (omega arith) o)
          ∙ slice_index-with_number r1 (k + 4) 4 a0 j (omega (arith, l1)) (within j 4 (omega arith) o)
          ∙ slice_index-with_number ram k 4 ra j (omega arith) (⊎_elim (λ (a : j < k). inl a) (λ (b : k + 32 ≤ j). inr (omega arith)) o);
    }
  where
    within : (j d : ℕ) → d ≤ 28 → (j < k) ⊎ (k + 32 ≤ j) → (j < k + d) ⊎ (k + d + 4 ≤ j)
    within j d q o = ⊎_elim (λ (a : j < k). inl (omega arith)) (λ (b : k + 32 ≤ j). inr (omega arith)) o

pub framed_agree : (ram ram' new : List ℕ) (dead : List Bool) (k ra a0 a1 cause pc : ℕ) → k + 32 ≤ BANK_LEN → IsFramed ram k ra a0 a1 cause pc new → Agree ram ram' dead → Agree new ram' (marked dead k 32 true)
framed_agree ram ram' new dead k ra a0 a1 cause pc l f a = record {
  long = f.long ∙ a.long;
  other_long = a.other_long;
  marks = length-marked 32 dead k true ∙ a.marks;
  at = λ j e.
      let out : (j < k) ⊎ (k + 32 ≤ j) = ⊎_elim
      (λ (q : j < k). inl q)
      (λ (q : k ≤ j). ⊎_elim
      (λ (r : j < k + 32). absurd (true≢false (sym (marked_true 32 dead k j (omega (arith, a.marks)) q r) ∙ e)))
      (λ (r : k + 32 ≤ j). inr r)
      (cases_lt j (k + 32)))
      (cases_lt j k) in
      f.others j out ∙ a.at j (sym (marked_other 32 dead k true j out) ∙ e);
}
