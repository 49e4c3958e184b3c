-- What is known of ROM's instructions.
use Rattle.std.proofs.Common.{◌≡◌, ◌≢◌, ℕ, zero, suc, ◌+◌, ◌*◌, ◌/◌, ◌%◌, ◌<◌, ◌≤◌, ◌⊎◌, inl, inr, List, length, replicate, slice_index_or, slice_set, Bool, true, false, refl, sym, ap, ◌∙◌, subst, arith, length-set}
use Rattle.std.proofs.lemmas.List.{get_or-set_same, get_or-set_other, get_or_past}
use Rattle.std.proofs.lemmas.Bool.{cases_lt}
use Rattle.std.proofs.lemmas.Option.{slice_get_read, get_or_from_slice_get}
use Rattle.hart_exec.specs.Operation.{NamesRegisters}
use Rattle.hart_memory.specs.Memory.{Memory}
use Rattle.hart_memory.specs.Fetch.{fetched}
use Rattle.hart_memory.specs.declared.fetched.Fetched.TheVariants.{Bits}
use Rattle.hart_memory.proofs.FetchLemmas.{fetched_rom_alone}
use Rattle.hart_board.specs.Known.{nothing_known, IsKnown, IsKnownAt, AreKnown, IsBlank, IsKept}
use Rattle.hart_board.specs.declared.known.Known.{Known}
use Rattle.hart_board.specs.declared.known.TheConstants.{KNOWN_LEN}

-- the entries so far are nothing
pub record BlankTo (n : ℕ) (entries : List Known) : Type 0 where
  pub each : (k : ℕ) → k < n → slice_index_or entries k nothing_known ≡ nothing_known

pub blank_replicate : (n : ℕ) → IsBlank (replicate n nothing_known)
unfolding IsBlank
blank_replicate zero k = refl
blank_replicate (suc n) zero = refl
blank_replicate (suc n) (suc k) = blank_replicate n k

one_more : (n : ℕ) (entries : List Known) → BlankTo n entries → n < length entries → (k : ℕ) → (k < n) ⊎ (k ≡ n) → slice_index_or (slice_set entries n nothing_known) k nothing_known ≡ nothing_known
one_more n entries b l k (inl below) =
    let apart : k ≢ n = omega arith in
    get_or-set_other entries n k nothing_known nothing_known apart ∙ b.each k below
one_more n entries b l k (inr here) = rw here (get_or-set_same entries n nothing_known nothing_known l)

at_by : (k n : ℕ) → k < n + 1 → (k < n) ⊎ (n ≤ k) → (k < n) ⊎ (k ≡ n)
at_by k n l (inl below) = inl below
at_by k n l (inr past) = inr (omega arith)

below_or_at : (k n : ℕ) → k < n + 1 → (k < n) ⊎ (k ≡ n)
below_or_at k n l = at_by k n l (cases_lt k n)

pub blank_next : (n : ℕ) (entries : List Known) → BlankTo n entries → n < length entries → BlankTo (n + 1) (slice_set entries n nothing_known)
blank_next n entries b l = record { each = λ k h. one_more n entries b l k (below_or_at k n h) }

all_by : (n : ℕ) (entries : List Known) → BlankTo n entries → length entries ≤ n → (k : ℕ) → (k < n) ⊎ (n ≤ k) → slice_index_or entries k nothing_known ≡ nothing_known
all_by n entries b l k (inl below) = b.each k below
all_by n entries b l k (inr past) = get_or_past entries k nothing_known (omega arith)

pub blank_all : (n : ℕ) (entries : List Known) → BlankTo n entries → length entries ≤ n → IsBlank entries
unfolding IsBlank
blank_all n entries b l = λ k. all_by n entries b l k (cases_lt k n)

-- ---- what is kept of ROM

nothing_is_known : (rom : List ℕ) (k : ℕ) → IsKnownAt rom k nothing_known
nothing_is_known rom k = record { names = record { first = omega arith; second = omega arith }; known = λ ram ins e. absurd cc }

pub blank_known : (rom : List ℕ) (entries : List Known) → IsBlank entries → AreKnown rom entries
unfolding IsBlank AreKnown
blank_known rom entries b = λ k. subst (IsKnownAt rom k) (sym (b k)) (nothing_is_known rom k)

-- where nothing is known, it may be any ROM's
pub blank_kept : (rom : List ℕ) (entries : List Known) → length entries ≡ KNOWN_LEN → IsBlank entries → IsKept rom entries true
blank_kept rom entries l b = record { count = l; known = blank_known rom entries b; blank = λ e. b }

pub kept_of_other : (rom other : List ℕ) (entries : List Known) (is_blank : Bool) → IsKept rom entries is_blank → is_blank ≡ true → IsKept other entries is_blank
kept_of_other rom other entries is_blank h e = record { count = h.count; known = blank_known other entries (h.blank e); blank = h.blank }

-- the entry that is read
pub read : (rom : List ℕ) (entries : List Known) (k : ℕ) (e : Known) → AreKnown rom entries → k < length entries → e ≡ slice_index_or entries k e → IsKnownAt rom k e
unfolding AreKnown
read rom entries k e h l is = subst (IsKnownAt rom k) (get_or_from_slice_get entries k e nothing_known (slice_get_read entries (length entries) k e refl l is)) (h k)

twice : (pc : ℕ) → pc % 2 ≡ 0 → 2 * (pc / 2) ≡ pc
twice pc even = omega arith

pub read_known : (m : Memory) (pc : ℕ) (e : Known) → pc % 2 ≡ 0 → IsKnownAt m.rom (pc / 2) e → IsKnown (fetched m pc) e
read_known m pc e even h = subst (λ a. IsKnown (fetched m a) e) (twice pc even) (h.known m.ram)

-- ---- what is learnt
same_by : (j k : ℕ) → (k < j) ⊎ (j ≤ k) → (j < k) ⊎ (k ≤ j) → (k ≡ j) ⊎ (k ≢ j)
same_by j k (inl l) other = inr (omega arith)
same_by j k (inr g) (inl l) = inr (omega arith)
same_by j k (inr g) (inr h) = inl (omega arith)

same_or_not : (j k : ℕ) → (k ≡ j) ⊎ (k ≢ j)
same_or_not j k = same_by j k (cases_lt k j) (cases_lt j k)

module _ (m : Memory) (pc : ℕ) (entry : Known) (even : pc % 2 ≡ 0) (room : pc < 2 * KNOWN_LEN)
    (names : NamesRegisters entry.operation) (known : IsKnown (fetched m pc) entry) where
  anywhere : (ram : List ℕ) → Bits entry.encoding.bits entry.encoding.length ≡ fetched m pc → Bits entry.encoding.bits entry.encoding.length ≡ fetched (record { rom = m.rom; ram = ram }) (2 * (pc / 2))
  anywhere ram bits = bits ∙ fetched_rom_alone m.rom m.ram ram pc (omega arith) ∙ ap (fetched (record { rom = m.rom; ram = ram })) (sym (twice pc even))

  entry_known : IsKnownAt m.rom (pc / 2) entry
  entry_known = record { names = names; known = λ ram i e. (anywhere ram (known i e).0, (known i e).1) }

  learnt_at : (entries : List Known) → AreKnown m.rom entries → pc / 2 < length entries → (k : ℕ) → (k ≡ pc / 2) ⊎ (k ≢ pc / 2) → IsKnownAt m.rom k (slice_index_or (slice_set entries (pc / 2) entry) k nothing_known)
  unfolding AreKnown
  learnt_at entries h l k (inl here) = rw (here, get_or-set_same entries (pc / 2) entry nothing_known l) entry_known
  learnt_at entries h l k (inr apart) = subst (IsKnownAt m.rom k) (sym (get_or-set_other entries (pc / 2) k entry nothing_known apart)) (h k)

  learnt_known : (entries : List Known) → AreKnown m.rom entries → pc / 2 < length entries → AreKnown m.rom (slice_set entries (pc / 2) entry)
  unfolding AreKnown
  learnt_known entries h l = λ k. learnt_at entries h l k (same_or_not (pc / 2) k)

  pub learnt : (entries : List Known) (is_blank : Bool) → IsKept m.rom entries is_blank → IsKept m.rom (slice_set entries (pc / 2) entry) false
  learnt entries is_blank h = record {
    count = length-set entries (pc / 2) entry ∙ h.count;
    known = learnt_known entries h.known (omega (arith, h.count));
    blank = λ e. absurd cc;
  }
