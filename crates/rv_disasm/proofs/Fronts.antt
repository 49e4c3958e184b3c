-- What stands first in bytes fits, and its bytes are those bytes.
use Rattle.std.proofs.Common.{◌≡◌, ℕ, zero, suc, ◌+◌, ◌*◌, ◌/◌, ◌%◌, ◌^◌, ◌<◌, List, [], ◌∷◌, ◌++◌, length, take, drop, get_or, Option, Some, None, Bool, true, false, cond, refl, sym, ap, subst, ◌∙◌, arith, w16, w32, lit<}
use Rattle.std.specs.Prelude.{◌==◌}
use Rattle.std.specs.Int.{to_le_bytes}
use Rattle.std.proofs.lemmas.List.{take-append-drop}
use Rattle.std.proofs.lemmas.Bool.{lt-ltb}
use Rattle.std.proofs.lemmas.Nat.{le_bytes_4}
use Rattle.rv_encoding.specs.Rows.{spelled, canonical}
use Rattle.rv_encoding.specs.declared.instruction.Ins.{Ins}
use Rattle.rv_encoding.proofs.Apart.{spelled_spells}
use Rattle.rv_encoding.proofs.FieldsFit.{spelled_fits}
use Rattle.rv_encoding.proofs.IgnoredBits.{canonical_word, true_canonical}
use Rattle.rvc_encoding.specs.Rows.{spelled16}
use Rattle.rvc_encoding.specs.declared.compressed.Cins.{Cins}
use Rattle.rvc_encoding.proofs.Apart.{spelled_spells as half_spelled_spells}
use Rattle.rvc_encoding.proofs.Again.{half-spells, fits-spells}
use Rattle.hart_memory.specs.Memory.{AreBytes}
use Rattle.asm_forms.specs.Operations.{bytes_of}
use Rattle.rv_disasm.specs.Fitting.{statement_fits}
use Rattle.rv_disasm.specs.Listing.{short_or, long_or, word_statement, long_first, first_statement, size_of, further, listed}
use Rattle.rv_disasm.specs.declared.statement.Statement.{Statement}
use Rattle.rv_disasm.specs.declared.statement.Statement.TheVariants.{Byte, Half, Word}
use Rattle.rv_disasm.proofs.Sentences.{operation_for}

-- a statement that puts these bytes
pub record Puts (s : Statement) (bs : List ℕ) : Type 0 where
  pub fitting : statement_fits s ≡ true
  pub bytes : bytes_of (operation_for s) ≡ bs
  pub size : size_of s ≡ length bs
  pub some : size_of s ≡ further s + 1

low_half : (a b : ℕ) → a < 256 → b < 256 → to_le_bytes w16 (a + 256 * b) ≡ a ∷ b ∷ []
low_half a b h k =
    let low : (a + 256 * b) % 256 ≡ a = omega arith in
    let high : (a + 256 * b) / 256 % 256 ≡ b = omega arith in
    ap (λ x. x ∷ (a + 256 * b) / 256 % 256 ∷ []) low ∙ ap (λ x. a ∷ x ∷ []) high

small_word : (a b c d : ℕ) → a < 256 → b < 256 → c < 256 → d < 256 → (i : ℕ) → get_or (a ∷ b ∷ c ∷ d ∷ []) i 0 < 256
small_word a b c d h k l m zero = h
small_word a b c d h k l m (suc zero) = k
small_word a b c d h k l m (suc (suc zero)) = l
small_word a b c d h k l m (suc (suc (suc zero))) = m
small_word a b c d h k l m (suc (suc (suc (suc i)))) = lit< tt

low_word : (a b c d : ℕ) → a < 256 → b < 256 → c < 256 → d < 256 → to_le_bytes w32 (a + 256 * b + 65536 * (c + 256 * d)) ≡ a ∷ b ∷ c ∷ d ∷ []
low_word a b c d h k l m = le_bytes_4 (a ∷ b ∷ c ∷ d ∷ []) (a + 256 * b + 65536 * (c + 256 * d)) refl (small_word a b c d h k l m) (omega arith)

puts_byte : (a : ℕ) → a < 256 → Puts (Byte a) (a ∷ [])
unfolding bytes_of statement_fits
puts_byte a h = record { fitting = lt-ltb a 256 h; bytes = refl; size = refl; some = refl }

puts_half : (h : ℕ) (a b : ℕ) → h ≡ a + 256 * b → a < 256 → b < 256 → Puts (Half h) (a ∷ b ∷ [])
unfolding bytes_of statement_fits
puts_half h a b e k l = record { fitting = lt-ltb h 65536 (omega arith); bytes = ap (to_le_bytes w16) e ∙ low_half a b k l; size = refl; some = refl }

puts_word : (w a b c d : ℕ) → w ≡ a + 256 * b + 65536 * (c + 256 * d) → a < 256 → b < 256 → c < 256 → d < 256 → Puts (Word w) (a ∷ b ∷ c ∷ d ∷ [])
unfolding bytes_of statement_fits
puts_word w a b c d e h k l m = record { fitting = lt-ltb w (2 ^ 32) (omega arith); bytes = ap (to_le_bytes w32) e ∙ low_word a b c d h k l m; size = refl; some = refl }

puts_short : (h : ℕ) (o : Option Cins) (a b : ℕ) → spelled16 h ≡ o → h ≡ a + 256 * b → a < 256 → b < 256 → Puts (short_or o h) (a ∷ b ∷ [])
unfolding bytes_of statement_fits
puts_short h None a b s e k l = puts_half h a b e k l
puts_short h (Some c) a b s e k l =
    let spells = half_spelled_spells h c s in
    let small : h < 65536 = omega arith in
    record { fitting = fits-spells h c small spells; bytes = ap (to_le_bytes w16) (half-spells h c small spells ∙ e) ∙ low_half a b k l; size = refl; some = refl }

puts_long : (w : ℕ) (t : Bool) (o : Option Ins) (a b c d : ℕ) → canonical w ≡ t → spelled w ≡ o → w ≡ a + 256 * b + 65536 * (c + 256 * d) → a < 256 → b < 256 → c < 256 → d < 256 → Puts (long_or t o w) (a ∷ b ∷ c ∷ d ∷ [])
unfolding bytes_of statement_fits
puts_long w false o a b c d t s e h k l m = puts_word w a b c d e h k l m
puts_long w true None a b c d t s e h k l m = puts_word w a b c d e h k l m
puts_long w true (Some i) a b c d t s e h k l m =
    let spells = spelled_spells w i s in
    let small : w < 2 ^ 32 = omega arith in
    let word = canonical_word w i small spells (true_canonical w t) in
    record { fitting = spelled_fits w i spells; bytes = ap (to_le_bytes w32) (sym word ∙ e) ∙ low_word a b c d h k l m; size = refl; some = refl }

puts_of_word : (a b c d : ℕ) → a < 256 → b < 256 → c < 256 → d < 256 → Puts (word_statement (a + 256 * b + 65536 * (c + 256 * d))) (a ∷ b ∷ c ∷ d ∷ [])
unfolding word_statement
puts_of_word a b c d h k l m = let w = a + 256 * b + 65536 * (c + 256 * d) in puts_long w (canonical w) (spelled w) a b c d refl refl refl h k l m

-- a statement takes the first bytes
pub record Takings (s : Statement) (b : ℕ) (bs : List ℕ) : Type 0 where
  pub more : ℕ
  pub puts : Puts s (b ∷ take more bs)
  pub count : length (take more bs) ≡ more

long_takings : (a b : ℕ) (bs : List ℕ) → a < 256 → b < 256 → AreBytes bs → Takings (long_first (a + 256 * b) bs) a (b ∷ bs)
long_takings a b [] h k r = record { more = 1; puts = puts_half (a + 256 * b) a b refl h k; count = refl }
long_takings a b (c ∷ []) h k r = record { more = 1; puts = puts_half (a + 256 * b) a b refl h k; count = refl }
long_takings a b (c ∷ d ∷ bs) h k r = record { more = 3; puts = puts_of_word a b c d h k (r 0) (r 1); count = refl }

pub takings : (b : ℕ) (bs : List ℕ) → b < 256 → AreBytes bs → Takings (first_statement b bs) b bs
unfolding first_statement
takings a [] h r = record { more = 0; puts = puts_byte a h; count = refl }
takings a (b ∷ bs) h r = by_test ((a + 256 * b) % 4 == 3)
  where
    by_test : (t : Bool) → Takings (cond t (long_first (a + 256 * b) bs) (short_or (spelled16 (a + 256 * b)) (a + 256 * b))) a (b ∷ bs)
    by_test true = long_takings a b bs h (r 0) (λ k. r (suc k))
    by_test false = record { more = 1; puts = puts_short (a + 256 * b) (spelled16 (a + 256 * b)) a b refl refl h (r 0); count = refl }

-- the statements of a listing put its bytes
abbrev pub ArePuts : List Statement → List ℕ → Type 0
ArePuts [] bs = bs ≡ []
ArePuts (s ∷ ss) bs = (front : List ℕ) × (rest : List ℕ) × Puts s front × (bs ≡ front ++ rest) × ArePuts ss rest

pub listed_puts : (skip : ℕ) (bs : List ℕ) → AreBytes bs → ArePuts (listed skip bs) (drop skip bs)
listed_puts zero [] r = refl
listed_puts (suc skip) [] r = refl
listed_puts (suc skip) (b ∷ bs) r = listed_puts skip bs (λ k. r (suc k))
listed_puts zero (b ∷ bs) r =
    let t = takings b bs (r 0) (λ k. r (suc k)) in
    let k : further (first_statement b bs) ≡ t.more = omega (arith, t.puts.some, t.puts.size, t.count) in
    (b ∷ take t.more bs, drop t.more bs, t.puts, ap (λ x. b ∷ x) (sym (take-append-drop t.more bs)), subst (λ (n : ℕ). ArePuts (listed n bs) (drop t.more bs)) (sym k) (listed_puts t.more bs (λ k. r (suc k))))
