-- Writing to a register what it reads changes nothing. Row by row of the two tables: where a row reads the word, the fields
-- that it writes are those that stand there.
use Rattle.std.proofs.Common.{◌≡◌, ℕ, ◌==◌, cond, Bool, true, false, Option, Some, None, IsTrue, refl, ap, sym, subst, ◌∙◌, arith}
use Rattle.std.proofs.lemmas.Bool.Decides.{nat_tests}
use Rattle.hart_words.specs.Bits.{bits}
use Rattle.csr_file.specs.CsrState.{CsrState, IsCsrState}
use Rattle.csr_file.specs.Views.{bit, is_set, with_mstatus, with_mcause, IsMstatus, IsMcause}
use Rattle.csr_file.proofs.Bits.{mstatus_bits, mcause_bits}
use Rattle.csr_file.specs.Table.{read, written, is_read_only}

-- a test of the number that goes the same way in both tables
row : (test : Bool) (shown word : ℕ) (fields c : CsrState) (other_shown : Option ℕ) (other_fields : Option CsrState) → (word ≡ shown → fields ≡ c) → (other_shown ≡ Some word → other_fields ≡ Some c) → cond test (Some shown) other_shown ≡ Some word → cond test (Some fields) other_fields ≡ Some c
row true shown word fields c r w here there h = ap (λ x. Some x) (here (sym cc))
row false shown word fields c r w here there h = there h

-- the rows that are read-only
read_only : (number word : ℕ) (c : CsrState) (k shown : ℕ) (other : Option ℕ) (fields : Option CsrState) → is_read_only k ≡ true → ¬ IsTrue (is_read_only number) → (other ≡ Some word → fields ≡ Some c) → cond (number == k) (Some shown) other ≡ Some word → fields ≡ Some c
read_only number word c k shown other fields e n there h = grind (arith, nat_tests, there)

is_set-bit : (b : Bool) (n : ℕ) → n ≡ bit b → (n == 1) ≡ b
is_set-bit true n e = grind (arith, nat_tests)
is_set-bit false n e = grind (arith, nat_tests)

mstatus_again : (c : CsrState) (word : ℕ) → IsMstatus c word → with_mstatus c word ≡ c
mstatus_again c word b =
    ap (λ x. record c { mie = x; mpie = is_set word 7 }) (is_set-bit c.mie _ b.mie)
    ∙ ap (λ x. record c { mpie = x }) (is_set-bit c.mpie _ b.mpie)

mcause_again : (c : CsrState) (word : ℕ) → IsMcause c word → with_mcause c word ≡ c
mcause_again c word b =
    ap (λ x. record c { interrupt = x; mpie = is_set word 27; mpil = bits word 16 8; exccode = bits word 0 12 }) (is_set-bit c.interrupt _ b.interrupt)
    ∙ ap (λ x. record c { mpie = x; mpil = bits word 16 8; exccode = bits word 0 12 }) (is_set-bit c.mpie _ b.mpie)
    ∙ ap (λ x. record c { mpil = x; exccode = bits word 0 12 }) b.mpil
    ∙ ap (λ x. record c { exccode = x }) b.exccode

pub written_back : (c : CsrState) (number word : ℕ) → IsCsrState c → read c number ≡ Some word → ¬ IsTrue (is_read_only number) → written c number word ≡ Some c
unfolding read written
written_back c number word h r n =
    row (number == 0x300) _ word _ c _ _ (λ e. mstatus_again c word (subst (IsMstatus c) (sym e) (mstatus_bits c)))
    (row (number == 0x301) _ word _ c _ _ (λ e. refl)
    (row (number == 0x304) _ word _ c _ _ (λ e. refl)
    (row (number == 0x305) _ word _ c _ _ (λ e. ap (λ x. record c { mtvec_base = x }) (let f = h.mtvec_base.0 in omega arith))
    (row (number == 0x307) _ word _ c _ _ (λ e. ap (λ x. record c { mtvt = x }) (let f = h.mtvt.0 in omega arith))
    (row (number == 0x340) _ word _ c _ _ (λ e. ap (λ x. record c { mscratch = x }) e)
    (row (number == 0x341) _ word _ c _ _ (λ e. ap (λ x. record c { mepc = x }) (let f = h.mepc.0 in omega arith))
    (row (number == 0x342) _ word _ c _ _ (λ e. mcause_again c word (subst (IsMcause c) (sym e) (mcause_bits c h)))
    (row (number == 0x343) _ word _ c _ _ (λ e. ap (λ x. record c { mtval = x }) e)
    (row (number == 0x344) _ word _ c _ _ (λ e. refl)
    (row (number == 0x347) _ word _ c _ _ (λ e. ap (λ x. record c { th = x }) (omega (arith, h.th)))
    (read_only number word c 0xFB1 _ _ None refl n
    (read_only number word c 0xF11 _ _ None refl n
    (read_only number word c 0xF12 _ _ None refl n
    (read_only number word c 0xF13 _ _ None refl n
    (read_only number word c 0xF14 _ _ None refl n (λ e. cc)))))))))))))))) r
