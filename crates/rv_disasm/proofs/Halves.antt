-- What a compressed instruction's operands make, row by row.
use Rattle.std.proofs.Common.{◌≡◌, ℕ, zero, suc, ◌*◌, ◌/◌, ◌%◌, ◌^◌, ◌<◌, List, true, refl, sym, ap, subst, ◌∙◌, arith}
use Rattle.std.specs.Prelude.{nat_lt, ◌&&◌, ◌==◌}
use Rattle.std.specs.declared.result.Result.TheVariants.{Ok}
use Rattle.std.proofs.lemmas.Bool.{and_parts, ltb-true, lt-ltb, eqb-true}
use Rattle.std.proofs.lemmas.Bool.Decides.{nat_tests}
use Rattle.rvc_encoding.specs.Fields.{names, Short as ShortRegister, spells_value, none, number, amount, stack_sum, word_offset, jump, branch, stack_change, upper, stack_load, stack_store}
use Rattle.rvc_encoding.specs.Rows.{row_of, allowed}
use Rattle.rvc_encoding.specs.Fits.{fits_row}
use Rattle.rvc_encoding.specs.declared.compressed.Cins.{Cins}
use Rattle.rvc_encoding.specs.declared.row.CRow.{CRow}
use Rattle.rvc_encoding.specs.declared.row.CRow.TheVariants.{Addi4spn, Lw, Sw, Nop, Addi, Jal, Li, Addi16sp, Lui, Srli, Srai, Andi, Sub, Xor, Or, And, J, Beqz, Bnez, Slli, Lwsp, Jr, Mv, Ebreak, Jalr, Add, Swsp}
use Rattle.asm_forms.specs.Operations.{made, operation_fits, extent_of}
use Rattle.rv_assembler.specs.Source.{resolved}
use Rattle.asm_forms.specs.Forms.{stack_sum as stack_sum_items, short_load, short_store, nothing, short_signed, rd_short_signed, target, stack_change as stack_change_items, upper as upper_items, short_shift, rd_rs1, rd_target, stack_load as stack_load_items, rd as rd_items, stack_store as stack_store_items}
use Rattle.asm_fields.specs.declared.item.Item.{Item}
use Rattle.asm_forms.specs.declared.kind.Kind.TheVariants.{Short as ShortKind}
use Rattle.asm_forms.specs.declared.operation.Operation.TheVariants.{Compressed}
use Rattle.asm_forms.specs.declared.extent.Extent.TheVariants.{Takes}
use Rattle.rv_disasm.specs.Shown.{values, row_for}
use Rattle.rv_disasm.specs.Fitting.{is_word, is_near_zero}
use Rattle.rv_disasm.proofs.Again.{three}
use Rattle.rv_disasm.proofs.Shapes.{Makes, distance_back}

abbrev pub cins : CRow → ℕ → ℕ → ℕ → Cins
cins row a b imm = record { row = row; a = a; b = b; imm = imm }

-- a compressed instruction
abbrev pub MakesHalf : ℕ → List Item → CRow → ℕ → ℕ → ℕ → Type 0
MakesHalf p items row a b imm = Makes p items (ShortKind row) (values a b 0 0 imm) (Compressed (cins row a b imm)) (Takes 2)

-- ---- what a row's fields can hold

pub record Holds (row : CRow) (a b imm : ℕ) : Type 0 where
  pub first : names (row_of row).first a ≡ true
  pub second : names (row_of row).second b ≡ true
  pub immediate : spells_value (row_of row).immediate imm ≡ true

pub holds : (row : CRow) (a b imm : ℕ) → fits_row (cins row a b imm) ≡ true → Holds row a b imm
holds row a b imm h =
    let t = and_parts (names (row_of row).first a && names (row_of row).second b && spells_value (row_of row).immediate imm) (allowed (cins row a b imm)) h in
    let u = three (names (row_of row).first a) (names (row_of row).second b) (spells_value (row_of row).immediate imm) t.0 in
    record { first = u.0; second = u.1; immediate = u.2 }

short_register : (r : ℕ) → names (ShortRegister 7) r ≡ true → nat_lt r 32 ≡ true
short_register r h = grind (arith, nat_tests)

always_below : (n r : ℕ) → n < 32 → (r == n) ≡ true → nat_lt r 32 ≡ true
always_below n r l h = let e = eqb-true r n h in lt-ltb r 32 (omega arith)

pub no_number : (imm : ℕ) → spells_value none imm ≡ true → imm ≡ 0
no_number imm h = grind (arith, nat_tests)

six_bits : (imm : ℕ) → spells_value number imm ≡ true → is_near_zero 32 imm ≡ true
six_bits imm h = grind (arith, nat_tests)

an_amount : (imm : ℕ) → spells_value amount imm ≡ true → nat_lt imm 32 ≡ true
an_amount imm h = grind (arith, nat_tests)

a_sum : (imm : ℕ) → spells_value stack_sum imm ≡ true → nat_lt imm 1024 ≡ true
a_sum imm h = grind (arith, nat_tests)

an_offset : (imm : ℕ) → spells_value word_offset imm ≡ true → nat_lt imm 128 ≡ true
an_offset imm h = grind (arith, nat_tests)

a_jump : (imm : ℕ) → spells_value jump imm ≡ true → is_word imm ≡ true
a_jump imm h = grind (arith, nat_tests)

a_branch : (imm : ℕ) → spells_value branch imm ≡ true → is_word imm ≡ true
a_branch imm h = grind (arith, nat_tests)

a_change : (imm : ℕ) → spells_value stack_change imm ≡ true → is_near_zero 512 imm ≡ true
a_change imm h = grind (arith, nat_tests)

an_upper : (imm : ℕ) → spells_value upper imm ≡ true → is_word imm ≡ true
an_upper imm h = grind (arith, nat_tests)

upper_zeros : (imm : ℕ) → spells_value upper imm ≡ true → (imm % 4096 == 0) ≡ true
upper_zeros imm h = (and_parts (imm % 2 ^ 12 == 0) _ h).0

a_load : (imm : ℕ) → spells_value stack_load imm ≡ true → nat_lt imm 256 ≡ true
a_load imm h = grind (arith, nat_tests)

a_store : (imm : ℕ) → spells_value stack_store imm ≡ true → nat_lt imm 256 ≡ true
a_store imm h = grind (arith, nat_tests)

-- ---- fields that a row lacks are 0

without_b : (p : ℕ) (items : List Item) (row : CRow) (a b imm : ℕ) → (b == 0) ≡ true → fits_row (cins row a b imm) ≡ true → (fits_row (cins row a 0 imm) ≡ true → MakesHalf p items row a 0 imm) → MakesHalf p items row a b imm
without_b p items row a b imm e h f =
    let z = eqb-true b 0 e in
    subst (λ (n : ℕ). MakesHalf p items row a n imm) (sym z) (f (subst (λ (n : ℕ). fits_row (cins row a n imm) ≡ true) z h))

without_a : (p : ℕ) (items : List Item) (row : CRow) (a b imm : ℕ) → (a == 0) ≡ true → fits_row (cins row a b imm) ≡ true → (fits_row (cins row 0 b imm) ≡ true → MakesHalf p items row 0 b imm) → MakesHalf p items row a b imm
without_a p items row a b imm e h f =
    let z = eqb-true a 0 e in
    subst (λ (n : ℕ). MakesHalf p items row n b imm) (sym z) (f (subst (λ (n : ℕ). fits_row (cins row n b imm) ≡ true) z h))

without_number : (p : ℕ) (items : List Item) (row : CRow) (a b imm : ℕ) → imm ≡ 0 → fits_row (cins row a b imm) ≡ true → (fits_row (cins row a b 0) ≡ true → MakesHalf p items row a b 0) → MakesHalf p items row a b imm
without_number p items row a b imm z h f =
    subst (λ (n : ℕ). MakesHalf p items row a b n) (sym z) (f (subst (λ (n : ℕ). fits_row (cins row a b n) ≡ true) z h))

-- ---- shapes

sum_shape : (row : CRow) (a b imm p : ℕ) → nat_lt a 32 ≡ true → nat_lt b 32 ≡ true → nat_lt imm 1024 ≡ true → fits_row (cins row a b imm) ≡ true → MakesHalf p stack_sum_items row a b imm
unfolding made extent_of operation_fits resolved
sum_shape row a b imm p x y z h = record { fit = simp (x, y, z); extent = refl; first = h; number = imm; resolved = λ s. refl; made = refl; fits = h }

load_shape : (row : CRow) (a b imm p : ℕ) → nat_lt a 32 ≡ true → nat_lt b 32 ≡ true → nat_lt imm 128 ≡ true → fits_row (cins row a b imm) ≡ true → MakesHalf p short_load row a b imm
unfolding made extent_of operation_fits resolved
load_shape row a b imm p x y z h = record { fit = simp (x, y, z); extent = refl; first = h; number = imm; resolved = λ s. refl; made = refl; fits = h }

store_shape : (row : CRow) (a b imm p : ℕ) → nat_lt a 32 ≡ true → nat_lt b 32 ≡ true → nat_lt imm 128 ≡ true → fits_row (cins row a b imm) ≡ true → MakesHalf p short_store row a b imm
unfolding made extent_of operation_fits resolved
store_shape row a b imm p x y z h = record { fit = simp (x, y, z); extent = refl; first = h; number = imm; resolved = λ s. refl; made = refl; fits = h }

number_shape : (row : CRow) (imm p : ℕ) → is_near_zero 32 imm ≡ true → fits_row (cins row 0 0 imm) ≡ true → MakesHalf p short_signed row 0 0 imm
unfolding made extent_of operation_fits resolved
number_shape row imm p z h = record { fit = simp z; extent = refl; first = h; number = imm; resolved = λ s. refl; made = refl; fits = h }

rd_number_shape : (row : CRow) (a imm p : ℕ) → nat_lt a 32 ≡ true → is_near_zero 32 imm ≡ true → fits_row (cins row a 0 imm) ≡ true → MakesHalf p rd_short_signed row a 0 imm
unfolding made extent_of operation_fits resolved
rd_number_shape row a imm p x z h = record { fit = simp (x, z); extent = refl; first = h; number = imm; resolved = λ s. refl; made = refl; fits = h }

change_shape : (row : CRow) (a imm p : ℕ) → nat_lt a 32 ≡ true → is_near_zero 512 imm ≡ true → fits_row (cins row a 0 imm) ≡ true → MakesHalf p stack_change_items row a 0 imm
unfolding made extent_of operation_fits resolved
change_shape row a imm p x z h = record { fit = simp (x, z); extent = refl; first = h; number = imm; resolved = λ s. refl; made = refl; fits = h }

shift_shape : (row : CRow) (a imm p : ℕ) → nat_lt a 32 ≡ true → nat_lt imm 32 ≡ true → fits_row (cins row a 0 imm) ≡ true → MakesHalf p short_shift row a 0 imm
unfolding made extent_of operation_fits resolved
shift_shape row a imm p x z h = record { fit = simp (x, z); extent = refl; first = h; number = imm; resolved = λ s. refl; made = refl; fits = h }

pair_shape : (row : CRow) (a b p : ℕ) → nat_lt a 32 ≡ true → nat_lt b 32 ≡ true → fits_row (cins row a b 0) ≡ true → MakesHalf p rd_rs1 row a b 0
unfolding made extent_of operation_fits resolved
pair_shape row a b p x y h = record { fit = simp (x, y); extent = refl; first = h; number = 0; resolved = λ s. refl; made = refl; fits = h }

rd_shape : (row : CRow) (a p : ℕ) → nat_lt a 32 ≡ true → fits_row (cins row a 0 0) ≡ true → MakesHalf p rd_items row a 0 0
unfolding made extent_of operation_fits resolved
rd_shape row a p x h = record { fit = simp x; extent = refl; first = h; number = 0; resolved = λ s. refl; made = refl; fits = h }

stack_load_shape : (row : CRow) (a b imm p : ℕ) → nat_lt a 32 ≡ true → nat_lt b 32 ≡ true → nat_lt imm 256 ≡ true → fits_row (cins row a b imm) ≡ true → MakesHalf p stack_load_items row a b imm
unfolding made extent_of operation_fits resolved
stack_load_shape row a b imm p x y z h = record { fit = simp (x, y, z); extent = refl; first = h; number = imm; resolved = λ s. refl; made = refl; fits = h }

stack_store_shape : (row : CRow) (a b imm p : ℕ) → nat_lt a 32 ≡ true → nat_lt b 32 ≡ true → nat_lt imm 256 ≡ true → fits_row (cins row a b imm) ≡ true → MakesHalf p stack_store_items row a b imm
unfolding made extent_of operation_fits resolved
stack_store_shape row a b imm p x y z h = record { fit = simp (x, y, z); extent = refl; first = h; number = imm; resolved = λ s. refl; made = refl; fits = h }

nothing_shape : (row : CRow) (p : ℕ) → fits_row (cins row 0 0 0) ≡ true → MakesHalf p nothing row 0 0 0
unfolding made extent_of operation_fits resolved
nothing_shape row p h = record { fit = refl; extent = refl; first = h; number = 0; resolved = λ s. refl; made = refl; fits = h }

-- at first the distance counts as 0
jump_shape : (row : CRow) (imm p : ℕ) → p < 2 ^ 32 → is_word imm ≡ true → fits_row (cins row 0 0 0) ≡ true → fits_row (cins row 0 0 imm) ≡ true → MakesHalf p target row 0 0 imm
unfolding made extent_of operation_fits resolved
jump_shape row imm p l z g h = record { fit = simp z; extent = refl; first = g; number = imm; resolved = λ s. ap Ok (distance_back p imm l (ltb-true imm (2 ^ 32) z)); made = refl; fits = h }

branch_shape : (row : CRow) (a imm p : ℕ) → p < 2 ^ 32 → nat_lt a 32 ≡ true → is_word imm ≡ true → fits_row (cins row a 0 0) ≡ true → fits_row (cins row a 0 imm) ≡ true → MakesHalf p rd_target row a 0 imm
unfolding made extent_of operation_fits resolved
branch_shape row a imm p l x z g h = record { fit = simp (x, z); extent = refl; first = g; number = imm; resolved = λ s. ap Ok (distance_back p imm l (ltb-true imm (2 ^ 32) z)); made = refl; fits = h }

upper_shape : (row : CRow) (a imm p : ℕ) → nat_lt a 32 ≡ true → is_word imm ≡ true → (imm % 4096 == 0) ≡ true → fits_row (cins row a 0 imm) ≡ true → MakesHalf p upper_items row a 0 imm
unfolding made extent_of operation_fits resolved
upper_shape row a imm p x z m h =
    let e = eqb-true (imm % 4096) 0 m in
    let back : imm / 4096 * 4096 ≡ imm = omega arith in
    record { fit = simp (x, z, m); extent = refl; first = ap (λ n. fits_row (cins row a 0 n)) back ∙ h; number = imm; resolved = λ s. ap Ok back; made = refl; fits = h }

-- ---- the rows

pub half : (row : CRow) (a b imm p : ℕ) → p < 2 ^ 32 → fits_row (cins row a b imm) ≡ true → MakesHalf p (row_for (ShortKind row) imm).items row a b imm
unfolding row_for
half Addi4spn a b imm p l h = let t = holds Addi4spn a b imm h in sum_shape Addi4spn a b imm p (short_register a t.first) (always_below 2 b (omega arith) t.second) (a_sum imm t.immediate) h
half Lw a b imm p l h = let t = holds Lw a b imm h in load_shape Lw a b imm p (short_register a t.first) (short_register b t.second) (an_offset imm t.immediate) h
half Sw a b imm p l h = let t = holds Sw a b imm h in store_shape Sw a b imm p (short_register a t.first) (short_register b t.second) (an_offset imm t.immediate) h
half Nop a b zero p l h = let t = holds Nop a b 0 h in without_a p nothing Nop a b 0 t.first h (λ g. without_b p nothing Nop 0 b 0 t.second g (nothing_shape Nop p))
half Nop a b (suc n) p l h = let t = holds Nop a b (suc n) h in without_a p short_signed Nop a b (suc n) t.first h (λ g. without_b p short_signed Nop 0 b (suc n) t.second g (number_shape Nop (suc n) p (six_bits (suc n) t.immediate)))
half Addi a b imm p l h = let t = holds Addi a b imm h in without_b p rd_short_signed Addi a b imm t.second h (rd_number_shape Addi a imm p t.first (six_bits imm t.immediate))
half Li a b imm p l h = let t = holds Li a b imm h in without_b p rd_short_signed Li a b imm t.second h (rd_number_shape Li a imm p t.first (six_bits imm t.immediate))
half Andi a b imm p l h = let t = holds Andi a b imm h in without_b p rd_short_signed Andi a b imm t.second h (rd_number_shape Andi a imm p (short_register a t.first) (six_bits imm t.immediate))
half Jal a b imm p l h = let t = holds Jal a b imm h in without_a p target Jal a b imm t.first h (λ g. without_b p target Jal 0 b imm t.second g (jump_shape Jal imm p l (a_jump imm t.immediate) refl))
half J a b imm p l h = let t = holds J a b imm h in without_a p target J a b imm t.first h (λ g. without_b p target J 0 b imm t.second g (jump_shape J imm p l (a_jump imm t.immediate) refl))
half Addi16sp a b imm p l h = let t = holds Addi16sp a b imm h in without_b p stack_change_items Addi16sp a b imm t.second h (change_shape Addi16sp a imm p (always_below 2 a (omega arith) t.first) (a_change imm t.immediate))
half Lui a b imm p l h = let t = holds Lui a b imm h in without_b p upper_items Lui a b imm t.second h (upper_shape Lui a imm p t.first (an_upper imm t.immediate) (upper_zeros imm t.immediate))
half Srli a b imm p l h = let t = holds Srli a b imm h in without_b p short_shift Srli a b imm t.second h (shift_shape Srli a imm p (short_register a t.first) (an_amount imm t.immediate))
half Srai a b imm p l h = let t = holds Srai a b imm h in without_b p short_shift Srai a b imm t.second h (shift_shape Srai a imm p (short_register a t.first) (an_amount imm t.immediate))
half Slli a b imm p l h = let t = holds Slli a b imm h in without_b p short_shift Slli a b imm t.second h (shift_shape Slli a imm p t.first (an_amount imm t.immediate))
half Sub a b imm p l h = let t = holds Sub a b imm h in without_number p rd_rs1 Sub a b imm (no_number imm t.immediate) h (pair_shape Sub a b p (short_register a t.first) (short_register b t.second))
half Xor a b imm p l h = let t = holds Xor a b imm h in without_number p rd_rs1 Xor a b imm (no_number imm t.immediate) h (pair_shape Xor a b p (short_register a t.first) (short_register b t.second))
half Or a b imm p l h = let t = holds Or a b imm h in without_number p rd_rs1 Or a b imm (no_number imm t.immediate) h (pair_shape Or a b p (short_register a t.first) (short_register b t.second))
half And a b imm p l h = let t = holds And a b imm h in without_number p rd_rs1 And a b imm (no_number imm t.immediate) h (pair_shape And a b p (short_register a t.first) (short_register b t.second))
half Mv a b imm p l h = let t = holds Mv a b imm h in without_number p rd_rs1 Mv a b imm (no_number imm t.immediate) h (pair_shape Mv a b p t.first t.second)
half Add a b imm p l h = let t = holds Add a b imm h in without_number p rd_rs1 Add a b imm (no_number imm t.immediate) h (pair_shape Add a b p t.first t.second)
half Beqz a b imm p l h = let t = holds Beqz a b imm h in without_b p rd_target Beqz a b imm t.second h (λ g. branch_shape Beqz a imm p l (short_register a t.first) (a_branch imm t.immediate) (simp t.first) g)
half Bnez a b imm p l h = let t = holds Bnez a b imm h in without_b p rd_target Bnez a b imm t.second h (λ g. branch_shape Bnez a imm p l (short_register a t.first) (a_branch imm t.immediate) (simp t.first) g)
half Lwsp a b imm p l h = let t = holds Lwsp a b imm h in stack_load_shape Lwsp a b imm p t.first (always_below 2 b (omega arith) t.second) (a_load imm t.immediate) h
half Jr a b imm p l h = let t = holds Jr a b imm h in without_b p rd_items Jr a b imm t.second h (λ g. without_number p rd_items Jr a 0 imm (no_number imm t.immediate) g (rd_shape Jr a p t.first))
half Jalr a b imm p l h = let t = holds Jalr a b imm h in without_b p rd_items Jalr a b imm t.second h (λ g. without_number p rd_items Jalr a 0 imm (no_number imm t.immediate) g (rd_shape Jalr a p t.first))
half Swsp a b imm p l h = let t = holds Swsp a b imm h in stack_store_shape Swsp a b imm p (always_below 2 a (omega arith) t.first) t.second (a_store imm t.immediate) h
half Ebreak a b imm p l h =
    let z = no_number imm (holds Ebreak a b imm h).immediate in
    subst (λ (n : ℕ). MakesHalf p (row_for (ShortKind Ebreak) n).items Ebreak a b n) (sym z) (stop a b p (subst (λ (n : ℕ). fits_row (cins Ebreak a b n) ≡ true) z h))
  where
    stop : (a b p : ℕ) → fits_row (cins Ebreak a b 0) ≡ true → MakesHalf p nothing Ebreak a b 0
    stop a b p h = let t = holds Ebreak a b 0 h in without_a p nothing Ebreak a b 0 t.first h (λ g. without_b p nothing Ebreak 0 b 0 t.second g (nothing_shape Ebreak p))
