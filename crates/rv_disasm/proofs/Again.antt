-- Operands that are printed are read again.
use Rattle.std.proofs.Common.{◌≡◌, ℕ, zero, suc, ◌+◌, ◌-◌, ◌*◌, ◌/◌, ◌%◌, ◌^◌, ◌<◌, ◌≤◌, List, [], ◌∷◌, ◌++◌, length, Option, Some, None, option_and_then, Bool, true, false, cond, refl, sym, ap, subst, ◌∙◌, arith, lit<}
use Rattle.std.specs.Prelude.{nat_lt, nat_le, ◌&&◌, ◌==◌, ℤ, pos, negsuc, ◌-ℤ◌, nat_abs}
use Rattle.std.specs.List.{flat_map}
use Rattle.std.proofs.lemmas.Bool.{and_parts, and_from, cond-true, cond-false, ltb-true, ltb-false, lt-ltb, leb-true, or_right, agree_below, agree_below_at}
use Rattle.std.proofs.lemmas.Bool.Decides.{nat_tests}
use Rattle.std.proofs.lemmas.Int.{ints}
use Rattle.hart_words.specs.TwosComplement.{signed_value}
use Rattle.asm_text.specs.Names.{register_name, csr_name}
use Rattle.asm_text.specs.Words.{Word, NameWord, NumberWord}
use Rattle.asm_text.specs.Pieces.{NamePiece, HexPiece, words_in, is_name, is_mark, is_loose, starts_loose, are_apart, IsReadable, AreReadable}
use Rattle.asm_text.specs.declared.token_kind.TokenKind.{TokenKind}
use Rattle.asm_text.specs.declared.token_kind.TokenKind.TheVariants.{Name, Number, Comma, Colon, Open, Close}
use Rattle.asm_text.proofs.NameLaws.{register_again, csr_again, is_number, meant}
use Rattle.asm_fields.specs.Operands.{Operands, Given, Near}
use Rattle.asm_fields.specs.Fields.{set_of, signed_word, with_rd, with_rs1, with_rs2, with_csr, with_amount, with_number, as_given, as_upper, as_near, read_field, read_items, is_marked, set_in}
use Rattle.asm_fields.specs.declared.field.Field.{Field}
use Rattle.asm_fields.specs.declared.field.Field.TheVariants.{Rd, Rs1, Rs2, Csr, Source, Pred, Succ, Signed, Below, Digits, Upper, Amount, Word as AnyWord, Label, Address, Target}
use Rattle.asm_fields.specs.declared.item.Item.{Item}
use Rattle.asm_fields.specs.declared.item.Item.TheVariants.{Operand, Mark}
use Rattle.rv_disasm.specs.Printing.{letters, set_piece, csr_by, field_piece, items_pieces}
use Rattle.rv_disasm.specs.Fitting.{is_word, is_near_zero, field_fits, starts_with_mark, items_fit}
use Rattle.rv_disasm.specs.declared.values.Values.{Values}

-- the operands with the one that a field prints
abbrev pub given_field : Field → Values → ℕ → Operands → Operands
given_field Rd v p o = record o { rd = v.rd }
given_field Rs1 v p o = record o { rs1 = v.rs1 }
given_field Rs2 v p o = record o { rs2 = v.rs2 }
given_field Csr v p o = record o { csr = v.csr }
given_field Source v p o = record o { rs1 = v.rs1 }
given_field Pred v p o = record o { rs1 = v.rs1 }
given_field Succ v p o = record o { rs2 = v.rs2 }
given_field (Signed half) v p o = record o { number = Given v.number }
given_field (Below limit) v p o = record o { number = Given v.number }
given_field (Digits limit digits) v p o = record o { number = Given v.number }
given_field Upper v p o = record o { number = Given (v.number / 4096 * 4096) }
given_field Amount v p o = record o { amount = v.number }
given_field AnyWord v p o = record o { number = Given v.number }
given_field Label v p o = o
given_field Address v p o = record o { number = Given v.number }
given_field Target v p o = record o { number = Near ((p + v.number) % 2 ^ 32) }

abbrev pub given_items : List Item → Values → ℕ → Operands → Operands
given_items [] v p o = o
given_items (Operand f ∷ is) v p o = given_items is v p (given_field f v p o)
given_items (Mark k ∷ is) v p o = given_items is v p o

pub three : (a b c : Bool) → (a && b && c) ≡ true → (a ≡ true) × (b ≡ true) × (c ≡ true)
three a b c h =
    let t = and_parts (a && b) c h in
    let u = and_parts a b t.0 in
    (u.0, u.1, t.1)

-- ---- sets

abbrev is_kept : ℕ → Bool
is_kept zero = true
is_kept (suc n) = is_number (set_of (letters (suc n))) (suc n) && is_name (letters (suc n))

abbrev pub always : ℕ → Bool
always n = true

all_kept : agree_below is_kept always 16 ≡ true
unfolding set_of
all_kept = refl

pub set_again : (n : ℕ) → suc n < 16 → (set_of (letters (suc n)) ≡ Some (suc n)) × (is_name (letters (suc n)) ≡ true)
set_again n h =
    let t = and_parts (is_number (set_of (letters (suc n))) (suc n)) (is_name (letters (suc n))) (agree_below_at is_kept always 16 (suc n) all_kept h) in
    (meant (set_of (letters (suc n))) (suc n) t.0, t.1)

-- ---- signed numbers

pub value_by : (b : Bool) (n : ℕ) → nat_lt n (2 ^ 31) ≡ b → n < 2 ^ 32 → signed_value n ≡ cond b (pos n) (negsuc (2 ^ 32 - 1 - n))
value_by true n e l = cond-true (nat_lt n (2 ^ 31)) (pos n) (pos n -ℤ pos (2 ^ 32)) e
value_by false n e l =
    let more : 2 ^ 31 ≤ n = ltb-false n (2 ^ 31) e in
    let minus : pos n -ℤ pos (2 ^ 32) ≡ negsuc (2 ^ 32 - 1 - n) = grind (arith, ints) in
    cond-false (nat_lt n (2 ^ 31)) (pos n) (pos n -ℤ pos (2 ^ 32)) e ∙ minus

signed_by : (b : Bool) (half n : ℕ) → nat_lt n (2 ^ 31) ≡ b → half ≤ 2 ^ 31 → n < 2 ^ 32 → is_near_zero half n ≡ true → signed_word half (cond b (pos n) (negsuc (2 ^ 32 - 1 - n))) ≡ Some n
signed_by true half n e h l s = let t : nat_lt n half ≡ true = grind (arith, nat_tests) in cond-true (nat_lt n half) (Some n) None t
signed_by false half n e h l s =
    let t : nat_lt (2 ^ 32 - 1 - n) half ≡ true = grind (arith, nat_tests) in
    cond-true (nat_lt (2 ^ 32 - 1 - n) half) (Some (2 ^ 32 - 1 - (2 ^ 32 - 1 - n))) None t ∙ ap Some (let back : 2 ^ 32 - 1 - (2 ^ 32 - 1 - n) ≡ n = omega arith in back)

pub near_small : (half n : ℕ) → half ≤ 2 ^ 31 → is_near_zero half n ≡ true → n < 2 ^ 32
near_small half n h s = grind (arith, nat_tests)

signed_again : (half n : ℕ) → half ≤ 2 ^ 31 → is_near_zero half n ≡ true → signed_word half (signed_value n) ≡ Some n
signed_again half n h s =
    let l = near_small half n h s in
    ap (signed_word half) (value_by (nat_lt n (2 ^ 31)) n refl l) ∙ signed_by (nat_lt n (2 ^ 31)) half n refl h l s

magnitude_by : (b : Bool) (n : ℕ) → nat_lt n (2 ^ 31) ≡ b → n < 2 ^ 32 → nat_abs (cond b (pos n) (negsuc (2 ^ 32 - 1 - n))) < 2 ^ 32
magnitude_by true n e l = l
magnitude_by false n e l = grind (arith, nat_tests)

magnitude : (n : ℕ) → n < 2 ^ 32 → nat_abs (signed_value n) < 2 ^ 32
magnitude n l =
    let e = value_by (nat_lt n (2 ^ 31)) n refl l in
    subst (λ (z : ℤ). nat_abs z < 2 ^ 32) (sym e) (magnitude_by (nat_lt n (2 ^ 31)) n refl l)

-- ---- one field

pub record Reads (f : Field) (v : Values) (p : ℕ) : Type 0 where
  pub word : Word
  pub words : words_in (field_piece f v p) ≡ word ∷ []
  pub reads : (o : Operands) → read_field f word o ≡ Some (given_field f v p o)
  pub readable : IsReadable (field_piece f v p)
  pub plain : is_marked Colon word ≡ false

csr_reads : (v : Values) (p : ℕ) (name : Option (List ℕ)) → csr_name v.csr ≡ name → v.csr < 4096 → nat_lt v.csr 4096 ≡ true → Reads Csr v p
unfolding read_field field_piece
csr_reads v p (Some t) e l h =
    let again = csr_again t v.csr e in
    let piece : csr_by (csr_name v.csr) v.csr ≡ NamePiece t = ap (λ n. csr_by n v.csr) e in
    record {
      word = NameWord t;
      words = ap words_in piece;
      reads = λ o. ap (λ n. with_csr n o) again.0;
      readable = subst IsReadable (sym piece) again.1;
      plain = refl;
    }
csr_reads v p None e l h =
    let piece : csr_by (csr_name v.csr) v.csr ≡ HexPiece 3 v.csr = ap (λ n. csr_by n v.csr) e in
    record {
      word = NumberWord (pos v.csr);
      words = ap words_in piece;
      reads = λ o. ap (λ n. with_csr n o) (cond-true (nat_lt v.csr 4096) (Some v.csr) None h);
      readable = subst IsReadable (sym piece) (leb-true 1 3 refl, leb-true 3 8 refl, l);
      plain = refl;
    }

-- a set's word
record ReadsSet (n : ℕ) : Type 0 where
  word : Word
  words : words_in (set_piece n) ≡ word ∷ []
  reads : set_in word ≡ Some n
  readable : IsReadable (set_piece n)
  plain : is_marked Colon word ≡ false

reads_set : (n : ℕ) → n < 16 → ReadsSet n
reads_set zero h = record { word = NumberWord (pos 0); words = refl; reads = refl; readable = lit< tt; plain = refl }
reads_set (suc n) h =
    let t = set_again n h in
    record { word = NameWord (letters (suc n)); words = refl; reads = t.0; readable = t.1; plain = refl }

word_hex : (n : ℕ) → n < 2 ^ 32 → IsReadable (HexPiece 8 n)
word_hex n l = (leb-true 1 8 refl, leb-true 8 8 refl, l)

upper_reads : (v : Values) (p : ℕ) → field_fits Upper v ≡ true → Reads Upper v p
unfolding read_field field_piece
upper_reads v p h =
    let t = and_parts (is_word v.number) (v.number % 4096 == 0) h in
    let l = ltb-true v.number (2 ^ 32) t.0 in
    let small : v.number / 4096 < 2 ^ 20 = omega arith in
    record {
      word = NumberWord (pos (v.number / 4096));
      words = refl;
      reads = λ o. ap (λ n. with_number (as_upper n) o) (cond-true (nat_lt (v.number / 4096) (2 ^ 20)) (Some (v.number / 4096)) None (lt-ltb _ _ small));
      readable = (leb-true 1 5 refl, leb-true 5 8 refl, small);
      plain = refl;
    }

digits_reads : (limit digits : ℕ) (v : Values) (p : ℕ) → field_fits (Digits limit digits) v ≡ true → Reads (Digits limit digits) v p
unfolding read_field field_piece
digits_reads limit digits v p h =
    let c = and_parts (nat_le 1 digits && nat_le digits 8 && nat_le limit (16 ^ digits)) (nat_lt v.number limit) h in
    let b = and_parts (nat_le 1 digits && nat_le digits 8) (nat_le limit (16 ^ digits)) c.0 in
    let a = and_parts (nat_le 1 digits) (nat_le digits 8) b.0 in
    let l = ltb-true v.number limit c.1 in
    let m = leb-true limit (16 ^ digits) b.1 in
    record {
      word = NumberWord (pos v.number);
      words = refl;
      reads = λ o. ap (λ n. with_number (as_given n) o) (cond-true (nat_lt v.number limit) (Some v.number) None c.1);
      readable = (leb-true 1 digits a.0, leb-true digits 8 a.1, omega arith);
      plain = refl;
    }

target_reads : (v : Values) (p : ℕ) → Reads Target v p
unfolding read_field field_piece
target_reads v p =
    let l : (p + v.number) % 2 ^ 32 < 2 ^ 32 = omega arith in
    record {
      word = NumberWord (pos ((p + v.number) % 2 ^ 32));
      words = refl;
      reads = λ o. ap (λ n. with_number (as_near n) o) (cond-true (nat_lt ((p + v.number) % 2 ^ 32) (2 ^ 32)) (Some ((p + v.number) % 2 ^ 32)) None (lt-ltb _ _ l));
      readable = word_hex _ l;
      plain = refl;
    }

pub reads_field : (f : Field) (v : Values) (p : ℕ) → field_fits f v ≡ true → Reads f v p
unfolding read_field field_piece
reads_field Rd v p h = let t = register_again v.rd (ltb-true v.rd 32 h) in record { word = NameWord (register_name v.rd); words = refl; reads = λ o. ap (λ n. with_rd n o) t.0; readable = t.1; plain = refl }
reads_field Rs1 v p h = let t = register_again v.rs1 (ltb-true v.rs1 32 h) in record { word = NameWord (register_name v.rs1); words = refl; reads = λ o. ap (λ n. with_rs1 n o) t.0; readable = t.1; plain = refl }
reads_field Rs2 v p h = let t = register_again v.rs2 (ltb-true v.rs2 32 h) in record { word = NameWord (register_name v.rs2); words = refl; reads = λ o. ap (λ n. with_rs2 n o) t.0; readable = t.1; plain = refl }
reads_field Csr v p h = csr_reads v p (csr_name v.csr) refl (ltb-true v.csr 4096 h) h
reads_field Source v p h = let l = ltb-true v.rs1 32 h in record { word = NumberWord (pos v.rs1); words = refl; reads = λ o. ap (λ n. with_rs1 n o) (cond-true (nat_lt v.rs1 32) (Some v.rs1) None h); readable = omega arith; plain = refl }
reads_field Pred v p h = let t = reads_set v.rs1 (ltb-true v.rs1 16 h) in record { word = t.word; words = t.words; reads = λ o. ap (λ n. with_rs1 n o) t.reads; readable = t.readable; plain = t.plain }
reads_field Succ v p h = let t = reads_set v.rs2 (ltb-true v.rs2 16 h) in record { word = t.word; words = t.words; reads = λ o. ap (λ n. with_rs2 n o) t.reads; readable = t.readable; plain = t.plain }
reads_field (Signed half) v p h =
    let t = and_parts (nat_le half (2 ^ 31)) (is_near_zero half v.number) h in
    let m = leb-true half (2 ^ 31) t.0 in
    record { word = NumberWord (signed_value v.number); words = refl; reads = λ o. ap (λ n. with_number (as_given n) o) (signed_again half v.number m t.1); readable = magnitude v.number (near_small half v.number m t.1); plain = refl }
reads_field (Below limit) v p h =
    let t = and_parts (nat_le limit (2 ^ 32)) (nat_lt v.number limit) h in
    let l = ltb-true v.number limit t.1 in
    let m = leb-true limit (2 ^ 32) t.0 in
    record { word = NumberWord (pos v.number); words = refl; reads = λ o. ap (λ n. with_number (as_given n) o) (cond-true (nat_lt v.number limit) (Some v.number) None t.1); readable = omega arith; plain = refl }
reads_field (Digits limit digits) v p h = digits_reads limit digits v p h
reads_field Upper v p h = upper_reads v p h
reads_field Amount v p h = record { word = NumberWord (pos v.number); words = refl; reads = λ o. ap (λ n. with_amount n o) (cond-true (nat_lt v.number (2 ^ 32)) (Some v.number) None h); readable = word_hex v.number (ltb-true v.number (2 ^ 32) h); plain = refl }
reads_field AnyWord v p h = record { word = NumberWord (pos v.number); words = refl; reads = λ o. ap (λ n. with_number (as_given n) o) (cond-true (nat_lt v.number (2 ^ 32)) (Some v.number) None h); readable = word_hex v.number (ltb-true v.number (2 ^ 32) h); plain = refl }
reads_field Label v p h = cc
reads_field Address v p h = record { word = NumberWord (pos v.number); words = refl; reads = λ o. ap (λ n. with_number (as_given n) o) (cond-true (nat_lt v.number (2 ^ 32)) (Some v.number) None h); readable = word_hex v.number (ltb-true v.number (2 ^ 32) h); plain = refl }
reads_field Target v p h = target_reads v p

-- ---- a list of items

abbrev pub words_of_items : List Item → Values → ℕ → List Word
words_of_items is v p = flat_map words_in (items_pieces is v p)

pub reads_items : (is : List Item) (v : Values) (p : ℕ) (o : Operands) → items_fit is v ≡ true → read_items is (words_of_items is v p) o ≡ Some (given_items is v p o)
reads_items [] v p o h = refl
reads_items (Operand f ∷ is) v p o h =
    let t = three (field_fits f v) (starts_with_mark is) (items_fit is v) h in
    let here = reads_field f v p t.0 in
    ap (λ ws. read_items (Operand f ∷ is) (ws ++ words_of_items is v p) o) here.words
    ∙ ap (λ r. option_and_then (read_items is (words_of_items is v p)) r) (here.reads o)
    ∙ reads_items is v p (given_field f v p o) t.2
reads_items (Mark k ∷ is) v p o h = let t = and_parts (is_mark k) _ h in marked k t.0 (reads_items is v p o t.1)
  where
    marked : (k : TokenKind) → is_mark k ≡ true → read_items is (words_of_items is v p) o ≡ Some (given_items is v p o) → read_items (Mark k ∷ is) (words_of_items (Mark k ∷ is) v p) o ≡ Some (given_items is v p o)
    marked Comma m e = e
    marked Colon m e = e
    marked Open m e = e
    marked Close m e = e
    marked Name m e = cc
    marked Number m e = cc

-- the pieces can be read
pub record Parted (is : List Item) (v : Values) (p : ℕ) : Type 0 where
  pub apart : are_apart (items_pieces is v p) ≡ true
  pub readable : AreReadable (items_pieces is v p)
  pub loose : starts_with_mark is ≡ true → starts_loose (items_pieces is v p) ≡ true
  pub count : length (words_of_items is v p) ≡ length is

pub parted : (is : List Item) (v : Values) (p : ℕ) → items_fit is v ≡ true → Parted is v p
parted [] v p h = record { apart = refl; readable = tt; loose = λ e. refl; count = refl }
parted (Operand f ∷ is) v p h =
    let t = three (field_fits f v) (starts_with_mark is) (items_fit is v) h in
    let here = reads_field f v p t.0 in
    let rest = parted is v p t.2 in
    record {
      apart = and_from _ _ (or_right (is_loose (field_piece f v p)) (starts_loose (items_pieces is v p)) (rest.loose t.1)) rest.apart;
      readable = (here.readable, rest.readable);
      loose = λ e. cc;
      count = ap (λ ws. length (ws ++ words_of_items is v p)) here.words ∙ ap (λ n. suc n) rest.count;
    }
parted (Mark k ∷ is) v p h = let t = and_parts (is_mark k) _ h in marked k t.0 (parted is v p t.1)
  where
    marked : (k : TokenKind) → is_mark k ≡ true → Parted is v p → Parted (Mark k ∷ is) v p
    marked Comma m a = record { apart = a.apart; readable = (refl, (tt, a.readable)); loose = λ e. refl; count = ap (λ n. suc n) a.count }
    marked Colon m a = record { apart = a.apart; readable = (refl, a.readable); loose = λ e. refl; count = ap (λ n. suc n) a.count }
    marked Open m a = record { apart = a.apart; readable = (refl, a.readable); loose = λ e. refl; count = ap (λ n. suc n) a.count }
    marked Close m a = record { apart = a.apart; readable = (refl, a.readable); loose = λ e. refl; count = ap (λ n. suc n) a.count }
    marked Name m a = cc
    marked Number m a = cc
