-- What is printed as pieces is read as their words.
use Rattle.std.proofs.Common.{◌≡◌, ℕ, suc, ◌+◌, ◌^◌, ◌<◌, ◌≤◌, List, [], ◌∷◌, ◌++◌, drop, take, length, Some, None, Bool, true, false, cond, refl, ap, ◌∙◌, arith}
use Rattle.std.specs.Prelude.{◌&&◌, ◌||◌, ◌==◌, ℤ, pos, negsuc, ◌⊎◌}
use Rattle.std.proofs.Common.{inl, inr, lit<}
use Rattle.std.proofs.Math.Nat.{pow-le-pow_right}
use Rattle.std.specs.List.{flat_map, prefix_len}
use Rattle.std.proofs.lemmas.Bool.Decides.{nat_tests}
use Rattle.std.proofs.Math.Seq.{take-append_seam, drop-append_seam}
use Rattle.std.specs.Fmt.{decimal}
use Rattle.asm_text.specs.declared.byte_class.ByteClass.TheVariants.{NameStart, Digit}
use Rattle.asm_text.specs.declared.token_kind.TokenKind.{TokenKind}
use Rattle.asm_text.specs.declared.token_kind.TokenKind.TheVariants.{Name, Number, Comma, Colon, Open, Close}
use Rattle.asm_text.specs.Bytes.{is_digit, is_number_byte, is_name_byte, begins_name, class_of}
use Rattle.asm_text.specs.Numbers.{digits_after, bounded, digits_in, magnitude, number_of, is_hexadecimal, below_zero, above_zero}
use Rattle.asm_text.specs.Words.{Word, NameWord, NumberWord, MarkWord}
use Rattle.asm_text.specs.Lexing.{Space, Taken, NoToken, front_of, front_by, numbered, more_of, joined, scanned, Lexeme, words_of, Spoken, spoken, lexed}
use Rattle.asm_text.specs.Pieces.{Piece, NamePiece, DecimalPiece, HexPiece, MarkPiece, SpacePiece, all_pass, hex, hex_digits, text_of, printed, words_in, is_name, is_mark, mark_byte, IsReadable, AreReadable, is_loose, starts_loose, are_apart}
use Rattle.asm_text.proofs.Scanning.{skipped, few}
use Rattle.asm_text.proofs.Numerals.{Decimals, decimals, Hexadecimals, hexadecimals}

abbrev pub after_words : List Word → Spoken → Spoken
after_words ws rest = record { words = ws ++ rest.words; fault = rest.fault }

-- neither a name nor a number goes on into these bytes
abbrev pub Ends : List ℕ → Type 0
Ends [] = Unit {0}
Ends (b ∷ bs) = (is_name_byte b ≡ false) × (is_number_byte b ≡ false)

both : (a b : Bool) → (a && b) ≡ true → (a ≡ true) × (b ≡ true)
both true b e = (refl, e)
both false b e = cc

run_name : (bs rest : List ℕ) → all_pass is_name_byte bs ≡ true → Ends rest → prefix_len is_name_byte (bs ++ rest) ≡ length bs
run_name [] [] e h = refl
run_name [] (r ∷ rs) e h = rw (h.0) refl
run_name (b ∷ bs) rest e h =
    let t = both (is_name_byte b) (all_pass is_name_byte bs) e in
    ap (λ x. cond x (1 + prefix_len is_name_byte (bs ++ rest)) 0) t.0 ∙ ap (λ k. 1 + k) (run_name bs rest t.1 h) ∙ (let e : 1 + length bs ≡ suc (length bs) = omega arith in e)

run_number : (bs rest : List ℕ) → all_pass is_number_byte bs ≡ true → Ends rest → prefix_len is_number_byte (bs ++ rest) ≡ length bs
run_number [] [] e h = refl
run_number [] (r ∷ rs) e h = rw (h.1) refl
run_number (b ∷ bs) rest e h =
    let t = both (is_number_byte b) (all_pass is_number_byte bs) e in
    ap (λ x. cond x (1 + prefix_len is_number_byte (bs ++ rest)) 0) t.0 ∙ ap (λ k. 1 + k) (run_number bs rest t.1 h) ∙ (let e : 1 + length bs ≡ suc (length bs) = omega arith in e)

letter_class : (b : ℕ) → begins_name b ≡ true → class_of b ≡ NameStart
unfolding class_of
letter_class b h = grind (arith, nat_tests)

digit_class : (b : ℕ) → is_digit b ≡ true → class_of b ≡ Digit
unfolding class_of
digit_class b h = grind (arith, nat_tests)

-- a word at the front, which takes these bytes
taken : (p b : ℕ) (bs rest : List ℕ) (w : Word) → front_of b (bs ++ rest) ≡ Taken w (length bs)
    → spoken (scanned 0 p (b ∷ bs ++ rest)) ≡ after_words (w ∷ []) (spoken (scanned 0 (p + 1 + length bs) rest))
taken p b bs rest w e =
    ap (λ f. spoken (joined f p (scanned (more_of f) (p + 1) (bs ++ rest)))) e
    ∙ ap (λ s. after_words (w ∷ []) (spoken s)) (skipped (length bs) (p + 1) (bs ++ rest) ∙ ap (scanned 0 (p + 1 + length bs)) (drop-append_seam bs rest))

name_front_is : (b : ℕ) (bs rest : List ℕ) → begins_name b ≡ true → all_pass is_name_byte bs ≡ true → Ends rest → front_of b (bs ++ rest) ≡ Taken (NameWord (b ∷ bs)) (length bs)
unfolding front_of
name_front_is b bs rest h a e =
    ap (λ k. front_by k b (bs ++ rest)) (letter_class b h)
    ∙ ap (λ n. Taken (NameWord (b ∷ take n (bs ++ rest))) n) (run_name bs rest a e)
    ∙ ap (λ t. Taken (NameWord (b ∷ t)) (length bs)) (take-append_seam bs rest)

number_front_is : (b : ℕ) (bs rest : List ℕ) (z : ℤ) → is_digit b ≡ true → all_pass is_number_byte bs ≡ true → number_of (b ∷ bs) ≡ Some z → Ends rest → front_of b (bs ++ rest) ≡ Taken (NumberWord z) (length bs)
unfolding front_of
number_front_is b bs rest z h a n e =
    ap (λ k. front_by k b (bs ++ rest)) (digit_class b h)
    ∙ ap (λ n. numbered (number_of (b ∷ take n (bs ++ rest))) n) (run_number bs rest a e)
    ∙ ap (λ t. numbered (number_of (b ∷ t)) (length bs)) (take-append_seam bs rest)
    ∙ ap (λ o. numbered o (length bs)) n

minus_front_is : (d : ℕ) (ds rest : List ℕ) (z : ℤ) → is_digit d ≡ true → all_pass is_number_byte (d ∷ ds) ≡ true → number_of (45 ∷ d ∷ ds) ≡ Some z → Ends rest → front_of 45 ((d ∷ ds) ++ rest) ≡ Taken (NumberWord z) (length (d ∷ ds))
unfolding front_of class_of
minus_front_is d ds rest z h a n e =
    ap (λ t. cond t (numbered (number_of (45 ∷ take (prefix_len is_number_byte (d ∷ ds ++ rest)) (d ∷ ds ++ rest))) (prefix_len is_number_byte (d ∷ ds ++ rest))) NoToken) h
    ∙ ap (λ n. numbered (number_of (45 ∷ take n (d ∷ ds ++ rest))) n) (run_number (d ∷ ds) rest a e)
    ∙ ap (λ t. numbered (number_of (45 ∷ t)) (length (d ∷ ds))) (take-append_seam (d ∷ ds) rest)
    ∙ ap (λ o. numbered o (length (d ∷ ds))) n

-- digits alone
digits_pass : (ds : List ℕ) → all_pass is_digit ds ≡ true → all_pass is_number_byte ds ≡ true
digits_pass [] e = refl
digits_pass (d ∷ ds) e = let t = both (is_digit d) (all_pass is_digit ds) e in joins (is_letter_or d t.0) (digits_pass ds t.1)
  where
    is_letter_or : (d : ℕ) → is_digit d ≡ true → is_number_byte d ≡ true
    is_letter_or d h = grind (arith, nat_tests)

    joins : {a b : Bool} → a ≡ true → b ≡ true → (a && b) ≡ true
    joins {a = a} {b = b} p q = ap (λ x. x && b) p ∙ q

small : (n : ℕ) → n < 2 ^ 32 → bounded (Some n) ≡ Some n
small n h = grind (arith, nat_tests)

digits_in_is : (base n : ℕ) (ds : List ℕ) → 0 < length ds → digits_after base 0 ds ≡ Some n → n < 2 ^ 32 → digits_in base ds ≡ Some n
unfolding digits_in
digits_in_is base n ds some e h =
    let there : (length ds == 0) ≡ false = grind (arith, nat_tests) in
    ap (λ b. cond b None (bounded (digits_after base 0 ds))) there ∙ ap bounded e ∙ small n h

no_and : (a b : Bool) → b ≡ false → (a && b) ≡ false
no_and true b e = e
no_and false b e = refl

not_x : (d : ℕ) → is_digit d ≡ true → (d == 120) ≡ false
not_x d h = grind (arith, nat_tests)

not_minus : (d : ℕ) → is_digit d ≡ true → (d == 45) ≡ false
not_minus d h = grind (arith, nat_tests)

plain : (d : ℕ) (ds : List ℕ) → all_pass is_digit ds ≡ true → is_hexadecimal (d ∷ ds) ≡ false
plain d [] e = no_and (d == 48) false refl
plain d (x ∷ xs) e = no_and (d == 48) (x == 120) (not_x x (both (is_digit x) (all_pass is_digit xs) e).0)

decimal_text : (n d : ℕ) (ds : List ℕ) → n < 2 ^ 32 → Decimals n (d ∷ ds) → magnitude (d ∷ ds) ≡ Some n
unfolding magnitude
decimal_text n d ds h t =
    ap (λ b. cond b (digits_in 16 (drop 2 (d ∷ ds))) (digits_in 10 (d ∷ ds))) (plain d ds (both (is_digit d) (all_pass is_digit ds) t.digits).1)
    ∙ digits_in_is 10 n (d ∷ ds) t.some t.value h

decimal_number : (n d : ℕ) (ds : List ℕ) → n < 2 ^ 32 → Decimals n (d ∷ ds) → number_of (d ∷ ds) ≡ Some (pos n)
unfolding number_of
decimal_number n d ds h t =
    ap (λ b. cond b (below_zero (magnitude ds)) (above_zero (magnitude (d ∷ ds)))) (not_minus d (both (is_digit d) (all_pass is_digit ds) t.digits).0)
    ∙ ap above_zero (decimal_text n d ds h t)

minus_number : (n d : ℕ) (ds : List ℕ) → suc n < 2 ^ 32 → Decimals (suc n) (d ∷ ds) → number_of (45 ∷ d ∷ ds) ≡ Some (negsuc n)
unfolding number_of
minus_number n d ds h t = ap below_zero (decimal_text (suc n) d ds h t)

hex_number : (k n : ℕ) (ds : List ℕ) → 1 ≤ k → n < 2 ^ 32 → Hexadecimals k n ds → number_of (48 ∷ 120 ∷ ds) ≡ Some (pos n)
unfolding number_of magnitude
hex_number k n ds some h t = ap above_zero (digits_in_is 16 n ds (omega (arith, t.count)) t.value h)

-- the pieces, one by one
reads_name : (p : ℕ) (t rest : List ℕ) → is_name t ≡ true → Ends rest → (q : ℕ) × (spoken (scanned 0 p (t ++ rest)) ≡ after_words (NameWord t ∷ []) (spoken (scanned 0 q rest)))
reads_name p [] rest h e = cc
reads_name p (b ∷ bs) rest h e =
    let t = both (begins_name b) (all_pass is_name_byte bs) h in
    (p + 1 + length bs, taken p b bs rest (NameWord (b ∷ bs)) (name_front_is b bs rest t.0 t.1 e))

reads_decimal : (p n : ℕ) (ds rest : List ℕ) → n < 2 ^ 32 → Decimals n ds → Ends rest → (q : ℕ) × (spoken (scanned 0 p (ds ++ rest)) ≡ after_words (NumberWord (pos n) ∷ []) (spoken (scanned 0 q rest)))
reads_decimal p n [] rest h t e = absurd (omega (arith, t.some))
reads_decimal p n (d ∷ ds) rest h t e =
    let split = both (is_digit d) (all_pass is_digit ds) t.digits in
    (p + 1 + length ds, taken p d ds rest (NumberWord (pos n)) (number_front_is d ds rest (pos n) split.0 (digits_pass ds split.1) (decimal_number n d ds h t) e))

reads_minus : (p n : ℕ) (ds rest : List ℕ) → suc n < 2 ^ 32 → Decimals (suc n) ds → Ends rest → (q : ℕ) × (spoken (scanned 0 p (45 ∷ ds ++ rest)) ≡ after_words (NumberWord (negsuc n) ∷ []) (spoken (scanned 0 q rest)))
reads_minus p n [] rest h t e = absurd (omega (arith, t.some))
reads_minus p n (d ∷ ds) rest h t e =
    let split = both (is_digit d) (all_pass is_digit ds) t.digits in
    (p + 1 + length (d ∷ ds), taken p 45 (d ∷ ds) rest (NumberWord (negsuc n)) (minus_front_is d ds rest (negsuc n) split.0 (digits_pass (d ∷ ds) t.digits) (minus_number n d ds h t) e))

reads_hex : (p k n : ℕ) (rest : List ℕ) → 1 ≤ k → k ≤ 8 → n < 16 ^ k → Ends rest → (q : ℕ) × (spoken (scanned 0 p (48 ∷ 120 ∷ hex k n ++ rest)) ≡ after_words (NumberWord (pos n) ∷ []) (spoken (scanned 0 q rest)))
unfolding hex
reads_hex p k n rest low high h e =
    let digits = hexadecimals k n h in
    let power : 16 ^ k ≤ 16 ^ 8 = pow-le-pow_right {n = 16} (lit< tt) high in
    let bound : n < 2 ^ 32 = omega arith in
    (p + 1 + length (120 ∷ hex_digits k n), taken p 48 (120 ∷ hex_digits k n) rest (NumberWord (pos n)) (number_front_is 48 (120 ∷ hex_digits k n) rest (pos n) refl digits.digits (hex_number k n (hex_digits k n) low bound digits) e))

mark_front : (k : TokenKind) (rest : List ℕ) → is_mark k ≡ true → front_of (mark_byte k) rest ≡ Taken (MarkWord k) 0
unfolding front_of class_of
mark_front Comma rest h = refl
mark_front Colon rest h = refl
mark_front Open rest h = refl
mark_front Close rest h = refl
mark_front Name rest h = cc
mark_front Number rest h = cc

reads_mark : (p : ℕ) (k : TokenKind) (rest : List ℕ) → is_mark k ≡ true → (q : ℕ) × (spoken (scanned 0 p (mark_byte k ∷ rest)) ≡ after_words (MarkWord k ∷ []) (spoken (scanned 0 q rest)))
reads_mark p k rest h = (p + 1, ap (λ f. spoken (joined f p (scanned (more_of f) (p + 1) rest))) (mark_front k rest h))

space_front : (rest : List ℕ) → front_of 32 rest ≡ Space
unfolding front_of class_of
space_front rest = refl

reads_space : (p : ℕ) (rest : List ℕ) → spoken (scanned 0 p (32 ∷ rest)) ≡ spoken (scanned 0 (p + 1) rest)
reads_space p rest = ap (λ f. spoken (joined f p (scanned (more_of f) (p + 1) rest))) (space_front rest)

-- one piece before a text that it doesn't run into
reads_piece : (x : Piece) (p : ℕ) (rest : List ℕ) → IsReadable x → (is_loose x ≡ true) ⊎ Ends rest → (q : ℕ) × (spoken (scanned 0 p (text_of x ++ rest)) ≡ after_words (words_in x) (spoken (scanned 0 q rest)))
reads_piece (NamePiece t) p rest r (inl e) = cc
reads_piece (NamePiece t) p rest r (inr e) = reads_name p t rest r e
reads_piece (DecimalPiece z) p rest r (inl e) = cc
reads_piece (DecimalPiece (pos n)) p rest r (inr e) = reads_decimal p n (decimal n) rest r (decimals n (omega arith)) e
reads_piece (DecimalPiece (negsuc n)) p rest r (inr e) = reads_minus p n (decimal (suc n)) rest r (decimals (suc n) (omega arith)) e
reads_piece (HexPiece k n) p rest r (inl e) = cc
reads_piece (HexPiece k n) p rest r (inr e) = reads_hex p k n rest r.0 r.1 r.2 e
reads_piece (MarkPiece k) p rest r e = reads_mark p k rest r
reads_piece SpacePiece p rest r e = (p + 1, reads_space p rest)

mark_ends : (k : TokenKind) (rest : List ℕ) → Ends (mark_byte k ∷ rest)
mark_ends Comma rest = (refl, refl)
mark_ends Colon rest = (refl, refl)
mark_ends Open rest = (refl, refl)
mark_ends Close rest = (refl, refl)
mark_ends Name rest = (refl, refl)
mark_ends Number rest = (refl, refl)

loose_ends : (ps : List Piece) → starts_loose ps ≡ true → Ends (printed ps)
loose_ends [] e = tt
loose_ends (NamePiece t ∷ ps) e = cc
loose_ends (DecimalPiece z ∷ ps) e = cc
loose_ends (HexPiece k n ∷ ps) e = cc
loose_ends (MarkPiece k ∷ ps) e = mark_ends k (printed ps)
loose_ends (SpacePiece ∷ ps) e = (refl, refl)

either : (a b : Bool) → (a || b) ≡ true → (a ≡ true) ⊎ (b ≡ true)
either true b e = inl refl
either false b e = inr e

ends_or : (x : Piece) (ps : List Piece) → (is_loose x ≡ true) ⊎ (starts_loose ps ≡ true) → (is_loose x ≡ true) ⊎ Ends (printed ps)
ends_or x ps (inl e) = inl e
ends_or x ps (inr e) = inr (loose_ends ps e)

-- all pieces
pub reads_pieces : (ps : List Piece) (p : ℕ) → are_apart ps ≡ true → AreReadable ps → spoken (scanned 0 p (printed ps)) ≡ record { words = flat_map words_in ps; fault = None }
reads_pieces [] p a r = refl
reads_pieces (x ∷ ps) p a r =
    let split = both (is_loose x || starts_loose ps) (are_apart ps) a in
    let here = reads_piece x p (printed ps) r.0 (ends_or x ps (either (is_loose x) (starts_loose ps) split.0)) in
    here.1 ∙ ap (after_words (words_in x)) (reads_pieces ps here.0 split.1 r.1)

words_count : (ls : List Lexeme) → length ls ≡ length (words_of ls)
words_count [] = refl
words_count (l ∷ ls) = ap (λ k. suc k) (words_count ls)

-- a line of pieces
pub relexed : (ps : List Piece) → are_apart ps ≡ true → AreReadable ps → length (flat_map words_in ps) ≤ 16 → spoken (lexed (printed ps)) ≡ record { words = flat_map words_in ps; fault = None }
unfolding lexed
relexed ps a r h =
    let s = scanned 0 0 (printed ps) in
    let all = reads_pieces ps 0 a r in
    let count : length s.lexemes ≡ length (flat_map words_in ps) = words_count s.lexemes ∙ ap (λ (t : Spoken). length t.words) all in
    ap spoken (few s (length (flat_map words_in ps)) count h) ∙ all
