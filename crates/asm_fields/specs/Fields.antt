-- How each operand is read.
use Rattle.std.specs.Prelude.{ℕ, ◌-◌, ◌*◌, ◌^◌, Bool, true, false, ◌||◌, ◌==◌, nat_lt, cond, List, [], ◌∷◌, Option, Some, None, option_map, option_and_then, ℤ, pos, negsuc, codes}
use Rattle.asm_text.specs.Names.{Names, register_of, csr_of, number_in}
use Rattle.asm_text.specs.Words.{Word, NameWord, NumberWord, MarkWord}
use Rattle.asm_text.specs.declared.token_kind.TokenKind.{TokenKind}
use Rattle.asm_text.specs.declared.token_kind.TokenKind.TheVariants.{Comma, Colon, Open, Close}
use Rattle.asm_fields.specs.Operands.{Operands, Number, Given, Absolute, Near, NearLabel}
use Rattle.asm_fields.specs.declared.field.Field.{Field}
use Rattle.asm_fields.specs.declared.field.Field.TheVariants.{Rd, Rs1, Rs2, Csr, Source, Pred, Succ, Signed, Below, Digits, Upper, Amount, Word as AnyWord, Label, Address, Target}
use Rattle.asm_fields.specs.declared.item.Item.{Item}
use Rattle.asm_fields.specs.declared.item.Item.TheVariants.{Operand, Mark}

-- ---- numbers

-- from minus half to below half, modulo 2 ^ 32
abbrev pub signed_word : ℕ → ℤ → Option ℕ
signed_word half (pos n) = cond (nat_lt n half) (Some n) None
signed_word half (negsuc n) = cond (nat_lt n half) (Some (2 ^ 32 - 1 - n)) None

-- from 0 to below the limit
abbrev pub unsigned_word : ℕ → ℤ → Option ℕ
unsigned_word limit (pos n) = cond (nat_lt n limit) (Some n) None
unsigned_word limit (negsuc n) = None

-- where 32 bits are wanted: from -2 ^ 31 to 2 ^ 32 - 1, modulo 2 ^ 32
abbrev pub any_word : ℤ → Option ℕ
any_word (pos n) = cond (nat_lt n (2 ^ 32)) (Some n) None
any_word (negsuc n) = cond (nat_lt n (2 ^ 31)) (Some (2 ^ 32 - 1 - n)) None

abbrev pub in_word : (ℤ → Option ℕ) → Word → Option ℕ
in_word f (NameWord t) = None
in_word f (NumberWord z) = f z
in_word f (MarkWord k) = None

-- ---- names

-- the letters of a fence's set, of which the first is bit 3
abbrev pub sets : Names
sets =
    (codes "i", 8) ∷ (codes "o", 4) ∷ (codes "r", 2) ∷ (codes "w", 1)
    ∷ (codes "io", 12) ∷ (codes "ir", 10) ∷ (codes "iw", 9) ∷ (codes "or", 6) ∷ (codes "ow", 5) ∷ (codes "rw", 3)
    ∷ (codes "ior", 14) ∷ (codes "iow", 13) ∷ (codes "irw", 11) ∷ (codes "orw", 7)
    ∷ (codes "iorw", 15) ∷ []

unfoldable pub set_of : List ℕ → Option ℕ
set_of t = number_in sets t

abbrev pub has_dot : List ℕ → Bool
has_dot [] = false
has_dot (b ∷ bs) = (b == 46) || has_dot bs

abbrev pub register_in : Word → Option ℕ
register_in (NameWord t) = register_of t
register_in (NumberWord z) = None
register_in (MarkWord k) = None

abbrev pub csr_in : Word → Option ℕ
csr_in (NameWord t) = csr_of t
csr_in (NumberWord z) = unsigned_word 4096 z
csr_in (MarkWord k) = None

-- letters, or the number 0
abbrev pub set_in : Word → Option ℕ
set_in (NameWord t) = set_of t
set_in (NumberWord z) = unsigned_word 1 z
set_in (MarkWord k) = None

-- a label has no dot
abbrev pub label_in : Word → Option (List ℕ)
label_in (NameWord t) = cond (has_dot t) None (Some t)
label_in (NumberWord z) = None
label_in (MarkWord k) = None

-- ---- numbers that may wait for a label

abbrev pub as_given : Option ℕ → Option Number
as_given value = option_map Given value

abbrev pub as_upper : Option ℕ → Option Number
as_upper value = option_map (λ n. Given (n * 4096)) value

abbrev pub as_near : Option ℕ → Option Number
as_near value = option_map Near value

abbrev pub as_absolute : Option (List ℕ) → Option Number
as_absolute label = option_map Absolute label

abbrev pub as_near_label : Option (List ℕ) → Option Number
as_near_label label = option_map NearLabel label

abbrev pub address_in : Word → Option Number
address_in (NameWord t) = as_absolute (label_in (NameWord t))
address_in (NumberWord z) = as_given (any_word z)
address_in (MarkWord k) = None

abbrev pub target_in : Word → Option Number
target_in (NameWord t) = as_near_label (label_in (NameWord t))
target_in (NumberWord z) = as_near (any_word z)
target_in (MarkWord k) = None

-- ---- each into its place

abbrev pub with_rd : Option ℕ → Operands → Option Operands
with_rd value o = option_map (λ n. record o { rd = n }) value

abbrev pub with_rs1 : Option ℕ → Operands → Option Operands
with_rs1 value o = option_map (λ n. record o { rs1 = n }) value

abbrev pub with_rs2 : Option ℕ → Operands → Option Operands
with_rs2 value o = option_map (λ n. record o { rs2 = n }) value

abbrev pub with_csr : Option ℕ → Operands → Option Operands
with_csr value o = option_map (λ n. record o { csr = n }) value

abbrev pub with_amount : Option ℕ → Operands → Option Operands
with_amount value o = option_map (λ n. record o { amount = n }) value

abbrev pub with_number : Option Number → Operands → Option Operands
with_number value o = option_map (λ n. record o { number = n }) value

-- the operands with the one that the word is
unfoldable pub read_field : Field → Word → Operands → Option Operands
read_field Rd w o = with_rd (register_in w) o
read_field Rs1 w o = with_rs1 (register_in w) o
read_field Rs2 w o = with_rs2 (register_in w) o
read_field Csr w o = with_csr (csr_in w) o
read_field Source w o = with_rs1 (in_word (unsigned_word 32) w) o
read_field Pred w o = with_rs1 (set_in w) o
read_field Succ w o = with_rs2 (set_in w) o
read_field (Signed half) w o = with_number (as_given (in_word (signed_word half) w)) o
read_field (Below limit) w o = with_number (as_given (in_word (unsigned_word limit) w)) o
read_field (Digits limit digits) w o = with_number (as_given (in_word (unsigned_word limit) w)) o
read_field Upper w o = with_number (as_upper (in_word (unsigned_word (2 ^ 20)) w)) o
read_field Amount w o = with_amount (in_word any_word w) o
read_field AnyWord w o = with_number (as_given (in_word any_word w)) o
read_field Label w o = with_number (as_absolute (label_in w)) o
read_field Address w o = with_number (address_in w) o
read_field Target w o = with_number (target_in w) o

-- ---- items

-- the same mark
abbrev pub is_same_mark : TokenKind → TokenKind → Bool
is_same_mark Comma Comma = true
is_same_mark Colon Colon = true
is_same_mark Open Open = true
is_same_mark Close Close = true
is_same_mark _ _ = false

abbrev pub is_marked : TokenKind → Word → Bool
is_marked k (NameWord t) = false
is_marked k (NumberWord z) = false
is_marked k (MarkWord j) = is_same_mark k j

abbrev pub read_item : Item → Word → Operands → Option Operands
read_item (Operand f) w o = read_field f w o
read_item (Mark k) w o = cond (is_marked k w) (Some o) None

-- the operands that the words are, one word for each item
abbrev pub read_items : List Item → List Word → Operands → Option Operands
read_items [] [] o = Some o
read_items [] (w ∷ ws) o = None
read_items (i ∷ is) [] o = None
read_items (i ∷ is) (w ∷ ws) o = option_and_then (read_items is ws) (read_item i w o)
