-- All bytes are items: the data of a packet is split off, and what follows it decides; one induction over a bound of the length.
use Rattle.std.proofs.Common.{◌≡◌, ℕ, zero, suc, ◌≤◌, ◌⊎◌, inl, inr, List, [], ◌∷◌, ◌++◌, append_assoc, append-nil, length, length-append, Bool, true, false, refl, sym, subst, ap, ◌∙◌, arith}
use Rattle.std.specs.Prelude.{◌==◌, not}
use Rattle.std.proofs.lemmas.Bool.{and_parts}
use Rattle.std.proofs.lemmas.Bool.Decides.{nat_tests}
use Rattle.lab_packets.specs.Frames.{may_stand, are_data}
use Rattle.lab_packets.specs.Stream.{Item, Passed, Begun, Frame, items_text, is_no_dollar, is_open_end, is_open, gives_up, AreItemsOf}

-- items that the bytes are
pub record Found (bytes : List ℕ) : Type 0 where
  pub items : List Item
  pub are : AreItemsOf bytes items

-- ---- data that is split off

abbrev Stops : List ℕ → Type 0
Stops rest = (gives_up rest ≡ true) ⊎ ((behind : List ℕ) × (rest ≡ 35 ∷ behind))

pub record Split (bytes : List ℕ) : Type 0 where
  pub front : List ℕ
  pub rest : List ℕ
  pub stands : are_data front ≡ true
  pub text : front ++ rest ≡ bytes
  pub stops : Stops rest

split_by : (dollar mark : Bool) (b : ℕ) (bytes : List ℕ) → (b == 36) ≡ dollar → (b == 35) ≡ mark → Split bytes → Split (b ∷ bytes)
split_by true mark b bytes d m s = record { front = []; rest = b ∷ bytes; stands = refl; text = refl; stops = inl d }
split_by false true b bytes d m s =
    let is : b ≡ 35 = grind (arith, nat_tests) in
    record { front = []; rest = b ∷ bytes; stands = refl; text = refl; stops = inr (bytes, ap (λ c. c ∷ bytes) is) }
split_by false false b bytes d m s =
    let stands : are_data (b ∷ s.front) ≡ true = rw (d, m) s.stands in
    record { front = b ∷ s.front; rest = s.rest; stands = stands; text = ap (λ t. b ∷ t) s.text; stops = s.stops }

split : (bytes : List ℕ) → Split bytes
split [] = record { front = []; rest = []; stands = refl; text = refl; stops = inl refl }
split (b ∷ bytes) = split_by (b == 36) (b == 35) b bytes refl refl (split bytes)

-- ---- what may stay open

open_front : (front : List ℕ) → are_data front ≡ true → is_open front ≡ true
open_front [] e = refl
open_front (b ∷ front) e =
    let parts = and_parts (may_stand b) (are_data front) e in
    let tests = and_parts (not (b == 36)) (not (b == 35)) parts.0 in
    let mark : (b == 35) ≡ false = grind (arith, nat_tests, tests.1) in
    rw (tests.0, mark) (open_front front parts.1)

open_behind : (front tail : List ℕ) → are_data front ≡ true → is_open_end tail ≡ true → is_open (front ++ 35 ∷ tail) ≡ true
open_behind [] tail e o = o
open_behind (b ∷ front) tail e o =
    let parts = and_parts (may_stand b) (are_data front) e in
    let tests = and_parts (not (b == 36)) (not (b == 35)) parts.0 in
    let mark : (b == 35) ≡ false = grind (arith, nat_tests, tests.1) in
    rw (tests.0, mark) (open_behind front tail parts.1 o)

-- ---- one item more

no_items : Found []
no_items = record { items = []; are = record { are = tt; text = refl } }

dollar_is : (b : ℕ) → (b == 36) ≡ true → b ≡ 36
dollar_is b e = grind (arith, nat_tests)

no_dollar_is : (b : ℕ) → (b == 36) ≡ false → is_no_dollar b ≡ true
no_dollar_is b e = rw e refl

passed_found : (b : ℕ) (bytes : List ℕ) → (b == 36) ≡ false → Found bytes → Found (b ∷ bytes)
passed_found b bytes e f = record { items = Passed b ∷ f.items; are = record { are = (no_dollar_is b e, refl, f.are.are); text = ap (λ t. b ∷ t) f.are.text } }

begun_found : (inside rest bytes : List ℕ) → 36 ∷ (inside ++ rest) ≡ bytes → is_open inside ≡ true → gives_up rest ≡ true → Found rest → Found bytes
begun_found inside rest bytes e o g f = record {
  items = Begun inside ∷ f.items;
  are = record { are = (o, ap gives_up f.are.text ∙ g, f.are.are); text = ap (λ t. 36 ∷ (inside ++ t)) f.are.text ∙ e };
}

frame_found : (front rest bytes : List ℕ) (x y : ℕ) → 36 ∷ (front ++ 35 ∷ x ∷ y ∷ rest) ≡ bytes → are_data front ≡ true → (x == 36) ≡ false → (y == 36) ≡ false → Found rest → Found bytes
frame_found front rest bytes x y e d ex ey f = record {
  items = Frame front x y ∷ f.items;
  are = record {
    are = ((d, no_dollar_is x ex, no_dollar_is y ey), refl, f.are.are);
    text = ap (λ t. 36 ∷ t) (append_assoc front (35 ∷ x ∷ y ∷ []) (items_text f.items)) ∙ ap (λ t. 36 ∷ (front ++ 35 ∷ x ∷ y ∷ t)) f.are.text ∙ e;
  };
}

-- ---- behind the `#`

-- all shorter bytes are items
abbrev Shorter : ℕ → Type 0
Shorter n = (bytes : List ℕ) → length bytes ≤ n → Found bytes

two_behind : (second : Bool) (n : ℕ) (front rest bytes : List ℕ) (x y : ℕ) → 36 ∷ (front ++ 35 ∷ x ∷ y ∷ rest) ≡ bytes → are_data front ≡ true → (x == 36) ≡ false → (y == 36) ≡ second → suc (length rest) ≤ n → Shorter n → Found bytes
two_behind true n front rest bytes x y e d ex ey l on =
    let o : is_open_end (x ∷ []) ≡ true = rw ex refl in
    begun_found (front ++ 35 ∷ x ∷ []) (y ∷ rest) bytes (ap (λ t. 36 ∷ t) (append_assoc front (35 ∷ x ∷ []) (y ∷ rest)) ∙ e) (open_behind front (x ∷ []) d o) ey (on (y ∷ rest) l)
two_behind false n front rest bytes x y e d ex ey l on = frame_found front rest bytes x y e d ex ey (on rest (omega arith))

one_behind : (first : Bool) (n : ℕ) (front rest bytes : List ℕ) (x : ℕ) → 36 ∷ (front ++ 35 ∷ x ∷ rest) ≡ bytes → are_data front ≡ true → (x == 36) ≡ first → suc (length rest) ≤ n → Shorter n → Found bytes
one_behind true n front rest bytes x e d ex l on =
    begun_found (front ++ 35 ∷ []) (x ∷ rest) bytes (ap (λ t. 36 ∷ t) (append_assoc front (35 ∷ []) (x ∷ rest)) ∙ e) (open_behind front [] d refl) ex (on (x ∷ rest) l)
one_behind false n front [] bytes x e d ex l on =
    let o : is_open_end (x ∷ []) ≡ true = rw ex refl in
    begun_found (front ++ 35 ∷ x ∷ []) [] bytes (ap (λ t. 36 ∷ t) (append-nil (front ++ 35 ∷ x ∷ [])) ∙ e) (open_behind front (x ∷ []) d o) refl no_items
one_behind false n front (y ∷ rest) bytes x e d ex l on = two_behind (y == 36) n front rest bytes x y e d ex refl (omega arith) on

behind_mark : (n : ℕ) (front behind bytes : List ℕ) → 36 ∷ (front ++ 35 ∷ behind) ≡ bytes → are_data front ≡ true → length behind ≤ n → Shorter n → Found bytes
behind_mark n front [] bytes e d l on =
    begun_found (front ++ 35 ∷ []) [] bytes (ap (λ t. 36 ∷ t) (append-nil (front ++ 35 ∷ [])) ∙ e) (open_behind front [] d refl) refl no_items
behind_mark n front (x ∷ rest) bytes e d l on = one_behind (x == 36) n front rest bytes x e d refl l on

-- ---- all bytes

packet_by : (n : ℕ) (bytes front rest : List ℕ) → are_data front ≡ true → front ++ rest ≡ bytes → length bytes ≤ n → Shorter n → Stops rest → Found (36 ∷ bytes)
packet_by n bytes front rest d e l on (inl g) =
    let less : length rest ≤ n = omega (arith, length-append front rest, ap length e) in
    begun_found front rest (36 ∷ bytes) (ap (λ t. 36 ∷ t) e) (open_front front d) g (on rest less)
packet_by n bytes front rest d e l on (inr p) =
    let less : length p.0 ≤ n = omega (arith, length-append front rest, ap length e, ap length p.1) in
    behind_mark n front p.0 (36 ∷ bytes) (ap (λ t. 36 ∷ (front ++ t)) (sym p.1) ∙ ap (λ t. 36 ∷ t) e) d less on

item_by : (dollar : Bool) (n b : ℕ) (bytes : List ℕ) → (b == 36) ≡ dollar → length bytes ≤ n → Shorter n → Found (b ∷ bytes)
item_by true n b bytes e l on =
    let s = split bytes in
    let is : 36 ≡ b = sym (dollar_is b e) in
    let Of : ℕ → Type 0 = λ c. Found (c ∷ bytes) in
    subst Of is (packet_by n bytes s.front s.rest s.stands s.text l on s.stops)
item_by false n b bytes e l on = passed_found b bytes e (on bytes l)

shorter_found : (n : ℕ) → Shorter n
shorter_found zero [] l = no_items
shorter_found zero (b ∷ bytes) l = absurd (omega arith)
shorter_found (suc n) [] l = no_items
shorter_found (suc n) (b ∷ bytes) l = item_by (b == 36) n b bytes refl (omega arith) (shorter_found n)

pub found : (bytes : List ℕ) → Found bytes
found bytes = shorter_found (length bytes) bytes (omega arith)
