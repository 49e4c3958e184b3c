-- Which byte is of which kind.
use Rattle.std.proofs.Common.{◌≡◌, ℕ, ◌⊎◌, inl, inr, Bool, true, false, cond, refl, sym, subst, ap, ◌∙◌, arith}
use Rattle.std.specs.Prelude.{◌==◌, ◌||◌}
use Rattle.std.proofs.lemmas.Bool.Decides.{nat_tests}
use Rattle.mem_text.specs.Bytes.{is_white, is_hex, hex_value, kind_of}
use Rattle.mem_text.specs.declared.byte_kind.ByteKind.{ByteKind}
use Rattle.mem_text.specs.declared.byte_kind.ByteKind.TheVariants.{Digit, LineFeed, Blank, Slash, Star, At, Underscore, Other}

pub same_by : (a b : ℕ) → (a == b) ≡ true → a ≡ b
same_by a b e = grind (arith, nat_tests)

-- what the kind says of the byte
abbrev pub KindFact : ByteKind → ℕ → Type 0
KindFact (Digit d) b = (is_hex b ≡ true) × (hex_value b ≡ d)
KindFact LineFeed b = b ≡ 10
KindFact Blank b = is_white b ≡ true
KindFact Slash b = b ≡ 47
KindFact Star b = b ≡ 42
KindFact At b = b ≡ 64
KindFact Underscore b = b ≡ 95
KindFact Other b = Unit {0}

facts_by : (b : ℕ) (h f w s t a u : Bool) → is_hex b ≡ h → (b == 10) ≡ f → is_white b ≡ w → (b == 47) ≡ s → (b == 42) ≡ t → (b == 64) ≡ a → (b == 95) ≡ u
    → KindFact (cond h (Digit (hex_value b)) (cond f LineFeed (cond w Blank (cond s Slash (cond t Star (cond a At (cond u Underscore Other))))))) b
facts_by b true f w s t a u eh ef ew es et ea eu = (eh, refl)
facts_by b false true w s t a u eh ef ew es et ea eu = same_by b 10 ef
facts_by b false false true s t a u eh ef ew es et ea eu = ew
facts_by b false false false true t a u eh ef ew es et ea eu = same_by b 47 es
facts_by b false false false false true a u eh ef ew es et ea eu = same_by b 42 et
facts_by b false false false false false true u eh ef ew es et ea eu = same_by b 64 ea
facts_by b false false false false false false true eh ef ew es et ea eu = same_by b 95 eu
facts_by b false false false false false false false eh ef ew es et ea eu = tt

pub facts : (b : ℕ) → KindFact (kind_of b) b
unfolding kind_of
facts b = facts_by b (is_hex b) (b == 10) (is_white b) (b == 47) (b == 42) (b == 64) (b == 95) refl refl refl refl refl refl refl

pub fact : (b : ℕ) (k : ByteKind) → kind_of b ≡ k → KindFact k b
fact b k e = let Of : ByteKind → Type 0 = λ k. KindFact k b in subst Of e (facts b)

-- ---- the other way
pub feed_kind : kind_of 10 ≡ LineFeed
unfolding kind_of is_hex hex_value
feed_kind = refl

pub slash_kind : kind_of 47 ≡ Slash
unfolding kind_of is_hex hex_value
slash_kind = refl

pub star_kind : kind_of 42 ≡ Star
unfolding kind_of is_hex hex_value
star_kind = refl

pub at_kind : kind_of 64 ≡ At
unfolding kind_of is_hex hex_value
at_kind = refl

pub underscore_kind : kind_of 95 ≡ Underscore
unfolding kind_of is_hex hex_value
underscore_kind = refl

pub hex_kind : (b : ℕ) → is_hex b ≡ true → kind_of b ≡ Digit (hex_value b)
unfolding kind_of
hex_kind b e = rw e refl

pub either : (x y : Bool) → (x || y) ≡ true → (x ≡ true) ⊎ (y ≡ true)
either true y e = inl refl
either false y e = inr e

kind_at : (b c : ℕ) (k : ByteKind) → kind_of c ≡ k → (b == c) ≡ true → kind_of b ≡ k
kind_at b c k e h = ap kind_of (same_by b c h) ∙ e

blank_32 : kind_of 32 ≡ Blank
unfolding kind_of is_hex hex_value
blank_32 = refl

blank_9 : kind_of 9 ≡ Blank
unfolding kind_of is_hex hex_value
blank_9 = refl

blank_13 : kind_of 13 ≡ Blank
unfolding kind_of is_hex hex_value
blank_13 = refl

blank_12 : kind_of 12 ≡ Blank
unfolding kind_of is_hex hex_value
blank_12 = refl

pub white_kind : (b : ℕ) → is_white b ≡ true → (kind_of b ≡ LineFeed) ⊎ (kind_of b ≡ Blank)
white_kind b e =
    elim (either (b == 32) _ e) [
      | inl h ↦ inr (kind_at b 32 Blank blank_32 h)
      | inr h ↦ elim (either (b == 9) _ h) [
        | inl g ↦ inr (kind_at b 9 Blank blank_9 g)
        | inr g ↦ elim (either (b == 10) _ g) [
          | inl f ↦ inl (kind_at b 10 LineFeed feed_kind f)
          | inr f ↦ elim (either (b == 13) _ f) [
            | inl d ↦ inr (kind_at b 13 Blank blank_13 d)
            | inr d ↦ inr (kind_at b 12 Blank blank_12 d)
          ]
        ]
      ]
    ]

-- a byte of another kind is another byte
differs_by : (b c : ℕ) (j k : ByteKind) (t : Bool) → (b == c) ≡ t → kind_of b ≡ k → kind_of c ≡ j → (j ≡ k → ⊥) → (b == c) ≡ false
differs_by b c j k false w e f n = w
differs_by b c j k true w e f n = absurd (n (sym f ∙ ap kind_of (sym (same_by b c w)) ∙ e))

pub differs : (b c : ℕ) (j k : ByteKind) → kind_of b ≡ k → kind_of c ≡ j → (j ≡ k → ⊥) → (b == c) ≡ false
differs b c j k e f n = differs_by b c j k (b == c) refl e f n
