-- What is read is an image: each move keeps what every state has.
use Rattle.std.proofs.Common.{◌≡◌, ℕ, ◌+◌, ◌*◌, ◌<◌, ◌≤◌, ◌^◌, List, [], ◌∷◌, Bool, true, false, Option, Some, None, Ok, refl, subst, arith}
use Rattle.std.specs.Prelude.{nat_lt}
use Rattle.std.proofs.lemmas.Bool.{ltb-true}
use Rattle.hart_memory.specs.Image.{ImageView, AreSound}
use Rattle.mem_text.specs.Bytes.{kind_of, hex_value, is_hex, digit_of, IsSmall}
use Rattle.mem_text.specs.Moves.{longer_by, longer_address, longer_number, behind_digits, between, after_slash, in_line, in_block, after_star, after_at, move_of, IsShort, IsNumberOnly, IsAllowed, is_number}
use Rattle.mem_text.specs.Laying.{Laying, nothing_laid, whole_image, moved_to, with_byte, why_not, IsFit}
use Rattle.mem_text.specs.Reading.{on_with, closed, begun, made, step, whole, ended, ended_in, read_text}
use Rattle.mem_text.specs.Standing.{IsBegun}
use Rattle.mem_text.specs.declared.mem_why.MemWhy.{MemWhy}
use Rattle.mem_text.specs.declared.moves.Move.{Move}
use Rattle.mem_text.specs.declared.moves.Move.TheVariants.{Go, Close, Begin, Bad}
use Rattle.mem_text.specs.declared.token.Token.{Token}
use Rattle.mem_text.specs.declared.token.Token.TheVariants.{Between, AfterSlash, LineComment, BlockComment, AfterStar, AfterAt, Address, Number}
use Rattle.mem_text.specs.declared.byte_kind.ByteKind.{ByteKind}
use Rattle.mem_text.specs.declared.byte_kind.ByteKind.TheVariants.{Digit, LineFeed, Blank, Slash, Star, At, Underscore, Other}
use Rattle.mem_text.proofs.Digits.{grows, most}
use Rattle.mem_text.proofs.ByteKinds.{fact}
use Rattle.mem_text.proofs.Places.{all_sound, fit_grown, fit_moved}

-- ---- a digit is below 16
hex_small : (b : ℕ) → is_hex b ≡ true → hex_value b < 16
unfolding is_hex hex_value
hex_small b e = ltb-true _ _ e

small_by : (k : ByteKind) (b : ℕ) → kind_of b ≡ k → IsSmall k
small_by (Digit d) b e = let f = fact b (Digit d) e in let s = hex_small b f.0 in omega (arith, f.1)
small_by LineFeed b e = tt
small_by Blank b e = tt
small_by Slash b e = tt
small_by Star b e = tt
small_by At b e = tt
small_by Underscore b e = tt
small_by Other b e = tt

digit_small : (k : ByteKind) → IsSmall k → digit_of k < 16
digit_small (Digit d) s = s
digit_small LineFeed s = omega arith
digit_small Blank s = omega arith
digit_small Slash s = omega arith
digit_small Star s = omega arith
digit_small At s = omega arith
digit_small Underscore s = omega arith
digit_small Other s = omega arith

-- ---- every move is allowed
between_allowed : (k : ByteKind) → IsSmall k → IsAllowed false (between k)
between_allowed (Digit d) s = s
between_allowed LineFeed s = (tt, tt)
between_allowed Blank s = (tt, tt)
between_allowed Slash s = (tt, tt)
between_allowed Star s = tt
between_allowed At s = (tt, tt)
between_allowed Underscore s = tt
between_allowed Other s = tt

after_slash_allowed : (k : ByteKind) → IsSmall k → IsAllowed false (after_slash k)
after_slash_allowed (Digit d) s = tt
after_slash_allowed LineFeed s = tt
after_slash_allowed Blank s = tt
after_slash_allowed Slash s = (tt, tt)
after_slash_allowed Star s = (tt, tt)
after_slash_allowed At s = tt
after_slash_allowed Underscore s = tt
after_slash_allowed Other s = tt

in_line_allowed : (k : ByteKind) → IsSmall k → IsAllowed false (in_line k)
in_line_allowed (Digit d) s = (tt, tt)
in_line_allowed LineFeed s = (tt, tt)
in_line_allowed Blank s = (tt, tt)
in_line_allowed Slash s = (tt, tt)
in_line_allowed Star s = (tt, tt)
in_line_allowed At s = (tt, tt)
in_line_allowed Underscore s = (tt, tt)
in_line_allowed Other s = (tt, tt)

in_block_allowed : (k : ByteKind) → IsSmall k → IsAllowed false (in_block k)
in_block_allowed (Digit d) s = (tt, tt)
in_block_allowed LineFeed s = (tt, tt)
in_block_allowed Blank s = (tt, tt)
in_block_allowed Slash s = (tt, tt)
in_block_allowed Star s = (tt, tt)
in_block_allowed At s = (tt, tt)
in_block_allowed Underscore s = (tt, tt)
in_block_allowed Other s = (tt, tt)

after_star_allowed : (k : ByteKind) → IsSmall k → IsAllowed false (after_star k)
after_star_allowed (Digit d) s = (tt, tt)
after_star_allowed LineFeed s = (tt, tt)
after_star_allowed Blank s = (tt, tt)
after_star_allowed Slash s = (tt, tt)
after_star_allowed Star s = (tt, tt)
after_star_allowed At s = (tt, tt)
after_star_allowed Underscore s = (tt, tt)
after_star_allowed Other s = (tt, tt)

after_at_allowed : (k : ByteKind) → IsSmall k → IsAllowed false (after_at k)
after_at_allowed (Digit d) s = ((omega arith, omega arith), tt)
after_at_allowed LineFeed s = tt
after_at_allowed Blank s = tt
after_at_allowed Slash s = tt
after_at_allowed Star s = tt
after_at_allowed At s = tt
after_at_allowed Underscore s = tt
after_at_allowed Other s = tt

behind_allowed : (number : Bool) (t : Token) (m : Move) (k : ByteKind) → IsAllowed number (Go t) → IsAllowed number m → IsAllowed number (behind_digits t m k)
behind_allowed number t m (Digit d) g a = a
behind_allowed number t m Underscore g a = g
behind_allowed number t m LineFeed g a = (tt, tt)
behind_allowed number t m Blank g a = (tt, tt)
behind_allowed number t m Slash g a = (tt, tt)
behind_allowed number t m Star g a = tt
behind_allowed number t m At g a = tt
behind_allowed number t m Other g a = tt

longer_allowed : (number : Bool) (c : Bool) (t : Token) → (c ≡ true → IsAllowed number (Go t)) → IsAllowed number (longer_by c t)
longer_allowed number true t h = h refl
longer_allowed number false t h = tt

allowed : (t : Token) (k : ByteKind) → IsShort t → IsSmall k → IsAllowed (is_number t) (move_of t k)
allowed Between k s d = between_allowed k d
allowed AfterSlash k s d = after_slash_allowed k d
allowed LineComment k s d = in_line_allowed k d
allowed BlockComment k s d = in_block_allowed k d
allowed AfterStar k s d = after_star_allowed k d
allowed AfterAt k s d = after_at_allowed k d
allowed (Address n v) k s d = behind_allowed false (Address n v) (longer_address n v (digit_of k)) k (s, tt)
    (longer_allowed false (nat_lt n 8) (Address (n + 1) (v * 16 + digit_of k)) (λ e. ((omega (arith, ltb-true _ _ e), grows n v (digit_of k) s.1 (digit_small k d)), tt)))
allowed (Number n v) k s d = behind_allowed true (Number n v) (longer_number n v (digit_of k)) k (s, refl)
    (longer_allowed true (nat_lt n 2) (Number (n + 1) (v * 16 + digit_of k)) (λ e. ((omega (arith, ltb-true _ _ e), grows n v (digit_of k) s.1 (digit_small k d)), refl)))

-- ---- every state
record Kept (t : Token) (l : Laying) : Type 0 where
  fit : IsFit l
  short : IsShort t
  begun : IsBegun t (why_not l)

none_of : (t : Token) (w : Option MemWhy) → is_number t ≡ true → IsBegun t w → w ≡ None
none_of Between w e b = absurd cc
none_of AfterSlash w e b = absurd cc
none_of LineComment w e b = absurd cc
none_of BlockComment w e b = absurd cc
none_of AfterStar w e b = absurd cc
none_of AfterAt w e b = absurd cc
none_of (Address n v) w e b = absurd cc
none_of (Number n v) w e b = b

begun_of : (u : Token) (number : Bool) (w : Option MemWhy) → IsNumberOnly number u → (number ≡ true → w ≡ None) → IsBegun u w
begun_of Between number w o h = tt
begun_of AfterSlash number w o h = tt
begun_of LineComment number w o h = tt
begun_of BlockComment number w o h = tt
begun_of AfterStar number w o h = tt
begun_of AfterAt number w o h = tt
begun_of (Address n v) number w o h = tt
begun_of (Number n v) number w o h = h o

is_word : (n v : ℕ) → n ≤ 8 → v < 16 ^ n → v < 2 ^ 32
is_word n v l h = let m = most n 8 l in omega arith

closed_fit : (t : Token) (l : Laying) → Kept t l → IsFit (closed t l)
closed_fit Between l k = k.fit
closed_fit AfterSlash l k = k.fit
closed_fit LineComment l k = k.fit
closed_fit BlockComment l k = k.fit
closed_fit AfterStar l k = k.fit
closed_fit AfterAt l k = k.fit
closed_fit (Address n v) l k = fit_moved l v (is_word n v k.short.0 k.short.1) k.fit
closed_fit (Number n v) l k = fit_grown l v k.fit k.begun

-- whatever follows, where it keeps what every state has
abbrev Ahead : ℕ → List ℕ → ImageView → Type 0
Ahead place bs i = (t : Token) (m : Laying) → Kept t m → whole (place + 1) (record { laying = m; token = t }) bs ≡ Ok i → AreSound i.segments

begun_sound : (w : Option MemWhy) (d place : ℕ) (bs : List ℕ) (l : Laying) (i : ImageView) → d < 16 → IsFit l → why_not l ≡ w → Ahead place bs i
    → on_with (begun w place d l) (λ s. whole (place + 1) s bs) ≡ Ok i → AreSound i.segments
begun_sound None d place bs l i small fit w ih h = ih (Number 1 d) l (record { fit = fit; short = (omega arith, omega arith); begun = w }) h
begun_sound (Some y) d place bs l i small fit w ih h = absurd cc

made_sound : (m : Move) (t : Token) (place : ℕ) (bs : List ℕ) (l : Laying) (i : ImageView) → IsAllowed (is_number t) m → Kept t l → Ahead place bs i
    → on_with (made m place (record { laying = l; token = t })) (λ s. whole (place + 1) s bs) ≡ Ok i → AreSound i.segments
made_sound (Go u) t place bs l i a k ih h =
    ih u l (record { fit = k.fit; short = a.0; begun = begun_of u (is_number t) (why_not l) a.1 (λ e. none_of t (why_not l) e k.begun) }) h
made_sound (Close u) t place bs l i a k ih h =
    ih u (closed t l) (record { fit = closed_fit t l k; short = a.0; begun = begun_of u false (why_not (closed t l)) a.1 (λ e. absurd cc) }) h
made_sound (Begin d) t place bs l i a k ih h = begun_sound (why_not l) d place bs l i a k.fit refl ih h
made_sound Bad t place bs l i a k ih h = absurd cc

sound_of : (l : Laying) (i : ImageView) (place : ℕ) → IsFit l → ended_in Between place l ≡ Ok i → AreSound i.segments
sound_of l i place fit e =
    let same : whole_image l ≡ i = cc in
    let Of : ImageView → Type 0 = λ j. AreSound j.segments in
    subst Of same (all_sound l fit)

end_sound : (t : Token) (place : ℕ) (l : Laying) (i : ImageView) → Kept t l → ended_in t place l ≡ Ok i → AreSound i.segments
end_sound Between place l i k e = sound_of l i place k.fit e
end_sound AfterSlash place l i k e = absurd cc
end_sound LineComment place l i k e = sound_of l i place k.fit e
end_sound BlockComment place l i k e = absurd cc
end_sound AfterStar place l i k e = absurd cc
end_sound AfterAt place l i k e = absurd cc
end_sound (Address n v) place l i k e = sound_of (moved_to v l) i place (closed_fit (Address n v) l k) e
end_sound (Number n v) place l i k e = sound_of (with_byte v l) i place (closed_fit (Number n v) l k) e

reading_sound : (bytes : List ℕ) (place : ℕ) (t : Token) (l : Laying) (i : ImageView) → Kept t l → whole place (record { laying = l; token = t }) bytes ≡ Ok i → AreSound i.segments
unfolding step ended
reading_sound [] place t l i k e = end_sound t place l i k e
reading_sound (b ∷ bs) place t l i k e =
    made_sound (move_of t (kind_of b)) t place bs l i (allowed t (kind_of b) k.short (small_by (kind_of b) b refl)) k (λ u m f h. reading_sound bs (place + 1) u m i f h) e

nothing_sound : AreSound []
nothing_sound = record { few = omega arith; placed = λ k d l. absurd (omega arith); apart = λ j k d l m. absurd (omega arith) }

pub text_is_sound : (entry : ℕ) (bytes : List ℕ) (i : ImageView) → read_text entry bytes ≡ Ok i → AreSound i.segments
unfolding read_text
text_is_sound entry bytes i e =
    reading_sound bytes 0 Between (nothing_laid entry) i (record { fit = record { near = omega arith; sound = nothing_sound; fits = λ k. absurd (omega arith) }; short = tt; begun = tt }) e
