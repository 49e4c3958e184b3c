-- A memory text is read: item by item, reading goes on between tokens.
use Rattle.std.proofs.Common.{◌≡◌, ℕ, suc, ◌+◌, ◌*◌, ◌<◌, ◌≤◌, ◌⊎◌, inl, inr, List, [], ◌∷◌, ◌++◌, length, length-append, get_or, Bool, true, false, Option, Some, None, Result, Ok, Err, refl, sym, ap, subst, ◌∙◌, append_assoc, arith}
use Rattle.std.specs.Prelude.{◌&&◌, ◌||◌, ◌==◌, not, nat_lt, slice_index}
use Rattle.std.specs.List.{list_all}
use Rattle.std.proofs.lemmas.Bool.{lt-ltb}
use Rattle.std.proofs.lemmas.Bool.Decides.{nat_tests}
use Rattle.std.proofs.lemmas.List.{append-nil}
use Rattle.std.proofs.Math.ListN.{get_or-append}
use Rattle.std.proofs.Math.Seq.{get_or-append_seam}
use Rattle.hart_memory.specs.Place.{holds, place}
use Rattle.hart_memory.specs.Image.{SegmentView, ImageView, IsPlaced, AreApart, AreSound, is_apart, meets_any}
use Rattle.hart_memory.specs.declared.image.TheConstants.{MAX_SEGMENTS}
use Rattle.mem_text.specs.Bytes.{is_white, is_hex, hex_value, kind_of}
use Rattle.mem_text.specs.Items.{Item, White, LineRemark, BlockRemark, AddressOf, NumberOf, items_text, AreItems, IsDigits, stays_in_line, has_end, goes_on, ends_line, ends_token, digits_after, digit_count, runs, segment_of, IsMemoryText}
use Rattle.mem_text.specs.Moves.{longer_by, move_of}
use Rattle.mem_text.specs.FirstWrong.{laid}
use Rattle.mem_text.specs.declared.mem_why.MemWhy.{MemWhy}
use Rattle.mem_text.specs.Laying.{Laying, nothing_laid, whole_image, moved_to, with_byte, is_full, why_not}
use Rattle.mem_text.specs.Reading.{Fault, State, fresh, on_with, begun, made, step, whole, ended, read_text}
use Rattle.mem_text.specs.declared.token.Token.{Token}
use Rattle.mem_text.specs.declared.token.Token.TheVariants.{Between, AfterSlash, LineComment, BlockComment, AfterStar, AfterAt, Address, Number}
use Rattle.mem_text.specs.declared.byte_kind.ByteKind.{ByteKind}
use Rattle.mem_text.specs.declared.byte_kind.ByteKind.TheVariants.{Digit, LineFeed, Blank, Slash, Star, At, Underscore, Other}
use Rattle.mem_text.proofs.ByteKinds.{fact, either, hex_kind, white_kind, feed_kind, star_kind, slash_kind, at_kind, underscore_kind, same_by}
use Rattle.mem_text.proofs.Forward.{segments_with, more_digits, first_digit, digit_counts, under_counts, under_passed}

-- whatever the place, this holds of what these bytes give
abbrev pub Reads : Token → Laying → List ℕ → (Result ImageView Fault → Type 0) → Type 0
Reads t l bytes P = (place : ℕ) → P (whole place (record { laying = l; token = t }) bytes)

pub step_by : (t : Token) (l : Laying) (b place : ℕ) (k : ByteKind) → kind_of b ≡ k → step place (record { laying = l; token = t }) b ≡ made (move_of t k) place (record { laying = l; token = t })
unfolding step
step_by t l b place k e = ap (λ k. made (move_of t k) place (record { laying = l; token = t })) e

-- a byte that leads on
pub leads : (t u : Token) (l m : Laying) (b : ℕ) (bs : List ℕ) (P : Result ImageView Fault → Type 0) (k : ByteKind) → kind_of b ≡ k
    → ((place : ℕ) → made (move_of t k) place (record { laying = l; token = t }) ≡ Ok (record { laying = m; token = u })) → Reads u m bs P → Reads t l (b ∷ bs) P
leads t u l m b bs P k e h r = λ place. subst P (sym (ap (λ s. on_with s (λ s. whole (place + 1) s bs)) (step_by t l b place k e ∙ h place))) (r (place + 1))

-- ---- comments
line_byte : (l : Laying) (b : ℕ) (bs : List ℕ) (P : Result ImageView Fault → Type 0) (k : ByteKind) → kind_of b ≡ k → (b == 10) ≡ false → Reads LineComment l bs P → Reads LineComment l (b ∷ bs) P
line_byte l b bs P LineFeed e n r = let f : b ≡ 10 = fact b LineFeed e in let t : (b == 10) ≡ true = rw f refl in absurd cc
line_byte l b bs P (Digit d) e n r = leads LineComment LineComment l l b bs P (Digit d) e (λ p. refl) r
line_byte l b bs P Blank e n r = leads LineComment LineComment l l b bs P Blank e (λ p. refl) r
line_byte l b bs P Slash e n r = leads LineComment LineComment l l b bs P Slash e (λ p. refl) r
line_byte l b bs P Star e n r = leads LineComment LineComment l l b bs P Star e (λ p. refl) r
line_byte l b bs P At e n r = leads LineComment LineComment l l b bs P At e (λ p. refl) r
line_byte l b bs P Underscore e n r = leads LineComment LineComment l l b bs P Underscore e (λ p. refl) r
line_byte l b bs P Other e n r = leads LineComment LineComment l l b bs P Other e (λ p. refl) r

both : (a b : Bool) → (a && b) ≡ true → (a ≡ true) × (b ≡ true)
both true b e = (refl, e)
both false b e = absurd cc

neither : (a b : Bool) → (a || b) ≡ false → (a ≡ false) × (b ≡ false)
neither true b e = absurd cc
neither false b e = (refl, e)

is_not : (a : Bool) → not a ≡ true → a ≡ false
is_not true e = absurd cc
is_not false e = refl

line_run : (t : List ℕ) (l : Laying) (rest : List ℕ) (P : Result ImageView Fault → Type 0) → stays_in_line t ≡ true → Reads LineComment l rest P → Reads LineComment l (t ++ rest) P
line_run [] l rest P e r = r
line_run (b ∷ t) l rest P e r =
    let p = both (not (b == 10)) (stays_in_line t) e in
    line_byte l b (t ++ rest) P (kind_of b) refl (is_not (b == 10) p.0) (line_run t l rest P p.1 r)

line_end : (l : Laying) (rest : List ℕ) (P : Result ImageView Fault → Type 0) → ends_line rest ≡ true → Reads Between l rest P → Reads LineComment l rest P
unfolding ended
line_end l [] P e r = r
line_end l (b ∷ bs) P e r = λ place.
    let k : kind_of b ≡ LineFeed = ap kind_of (same_by b 10 e) ∙ feed_kind in
    subst P (ap (λ s. on_with s (λ s. whole (place + 1) s bs)) (step_by Between l b place LineFeed k ∙ sym (step_by LineComment l b place LineFeed k))) (r place)

-- within a comment in /*, straight after a star or not
abbrev within : Bool → Token
within true = AfterStar
within false = BlockComment

abbrev starred : Bool → List ℕ → List ℕ
starred true t = 42 ∷ t
starred false t = t

block_byte : (l : Laying) (b : ℕ) (bs : List ℕ) (P : Result ImageView Fault → Type 0) (k : ByteKind) → kind_of b ≡ k → (b == 42) ≡ false → Reads BlockComment l bs P → Reads BlockComment l (b ∷ bs) P
block_byte l b bs P Star e n r = let f : b ≡ 42 = fact b Star e in let t : (b == 42) ≡ true = rw f refl in absurd cc
block_byte l b bs P (Digit d) e n r = leads BlockComment BlockComment l l b bs P (Digit d) e (λ p. refl) r
block_byte l b bs P LineFeed e n r = leads BlockComment BlockComment l l b bs P LineFeed e (λ p. refl) r
block_byte l b bs P Blank e n r = leads BlockComment BlockComment l l b bs P Blank e (λ p. refl) r
block_byte l b bs P Slash e n r = leads BlockComment BlockComment l l b bs P Slash e (λ p. refl) r
block_byte l b bs P At e n r = leads BlockComment BlockComment l l b bs P At e (λ p. refl) r
block_byte l b bs P Underscore e n r = leads BlockComment BlockComment l l b bs P Underscore e (λ p. refl) r
block_byte l b bs P Other e n r = leads BlockComment BlockComment l l b bs P Other e (λ p. refl) r

star_byte : (l : Laying) (b : ℕ) (bs : List ℕ) (P : Result ImageView Fault → Type 0) (k : ByteKind) → kind_of b ≡ k → (b == 42) ≡ false → (b == 47) ≡ false → Reads BlockComment l bs P → Reads AfterStar l (b ∷ bs) P
star_byte l b bs P Star e n m r = let f : b ≡ 42 = fact b Star e in let t : (b == 42) ≡ true = rw f refl in absurd cc
star_byte l b bs P Slash e n m r = let f : b ≡ 47 = fact b Slash e in let t : (b == 47) ≡ true = rw f refl in absurd cc
star_byte l b bs P (Digit d) e n m r = leads AfterStar BlockComment l l b bs P (Digit d) e (λ p. refl) r
star_byte l b bs P LineFeed e n m r = leads AfterStar BlockComment l l b bs P LineFeed e (λ p. refl) r
star_byte l b bs P Blank e n m r = leads AfterStar BlockComment l l b bs P Blank e (λ p. refl) r
star_byte l b bs P At e n m r = leads AfterStar BlockComment l l b bs P At e (λ p. refl) r
star_byte l b bs P Underscore e n m r = leads AfterStar BlockComment l l b bs P Underscore e (λ p. refl) r
star_byte l b bs P Other e n m r = leads AfterStar BlockComment l l b bs P Other e (λ p. refl) r

star_again : (star : Bool) (l : Laying) (b : ℕ) (bs : List ℕ) (P : Result ImageView Fault → Type 0) → b ≡ 42 → Reads AfterStar l bs P → Reads (within star) l (b ∷ bs) P
star_again true l b bs P e r = leads AfterStar AfterStar l l b bs P Star (ap kind_of e ∙ star_kind) (λ p. refl) r
star_again false l b bs P e r = leads BlockComment AfterStar l l b bs P Star (ap kind_of e ∙ star_kind) (λ p. refl) r

-- no end stands where the comment goes on
inner : (star : Bool) (b : ℕ) (t : List ℕ) → has_end (starred star (b ∷ t)) ≡ false → has_end (b ∷ t) ≡ false
inner true b t e = (neither _ _ e).1
inner false b t e = e

no_slash : (b : ℕ) (t : List ℕ) → has_end (42 ∷ b ∷ t) ≡ false → (b == 47) ≡ false
no_slash b t e = (neither (b == 47) (has_end (b ∷ t)) e).0

after_star_too : (b : ℕ) (t : List ℕ) → b ≡ 42 → has_end (b ∷ t) ≡ false → has_end (42 ∷ t) ≡ false
after_star_too b t e h = let Of : ℕ → Type 0 = λ c. has_end (c ∷ t) ≡ false in subst Of e h

block_by : (b : ℕ) (t : List ℕ) (star is : Bool) (l : Laying) (rest : List ℕ) (P : Result ImageView Fault → Type 0) → (b == 42) ≡ is → has_end (starred star (b ∷ (t ++ 42 ∷ []))) ≡ false
    → ((s : Bool) → has_end (starred s (t ++ 42 ∷ [])) ≡ false → Reads (within s) l (t ++ 42 ∷ 47 ∷ rest) P) → Reads (within star) l (b ∷ (t ++ 42 ∷ 47 ∷ rest)) P
block_by b t star true l rest P w e ih =
    let same = same_by b 42 w in
    star_again star l b (t ++ 42 ∷ 47 ∷ rest) P same (ih true (after_star_too b (t ++ 42 ∷ []) same (inner star b (t ++ 42 ∷ []) e)))
block_by b t true false l rest P w e ih =
    star_byte l b (t ++ 42 ∷ 47 ∷ rest) P (kind_of b) refl w (no_slash b (t ++ 42 ∷ []) e) (ih false (neither _ _ (inner true b (t ++ 42 ∷ []) e)).1)
block_by b t false false l rest P w e ih =
    block_byte l b (t ++ 42 ∷ 47 ∷ rest) P (kind_of b) refl w (ih false (neither _ _ e).1)

block_run : (t : List ℕ) (star : Bool) (l : Laying) (rest : List ℕ) (P : Result ImageView Fault → Type 0) → has_end (starred star (t ++ 42 ∷ [])) ≡ false → Reads Between l rest P
    → Reads (within star) l (t ++ 42 ∷ 47 ∷ rest) P
block_run [] star l rest P e r = star_again star l 42 (47 ∷ rest) P refl (leads AfterStar Between l l 47 rest P Slash slash_kind (λ p. refl) r)
block_run (b ∷ t) star l rest P e r = block_by b t star (b == 42) l rest P refl e (λ s h. block_run t s l rest P h r)

-- ---- digits
longer_is : (c : Bool) (t : Token) (place : ℕ) (s : State) → c ≡ true → made (longer_by c t) place s ≡ Ok (record s { token = t })
longer_is c t place s e = ap (λ c. made (longer_by c t) place s) e

address_by : (b : ℕ) (x : List ℕ) (n v : ℕ) (l : Laying) (rest : List ℕ) (P : Result ImageView Fault → Type 0) → (is_hex b ≡ true) ⊎ ((b == 95) ≡ true) → n + digit_count (b ∷ x) ≤ 8
    → ((m : ℕ) → Reads (Address m (digits_after v (b ∷ x))) l rest P)
    → ((m w : ℕ) → m + digit_count x ≤ 8 → ((k : ℕ) → Reads (Address k (digits_after w x)) l rest P) → Reads (Address m w) l (x ++ rest) P)
    → Reads (Address n v) l (b ∷ (x ++ rest)) P
address_by b x n v l rest P (inl h) few r ih =
    let d = hex_value b in
    let Of : ℕ → Type 0 = λ w. (k : ℕ) → Reads (Address k w) l rest P in
    let less : n + 1 + digit_count x ≤ 8 = omega (arith, digit_counts b x h) in
    let low : n < 8 = omega arith in
    leads (Address n v) (Address (n + 1) (v * 16 + d)) l l b (x ++ rest) P (Digit d) (hex_kind b h)
    (λ p. longer_is (nat_lt n 8) (Address (n + 1) (v * 16 + d)) p (record { laying = l; token = Address n v }) (lt-ltb _ _ low))
    (ih (n + 1) (v * 16 + d) less (subst Of (more_digits v b d x h refl) r))
address_by b x n v l rest P (inr h) few r ih =
    let e : b ≡ 95 = same_by b 95 h in
    let Of : ℕ → Type 0 = λ w. (k : ℕ) → Reads (Address k w) l rest P in
    leads (Address n v) (Address n v) l l b (x ++ rest) P Underscore (ap kind_of e ∙ underscore_kind) (λ p. refl)
    (ih n v (omega (arith, under_counts b x e)) (subst Of (under_passed v b x e) r))

address_run : (x : List ℕ) (n v : ℕ) (l : Laying) (rest : List ℕ) (P : Result ImageView Fault → Type 0) → list_all goes_on x ≡ true → n + digit_count x ≤ 8
    → ((m : ℕ) → Reads (Address m (digits_after v x)) l rest P) → Reads (Address n v) l (x ++ rest) P
address_run [] n v l rest P e few r = r n
address_run (b ∷ x) n v l rest P e few r =
    let p = both (goes_on b) (list_all goes_on x) e in
    address_by b x n v l rest P (either (is_hex b) (b == 95) p.0) few r (λ m w f h. address_run x m w l rest P p.1 f h)

number_by : (b : ℕ) (x : List ℕ) (n v : ℕ) (l : Laying) (rest : List ℕ) (P : Result ImageView Fault → Type 0) → (is_hex b ≡ true) ⊎ ((b == 95) ≡ true) → n + digit_count (b ∷ x) ≤ 2
    → ((m : ℕ) → Reads (Number m (digits_after v (b ∷ x))) l rest P)
    → ((m w : ℕ) → m + digit_count x ≤ 2 → ((k : ℕ) → Reads (Number k (digits_after w x)) l rest P) → Reads (Number m w) l (x ++ rest) P)
    → Reads (Number n v) l (b ∷ (x ++ rest)) P
number_by b x n v l rest P (inl h) few r ih =
    let d = hex_value b in
    let Of : ℕ → Type 0 = λ w. (k : ℕ) → Reads (Number k w) l rest P in
    let less : n + 1 + digit_count x ≤ 2 = omega (arith, digit_counts b x h) in
    let low : n < 2 = omega arith in
    leads (Number n v) (Number (n + 1) (v * 16 + d)) l l b (x ++ rest) P (Digit d) (hex_kind b h)
    (λ p. longer_is (nat_lt n 2) (Number (n + 1) (v * 16 + d)) p (record { laying = l; token = Number n v }) (lt-ltb _ _ low))
    (ih (n + 1) (v * 16 + d) less (subst Of (more_digits v b d x h refl) r))
number_by b x n v l rest P (inr h) few r ih =
    let e : b ≡ 95 = same_by b 95 h in
    let Of : ℕ → Type 0 = λ w. (k : ℕ) → Reads (Number k w) l rest P in
    leads (Number n v) (Number n v) l l b (x ++ rest) P Underscore (ap kind_of e ∙ underscore_kind) (λ p. refl)
    (ih n v (omega (arith, under_counts b x e)) (subst Of (under_passed v b x e) r))

number_run : (x : List ℕ) (n v : ℕ) (l : Laying) (rest : List ℕ) (P : Result ImageView Fault → Type 0) → list_all goes_on x ≡ true → n + digit_count x ≤ 2
    → ((m : ℕ) → Reads (Number m (digits_after v x)) l rest P) → Reads (Number n v) l (x ++ rest) P
number_run [] n v l rest P e few r = r n
number_run (b ∷ x) n v l rest P e few r =
    let p = both (goes_on b) (list_all goes_on x) e in
    number_by b x n v l rest P (either (is_hex b) (b == 95) p.0) few r (λ m w f h. number_run x m w l rest P p.1 f h)

zero_no_hex : is_hex 0 ≡ false
unfolding is_hex
zero_no_hex = refl

no_digit : is_hex (slice_index [] 0) ≡ true → ⊥
no_digit e = let f = zero_no_hex in cc

-- an address or a number ends as its following byte does between tokens
closes_white : (t : Token) (l m : Laying) (b : ℕ) (bs : List ℕ) (P : Result ImageView Fault → Type 0) → ((place : ℕ) (k : ByteKind) → (k ≡ LineFeed) ⊎ ((k ≡ Blank) ⊎ (k ≡ Slash))
    → made (move_of t k) place (record { laying = l; token = t }) ≡ made (move_of Between k) place (record { laying = m; token = Between }))
    → (is_white b || b == 47) ≡ true → Reads Between m (b ∷ bs) P → Reads t l (b ∷ bs) P
closes_white t l m b bs P h w r = λ place.
    let same : (k : ByteKind) → kind_of b ≡ k → (k ≡ LineFeed) ⊎ ((k ≡ Blank) ⊎ (k ≡ Slash)) → P (whole place (record { laying = l; token = t }) (b ∷ bs))
    = λ k e c. subst P (sym (ap (λ s. on_with s (λ s. whole (place + 1) s bs)) (step_by t l b place k e ∙ h place k c ∙ sym (step_by Between m b place k e)))) (r place) in
    elim (either (is_white b) (b == 47) w) [
      | inl v ↦ elim (white_kind b v) [ inl e ↦ same LineFeed e (inl refl) | inr e ↦ same Blank e (inr (inl refl)) ]
      | inr v ↦ same Slash (ap kind_of (same_by b 47 v) ∙ slash_kind) (inr (inr refl))
    ]

address_closes : (n v place : ℕ) (l : Laying) (k : ByteKind) → (k ≡ LineFeed) ⊎ ((k ≡ Blank) ⊎ (k ≡ Slash))
    → made (move_of (Address n v) k) place (record { laying = l; token = Address n v }) ≡ made (move_of Between k) place (record { laying = moved_to v l; token = Between })
address_closes n v place l LineFeed c = refl
address_closes n v place l Blank c = refl
address_closes n v place l Slash c = refl
address_closes n v place l (Digit d) c = absurd (elim c [ inl e ↦ cc | inr e ↦ elim e [ inl f ↦ cc | inr f ↦ cc ] ])
address_closes n v place l Star c = absurd (elim c [ inl e ↦ cc | inr e ↦ elim e [ inl f ↦ cc | inr f ↦ cc ] ])
address_closes n v place l At c = absurd (elim c [ inl e ↦ cc | inr e ↦ elim e [ inl f ↦ cc | inr f ↦ cc ] ])
address_closes n v place l Underscore c = absurd (elim c [ inl e ↦ cc | inr e ↦ elim e [ inl f ↦ cc | inr f ↦ cc ] ])
address_closes n v place l Other c = absurd (elim c [ inl e ↦ cc | inr e ↦ elim e [ inl f ↦ cc | inr f ↦ cc ] ])

number_closes : (n v place : ℕ) (l : Laying) (k : ByteKind) → (k ≡ LineFeed) ⊎ ((k ≡ Blank) ⊎ (k ≡ Slash))
    → made (move_of (Number n v) k) place (record { laying = l; token = Number n v }) ≡ made (move_of Between k) place (record { laying = with_byte v l; token = Between })
number_closes n v place l LineFeed c = refl
number_closes n v place l Blank c = refl
number_closes n v place l Slash c = refl
number_closes n v place l (Digit d) c = absurd (elim c [ inl e ↦ cc | inr e ↦ elim e [ inl f ↦ cc | inr f ↦ cc ] ])
number_closes n v place l Star c = absurd (elim c [ inl e ↦ cc | inr e ↦ elim e [ inl f ↦ cc | inr f ↦ cc ] ])
number_closes n v place l At c = absurd (elim c [ inl e ↦ cc | inr e ↦ elim e [ inl f ↦ cc | inr f ↦ cc ] ])
number_closes n v place l Underscore c = absurd (elim c [ inl e ↦ cc | inr e ↦ elim e [ inl f ↦ cc | inr f ↦ cc ] ])
number_closes n v place l Other c = absurd (elim c [ inl e ↦ cc | inr e ↦ elim e [ inl f ↦ cc | inr f ↦ cc ] ])

address_end : (n v : ℕ) (l : Laying) (rest : List ℕ) (P : Result ImageView Fault → Type 0) → ends_token rest ≡ true → Reads Between (moved_to v l) rest P → Reads (Address n v) l rest P
unfolding ended
address_end n v l [] P e r = r
address_end n v l (b ∷ bs) P e r = closes_white (Address n v) l (moved_to v l) b bs P (λ place k c. address_closes n v place l k c) e r

number_end : (n v : ℕ) (l : Laying) (rest : List ℕ) (P : Result ImageView Fault → Type 0) → ends_token rest ≡ true → Reads Between (with_byte v l) rest P → Reads (Number n v) l rest P
unfolding ended
number_end n v l [] P e r = r
number_end n v l (b ∷ bs) P e r = closes_white (Number n v) l (with_byte v l) b bs P (λ place k c. number_closes n v place l k c) e r

-- ---- a number's byte may stand where the image's segments stand apart
holds_at : (at n m : ℕ) → n < m → holds at m ≡ true → holds (at + n) 1 ≡ true
unfolding place
holds_at at n m l h = grind (arith, nat_tests)

apart_at : (at n m : ℕ) (s t : SegmentView) → n < m → length t.content ≡ m → t.address ≡ at → AreApart s t → is_apart (at + n) 1 s ≡ true
apart_at at n m s t l k e h = grind (arith, nat_tests)

none_meets : (at n m : ℕ) (ss : List SegmentView) (t : SegmentView) → n < m → length t.content ≡ m → t.address ≡ at
    → ((k : ℕ) (d : SegmentView) → k < length ss → AreApart (get_or ss k d) t) → meets_any (at + n) 1 ss ≡ false
none_meets at n m [] t l k e h = refl
none_meets at n m (s ∷ ss) t l k e h = rw (apart_at at n m s t l k e (h 0 s (omega arith))) (none_meets at n m ss t l k e (λ j d q. h (suc j) d (omega arith)))

stands_by : (l : Laying) → is_full l ≡ false → holds (l.from + length l.filled) 1 ≡ true → meets_any (l.from + length l.filled) 1 l.image.segments ≡ false → why_not l ≡ None
unfolding why_not
stands_by l a b c = rw (a, b, c) refl

not_full : (l : Laying) → length l.image.segments < MAX_SEGMENTS → is_full l ≡ false
not_full l h = grind (arith, nat_tests)

stands_before : (l : Laying) (t : SegmentView) (ss : List SegmentView) → t.address ≡ l.from → length l.filled < length t.content → AreSound (l.image.segments ++ t ∷ ss) → why_not l ≡ None
stands_before l t ss e k h =
    let before = l.image.segments in
    let inside : length before < length (before ++ t ∷ ss) = omega (arith, length-append before (t ∷ ss)) in
    let few : length before < MAX_SEGMENTS = omega (arith, h.few) in
    let placed : IsPlaced t = subst (λ (u : SegmentView). IsPlaced u) (get_or-append_seam before t ss t) (h.placed (length before) t inside) in
    let held : holds l.from (length t.content) ≡ true = subst (λ (a : ℕ). holds a (length t.content) ≡ true) e placed.1 in
    stands_by l (not_full l few) (holds_at l.from (length l.filled) (length t.content) k held)
    (none_meets l.from (length l.filled) (length t.content) before t k refl e (λ j d q.
    subst (λ (u : SegmentView). AreApart u t) (get_or-append before (t ∷ ss) d j q)
    (subst (λ (u : SegmentView). AreApart (get_or (before ++ t ∷ ss) j d) u) (get_or-append_seam before t ss d) (h.apart j (length before) d q inside))))

-- a segment of bytes of which one is in the middle
one_segment : (at v : ℕ) (filled front : List ℕ) → segment_of at (filled ++ v ∷ front) ≡ record { address = at; content = filled ++ v ∷ front } ∷ []
one_segment at v [] front = refl
one_segment at v (b ∷ bs) front = refl

stands_with : (v : ℕ) (l : Laying) (front : List ℕ) (behind ss : List SegmentView) → l.image.segments ++ (segment_of l.from (l.filled ++ v ∷ front) ++ behind) ≡ ss → AreSound ss → why_not l ≡ None
stands_with v l front behind ss e h =
    let t : SegmentView = record { address = l.from; content = l.filled ++ v ∷ front } in
    let same : l.image.segments ++ t ∷ behind ≡ ss = ap (λ u. l.image.segments ++ (u ++ behind)) (sym (one_segment l.from v l.filled front)) ∙ e in
    let Of : List SegmentView → Type 0 = λ ss. AreSound ss in
    stands_before l t behind refl (omega (arith, length-append l.filled (v ∷ front))) (subst Of (sym same) h)

-- ---- item by item
white_item : (b : ℕ) (l : Laying) (rest : List ℕ) (P : Result ImageView Fault → Type 0) → is_white b ≡ true → Reads Between l rest P → Reads Between l (b ∷ rest) P
white_item b l rest P w r =
    elim (white_kind b w) [
      | inl e ↦ leads Between Between l l b rest P LineFeed e (λ p. refl) r
      | inr e ↦ leads Between Between l l b rest P Blank e (λ p. refl) r
    ]

line_item : (t : List ℕ) (l : Laying) (rest : List ℕ) (P : Result ImageView Fault → Type 0) → stays_in_line t ≡ true → ends_line rest ≡ true → Reads Between l rest P → Reads Between l (47 ∷ 47 ∷ (t ++ rest)) P
line_item t l rest P s e r =
    leads Between AfterSlash l l 47 (47 ∷ (t ++ rest)) P Slash slash_kind (λ p. refl)
    (leads AfterSlash LineComment l l 47 (t ++ rest) P Slash slash_kind (λ p. refl) (line_run t l rest P s (line_end l rest P e r)))

block_item : (t : List ℕ) (l : Laying) (rest : List ℕ) (P : Result ImageView Fault → Type 0) → has_end (t ++ 42 ∷ []) ≡ false → Reads Between l rest P → Reads Between l (47 ∷ 42 ∷ (t ++ 42 ∷ 47 ∷ rest)) P
block_item t l rest P e r =
    leads Between AfterSlash l l 47 (42 ∷ (t ++ 42 ∷ 47 ∷ rest)) P Slash slash_kind (λ p. refl)
    (leads AfterSlash BlockComment l l 42 (t ++ 42 ∷ 47 ∷ rest) P Star star_kind (λ p. refl) (block_run t false l rest P e r))

address_item : (t : List ℕ) (l : Laying) (rest : List ℕ) (P : Result ImageView Fault → Type 0) → IsDigits 8 t → ends_token rest ≡ true → Reads Between (moved_to (digits_after 0 t) l) rest P → Reads Between l (64 ∷ (t ++ rest)) P
address_item [] l rest P d e r = absurd (no_digit d.begins)
address_item (b ∷ x) l rest P d e r =
    let p = both (goes_on b) (list_all goes_on x) d.on in
    let Of : ℕ → Type 0 = λ w. (k : ℕ) → Reads (Address k w) l rest P in
    leads Between AfterAt l l 64 (b ∷ (x ++ rest)) P At at_kind (λ p. refl)
    (leads AfterAt (Address 1 (hex_value b)) l l b (x ++ rest) P (Digit (hex_value b)) (hex_kind b d.begins) (λ p. refl)
    (address_run x 1 (hex_value b) l rest P p.1 (omega (arith, digit_counts b x d.begins, d.few))
    (subst Of (first_digit b (hex_value b) x d.begins refl) (λ k. address_end k (digits_after 0 (b ∷ x)) l rest P e r))))

number_item : (t : List ℕ) (l : Laying) (rest : List ℕ) (P : Result ImageView Fault → Type 0) → IsDigits 2 t → ends_token rest ≡ true → why_not l ≡ None → Reads Between (with_byte (digits_after 0 t) l) rest P → Reads Between l (t ++ rest) P
number_item [] l rest P d e s r = absurd (no_digit d.begins)
number_item (b ∷ x) l rest P d e s r =
    let p = both (goes_on b) (list_all goes_on x) d.on in
    let Of : ℕ → Type 0 = λ w. (k : ℕ) → Reads (Number k w) l rest P in
    leads Between (Number 1 (hex_value b)) l l b (x ++ rest) P (Digit (hex_value b)) (hex_kind b d.begins) (λ p. ap (λ w. begun w p (hex_value b) l) s)
    (number_run x 1 (hex_value b) l rest P p.1 (omega (arith, digit_counts b x d.begins, d.few))
    (subst Of (first_digit b (hex_value b) x d.begins refl) (λ k. number_end k (digits_after 0 (b ∷ x)) l rest P e r)))

-- a number's first digit that may not stand at its place
number_refused : (t : List ℕ) (l : Laying) (rest : List ℕ) (P : Result ImageView Fault → Type 0) (why : MemWhy) → IsDigits 2 t → why_not l ≡ Some why → ((place : ℕ) → P (Err (record { place = place; why = why })))
    → Reads Between l (t ++ rest) P
number_refused [] l rest P why d s r = absurd (no_digit d.begins)
number_refused (b ∷ x) l rest P why d s r = λ place.
    let begins = step_by Between l b place (Digit (hex_value b)) (hex_kind b d.begins) ∙ ap (λ w. begun w place (hex_value b) l) s in
    subst P (sym (ap (λ s. on_with s (λ s. whole (place + 1) s (x ++ rest))) begins)) (r place)

-- this holds of the first number that may not stand, or of the image
abbrev pub Stands : (Result ImageView Fault → Type 0) → Option MemWhy → Type 0 → Type 0
Stands P None next = next
Stands P (Some why) next = (place : ℕ) → P (Err (record { place = place; why = why }))

abbrev pub Lays : (Result ImageView Fault → Type 0) → List Item → Laying → Type 0
Lays P [] l = P (Ok (whole_image l))
Lays P (White b ∷ is) l = Lays P is l
Lays P (LineRemark t ∷ is) l = Lays P is l
Lays P (BlockRemark t ∷ is) l = Lays P is l
Lays P (AddressOf t ∷ is) l = Lays P is (moved_to (digits_after 0 t) l)
Lays P (NumberOf t ∷ is) l = Stands P (why_not l) (Lays P is (with_byte (digits_after 0 t) l))

number_by_cause : (t : List ℕ) (l : Laying) (rest : List ℕ) (P : Result ImageView Fault → Type 0) (next : Type 0) (w : Option MemWhy) → IsDigits 2 t → ends_token rest ≡ true → why_not l ≡ w → Stands P w next
    → (next → Reads Between (with_byte (digits_after 0 t) l) rest P) → Reads Between l (t ++ rest) P
number_by_cause t l rest P next None d e s h r = number_item t l rest P d e s (r h)
number_by_cause t l rest P next (Some why) d e s h r = number_refused t l rest P why d s h

-- whatever holds of what items lay down holds of what their text gives
pub items_answered : (is : List Item) (l : Laying) (P : Result ImageView Fault → Type 0) → AreItems is → Lays P is l → Reads Between l (items_text is) P
unfolding ended
items_answered [] l P a h = λ place. h
items_answered (White b ∷ is) l P a h = white_item b l (items_text is) P a.0 (items_answered is l P a.2 h)
items_answered (LineRemark t ∷ is) l P a h = line_item t l (items_text is) P a.0 a.1 (items_answered is l P a.2 h)
items_answered (BlockRemark t ∷ is) l P a h =
    let Of : List ℕ → Type 0 = λ x. Reads Between l (47 ∷ 42 ∷ x) P in
    subst Of (sym (append_assoc t (42 ∷ 47 ∷ []) (items_text is))) (block_item t l (items_text is) P a.0 (items_answered is l P a.2 h))
items_answered (AddressOf t ∷ is) l P a h = address_item t l (items_text is) P a.0 a.1 (items_answered is (moved_to (digits_after 0 t) l) P a.2 h)
items_answered (NumberOf t ∷ is) l P a h =
    let m = with_byte (digits_after 0 t) l in
    number_by_cause t l (items_text is) P (Lays P is m) (why_not l) a.0 a.1 refl h (λ k. items_answered is m P a.2 k)

-- ---- items of an image: each number may stand
image_is : (l : Laying) (i : ImageView) → segments_with l [] ≡ i.segments → l.image.start ≡ i.start → whole_image l ≡ i
image_is l i e k =
    let same : l.image.segments ++ segment_of l.from l.filled ≡ i.segments
    = sym (ap (λ f. l.image.segments ++ f) (append-nil (segment_of l.from (l.filled ++ [])) ∙ ap (segment_of l.from) (append-nil l.filled))) ∙ e in
    let Made : ℕ → List SegmentView → ImageView = λ n ss. record { start = n; segments = ss } in
    ap (λ n. Made n (l.image.segments ++ segment_of l.from l.filled)) k ∙ ap (λ ss. Made i.start ss) same

address_same : (v : ℕ) (l : Laying) (is : List Item) (ss : List SegmentView) → l.image.segments ++ (segment_of l.from (l.filled ++ []) ++ (segment_of v (runs is).front ++ (runs is).behind)) ≡ ss
    → segments_with (moved_to v l) is ≡ ss
address_same v l is ss e =
    let rest = segment_of v (runs is).front ++ (runs is).behind in
    append_assoc l.image.segments (segment_of l.from l.filled) rest ∙ ap (λ f. l.image.segments ++ (segment_of l.from f ++ rest)) (sym (append-nil l.filled)) ∙ e

number_same : (v : ℕ) (l : Laying) (is : List Item) (ss : List SegmentView) → l.image.segments ++ (segment_of l.from (l.filled ++ v ∷ (runs is).front) ++ (runs is).behind) ≡ ss
    → segments_with (with_byte v l) is ≡ ss
number_same v l is ss e = ap (λ f. l.image.segments ++ (segment_of l.from f ++ (runs is).behind)) (append_assoc l.filled (v ∷ []) (runs is).front) ∙ e

stands_free : (P : Result ImageView Fault → Type 0) (w : Option MemWhy) (next : Type 0) → w ≡ None → next → Stands P w next
stands_free P None next e h = h
stands_free P (Some why) next e h = absurd cc

-- behind these items stand others
pub lays_before : (is js : List Item) (l : Laying) (i : ImageView) (P : Result ImageView Fault → Type 0) → segments_with l is ≡ i.segments → AreSound i.segments → Lays P js (laid is l) → Lays P (is ++ js) l
lays_before [] js l i P e s h = h
lays_before (White b ∷ is) js l i P e s h = lays_before is js l i P e s h
lays_before (LineRemark t ∷ is) js l i P e s h = lays_before is js l i P e s h
lays_before (BlockRemark t ∷ is) js l i P e s h = lays_before is js l i P e s h
lays_before (AddressOf t ∷ is) js l i P e s h =
    let v = digits_after 0 t in
    lays_before is js (moved_to v l) i P (address_same v l is i.segments e) s h
lays_before (NumberOf t ∷ is) js l i P e s h =
    let v = digits_after 0 t in
    let free = stands_with v l (runs is).front (runs is).behind i.segments e s in
    stands_free P (why_not l) (Lays P (is ++ js) (with_byte v l)) free (lays_before is js (with_byte v l) i P (number_same v l is i.segments e) s h)

laid_image : (is : List Item) (l : Laying) (i : ImageView) → segments_with l is ≡ i.segments → l.image.start ≡ i.start → whole_image (laid is l) ≡ i
laid_image [] l i e k = image_is l i e k
laid_image (White b ∷ is) l i e k = laid_image is l i e k
laid_image (LineRemark t ∷ is) l i e k = laid_image is l i e k
laid_image (BlockRemark t ∷ is) l i e k = laid_image is l i e k
laid_image (AddressOf t ∷ is) l i e k = let v = digits_after 0 t in laid_image is (moved_to v l) i (address_same v l is i.segments e) k
laid_image (NumberOf t ∷ is) l i e k = let v = digits_after 0 t in laid_image is (with_byte v l) i (number_same v l is i.segments e) k

items_read : (is : List Item) (l : Laying) (i : ImageView) → AreItems is → segments_with l is ≡ i.segments → l.image.start ≡ i.start → AreSound i.segments → Reads Between l (items_text is) (λ r. r ≡ Ok i)
items_read is l i a e k s =
    let Of : List Item → Type 0 = λ js. Lays (λ r. r ≡ Ok i) js l in
    items_answered is l (λ r. r ≡ Ok i) a (subst Of (append-nil is) (lays_before is [] l i (λ r. r ≡ Ok i) e s (ap Ok (laid_image is l i e k))))

pub text_is_read : (entry : ℕ) (bytes : List ℕ) (i : ImageView) → IsMemoryText bytes entry i → read_text entry bytes ≡ Ok i
unfolding read_text
text_is_read entry bytes i h =
    let Of : List ℕ → Type 0 = λ t. whole 0 (fresh entry) t ≡ Ok i in
    subst Of h.text (items_read h.items (nothing_laid entry) i h.are h.same (sym h.start) h.sound 0)

-- two images that reading gives are one
same_ok : (r : Result ImageView Fault) (i j : ImageView) → r ≡ Ok i → r ≡ Ok j → i ≡ j
same_ok r i j e f = cc

pub one_image : (entry : ℕ) (bytes : List ℕ) (i j : ImageView) → IsMemoryText bytes entry i → IsMemoryText bytes entry j → i ≡ j
one_image entry bytes i j g h = same_ok (read_text entry bytes) i j (text_is_read entry bytes i g) (text_is_read entry bytes j h)
