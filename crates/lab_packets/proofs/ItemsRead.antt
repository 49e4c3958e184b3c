-- Reading the text of items tells what they tell: one induction over items, with one over data in it.
use Rattle.std.proofs.Common.{◌≡◌, ℕ, suc, ◌+◌, ◌<◌, ◌≤◌, List, [], ◌∷◌, ◌++◌, append_assoc, append-nil, length, length-append, Bool, true, false, cond, refl, sym, ap, ◌∙◌, arith}
use Rattle.std.specs.Prelude.{◌==◌, ◌&&◌, nat_lt, nat_le, not}
use Rattle.std.proofs.lemmas.Bool.{lt-ltb, and_parts}
use Rattle.std.proofs.lemmas.Bool.Decides.{nat_tests}
use Rattle.lab_packets.specs.Frames.{Hearing, Told, most_data, may_stand, are_data, begun, after, is_sum, reached, messages, told_message, message_of, verdict, Message, Whole, Refused, AskedAgain}
use Rattle.lab_packets.specs.Stream.{Item, Passed, Begun, Frame, item_text, items_text, is_no_dollar, is_open_end, is_open, gives_up, AreItems, item_messages, items_messages}
use Rattle.lab_packets.specs.declared.frame_place.FramePlace.{FramePlace}
use Rattle.lab_packets.specs.declared.frame_place.FramePlace.TheVariants.{Between, InData, FirstDigit, SecondDigit}
use Rattle.lab_packets.specs.declared.heard.Heard.TheVariants.{Nothing, Again, Bad, Packet}
use Rattle.lab_packets.proofs.Onward.{reached_both, messages_both}

abbrev held : FramePlace → List ℕ → Bool → Hearing
held p content long = record { place = p; content = content; is_long = long }

abbrev silent : Hearing → Told
silent h = record { heard = Nothing; next = h }

no_dollar : (b : ℕ) → is_no_dollar b ≡ true → (b == 36) ≡ false
no_dollar b h = grind (arith, nat_tests, h)

-- what a byte of data adds
abbrev added : List ℕ → Bool → ℕ → Hearing
added content long b = cond (nat_lt (length content) most_data) (held InData (content ++ b ∷ []) long) (held InData content true)

-- ---- one byte

begin_step : (h : Hearing) → after h 36 ≡ silent begun
unfolding after
begin_step h = refl

data_step : (content : List ℕ) (long : Bool) (b : ℕ) → (b == 36) ≡ false → (b == 35) ≡ false → after (held InData content long) b ≡ silent (added content long b)
unfolding after
data_step content long b n m = rw (n, m) refl

mark_step : (content : List ℕ) (long : Bool) → after (held InData content long) 35 ≡ silent (held FirstDigit content long)
unfolding after
mark_step content long = refl

first_step : (content : List ℕ) (long : Bool) (x : ℕ) → (x == 36) ≡ false → after (held FirstDigit content long) x ≡ silent (held (SecondDigit x) content long)
unfolding after
first_step content long x e = rw e refl

second_step : (content : List ℕ) (long : Bool) (x y : ℕ) → (y == 36) ≡ false → after (held (SecondDigit x) content long) y ≡ record { heard = verdict (held (SecondDigit x) content long) x y; next = held Between content long }
unfolding after
second_step content long x y e = rw e refl

between_step : (content : List ℕ) (long : Bool) (b : ℕ) → (b == 36) ≡ false → after (held Between content long) b ≡ record { heard = cond (b == 45) Again Nothing; next = held Between content long }
unfolding after
between_step content long b e = rw e refl

-- ---- data

-- where data leads: still within data
pub record Leads (h : Hearing) (bytes : List ℕ) (content : List ℕ) (long : Bool) : Type 0 where
  pub reached_is : reached h bytes ≡ held InData content long
  pub tells : messages h bytes ≡ []

one_more : (h : Hearing) (b : ℕ) (bytes content : List ℕ) (long : Bool) (next : Hearing) → after h b ≡ silent next → Leads next bytes content long → Leads h (b ∷ bytes) content long
one_more h b bytes content long next e l = record {
  reached_is = ap (λ (t : Told). reached t.next bytes) e ∙ l.reached_is;
  tells = ap (λ (t : Told). told_message t ++ messages t.next bytes) e ∙ l.tells;
}

data_tests : (b : ℕ) → may_stand b ≡ true → ((b == 36) ≡ false) × ((b == 35) ≡ false)
data_tests b h =
    let parts = and_parts (not (b == 36)) (not (b == 35)) h in
    let first : (b == 36) ≡ false = grind (arith, nat_tests, parts.0) in
    let second : (b == 35) ≡ false = grind (arith, nat_tests, parts.1) in
    (first, second)

-- within bounds
short : (content bytes : List ℕ) → are_data bytes ≡ true → length content + length bytes ≤ most_data → Leads (held InData content false) bytes (content ++ bytes) false
short content [] e l = record { reached_is = ap (λ c. held InData c false) (sym (append-nil content)); tells = refl }
short content (b ∷ bytes) e l =
    let parts = and_parts (may_stand b) (are_data bytes) e in
    let tests = data_tests b parts.0 in
    let room : nat_lt (length content) most_data ≡ true = lt-ltb (length content) most_data (omega arith) in
    let more : length (content ++ b ∷ []) + length bytes ≤ most_data = omega (arith, length-append content (b ∷ [])) in
    let step : after (held InData content false) b ≡ silent (held InData (content ++ b ∷ []) false) = data_step content false b tests.0 tests.1 ∙ ap (λ t. silent (cond t (held InData (content ++ b ∷ []) false) (held InData content true))) room in
    let rest = short (content ++ b ∷ []) bytes parts.1 more in
    let joined : Leads (held InData (content ++ b ∷ []) false) bytes (content ++ b ∷ bytes) false = record { reached_is = rest.reached_is ∙ ap (λ c. held InData c false) (append_assoc content (b ∷ []) bytes); tells = rest.tells } in
    one_more (held InData content false) b bytes (content ++ b ∷ bytes) false (held InData (content ++ b ∷ []) false) step joined

-- past them, whatever is kept
abbrev LeadsLong : Hearing → List ℕ → Type 0
LeadsLong h bytes = (content : List ℕ) × Leads h bytes content true

long_more : (h : Hearing) (b : ℕ) (bytes : List ℕ) (next : Hearing) → after h b ≡ silent next → LeadsLong next bytes → LeadsLong h (b ∷ bytes)
long_more h b bytes next e l = (l.0, one_more h b bytes l.0 true next e l.1)

long_by : (t : Bool) (content : List ℕ) (b : ℕ) (bytes : List ℕ) → nat_lt (length content) most_data ≡ t → (b == 36) ≡ false → (b == 35) ≡ false
    → ((c : List ℕ) → LeadsLong (held InData c true) bytes) → LeadsLong (held InData content true) (b ∷ bytes)
long_by t content b bytes e n m rest =
    let step : after (held InData content true) b ≡ silent (cond t (held InData (content ++ b ∷ []) true) (held InData content true)) = data_step content true b n m ∙ ap (λ u. silent (cond u (held InData (content ++ b ∷ []) true) (held InData content true))) e in
    elim t as (λ u. after (held InData content true) b ≡ silent (cond u (held InData (content ++ b ∷ []) true) (held InData content true)) → LeadsLong (held InData content true) (b ∷ bytes)) [
      | true ↦ λ s. long_more (held InData content true) b bytes (held InData (content ++ b ∷ []) true) s (rest (content ++ b ∷ []))
      | false ↦ λ s. long_more (held InData content true) b bytes (held InData content true) s (rest content)
    ] step

stays_long : (bytes : List ℕ) → are_data bytes ≡ true → (content : List ℕ) → LeadsLong (held InData content true) bytes
stays_long [] e content = (content, record { reached_is = refl; tells = refl })
stays_long (b ∷ bytes) e content =
    let parts = and_parts (may_stand b) (are_data bytes) e in
    let tests = data_tests b parts.0 in
    long_by (nat_lt (length content) most_data) content b bytes refl tests.0 tests.1 (λ c. stays_long bytes parts.1 c)

-- past them in the end
grows_by : (t : Bool) (content : List ℕ) (b : ℕ) (bytes : List ℕ) → nat_lt (length content) most_data ≡ t → (b == 36) ≡ false → (b == 35) ≡ false
    → (t ≡ true → LeadsLong (held InData (content ++ b ∷ []) false) bytes) → LeadsLong (held InData content true) bytes → LeadsLong (held InData content false) (b ∷ bytes)
grows_by t content b bytes e n m on over =
    let step : after (held InData content false) b ≡ silent (cond t (held InData (content ++ b ∷ []) false) (held InData content true)) = data_step content false b n m ∙ ap (λ u. silent (cond u (held InData (content ++ b ∷ []) false) (held InData content true))) e in
    elim t as (λ u. (u ≡ true → LeadsLong (held InData (content ++ b ∷ []) false) bytes) → after (held InData content false) b ≡ silent (cond u (held InData (content ++ b ∷ []) false) (held InData content true)) → LeadsLong (held InData content false) (b ∷ bytes)) [
      | true ↦ λ o s. long_more (held InData content false) b bytes (held InData (content ++ b ∷ []) false) s (o refl)
      | false ↦ λ o s. long_more (held InData content false) b bytes (held InData content true) s over
    ] on step

too_long : (bytes : List ℕ) → are_data bytes ≡ true → (content : List ℕ) → length content ≤ most_data → most_data < length content + length bytes → LeadsLong (held InData content false) bytes
too_long [] e content l h = absurd (omega arith)
too_long (b ∷ bytes) e content l h =
    let parts = and_parts (may_stand b) (are_data bytes) e in
    let tests = data_tests b parts.0 in
    grows_by (nat_lt (length content) most_data) content b bytes refl tests.0 tests.1
    (λ t. let room : length content < most_data = grind (arith, nat_tests) in
    too_long bytes parts.1 (content ++ b ∷ []) (omega (arith, length-append content (b ∷ []))) (omega (arith, length-append content (b ∷ []))))
    (stays_long bytes parts.1 content)

-- ---- a frame

-- the messages of a frame's end, from where its data led
end_told : (content : List ℕ) (long : Bool) (x y : ℕ) → (x == 36) ≡ false → (y == 36) ≡ false → messages (held InData content long) (35 ∷ x ∷ y ∷ []) ≡ message_of (verdict (held (SecondDigit x) content long) x y) content
end_told content long x y ex ey =
    ap (λ (t : Told). told_message t ++ messages t.next (x ∷ y ∷ [])) (mark_step content long)
    ∙ ap (λ (t : Told). told_message t ++ messages t.next (y ∷ [])) (first_step content long x ex)
    ∙ ap (λ (t : Told). told_message t ++ []) (second_step content long x y ey)
    ∙ append-nil (message_of (verdict (held (SecondDigit x) content long) x y) content)

end_reached : (content : List ℕ) (long : Bool) (x y : ℕ) → (x == 36) ≡ false → (y == 36) ≡ false → reached (held InData content long) (35 ∷ x ∷ y ∷ []) ≡ held Between content long
end_reached content long x y ex ey =
    ap (λ (t : Told). reached t.next (x ∷ y ∷ [])) (mark_step content long)
    ∙ ap (λ (t : Told). reached t.next (y ∷ [])) (first_step content long x ex)
    ∙ ap (λ (t : Told). t.next) (second_step content long x y ey)

-- behind a frame reading stands between packets, and its message was told
pub record Ends (h : Hearing) (bytes : List ℕ) (told : List Message) : Type 0 where
  pub content : List ℕ
  pub long : Bool
  pub reached_is : reached h bytes ≡ held Between content long
  pub tells : messages h bytes ≡ told

joined : (bytes content : List ℕ) (long : Bool) (x y : ℕ) → (x == 36) ≡ false → (y == 36) ≡ false → Leads begun bytes content long → Ends begun (bytes ++ 35 ∷ x ∷ y ∷ []) (message_of (verdict (held (SecondDigit x) content long) x y) content)
joined bytes content long x y ex ey l = record {
  content = content;
  long = long;
  reached_is = reached_both begun bytes (35 ∷ x ∷ y ∷ []) ∙ ap (λ s. reached s (35 ∷ x ∷ y ∷ [])) l.reached_is ∙ end_reached content long x y ex ey;
  tells = messages_both begun bytes (35 ∷ x ∷ y ∷ []) ∙ ap (λ m. m ++ messages (reached begun bytes) (35 ∷ x ∷ y ∷ [])) l.tells ∙ ap (λ s. messages s (35 ∷ x ∷ y ∷ [])) l.reached_is ∙ end_told content long x y ex ey;
}

abbrev frame_messages : Bool → Bool → List ℕ → List Message
frame_messages fits sums bytes = cond (fits && sums) (Whole bytes ∷ []) (Refused ∷ [])

good : (sums : Bool) (bytes : List ℕ) → message_of (cond (not false && sums) Packet Bad) bytes ≡ frame_messages true sums bytes
good true bytes = refl
good false bytes = refl

same_end : {h : Hearing} {bytes : List ℕ} {a b : List Message} → a ≡ b → Ends h bytes a → Ends h bytes b
same_end e d = record { content = d.content; long = d.long; reached_is = d.reached_is; tells = d.tells ∙ e }

frame_by : (fits : Bool) (bytes : List ℕ) (x y : ℕ) → nat_le (length bytes) most_data ≡ fits → are_data bytes ≡ true → (x == 36) ≡ false → (y == 36) ≡ false
    → Ends begun (bytes ++ 35 ∷ x ∷ y ∷ []) (frame_messages fits (is_sum bytes x y) bytes)
frame_by true bytes x y f e ex ey =
    let room : length {A = ℕ} [] + length bytes ≤ most_data = grind (arith, nat_tests) in
    same_end (good (is_sum bytes x y) bytes) (joined bytes bytes false x y ex ey (short [] bytes e room))
frame_by false bytes x y f e ex ey =
    let past : most_data < length {A = ℕ} [] + length bytes = grind (arith, nat_tests) in
    let none : length {A = ℕ} [] ≤ most_data = omega arith in
    let l = too_long bytes e [] none past in
    joined bytes l.0 true x y ex ey l.1

begins : (h : Hearing) (bytes : List ℕ) (told : List Message) → Ends begun bytes told → Ends h (36 ∷ bytes) told
begins h bytes told d = record {
  content = d.content;
  long = d.long;
  reached_is = ap (λ (t : Told). reached t.next bytes) (begin_step h) ∙ d.reached_is;
  tells = ap (λ (t : Told). told_message t ++ messages t.next bytes) (begin_step h) ∙ d.tells;
}

pub frame_ends : (h : Hearing) (bytes : List ℕ) (x y : ℕ) → are_data bytes ≡ true → is_no_dollar x ≡ true → is_no_dollar y ≡ true → Ends h (item_text (Frame bytes x y)) (item_messages (Frame bytes x y))
frame_ends h bytes x y e ex ey = begins h _ _ (frame_by (nat_le (length bytes) most_data) bytes x y refl e (no_dollar x ex) (no_dollar y ey))

-- ---- a packet that was given up tells nothing

open_end : (content : List ℕ) (long : Bool) (bytes : List ℕ) → is_open_end bytes ≡ true → messages (held FirstDigit content long) bytes ≡ []
open_end content long [] e = refl
open_end content long (x ∷ []) e =
    let parts = and_parts (is_no_dollar x) true e in
    ap (λ (t : Told). told_message t ++ []) (first_step content long x (no_dollar x parts.0))
open_end content long (x ∷ y ∷ bytes) e =
    let parts = and_parts (is_no_dollar x) (suc (length bytes) == 0) e in
    let wrong : suc (length bytes) ≡ 0 = grind (arith, nat_tests, parts.1) in
    absurd (omega arith)

open_by : (mark : Bool) (content : List ℕ) (long : Bool) (b : ℕ) (bytes : List ℕ) → (b == 35) ≡ mark → (b == 36) ≡ false
    → cond mark (is_open_end bytes) (is_open bytes) ≡ true → ((c : List ℕ) (l : Bool) → is_open bytes ≡ true → messages (held InData c l) bytes ≡ [])
    → messages (held InData content long) (b ∷ bytes) ≡ []
open_by true content long b bytes m n e rest =
    let is : b ≡ 35 = grind (arith, nat_tests) in
    ap (λ c. messages (held InData content long) (c ∷ bytes)) is
    ∙ ap (λ (t : Told). told_message t ++ messages t.next bytes) (mark_step content long)
    ∙ open_end content long bytes e
open_by false content long b bytes m n e rest =
    ap (λ (t : Told). told_message t ++ messages t.next bytes) (data_step content long b n m)
    ∙ added_told (nat_lt (length content) most_data) content long b bytes (λ c l. rest c l e)
  where
    added_told : (t : Bool) (content : List ℕ) (long : Bool) (b : ℕ) (bytes : List ℕ) → ((c : List ℕ) (l : Bool) → messages (held InData c l) bytes ≡ []) → messages (cond t (held InData (content ++ b ∷ []) long) (held InData content true)) bytes ≡ []
    added_told true content long b bytes rest = rest (content ++ b ∷ []) long
    added_told false content long b bytes rest = rest content true

open_silent : (bytes content : List ℕ) (long : Bool) → is_open bytes ≡ true → messages (held InData content long) bytes ≡ []
open_silent [] content long e = refl
open_silent (b ∷ bytes) content long e =
    let parts = and_parts (is_no_dollar b) (cond (b == 35) (is_open_end bytes) (is_open bytes)) e in
    open_by (b == 35) content long b bytes refl (no_dollar b parts.0) parts.1 (λ c l o. open_silent bytes c l o)

-- ---- items

-- reading may go on with these bytes
abbrev may_follow : FramePlace → List ℕ → Bool
may_follow Between bytes = true
may_follow InData bytes = gives_up bytes
may_follow FirstDigit bytes = gives_up bytes
may_follow (SecondDigit x) bytes = gives_up bytes

anywhere : (p : FramePlace) (bytes : List ℕ) → gives_up bytes ≡ true → may_follow p bytes ≡ true
anywhere Between bytes e = refl
anywhere InData bytes e = e
anywhere FirstDigit bytes e = e
anywhere (SecondDigit x) bytes e = e

passed_message : (again : Bool) (content : List ℕ) → message_of (cond again Again Nothing) content ≡ cond again (AskedAgain ∷ []) []
passed_message true content = refl
passed_message false content = refl

-- a passed-over byte, where none but `$` may follow elsewhere
passed_by : (p : FramePlace) (content : List ℕ) (long : Bool) (b : ℕ) (bytes : List ℕ) (told : List Message) → (b == 36) ≡ false → may_follow p (b ∷ bytes) ≡ true
    → messages (held Between content long) bytes ≡ told → messages (held p content long) (b ∷ bytes) ≡ cond (b == 45) (AskedAgain ∷ []) [] ++ told
passed_by Between content long b bytes told n m rest =
    ap (λ (t : Told). told_message t ++ messages t.next bytes) (between_step content long b n)
    ∙ ap (λ u. u ++ messages (held Between content long) bytes) (passed_message (b == 45) content)
    ∙ ap (λ u. cond (b == 45) (AskedAgain ∷ []) [] ++ u) rest
passed_by InData content long b bytes told n m rest = let both : false ≡ true = sym n ∙ m in absurd cc
passed_by FirstDigit content long b bytes told n m rest = let both : false ≡ true = sym n ∙ m in absurd cc
passed_by (SecondDigit x) content long b bytes told n m rest = let both : false ≡ true = sym n ∙ m in absurd cc

both_told : (h : Hearing) (front bytes : List ℕ) (told rest : List Message) → messages h front ≡ told → messages (reached h front) bytes ≡ rest → messages h (front ++ bytes) ≡ told ++ rest
both_told h front bytes told rest p q = messages_both h front bytes ∙ ap (λ m. m ++ messages (reached h front) bytes) p ∙ ap (λ m. told ++ m) q

pub items_read : (items : List Item) (h : Hearing) → AreItems items → may_follow h.place (items_text items) ≡ true → messages h (items_text items) ≡ items_messages items
items_read [] h a m = refl
items_read (Passed b ∷ items) h a m = passed_by h.place h.content h.is_long b (items_text items) (items_messages items) (no_dollar b a.0) m (items_read items (held Between h.content h.is_long) a.2 refl)
items_read (Begun bytes ∷ items) h a m =
    let told : messages h (36 ∷ bytes) ≡ [] = ap (λ (t : Told). told_message t ++ messages t.next bytes) (begin_step h) ∙ open_silent bytes [] false a.0 in
    both_told h (36 ∷ bytes) (items_text items) [] (items_messages items) told (items_read items (reached h (36 ∷ bytes)) a.2 (anywhere (reached h (36 ∷ bytes)).place (items_text items) a.1))
items_read (Frame bytes x y ∷ items) h a m =
    let d = frame_ends h bytes x y a.0.0 a.0.1 a.0.2 in
    let rest : messages (reached h (item_text (Frame bytes x y))) (items_text items) ≡ items_messages items = ap (λ s. messages s (items_text items)) d.reached_is ∙ items_read items (held Between d.content d.long) a.2 refl in
    both_told h (item_text (Frame bytes x y)) (items_text items) (item_messages (Frame bytes x y)) (items_messages items) d.tells rest
