-- Reading on from where some bytes led.
use Rattle.std.proofs.Common.{◌≡◌, ℕ, List, [], ◌∷◌, ◌++◌, append_assoc, append-nil, refl, sym, ap, ◌∙◌}
use Rattle.lab_packets.specs.Frames.{Hearing, Told, unread, after, reached, messages, told_message, HasRead}

-- where two texts lead, one after the other
pub reached_both : (h : Hearing) (xs ys : List ℕ) → reached h (xs ++ ys) ≡ reached (reached h xs) ys
reached_both h [] ys = refl
reached_both h (x ∷ xs) ys = reached_both (after h x).next xs ys

-- what two texts tell, one after the other
pub messages_both : (h : Hearing) (xs ys : List ℕ) → messages h (xs ++ ys) ≡ messages h xs ++ messages (reached h xs) ys
messages_both h [] ys = refl
messages_both h (x ∷ xs) ys =
    ap (λ m. told_message (after h x) ++ m) (messages_both (after h x).next xs ys)
    ∙ sym (append_assoc (told_message (after h x)) (messages (after h x).next xs) (messages (reached (after h x).next xs) ys))

pub taken_read : (bytes : List ℕ) (old : Hearing) (b : ℕ) (t : Told) → t ≡ after old b → HasRead bytes old → HasRead (bytes ++ b ∷ []) t.next
taken_read bytes old b t e h = reached_both unread bytes (b ∷ []) ∙ ap (λ s. (after s b).next) h ∙ ap (λ (u : Told). u.next) (sym e)

pub taken_messages : (bytes : List ℕ) (old : Hearing) (b : ℕ) (t : Told) → t ≡ after old b → HasRead bytes old → messages unread (bytes ++ b ∷ []) ≡ messages unread bytes ++ told_message t
taken_messages bytes old b t e h =
    messages_both unread bytes (b ∷ [])
    ∙ ap (λ s. messages unread bytes ++ messages s (b ∷ [])) h
    ∙ ap (λ (u : Told). messages unread bytes ++ (told_message u ++ [])) (sym e)
    ∙ ap (λ m. messages unread bytes ++ m) (append-nil (told_message t))
