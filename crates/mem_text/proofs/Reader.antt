-- A reader that is fed, and its end.
use Rattle.std.proofs.Common.{◌≡◌, ℕ, ◌+◌, List, ◌++◌, length, length-append, Option, Some, None, Result, Ok, Err, refl, sym, ap, subst, ◌∙◌, arith}
use Rattle.std.specs.Prelude.{IfOk}
use Rattle.hart_memory.specs.Image.{ImageView, AreSound}
use Rattle.mem_text.specs.Items.{IsMemoryText}
use Rattle.mem_text.specs.Reading.{Fault, State, fresh, reads, ended, read_text}
use Rattle.mem_text.specs.Standing.{Fails, Gives, Live, ReaderView, standing_of, HasRead, IsLive}
use Rattle.mem_text.specs.declared.mem_error.MemError.{MemError}
use Rattle.mem_text.specs.declared.mem_error.MemError.TheVariants.{Memory, Refused}
use Rattle.mem_text.proofs.Onward.{reads-append, whole-reads}
use Rattle.mem_text.proofs.Forward.{is_text}
use Rattle.mem_text.proofs.Backward.{text_is_read}

-- after the bytes so far and the piece
joined : (entry : ℕ) (bytes piece : List ℕ) (n : ℕ) (s : State) → reads 0 (fresh entry) bytes ≡ Ok s → n ≡ length bytes → reads 0 (fresh entry) (bytes ++ piece) ≡ reads n s piece
joined entry bytes piece n s e k =
    let place : 0 + length bytes ≡ n = omega arith in
    reads-append bytes piece 0 (fresh entry) ∙ (rw e (ap (λ m. reads m s piece) place))

joined_err : (entry : ℕ) (bytes piece : List ℕ) (f : Fault) → reads 0 (fresh entry) bytes ≡ Err f → reads 0 (fresh entry) (bytes ++ piece) ≡ Err f
joined_err entry bytes piece f e = reads-append bytes piece 0 (fresh entry) ∙ (rw e refl)

pub ok_read : (failed : Option MemError) (s t : State) (n m entry : ℕ) (bytes piece : List ℕ) → IsLive (standing_of failed s) → reads n s piece ≡ Ok t → m ≡ n + length piece
    → HasRead entry bytes (record { read = n; standing = standing_of failed s }) → HasRead entry (bytes ++ piece) (record { read = m; standing = standing_of failed t })
ok_read None s t n m entry bytes piece live e k h = record {
  few = omega (arith, length-append bytes piece, h.few);
  leads = (joined entry bytes piece n s h.leads.0 h.leads.1 ∙ e, omega (arith, length-append bytes piece, h.leads.1));
}
ok_read (Some Memory) s t n m entry bytes piece live e k h = absurd live
ok_read (Some (Refused at why)) s t n m entry bytes piece live e k h = absurd live

pub err_read : (failed : Option MemError) (s u : State) (e : MemError) (n entry : ℕ) (bytes piece : List ℕ) → IsLive (standing_of failed s) → Fails e (reads n s piece)
    → HasRead entry bytes (record { read = n; standing = standing_of failed s }) → HasRead entry (bytes ++ piece) (record { read = n; standing = standing_of (Some e) u })
err_read None s u Memory n entry bytes piece live f h = record { few = omega (arith, length-append bytes piece, h.few); leads = tt }
err_read None s u (Refused at why) n entry bytes piece live f h = record {
  few = omega (arith, length-append bytes piece, h.few);
  leads = joined entry bytes piece n s h.leads.0 h.leads.1 ∙ f;
}
err_read (Some Memory) s u e n entry bytes piece live f h = absurd live
err_read (Some (Refused at why)) s u e n entry bytes piece live f h = absurd live

pub some_read : (e : MemError) (s : State) (n entry : ℕ) (bytes piece : List ℕ)
    → HasRead entry bytes (record { read = n; standing = standing_of (Some e) s }) → HasRead entry (bytes ++ piece) (record { read = n; standing = standing_of (Some e) s })
some_read Memory s n entry bytes piece h = record { few = omega (arith, length-append bytes piece, h.few); leads = tt }
some_read (Refused at why) s n entry bytes piece h = record {
  few = omega (arith, length-append bytes piece, h.few);
  leads = joined_err entry bytes piece (record { place = at; why = why }) h.leads;
}

-- ---- the end
pub some_exact : (e : MemError) (s : State) (n entry : ℕ) (bytes : List ℕ) → HasRead entry bytes (record { read = n; standing = standing_of (Some e) s }) → Fails e (read_text entry bytes)
unfolding read_text
some_exact Memory s n entry bytes h = tt
some_exact (Refused at why) s n entry bytes h = whole-reads bytes 0 (fresh entry) ∙ (rw h.leads refl)

pub live_text : (s : State) (n entry : ℕ) (bytes : List ℕ) → HasRead entry bytes (record { read = n; standing = Live s }) → read_text entry bytes ≡ ended n s
unfolding read_text
live_text s n entry bytes h =
    let place : 0 + length bytes ≡ n = omega (arith, h.leads.1) in
    whole-reads bytes 0 (fresh entry) ∙ (rw h.leads.0 (ap (λ m. ended m s) place))

fails_ok : {A B : Type 0} (e : MemError) (r : Result A Fault) (x : A) (y : B) → r ≡ Ok x → Fails e r → Fails e (Ok y)
fails_ok Memory r x y same f = tt
fails_ok (Refused at why) r x y same f = absurd cc

pub some_only : (e : MemError) (s : State) (n entry : ℕ) (bytes : List ℕ) (i : ImageView) → HasRead entry bytes (record { read = n; standing = standing_of (Some e) s })
    → IsMemoryText bytes entry i → Fails e (Ok i)
some_only e s n entry bytes i h t = fails_ok e (read_text entry bytes) i i (text_is_read entry bytes i t) (some_exact e s n entry bytes h)

pub none_exact : (answer : Result ImageView MemError) (s : State) (n entry : ℕ) (bytes : List ℕ) → Gives (λ i. i) answer (ended n s)
    → HasRead entry bytes (record { read = n; standing = Live s }) → Gives (λ i. i) answer (read_text entry bytes)
none_exact answer s n entry bytes g h =
    let Of : Result ImageView Fault → Type 0 = λ r. Gives (λ i. i) answer r in
    subst Of (sym (live_text s n entry bytes h)) g

found_by : (answer : Result ImageView MemError) (entry : ℕ) (bytes : List ℕ) → IfOk answer (λ i. AreSound i.segments) → Gives (λ i. i) answer (read_text entry bytes) → IfOk answer (λ i. IsMemoryText bytes entry i)
found_by (Ok i) entry bytes s g = is_text entry bytes i s g
found_by (Err e) entry bytes s g = tt

pub none_found : (answer : Result ImageView MemError) (s : State) (n entry : ℕ) (bytes : List ℕ) → Gives (λ i. i) answer (ended n s) → IfOk answer (λ i. AreSound i.segments)
    → HasRead entry bytes (record { read = n; standing = Live s }) → IfOk answer (λ i. IsMemoryText bytes entry i)
none_found answer s n entry bytes g sound h = found_by answer entry bytes sound (none_exact answer s n entry bytes g h)

only_by : (answer : Result ImageView MemError) (r : Result ImageView Fault) (i : ImageView) → r ≡ Ok i → Gives (λ i. i) answer r → Gives (λ i. i) answer (Ok i)
only_by answer r i e g = let Of : Result ImageView Fault → Type 0 = λ r. Gives (λ i. i) answer r in subst Of e g

pub none_only : (answer : Result ImageView MemError) (s : State) (n entry : ℕ) (bytes : List ℕ) (i : ImageView) → Gives (λ i. i) answer (ended n s)
    → HasRead entry bytes (record { read = n; standing = Live s }) → IsMemoryText bytes entry i → Gives (λ i. i) answer (Ok i)
none_only answer s n entry bytes i g h t = only_by answer (read_text entry bytes) i (text_is_read entry bytes i t) (none_exact answer s n entry bytes g h)

-- the view of a reader whose failure is known
pub seen_as : (entry : ℕ) (bytes : List ℕ) (v : ReaderView) (n : ℕ) (s : State) (failed f : Option MemError) → record { read = n; standing = standing_of failed s } ≡ v → failed ≡ f
    → HasRead entry bytes v → HasRead entry bytes (record { read = n; standing = standing_of f s })
seen_as entry bytes v n s failed f e k h =
    let Of : ReaderView → Type 0 = λ v. HasRead entry bytes v in
    let With : Option MemError → Type 0 = λ f. HasRead entry bytes (record { read = n; standing = standing_of f s }) in
    subst With k (subst Of (sym e) h)

pub seen_back : (entry : ℕ) (bytes : List ℕ) (v : ReaderView) (n : ℕ) (s : State) (failed f : Option MemError) → record { read = n; standing = standing_of failed s } ≡ v → failed ≡ f
    → HasRead entry bytes (record { read = n; standing = standing_of f s }) → HasRead entry bytes v
seen_back entry bytes v n s failed f e k h =
    let Of : ReaderView → Type 0 = λ v. HasRead entry bytes v in
    let With : Option MemError → Type 0 = λ f. HasRead entry bytes (record { read = n; standing = standing_of f s }) in
    subst Of e (subst With (sym k) h)
