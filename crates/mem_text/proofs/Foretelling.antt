-- What is foretold of every continuation.
use Rattle.std.proofs.Common.{◌≡◌, ℕ, ◌+◌, List, [], ◌∷◌, ◌++◌, length, true, Ok, refl, ◌∙◌}
use Rattle.hart_memory.specs.Image.{ImageView}
use Rattle.mem_text.specs.Laying.{Laying, whole_image, moved_to, with_byte}
use Rattle.mem_text.specs.Reading.{State, fresh, reads, ended, read_text}
use Rattle.mem_text.specs.Standing.{Standing, Live, Over, Wanting, ReaderView, HasRead, Foretells}
use Rattle.mem_text.specs.declared.token.Token.{Token}
use Rattle.mem_text.specs.declared.token.Token.TheVariants.{Between, AfterSlash, LineComment, BlockComment, AfterStar, AfterAt, Address, Number}
use Rattle.mem_text.specs.declared.byte_kind.ByteKind.TheVariants.{Digit, Slash, Star}
use Rattle.mem_text.specs.Bytes.{is_hex, hex_value}
use Rattle.mem_text.proofs.ByteKinds.{hex_kind, star_kind, slash_kind}
use Rattle.mem_text.proofs.Onward.{whole-append}
use Rattle.mem_text.proofs.Backward.{Reads, leads}

zero_is_hex : is_hex 48 ≡ true
unfolding is_hex
zero_is_hex = refl

-- an image that these bytes give, whatever the place
record Closes (t : Token) (l : Laying) : Type 0 where
  more : List ℕ
  image : ImageView
  reads : Reads t l more (λ r. r ≡ Ok image)

closes : (t : Token) (l : Laying) → Closes t l
unfolding ended
closes Between l = record { more = []; image = whole_image l; reads = λ p. refl }
closes AfterSlash l = record { more = 47 ∷ []; image = whole_image l; reads = leads AfterSlash LineComment l l 47 [] (λ r. r ≡ Ok (whole_image l)) Slash slash_kind (λ p. refl) (λ p. refl) }
closes LineComment l = record { more = []; image = whole_image l; reads = λ p. refl }
closes BlockComment l = record {
  more = 42 ∷ 47 ∷ [];
  image = whole_image l;
  reads = leads BlockComment AfterStar l l 42 (47 ∷ []) (λ r. r ≡ Ok (whole_image l)) Star star_kind (λ p. refl) (leads AfterStar Between l l 47 [] (λ r. r ≡ Ok (whole_image l)) Slash slash_kind (λ p. refl) (λ p. refl));
}
closes AfterStar l = record { more = 47 ∷ []; image = whole_image l; reads = leads AfterStar Between l l 47 [] (λ r. r ≡ Ok (whole_image l)) Slash slash_kind (λ p. refl) (λ p. refl) }
closes AfterAt l =
    let m = moved_to (hex_value 48) l in
    record { more = 48 ∷ []; image = whole_image m; reads = leads AfterAt (Address 1 (hex_value 48)) l l 48 [] (λ r. r ≡ Ok (whole_image m)) (Digit (hex_value 48)) (hex_kind 48 zero_is_hex) (λ p. refl) (λ p. refl) }
closes (Address n v) l = record { more = []; image = whole_image (moved_to v l); reads = λ p. refl }
closes (Number n v) l = record { more = []; image = whole_image (with_byte v l); reads = λ p. refl }

-- where reading goes on, some continuation is read
pub some_continuation : (entry : ℕ) (bytes : List ℕ) (s : State) → reads 0 (fresh entry) bytes ≡ Ok s → (more : List ℕ) × (i : ImageView) × (read_text entry (bytes ++ more) ≡ Ok i)
unfolding read_text
some_continuation entry bytes s e =
    let c = closes s.token s.laying in
    (c.more, c.image, whole-append bytes c.more 0 (fresh entry) ∙ (rw e (c.reads (0 + length bytes))))

foretold_by : (entry : ℕ) (bytes : List ℕ) (n : ℕ) (s : Standing) → HasRead entry bytes (record { read = n; standing = s }) → Foretells entry bytes s
unfolding read_text
foretold_by entry bytes n (Live s) h =
    some_continuation entry bytes s h.leads.0
foretold_by entry bytes n (Over f) h = λ more. whole-append bytes more 0 (fresh entry) ∙ (rw h.leads refl)
foretold_by entry bytes n Wanting h = tt

pub foretold : (entry : ℕ) (bytes : List ℕ) (r : ReaderView) → HasRead entry bytes r → Foretells entry bytes r.standing
foretold entry bytes r h = foretold_by entry bytes r.read r.standing h
