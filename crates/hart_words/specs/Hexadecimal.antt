-- Upper-case hexadecimal with a fixed number of digits. Each is opaque, so that goals above stay short.
use Rattle.std.specs.Prelude.{ℕ, ◌/◌, ◌%◌, List, [], ◌∷◌, ◌++◌, true}
use Rattle.std.specs.Fmt.{digit_glyph}

-- a byte
unfoldable pub hex2 : ℕ → List ℕ
hex2 n = digit_glyph true (n / 16) ∷ digit_glyph true (n % 16) ∷ []

-- a half-word
unfoldable pub hex4 : ℕ → List ℕ
hex4 n = hex2 (n / 0x100) ++ hex2 (n % 0x100)

-- a word
unfoldable pub hex8 : ℕ → List ℕ
hex8 n = hex4 (n / 0x1_0000) ++ hex4 (n % 0x1_0000)
