-- Going on with the headers, or the symbols, that are left.
use Rattle.std.proofs.Common.{◌≡◌, ℕ, suc, ◌+◌, ◌*◌, ◌-◌, ◌<◌, ◌≤◌, List, ◌∷◌, take, drop, true, false, Some, None, Result, Ok, refl, ap, ◌∙◌, arith, filter}
use Rattle.std.specs.Prelude.{◌==◌}
use Rattle.std.proofs.lemmas.Bool.Decides.{nat_tests}
use Rattle.hart_words.specs.InTurn.{◌>>=◌}
use Rattle.lab_names.specs.Name.{NameView}
use Rattle.lab_elf.specs.Fault.{Fault, Fails}
use Rattle.lab_elf.specs.Headers.{section_at, sections_from, program_at, programs_from}
use Rattle.lab_elf.specs.Loading.{is_loaded, has_section, load_address_in, load_address, with_section, with_sections}
use Rattle.lab_elf.specs.declared.symbol.Symbol.{Symbol}
use Rattle.lab_elf.specs.Symbols.{first_of_kind, strings_of, symbol_at, symbols_from, with_symbol, with_symbols}
use Rattle.lab_elf.specs.declared.elf_error.ElfError.{ElfError}
use Rattle.lab_elf.specs.declared.elf_error.ElfError.TheVariants.{Memory, Refused}
use Rattle.lab_elf.specs.declared.section.Section.{Section}
use Rattle.lab_elf.specs.declared.piece.Piece.{Piece}
use Rattle.lab_elf.proofs.Headers.{next_section, no_section, next_program, no_program}

-- ---- the segment of a section

pub program_found : (s : Section) (n first k : ℕ) (bytes : List ℕ) → k < n → has_section s (program_at (first + 32 * k) bytes) ≡ true
    → load_address s (programs_from (n - k) (first + 32 * k) bytes) ≡ Some (load_address_in s (program_at (first + 32 * k) bytes))
program_found s n first k bytes lt has = ap (load_address s) (next_program n first k bytes lt) ∙ rw has refl

pub program_passed : (s : Section) (n first k : ℕ) (bytes : List ℕ) → k < n → has_section s (program_at (first + 32 * k) bytes) ≡ false
    → load_address s (programs_from (n - k) (first + 32 * k) bytes) ≡ load_address s (programs_from (n - (k + 1)) (first + 32 * (k + 1)) bytes)
program_passed s n first k bytes lt has = ap (load_address s) (next_program n first k bytes lt) ∙ rw has refl

pub no_program_left : (s : Section) (n k place : ℕ) (bytes : List ℕ) → n ≤ k → load_address s (programs_from (n - k) place bytes) ≡ None
no_program_left s n k place bytes le = ap (load_address s) (no_program n k place bytes le)

-- ---- the first section of a kind

pub kind_found : (kind n first k : ℕ) (bytes : List ℕ) → k < n → (section_at (first + 40 * k) bytes).kind == kind ≡ true
    → first_of_kind kind (sections_from (n - k) (first + 40 * k) bytes) ≡ Some (section_at (first + 40 * k) bytes)
kind_found kind n first k bytes lt is = ap (first_of_kind kind) (next_section n first k bytes lt) ∙ rw is refl

other : (a b : ℕ) → (a ≡ b → ⊥) → (a == b) ≡ false
other a b ne = grind (arith, nat_tests)

pub kind_passed : (kind n first k : ℕ) (bytes : List ℕ) → k < n → ((section_at (first + 40 * k) bytes).kind ≡ kind → ⊥)
    → first_of_kind kind (sections_from (n - k) (first + 40 * k) bytes) ≡ first_of_kind kind (sections_from (n - (k + 1)) (first + 40 * (k + 1)) bytes)
kind_passed kind n first k bytes lt is = ap (first_of_kind kind) (next_section n first k bytes lt) ∙ rw (other _ _ is) refl

pub no_kind_left : (kind n k place : ℕ) (bytes : List ℕ) → n ≤ k → first_of_kind kind (sections_from (n - k) place bytes) ≡ None
no_kind_left kind n k place bytes le = ap (first_of_kind kind) (no_section n k place bytes le)

-- ---- sections that are loaded

abbrev loading : List ℕ → List Piece → List Section → Result (List Piece) Fault
loading bytes taken ss = with_sections bytes (filter is_loaded ss) taken

section_taken : (n first k : ℕ) (bytes : List ℕ) (taken : List Piece) → k < n → is_loaded (section_at (first + 40 * k) bytes) ≡ true
    → loading bytes taken (sections_from (n - k) (first + 40 * k) bytes) ≡ with_section bytes (section_at (first + 40 * k) bytes) taken >>= λ next. loading bytes next (sections_from (n - (k + 1)) (first + 40 * (k + 1)) bytes)
unfolding with_sections
section_taken n first k bytes taken lt loaded = ap (loading bytes taken) (next_section n first k bytes lt) ∙ rw loaded refl

pub section_loaded : (n first k : ℕ) (bytes : List ℕ) (taken next : List Piece) → k < n → is_loaded (section_at (first + 40 * k) bytes) ≡ true → with_section bytes (section_at (first + 40 * k) bytes) taken ≡ Ok next
    → with_sections bytes (filter is_loaded (sections_from (n - k) (first + 40 * k) bytes)) taken ≡ with_sections bytes (filter is_loaded (sections_from (n - (k + 1)) (first + 40 * (k + 1)) bytes)) next
section_loaded n first k bytes taken next lt loaded is = section_taken n first k bytes taken lt loaded ∙ rw is refl

pub section_passed : (n first k : ℕ) (bytes : List ℕ) (taken : List Piece) → k < n → is_loaded (section_at (first + 40 * k) bytes) ≡ false
    → with_sections bytes (filter is_loaded (sections_from (n - k) (first + 40 * k) bytes)) taken ≡ with_sections bytes (filter is_loaded (sections_from (n - (k + 1)) (first + 40 * (k + 1)) bytes)) taken
section_passed n first k bytes taken lt loaded = ap (loading bytes taken) (next_section n first k bytes lt) ∙ rw loaded refl

pub section_fails : (e : ElfError) (n first k : ℕ) (bytes : List ℕ) (taken : List Piece) → k < n → is_loaded (section_at (first + 40 * k) bytes) ≡ true → Fails e (with_section bytes (section_at (first + 40 * k) bytes) taken)
    → Fails e (with_sections bytes (filter is_loaded (sections_from (n - k) (first + 40 * k) bytes)) taken)
section_fails Memory n first k bytes taken lt loaded f = tt
section_fails (Refused place why) n first k bytes taken lt loaded f = section_taken n first k bytes taken lt loaded ∙ rw f refl

pub no_section_left : (n k place : ℕ) (bytes : List ℕ) (taken : List Piece) → n ≤ k → with_sections bytes (filter is_loaded (sections_from (n - k) place bytes)) taken ≡ Ok taken
unfolding with_sections
no_section_left n k place bytes taken le = ap (loading bytes taken) (no_section n k place bytes le)

-- ---- symbols

next_symbol : (n first k : ℕ) (bytes : List ℕ) → k < n → symbols_from (n - k) (first + 16 * k) bytes ≡ symbol_at (first + 16 * k) bytes ∷ symbols_from (n - (k + 1)) (first + 16 * (k + 1)) bytes
next_symbol n first k bytes lt =
    let one : n - k ≡ suc (n - (k + 1)) = omega arith in
    let on : first + 16 * (k + 1) ≡ first + 16 * k + 16 = omega arith in
    rw (one, on) refl

symbol_step : (wanted : ℕ) (strings : List ℕ) (n first k : ℕ) (bytes : List ℕ) (names : List NameView) → k < n
    → with_symbols wanted strings bytes (symbols_from (n - k) (first + 16 * k) bytes) names ≡ with_symbol wanted strings bytes (symbol_at (first + 16 * k) bytes) names >>= λ next. with_symbols wanted strings bytes (symbols_from (n - (k + 1)) (first + 16 * (k + 1)) bytes) next
unfolding with_symbols
symbol_step wanted strings n first k bytes names lt = ap (λ ss. with_symbols wanted strings bytes ss names) (next_symbol n first k bytes lt)

pub symbol_taken : (wanted : ℕ) (strings : List ℕ) (n first k : ℕ) (bytes : List ℕ) (names next : List NameView) → k < n → with_symbol wanted strings bytes (symbol_at (first + 16 * k) bytes) names ≡ Ok next
    → with_symbols wanted strings bytes (symbols_from (n - k) (first + 16 * k) bytes) names ≡ with_symbols wanted strings bytes (symbols_from (n - (k + 1)) (first + 16 * (k + 1)) bytes) next
symbol_taken wanted strings n first k bytes names next lt is = symbol_step wanted strings n first k bytes names lt ∙ rw is refl

pub symbol_fails : (e : ElfError) (wanted : ℕ) (strings : List ℕ) (n first k : ℕ) (bytes : List ℕ) (names : List NameView) → k < n → Fails e (with_symbol wanted strings bytes (symbol_at (first + 16 * k) bytes) names)
    → Fails e (with_symbols wanted strings bytes (symbols_from (n - k) (first + 16 * k) bytes) names)
symbol_fails Memory wanted strings n first k bytes names lt f = tt
symbol_fails (Refused place why) wanted strings n first k bytes names lt f = symbol_step wanted strings n first k bytes names lt ∙ rw f refl

pub no_symbol_left : (wanted : ℕ) (strings : List ℕ) (n k place : ℕ) (bytes : List ℕ) (names : List NameView) → n ≤ k → with_symbols wanted strings bytes (symbols_from (n - k) place bytes) names ≡ Ok names
unfolding with_symbols
no_symbol_left wanted strings n k place bytes names le = let none : n - k ≡ 0 = omega arith in rw none refl

-- a slice of the strings is all of them
pub same_symbol : (wanted : ℕ) (t : Section) (bytes : List ℕ) (s s' : Symbol) (names : List NameView) → s ≡ s'
    → with_symbol wanted (take (t.offset + t.size - t.offset) (drop t.offset bytes)) bytes s names ≡ with_symbol wanted (strings_of t bytes) bytes s' names
same_symbol wanted t bytes s s' names is = let size : t.offset + t.size - t.offset ≡ t.size = omega arith in rw (is, size) refl
