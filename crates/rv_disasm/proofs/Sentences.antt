-- A statement's line is read as the statement.
use Rattle.std.proofs.Common.{◌≡◌, ℕ, ◌^◌, ◌<◌, ◌≤◌, List, [], ◌∷◌, ◌++◌, length, Option, Some, None, true, cond, refl, sym, ap, subst, ◌∙◌, arith, lit<}
use Rattle.std.specs.Prelude.{nat_le, ◌&&◌}
use Rattle.std.specs.List.{flat_map}
use Rattle.std.specs.declared.result.Result.{Result}
use Rattle.std.specs.declared.result.Result.TheVariants.{Ok}
use Rattle.std.proofs.lemmas.Bool.{and_parts, cond-true, leb-true}
use Rattle.asm_text.specs.Words.{Word, NameWord}
use Rattle.asm_text.specs.Lexing.{Spoken}
use Rattle.asm_text.specs.Pieces.{NamePiece, printed, words_in, is_name, are_apart, AreReadable}
use Rattle.asm_text.proofs.Rereading.{relexed}
use Rattle.asm_fields.specs.Operands.{no_operands}
use Rattle.asm_forms.specs.Operations.{made, operation_fits, first_value}
use Rattle.asm_fields.specs.Fields.{label_in}
use Rattle.asm_forms.specs.Forms.{Row}
use Rattle.asm_forms.specs.Statements.{Task, task_by, task_or, read_form, task_named, some_task, statement_of, label_of, after_label, Reading, reading_of, reading_by, reading}
use Rattle.asm_forms.specs.declared.asm_why.AsmWhy.{AsmWhy}
use Rattle.asm_fields.specs.declared.item.Item.{Item}
use Rattle.asm_fields.specs.declared.item.Item.TheVariants.{Operand, Mark}
use Rattle.asm_forms.specs.declared.kind.Kind.{Kind}
use Rattle.asm_forms.specs.declared.operation.Operation.{Operation}
use Rattle.asm_forms.specs.declared.operation.Operation.TheVariants.{Org as OrgOperation, Entry as EntryOperation, PutsByte, PutsHalf, PutsWord, Long as LongOperation, Compressed}
use Rattle.asm_forms.specs.declared.extent.Extent.{Extent}
use Rattle.asm_forms.specs.declared.extent.Extent.TheVariants.{Org as OrgExtent, Entry as EntryExtent, Takes}
use Rattle.rv_disasm.specs.Shown.{kind_of, values_of, row_for, row_of}
use Rattle.rv_disasm.specs.Listing.{size_of}
use Rattle.rv_disasm.specs.Printing.{operands_pieces, row_pieces, line_pieces}
use Rattle.rv_disasm.specs.Fitting.{field_fits, starts_with_mark, items_fit, statement_fits, room_for}
use Rattle.rv_disasm.specs.declared.statement.Statement.{Statement}
use Rattle.rv_disasm.specs.declared.statement.Statement.TheVariants.{Entry, Org, Byte, Half, Word as WordStatement, Long, Short}
use Rattle.rv_disasm.specs.declared.values.Values.{Values}
use Rattle.rv_disasm.proofs.Again.{three, reads_field, reads_items, words_of_items, parted}
use Rattle.rv_disasm.proofs.Shapes.{given, Makes, makes_entry, makes_org, makes_word, makes_half, makes_byte}
use Rattle.rv_disasm.proofs.Table.{line_bound, starts_plain, is_sound, HaveWords, IsRow, entry_row, org_row, byte_row, half_row, word_row, long_row, short_row, long}
use Rattle.rv_disasm.proofs.Halves.{half}

-- what the line does, as the assembler says it
abbrev pub operation_for : Statement → Operation
operation_for (Entry e) = EntryOperation e
operation_for (Org p) = OrgOperation p
operation_for (Byte b) = PutsByte b
operation_for (Half h) = PutsHalf h
operation_for (WordStatement w) = PutsWord w
operation_for (Long i) = LongOperation i
operation_for (Short c) = Compressed c

abbrev pub extent_for : Statement → Extent
extent_for (Entry e) = EntryExtent
extent_for (Org p) = OrgExtent p
extent_for s = Takes (size_of s)

-- the most that the text of its line has
abbrev pub most_for : Statement → ℕ
most_for (Entry e) = 60
most_for (Org p) = 60
most_for (Byte b) = 15
most_for (Half h) = 30
most_for (WordStatement w) = 60
most_for (Long i) = 60
most_for (Short c) = 30

pub statement_row : (s : Statement) → statement_fits s ≡ true → IsRow (row_of s) (kind_of s) (most_for s)
unfolding statement_fits
statement_row (Entry e) f = entry_row e
statement_row (Org p) f = org_row p
statement_row (Byte b) f = byte_row b
statement_row (Half h) f = half_row h
statement_row (WordStatement w) f = word_row w
statement_row (Long i) f = long_row i
statement_row (Short c) f = short_row c.row c.a c.b c.imm f

abbrev pub MakesStatement : ℕ → Statement → Type 0
MakesStatement p s = Makes p (row_of s).items (kind_of s) (values_of s) (operation_for s) (extent_for s)

pub statement_makes : (s : Statement) (p : ℕ) → p < 2 ^ 32 → statement_fits s ≡ true → MakesStatement p s
unfolding row_for statement_fits
statement_makes (Entry e) p l h = makes_entry e p h
statement_makes (Org a) p l h = makes_org a p h
statement_makes (Byte b) p l h = makes_byte b p h
statement_makes (Half n) p l h = makes_half n p h
statement_makes (WordStatement w) p l h = makes_word w p h
statement_makes (Long i) p l h = long i p l h
statement_makes (Short c) p l h = half c.row c.a c.b c.imm p l h

-- ---- one line

abbrev pub line_words : ℕ → Statement → List Word
line_words p s = words_of_items (row_of s).items (values_of s) p

abbrev pub task_for : ℕ → Statement → Task
task_for p s = record { kind = kind_of s; operands = given (row_of s).items (values_of s) p }

operand_words : (is : List Item) (v : Values) (p : ℕ) → flat_map words_in (operands_pieces is v p) ≡ words_of_items is v p
operand_words [] v p = refl
operand_words (i ∷ is) v p = refl

some_words : (is : List Item) (v : Values) (p : ℕ) → length (words_of_items is v p) ≡ length is → HaveWords is (words_of_items is v p)
some_words [] v p e = tt
some_words (i ∷ is) v p e = omega (arith, e)

-- what a row's soundness says
pub record Parts (row : Row) (most : ℕ) : Type 0 where
  pub name : is_name row.name ≡ true
  pub short : length row.name ≤ 11
  pub room : room_for row.items ≤ 69
  pub few : length row.items ≤ 15
  pub plain : starts_plain row.items ≡ true
  pub bound : line_bound row ≤ most

pub parts : (row : Row) (most : ℕ) → is_sound row most ≡ true → Parts row most
parts row most h =
    let t = three (is_name row.name && nat_le (length row.name) 11 && nat_le (room_for row.items) 69 && nat_le (length row.items) 15) (starts_plain row.items) (nat_le (line_bound row) most) h in
    let u = three (is_name row.name && nat_le (length row.name) 11) (nat_le (room_for row.items) 69) (nat_le (length row.items) 15) t.0 in
    let v = and_parts (is_name row.name) (nat_le (length row.name) 11) u.0 in
    record { name = v.0; short = leb-true _ 11 v.1; room = leb-true _ 69 u.1; few = leb-true _ 15 u.2; plain = t.1; bound = leb-true _ most t.2 }

-- the pieces of a line
pub record Pieces (p : ℕ) (s : Statement) : Type 0 where
  pub apart : are_apart (line_pieces p s) ≡ true
  pub readable : AreReadable (line_pieces p s)
  pub words : flat_map words_in (line_pieces p s) ≡ NameWord (row_of s).name ∷ line_words p s
  pub count : length (line_words p s) ≡ length (row_of s).items

pieces_by : (row : Row) (v : Values) (p : ℕ) → is_name row.name ≡ true → items_fit row.items v ≡ true
    → (are_apart (NamePiece row.name ∷ operands_pieces row.items v p) ≡ true) × AreReadable (NamePiece row.name ∷ operands_pieces row.items v p)
pieces_by row v p n h = by_items row.items h
  where
    by_items : (is : List Item) → items_fit is v ≡ true → (are_apart (NamePiece row.name ∷ operands_pieces is v p) ≡ true) × AreReadable (NamePiece row.name ∷ operands_pieces is v p)
    by_items [] h = (refl, (n, tt))
    by_items (i ∷ is) h = let t = parted (i ∷ is) v p h in (t.apart, (n, (tt, t.readable)))

pub pieces_of : (p : ℕ) (s : Statement) → statement_fits s ≡ true → items_fit (row_of s).items (values_of s) ≡ true → Pieces p s
unfolding row_pieces
pieces_of p s f h =
    let row = row_of s in
    let kept = parts row (most_for s) (statement_row s f).sound in
    let t = pieces_by row (values_of s) p kept.name h in
    record {
      apart = t.0;
      readable = t.1;
      words = ap (λ ws. NameWord row.name ∷ ws) (operand_words row.items (values_of s) p);
      count = (parted row.items (values_of s) p h).count;
    }

-- no colon stands second
no_label_by : (t : List ℕ) (is : List Item) (v : Values) (p : ℕ) → starts_plain is ≡ true → items_fit is v ≡ true → label_of (NameWord t ∷ words_of_items is v p) ≡ None
no_label_by t [] v p e h = refl
no_label_by t (Operand f ∷ is) v p e h =
    let here = reads_field f v p (three (field_fits f v) (starts_with_mark is) (items_fit is v) h).0 in
    ap (λ ws. label_of (NameWord t ∷ ws ++ words_of_items is v p)) here.words
    ∙ ap (λ b. cond b (label_in (NameWord t)) None) here.plain
no_label_by t (Mark k ∷ is) v p e h = cc

named_task : (o : Option Task) (k : Task) (rest : Result Task AsmWhy) → o ≡ Some k → task_or o rest ≡ Ok k
named_task o k rest e = ap (λ x. task_or x rest) e

-- the words are read by the row
read_again : (p : ℕ) (s : Statement) → statement_fits s ≡ true → MakesStatement p s → read_form (row_of s) (line_words p s) ≡ Some (task_for p s)
unfolding read_form
read_again p s f m =
    let row = row_of s in
    let o = given row.items (values_of s) p in
    ap (λ x. task_by row.kind x) (reads_items row.items (values_of s) p no_operands m.fit)
    ∙ ap (λ k. task_by k (Some o)) (statement_row s f).same
    ∙ cond-true (operation_fits (made (kind_of s) o (first_value o.number))) (Some (task_for p s)) None m.first

pub statement_again : (p : ℕ) (s : Statement) → statement_fits s ≡ true → MakesStatement p s → task_named (row_of s).name (line_words p s) ≡ Ok (task_for p s)
statement_again p s f m =
    let row = row_of s in
    let is_row = statement_row s f in
    let count = (parted row.items (values_of s) p m.fit).count in
    is_row.named (line_words p s) (some_words row.items (values_of s) p count)
    ∙ named_task (read_form row (line_words p s)) (task_for p s) (is_row.rest (line_words p s)) (read_again p s f m)

abbrev pub reading_for : ℕ → Statement → Reading
reading_for p s = record { label = None; statement = Ok (Some (task_for p s)) }

reading_of_words : (t : List ℕ) (ws : List Word) (k : Task) → label_of (NameWord t ∷ ws) ≡ None → task_named t ws ≡ Ok k → reading_of (NameWord t ∷ ws) ≡ record { label = None; statement = Ok (Some k) }
reading_of_words t ws k e f =
    let line = NameWord t ∷ ws in
    let as_reading : Option (List ℕ) → Reading = λ l. record { label = l; statement = statement_of (after_label l line) } in
    let with_task : Result Task AsmWhy → Reading = λ r. record { label = None; statement = some_task r } in
    ap as_reading e ∙ ap with_task f

-- a line that a statement is printed as is read as the statement
pub line_again : (p : ℕ) (s : Statement) → statement_fits s ≡ true → MakesStatement p s → reading (printed (line_pieces p s)) ≡ Ok (reading_for p s)
unfolding reading
line_again p s f m =
    let row = row_of s in
    let kept = parts row (most_for s) (statement_row s f).sound in
    let ps = pieces_of p s f m.fit in
    let count : length (flat_map words_in (line_pieces p s)) ≤ 16 = omega (arith, ap (λ (ws : List Word). length ws) ps.words, ps.count, kept.few) in
    let by_words : List Word → Result Reading AsmWhy = λ ws. Ok (reading_of ws) in
    ap (λ (x : Spoken). reading_by x.fault x.words) (relexed (line_pieces p s) ps.apart ps.readable count)
    ∙ ap by_words ps.words
    ∙ ap Ok (reading_of_words row.name (line_words p s) (task_for p s) (no_label_by row.name row.items (values_of s) p kept.plain m.fit) (statement_again p s f m))

-- ---- room for a line

pub record Room (row : Row) (v : Values) : Type 0 where
  pub short : length row.name ≤ 11
  pub fit : items_fit row.items v ≡ true
  pub room : room_for row.items ≤ 69

pub room_of_statement : (s : Statement) (row : Row) (kind : Kind) (v : Values) → statement_fits s ≡ true → kind ≡ kind_of s → v ≡ values_of s → row ≡ row_for kind v.number → Room row v
room_of_statement s row kind v h e f g =
    let kept = parts (row_of s) (most_for s) (statement_row s h).sound in
    let same : row ≡ row_of s = g ∙ ap (λ k. row_for k v.number) e ∙ ap (λ (w : Values). row_for (kind_of s) w.number) f in
    let m = statement_makes s 0 (lit< tt) h in
    let whole : Room (row_of s) (values_of s) = record { short = kept.short; fit = m.fit; room = kept.room } in
    subst (λ (w : Values). Room row w) (sym f) (subst (λ (r : Row). Room r (values_of s)) (sym same) whole)
