-- Each change leads from a state that is reached to another. The numbers of a list stay in their range where one of them is
-- set to a number in range, and a level input that isn't the changed one stays as it was.
use Rattle.std.proofs.Common.{◌≡◌, ◌≢◌, ℕ, zero, suc, ◌<◌, ◌==◌, Bool, true, false, List, [], ◌∷◌, length, get_or, set, replicate, refl, sym, ap, ◌∙◌, subst, arith, nat_le, cond, Option, Some, None, length-set, get_or-set_same, get_or-set_other}
use Rattle.std.proofs.lemmas.List.{length-replicate, get_or-replicate}
use Rattle.std.specs.Option.{option_map}
use Rattle.std.proofs.lemmas.Bool.{false≢true}
use Rattle.std.proofs.lemmas.Bool.Decides.{nat_tests}
use Rattle.hart_words.specs.Bits.{bits}
use Rattle.std.proofs.lemmas.Grind.{get_or-set_at}
use Rattle.clic_regs.specs.Attribute.{is_edge, is_active}
use Rattle.clic_regs.specs.Shape.{ClicShape, IsShape}
use Rattle.clic_regs.specs.Filled.{filled, IsFilled}
use Rattle.clic_regs.proofs.Levels.{filled_small, filled_lower}
use Rattle.clic_regs.specs.ClicState.{ClicState, IsClicState, input_count, line_of, is_pending, attribute_of, reset_clic}
use Rattle.clic_regs.specs.LineChange.{pending_after, line_changed, attribute_changed, pending_changed, claimed}
use Rattle.clic_regs.specs.Bytes.{byte_at, with_byte, byte_written}
use Rattle.clic_regs.specs.declared.clic_byte.ClicByte.{ClicByte}
use Rattle.clic_regs.specs.declared.clic_byte.ClicByte.TheVariants.{Config, Reserved, Pending, Enable, Attribute, Control}

-- a level input is pending where its line is active
abbrev pub Follows : List Bool → List Bool → List ℕ → ℕ → Type 0
Follows pending line attribute i = is_edge (get_or attribute i 0) ≡ false → get_or pending i false ≡ is_active (get_or attribute i 0) (get_or line i false)

is_same : (i j : ℕ) → (i == j) ≡ true → i ≡ j
is_same i j h = grind (arith, nat_tests)

is_other : (i j : ℕ) → (i == j) ≡ false → i ≢ j
is_other i j h = grind (arith, nat_tests)

set_below : (xs : List ℕ) (i v bound : ℕ) → v < bound → ((j : ℕ) → get_or xs j 0 < bound) → (j : ℕ) → get_or (set xs i v) j 0 < bound
set_below [] i v bound l h j = h j
set_below (x ∷ xs) zero v bound l h zero = l
set_below (x ∷ xs) zero v bound l h (suc j) = h (suc j)
set_below (x ∷ xs) (suc i) v bound l h zero = h zero
set_below (x ∷ xs) (suc i) v bound l h (suc j) = set_below xs i v bound l (λ k. h (suc k)) j

replicate_small : (n v i bound : ℕ) → v < bound → 0 < bound → get_or (replicate n v) i 0 < bound
replicate_small zero v i bound h l = l
replicate_small (suc n) v zero bound h l = h
replicate_small (suc n) v (suc i) bound h l = replicate_small n v i bound h l

set_filled : (xs : List ℕ) (i v n : ℕ) → IsFilled n v → ((j : ℕ) → j < length xs → IsFilled n (get_or xs j 0)) → (j : ℕ) → j < length xs → IsFilled n (get_or (set xs i v) j 0)
set_filled [] i v n f h j m = absurd (omega arith)
set_filled (x ∷ xs) zero v n f h zero m = f
set_filled (x ∷ xs) zero v n f h (suc j) m = h (suc j) m
set_filled (x ∷ xs) (suc i) v n f h zero m = h zero m
set_filled (x ∷ xs) (suc i) v n f h (suc j) m = set_filled xs i v n f (λ k l. h (suc k) (omega arith)) j (omega arith)

line_follows : (pending line : List Bool) (attribute : List ℕ) (i j : ℕ) (v high same : Bool) → i < length pending → i < length line → (is_edge (get_or attribute i 0) ≡ false → v ≡ is_active (get_or attribute i 0) high) → Follows pending line attribute j → (j == i) ≡ same → Follows (set pending i v) (set line i high) attribute j
line_follows pending line attribute i j v high true p l here there same edge =
    let e : j ≡ i = is_same j i same in
    let h : v ≡ is_active (get_or attribute i 0) high = here (ap (λ k. is_edge (get_or attribute k 0)) (sym e) ∙ edge) in
    let a = get_or-set_at pending i j v false e p in
    let b = get_or-set_at line i j high false e l in
    cc
line_follows pending line attribute i j v high false p l here there same edge =
    let e : j ≢ i = is_other j i same in
    let a = get_or-set_other pending i j v false e in
    let b = get_or-set_other line i j high false e in
    let h = there edge in
    cc

after_level : (attribute : ℕ) (was pending high : Bool) → is_edge attribute ≡ false → pending_after attribute was pending high ≡ is_active attribute high
after_level attribute was pending high h = grind (arith, h)

pub line_set-kept : (c : ClicState) (i : ℕ) (high v : Bool) → IsClicState c → i < input_count c → v ≡ pending_after (attribute_of c i) (line_of c i) (is_pending c i) high → IsClicState (record c { line = set c.line i high; pending = set c.pending i v })
line_set-kept c i high v h l e = record {
  shape = h.shape;
  nlbits = h.nlbits;
  line = simp length-set h.line;
  pending = simp length-set h.pending;
  enable = h.enable;
  attribute = h.attribute;
  control = h.control;
  attributes = h.attributes;
  controls = h.controls;
  ones = h.ones;
  levels = λ j m. line_follows c.pending c.line c.attribute i j v high _ (omega (arith, h.pending)) (omega (arith, h.line)) (λ level. e ∙ after_level (attribute_of c i) (line_of c i) (is_pending c i) high level) (h.levels j m) refl;
}

pub line_changed-kept : (c : ClicState) (i : ℕ) (high : Bool) → IsClicState c → i < input_count c → IsClicState (line_changed c i high)
unfolding line_changed
line_changed-kept c i high h l = line_set-kept c i high _ h l refl

attribute_follows : (pending before line : List Bool) (attribute : List ℕ) (i j value : ℕ) (same : Bool) → i < length attribute → ((k : ℕ) → k ≢ i → get_or pending k false ≡ get_or before k false) → (is_edge value ≡ false → get_or pending i false ≡ is_active value (get_or line i false)) → Follows before line attribute j → (j == i) ≡ same → Follows pending line (set attribute i value) j
attribute_follows pending before line attribute i j value true l others here there same edge =
    let e : j ≡ i = is_same j i same in
    let a = get_or-set_at attribute i j value 0 e l in
    let h : get_or pending i false ≡ is_active value (get_or line i false) = here (ap is_edge (sym a) ∙ edge) in
    cc
attribute_follows pending before line attribute i j value false l others here there same edge =
    let e : j ≢ i = is_other j i same in
    let a = get_or-set_other attribute i j value 0 e in
    let b = others j e in
    let h : get_or before j false ≡ is_active (get_or attribute j 0) (get_or line j false) = there (ap is_edge (sym a) ∙ edge) in
    cc

-- an attribute is set, and the input is pending as it says
pub attribute_set-kept : (c : ClicState) (i value : ℕ) (pending : List Bool) → IsClicState c → i < input_count c → value < 8 → length pending ≡ length c.pending → ((j : ℕ) → j ≢ i → get_or pending j false ≡ is_pending c j) → (is_edge value ≡ false → get_or pending i false ≡ is_active value (line_of c i)) → IsClicState (record c { attribute = set c.attribute i value; pending = pending })
attribute_set-kept c i value pending h l small size others here = record {
  shape = h.shape;
  nlbits = h.nlbits;
  line = h.line;
  pending = size ∙ h.pending;
  enable = h.enable;
  attribute = simp length-set h.attribute;
  control = h.control;
  attributes = set_below c.attribute i value 8 small h.attributes;
  controls = h.controls;
  ones = h.ones;
  levels = λ j m. attribute_follows pending c.pending c.line c.attribute i j value _ (omega (arith, h.attribute)) others here (h.levels j m) refl;
}

-- the state at reset is one
pub reset-kept : (s : ClicShape) → IsShape s → IsClicState (reset_clic s)
unfolding reset_clic
reset-kept s h = record {
  shape = h;
  nlbits = omega arith;
  line = simp length-replicate;
  pending = simp length-replicate;
  enable = simp length-replicate;
  attribute = simp length-replicate;
  control = simp length-replicate;
  attributes = λ i. replicate_small s.inputs 0 i 8 (omega arith) (omega arith);
  controls = λ i. replicate_small s.inputs (filled s.bits 0) i 256 (filled_small s.bits 0 h.bits (omega arith)) (omega arith);
  ones = λ i few. subst (IsFilled s.bits) (sym (get_or-replicate s.inputs i (filled s.bits 0) 0 few)) (filled_lower s.bits 0);
  levels = λ i few e.
      let line = get_or-replicate s.inputs i false false few in
      let attribute = get_or-replicate s.inputs i 0 0 few in
      line ∙ ap (λ k. is_active k false) (sym attribute) ∙ ap (λ b. is_active (get_or (replicate s.inputs 0) i 0) b) (sym line);
}

pub replicas-kept : (s : ClicShape) (line pending enable : List Bool) (attribute control : List ℕ) → IsShape s → line ≡ replicate s.inputs false → pending ≡ replicate s.inputs false → enable ≡ replicate s.inputs false → attribute ≡ replicate s.inputs 0 → control ≡ replicate s.inputs (filled s.bits 0) → IsClicState (record { shape = s; nlbits = 0; line = line; pending = pending; enable = enable; attribute = attribute; control = control })
unfolding reset_clic
replicas-kept s line pending enable attribute control h a b d e f =
    let same : record { shape = s; nlbits = 0; line = line; pending = pending; enable = enable; attribute = attribute; control = control } ≡ reset_clic s = cc in
    subst IsClicState (sym same) (reset-kept s h)

attribute_by : (c : ClicState) (i value : ℕ) (edge : Bool) → IsClicState c → i < input_count c → value < 8 → is_edge value ≡ edge → IsClicState (record c { attribute = set c.attribute i value; pending = cond edge c.pending (set c.pending i (is_active value (line_of c i))) })
attribute_by c i value true h l small edge = attribute_set-kept c i value c.pending h l small refl (λ j other. refl) (λ level. absurd (false≢true (sym level ∙ edge)))
attribute_by c i value false h l small edge =
    let waits : i < length c.pending = omega (arith, h.pending) in
    let v : Bool = is_active value (line_of c i) in
    attribute_set-kept c i value (set c.pending i v) h l small (length-set c.pending i v) (λ j other. get_or-set_other c.pending i j v false other) (λ level. get_or-set_same c.pending i v false waits)

pub attribute_changed-kept : (c : ClicState) (i value : ℕ) → IsClicState c → i < input_count c → value < 8 → IsClicState (attribute_changed c i value)
unfolding attribute_changed
attribute_changed-kept c i value h l small = attribute_by c i value _ h l small refl

pending_follows : (pending line : List Bool) (attribute : List ℕ) (i j : ℕ) (v same : Bool) → is_edge (get_or attribute i 0) ≡ true → Follows pending line attribute j → (j == i) ≡ same → Follows (set pending i v) line attribute j
pending_follows pending line attribute i j v true edge there same level =
    let e : j ≡ i = is_same j i same in
    absurd (false≢true (sym level ∙ ap (λ k. is_edge (get_or attribute k 0)) e ∙ edge))
pending_follows pending line attribute i j v false edge there same level = get_or-set_other pending i j v false (is_other j i same) ∙ there level

pending_by : (c : ClicState) (i : ℕ) (v edge : Bool) → IsClicState c → is_edge (attribute_of c i) ≡ edge → IsClicState (cond edge (record c { pending = set c.pending i v }) c)
pending_by c i v true h edge = record {
  shape = h.shape;
  nlbits = h.nlbits;
  line = h.line;
  pending = simp length-set h.pending;
  enable = h.enable;
  attribute = h.attribute;
  control = h.control;
  attributes = h.attributes;
  controls = h.controls;
  ones = h.ones;
  levels = λ j m. pending_follows c.pending c.line c.attribute i j v _ edge (h.levels j m) refl;
}
pending_by c i v false h edge = h

pub pending_changed-kept : (c : ClicState) (i : ℕ) (value : Bool) → IsClicState c → IsClicState (pending_changed c i value)
unfolding pending_changed
pending_changed-kept c i value h = pending_by c i value _ h refl

pub claimed-kept : (c : ClicState) (i : ℕ) → IsClicState c → IsClicState (claimed c i)
claimed-kept c i h = pending_changed-kept c i false h

-- a byte of an input that there is
abbrev pub IsThere : ℕ → ClicByte → Type 0
IsThere n Config = Unit {0}
IsThere n Reserved = Unit {0}
IsThere n (Pending i) = i < n
IsThere n (Enable i) = i < n
IsThere n (Attribute i) = i < n
IsThere n (Control i) = i < n

there_at : (n offset : ℕ) (b : ClicByte) → byte_at n offset ≡ Some b → IsThere n b
there_at n offset Config h = tt
there_at n offset Reserved h = tt
there_at n offset (Pending i) h = grind (arith, nat_tests)
there_at n offset (Enable i) h = grind (arith, nat_tests)
there_at n offset (Attribute i) h = grind (arith, nat_tests)
there_at n offset (Control i) h = grind (arith, nat_tests)

nlbits_by : (c : ClicState) (nlbits : ℕ) (test : Bool) → nat_le nlbits 8 ≡ test → IsClicState c → IsClicState (cond test (record c { nlbits = nlbits }) c)
nlbits_by c nlbits true e h = record {
  shape = h.shape;
  nlbits = grind (arith, nat_tests);
  line = h.line;
  pending = h.pending;
  enable = h.enable;
  attribute = h.attribute;
  control = h.control;
  attributes = h.attributes;
  controls = h.controls;
  ones = h.ones;
  levels = h.levels;
}
nlbits_by c nlbits false e h = h

pub control_set-kept : (c : ClicState) (i v : ℕ) → IsClicState c → v < 256 → IsFilled c.shape.bits v → IsClicState (record c { control = set c.control i v })
control_set-kept c i v h small ones = record {
  shape = h.shape;
  nlbits = h.nlbits;
  line = h.line;
  pending = h.pending;
  enable = h.enable;
  attribute = h.attribute;
  control = simp length-set h.control;
  attributes = h.attributes;
  controls = set_below c.control i v 256 small h.controls;
  ones = λ j m. set_filled c.control i v c.shape.bits ones (λ k l. h.ones k (omega (arith, h.control))) j (omega (arith, h.control));
  levels = h.levels;
}

with_byte-kept : (c : ClicState) (value : ℕ) (b : ClicByte) → IsClicState c → value < 256 → IsThere (input_count c) b → IsClicState (with_byte c value b)
with_byte-kept c value Config h small l = nlbits_by c (bits value 1 4) _ refl h
with_byte-kept c value Reserved h small l = h
with_byte-kept c value (Pending i) h small l = pending_changed-kept c i _ h
with_byte-kept c value (Enable i) h small l = record {
  shape = h.shape;
  nlbits = h.nlbits;
  line = h.line;
  pending = h.pending;
  enable = simp length-set h.enable;
  attribute = h.attribute;
  control = h.control;
  attributes = h.attributes;
  controls = h.controls;
  ones = h.ones;
  levels = h.levels;
}
with_byte-kept c value (Attribute i) h small l = attribute_changed-kept c i (bits value 0 3) h l (omega arith)
with_byte-kept c value (Control i) h small l = control_set-kept c i (filled c.shape.bits value) h (filled_small c.shape.bits value h.shape.bits small) (filled_lower c.shape.bits value)

written_by : (c d : ClicState) (offset value : ℕ) (b : Option ClicByte) → byte_at (input_count c) offset ≡ b → IsClicState c → value < 256 → option_map (with_byte c value) b ≡ Some d → IsClicState d
written_by c d offset value None at h small e = absurd (let n : None ≡ Some d = e in cc)
written_by c d offset value (Some b) at h small e =
    let same : with_byte c value b ≡ d = cc in
    subst IsClicState same (with_byte-kept c value b h small (there_at (input_count c) offset b at))

pub byte_written-kept : (c d : ClicState) (offset value : ℕ) → IsClicState c → value < 256 → byte_written c offset value ≡ Some d → IsClicState d
unfolding byte_written
byte_written-kept c d offset value h small e = written_by c d offset value _ refl h small e

-- ---- the shape stays

pub line_changed-shape : (c : ClicState) (i : ℕ) (high : Bool) → (line_changed c i high).shape ≡ c.shape
unfolding line_changed
line_changed-shape c i high = refl

shape_by : (c : ClicState) (i : ℕ) (v edge : Bool) → (cond edge (record c { pending = set c.pending i v }) c).shape ≡ c.shape
shape_by c i v true = refl
shape_by c i v false = refl

pub pending_changed-shape : (c : ClicState) (i : ℕ) (v : Bool) → (pending_changed c i v).shape ≡ c.shape
unfolding pending_changed
pending_changed-shape c i v = shape_by c i v (is_edge (attribute_of c i))

pub claimed-shape : (c : ClicState) (i : ℕ) → (claimed c i).shape ≡ c.shape
claimed-shape c i = pending_changed-shape c i false

pub attribute_changed-shape : (c : ClicState) (i value : ℕ) → (attribute_changed c i value).shape ≡ c.shape
unfolding attribute_changed
attribute_changed-shape c i value = refl

nlbits_shape : (c : ClicState) (nlbits : ℕ) (test : Bool) → (cond test (record c { nlbits = nlbits }) c).shape ≡ c.shape
nlbits_shape c nlbits true = refl
nlbits_shape c nlbits false = refl

with_byte-shape : (c : ClicState) (value : ℕ) (b : ClicByte) → (with_byte c value b).shape ≡ c.shape
with_byte-shape c value Config = nlbits_shape c (bits value 1 4) _
with_byte-shape c value Reserved = refl
with_byte-shape c value (Pending i) = pending_changed-shape c i _
with_byte-shape c value (Enable i) = refl
with_byte-shape c value (Attribute i) = attribute_changed-shape c i _
with_byte-shape c value (Control i) = refl

written_shape : (c d : ClicState) (value : ℕ) (b : Option ClicByte) → option_map (with_byte c value) b ≡ Some d → d.shape ≡ c.shape
written_shape c d value None e = absurd (let n : None ≡ Some d = e in cc)
written_shape c d value (Some b) e = let same : with_byte c value b ≡ d = cc in ap (λ x. x.shape) (sym same) ∙ with_byte-shape c value b

pub byte_written-shape : (c d : ClicState) (offset value : ℕ) → byte_written c offset value ≡ Some d → d.shape ≡ c.shape
unfolding byte_written
byte_written-shape c d offset value e = written_shape c d value (byte_at (input_count c) offset) e
