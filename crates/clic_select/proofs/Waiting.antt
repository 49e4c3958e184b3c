-- A change of one input leaves what waits at the others.
use Rattle.std.proofs.Common.{◌≡◌, ◌≢◌, ℕ, ◌<◌, Bool, true, false, cond, set, get_or-set_other, Option, Some, None, refl, sym, ap, ◌∙◌, arith}
use Rattle.std.specs.Bool.{OnTrue, OnFalse}
use Rattle.std.specs.Option.{option_map}
use Rattle.std.proofs.lemmas.Bool.Decides.{nat_tests}
use Rattle.clic_regs.specs.ClicState.{ClicState, input_count, attribute_of, line_of}
use Rattle.clic_regs.specs.Attribute.{is_edge, is_active}
use Rattle.clic_regs.specs.LineChange.{line_changed, claimed, pending_changed, attribute_changed}
use Rattle.clic_regs.specs.Bytes.{byte_at, byte_written, with_byte, input_in, input_at}
use Rattle.clic_regs.specs.declared.clic_byte.ClicByte.{ClicByte}
use Rattle.clic_regs.specs.declared.clic_byte.ClicByte.TheVariants.{Config, Reserved, Pending, Enable, Attribute, Control}
use Rattle.clic_select.specs.Tree.{waiting}

pub line_leaves : (c : ClicState) (i j : ℕ) (high : Bool) → j ≢ i → waiting (line_changed c i high) j ≡ waiting c j
unfolding line_changed
line_leaves c i j high other = rw get_or-set_other refl

pending_by : (c : ClicState) (i j : ℕ) (value edge : Bool) → j ≢ i → waiting (cond edge (record c { pending = set c.pending i value }) c) j ≡ waiting c j
pending_by c i j value true other = rw get_or-set_other refl
pending_by c i j value false other = refl

pending_leaves : (c : ClicState) (i j : ℕ) (value : Bool) → j ≢ i → waiting (pending_changed c i value) j ≡ waiting c j
unfolding pending_changed
pending_leaves c i j value other = pending_by c i j value (is_edge (attribute_of c i)) other

pub claim_leaves : (c : ClicState) (i j : ℕ) → j ≢ i → waiting (claimed c i) j ≡ waiting c j
claim_leaves c i j other = pending_leaves c i j false other

attribute_by : (c : ClicState) (i j value : ℕ) (edge : Bool) → j ≢ i → waiting (record c { attribute = set c.attribute i value; pending = cond edge c.pending (set c.pending i (is_active value (line_of c i))) }) j ≡ waiting c j
attribute_by c i j value true other = rw get_or-set_other refl
attribute_by c i j value false other = rw (get_or-set_other, get_or-set_other) refl

attribute_leaves : (c : ClicState) (i j value : ℕ) → j ≢ i → waiting (attribute_changed c i value) j ≡ waiting c j
unfolding attribute_changed
attribute_leaves c i j value other = attribute_by c i j value (is_edge value) other

byte_leaves : (c : ClicState) (value : ℕ) (b : ClicByte) (i j : ℕ) → input_in (Some b) ≡ Some i → j ≢ i → waiting (with_byte c value b) j ≡ waiting c j
byte_leaves c value Config i j e other = cc
byte_leaves c value Reserved i j e other = cc
byte_leaves c value (Pending k) i j e other = let o : j ≢ k = λ s. other (s ∙ (cc e)) in pending_leaves c k j _ o
byte_leaves c value (Enable k) i j e other = let o : j ≢ k = λ s. other (s ∙ (cc e)) in rw get_or-set_other refl
byte_leaves c value (Attribute k) i j e other = let o : j ≢ k = λ s. other (s ∙ (cc e)) in attribute_leaves c k j _ o
byte_leaves c value (Control k) i j e other = let o : j ≢ k = λ s. other (s ∙ (cc e)) in rw get_or-set_other refl

found_leaves : (c d : ClicState) (value i j : ℕ) (found : Option ClicByte) → option_map (with_byte c value) found ≡ Some d → input_in found ≡ Some i → j ≢ i → waiting d j ≡ waiting c j
found_leaves c d value i j None e f other = cc
found_leaves c d value i j (Some b) e f other = let same : with_byte c value b ≡ d = cc e in ap (λ s. waiting s j) (sym same) ∙ byte_leaves c value b i j f other

written_leaves : (c d : ClicState) (offset value i j : ℕ) → byte_written c offset value ≡ Some d → input_at (input_count c) offset ≡ Some i → j ≢ i → waiting d j ≡ waiting c j
unfolding byte_written input_at
written_leaves c d offset value i j e f other = found_leaves c d value i j (byte_at (input_count c) offset) e f other

-- whether the byte is there or not
pub write_leaves : (there : Bool) (c d : ClicState) (n offset value i j : ℕ) → OnTrue there (byte_written c offset value ≡ Some d) → OnFalse there (d ≡ c) → input_count c ≡ n → input_at n offset ≡ Some i → j ≢ i → waiting d j ≡ waiting c j
write_leaves true c d n offset value i j e kept size f other = written_leaves c d offset value i j e (rw size f) other
write_leaves false c d n offset value i j e kept size f other = ap (λ s. waiting s j) kept

config_is_first : (n offset : ℕ) → byte_at n offset ≡ Some Config → offset ≡ 0
config_is_first n offset e = grind (arith, nat_tests)

found_none : (c d : ClicState) (n offset value : ℕ) (found : Option ClicByte) → byte_at n offset ≡ found → option_map (with_byte c value) found ≡ Some d → input_in found ≡ None → 0 < offset → d ≡ c
found_none c d n offset value None at e f l = cc
found_none c d n offset value (Some Config) at e f l = let first = config_is_first n offset at in absurd (omega (arith, first))
found_none c d n offset value (Some Reserved) at e f l = let same : c ≡ d = cc e in sym same
found_none c d n offset value (Some (Pending k)) at e f l = cc
found_none c d n offset value (Some (Enable k)) at e f l = cc
found_none c d n offset value (Some (Attribute k)) at e f l = cc
found_none c d n offset value (Some (Control k)) at e f l = cc

written_none : (c d : ClicState) (offset value : ℕ) → byte_written c offset value ≡ Some d → input_at (input_count c) offset ≡ None → 0 < offset → d ≡ c
unfolding byte_written input_at
written_none c d offset value e f l = found_none c d (input_count c) offset value (byte_at (input_count c) offset) refl e f l

-- a byte of no input, but for the first, changes nothing
pub write_changes_nothing : (there : Bool) (c d : ClicState) (n offset value : ℕ) → OnTrue there (byte_written c offset value ≡ Some d) → OnFalse there (d ≡ c) → input_count c ≡ n → input_at n offset ≡ None → 0 < offset → d ≡ c
write_changes_nothing true c d n offset value e kept size f l = written_none c d offset value e (rw size f) l
write_changes_nothing false c d n offset value e kept size f l = kept
