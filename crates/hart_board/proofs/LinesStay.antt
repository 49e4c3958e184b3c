-- The controller's lines stay, or are set to the device's.
use Rattle.std.proofs.Common.{◌≡◌, ℕ, zero, suc, ◌+◌, ◌/◌, ◌%◌, ◌==◌, List, Bool, true, false, Option, Some, None, slice_set, nat_le, if◌then◌else◌, inl, inr, refl, sym, ◌∙◌, ap, subst}
use Rattle.std.specs.Option.{option_map}
use Rattle.hart_words.specs.Bits.{bits}
use Rattle.device_model.specs.Meanings.{Meanings}
use Rattle.rv_encoding.specs.declared.instruction.Ins.{Ins}
use Rattle.rv_encoding.specs.declared.instruction.Ins.TheVariants.{Ecall, Ebreak, Mret, Wfi, Csr}
use Rattle.rv_encoding.specs.declared.operations.CsrOp.{CsrOp}
use Rattle.csr_file.specs.CsrState.{CsrState}
use Rattle.hart_memory.specs.Access.{loaded}
use Rattle.hart_memory.specs.Memory.{Memory}
use Rattle.clic_regs.specs.ClicState.{ClicState, input_count, attribute_of}
use Rattle.clic_regs.specs.Attribute.{is_edge}
use Rattle.clic_regs.specs.Bytes.{byte_at, with_byte, byte_written}
use Rattle.clic_regs.specs.LineChange.{pending_changed, attribute_changed, claimed}
use Rattle.clic_regs.specs.declared.clic_byte.ClicByte.{ClicByte}
use Rattle.clic_regs.specs.declared.clic_byte.ClicByte.TheVariants.{Config, Reserved, Pending, Enable, Attribute, Control}
use Rattle.clic_select.specs.Top.{top}
use Rattle.clic_select.specs.declared.choice.Choice.{Choice}
use Rattle.clic_trap.specs.CsrAccess.{Accessed, operand, accessed}
use Rattle.clic_trap.specs.CsrInstruction.{after_try, csr_done, csr_instruction}
use Rattle.clic_trap.specs.CsrRequest.{request}
use Rattle.clic_trap.specs.Entry.{entered, entered_by, entered_through, vector_address}
use Rattle.clic_trap.specs.NextInterrupt.{next_interrupt, next_by, claiming, found}
use Rattle.clic_trap.specs.System.{system}
use Rattle.clic_trap.specs.declared.claim.Claim.{Claim}
use Rattle.clic_trap.specs.declared.claim.Claim.TheVariants.{Read, Set, Clear}
use Rattle.clic_trap.specs.declared.csr_request.CsrRequest.{CsrRequest}
use Rattle.clic_trap.specs.declared.csr_request.CsrRequest.TheVariants.{Illegal, NextInterrupt, Swap, Plain}
use Rattle.hart_board.specs.State.{Outside, State}
use Rattle.hart_board.specs.Region.{region}
use Rattle.hart_board.specs.Outside.{with_device, device_loaded, loaded_in, stored_in}
use Rattle.clic_select.specs.ByteRows.{bytes_read, bytes_written, and_then}
use Rattle.hart_board.specs.Step.{step}
use Rattle.hart_board.specs.Kinds.{HasLinesOf}
use Rattle.hart_board.specs.declared.region.Region.{Region}
use Rattle.hart_board.specs.declared.region.Region.TheVariants.{Controller, Devices, Nowhere}
use Rattle.hart_board.proofs.Keeping.{step_holds}

-- ---- a claim, and a write to the controller, keep the lines

config_lines : (c : ClicState) (n : ℕ) (b : Bool) → (if b then record c { nlbits = n } else c).line ≡ c.line
config_lines c n true = refl
config_lines c n false = refl

pending_lines : (c : ClicState) (i : ℕ) (value : Bool) (b : Bool) → (if b then record c { pending = slice_set c.pending i value } else c).line ≡ c.line
pending_lines c i value true = refl
pending_lines c i value false = refl

claim_lines : (c : ClicState) (i : ℕ) → (claimed c i).line ≡ c.line
unfolding pending_changed
claim_lines c i = pending_lines c i false (is_edge (attribute_of c i))

byte_lines : (c : ClicState) (value : ℕ) (b : ClicByte) → (with_byte c value b).line ≡ c.line
unfolding pending_changed attribute_changed
byte_lines c value Config = config_lines c (bits value 1 4) (nat_le (bits value 1 4) 8)
byte_lines c value Reserved = refl
byte_lines c value (Pending i) = pending_lines c i (bits value 0 1 == 1) (is_edge (attribute_of c i))
byte_lines c value (Enable i) = refl
byte_lines c value (Attribute i) = refl
byte_lines c value (Control i) = refl

written_lines_by : (c d : ClicState) (value : ℕ) (b : Option ClicByte) → option_map (with_byte c value) b ≡ Some d → d.line ≡ c.line
written_lines_by c d value None e = cc
written_lines_by c d value (Some byte) e = let same : with_byte c value byte ≡ d = cc in ap (λ (x : ClicState). x.line) (sym same) ∙ byte_lines c value byte

written_lines : (c d : ClicState) (offset value : ℕ) → byte_written c offset value ≡ Some d → d.line ≡ c.line
unfolding byte_written
written_lines c d offset value e = written_lines_by c d value (byte_at (input_count c) offset) e

first_lines : (width : ℕ) (c d : ClicState) (offset value : ℕ) (first : Option ClicState) → byte_written c offset (value % 256) ≡ first → ((x : ClicState) → bytes_written x (offset + 1) width (value / 256) ≡ Some d → d.line ≡ x.line) → and_then (λ x. bytes_written x (offset + 1) width (value / 256)) first ≡ Some d → d.line ≡ c.line
first_lines width c d offset value None is rest e = cc
first_lines width c d offset value (Some x) is rest e = rest x e ∙ written_lines c x offset (value % 256) is

bytes_lines : (width : ℕ) (c d : ClicState) (offset value : ℕ) → bytes_written c offset width value ≡ Some d → d.line ≡ c.line
unfolding bytes_written
bytes_lines zero c d offset value e = let same : c ≡ d = cc in ap (λ (x : ClicState). x.line) (sym same)
bytes_lines (suc width) c d offset value e = first_lines width c d offset value (byte_written c offset (value % 256)) refl (λ x. bytes_lines width x d (offset + 1) (value / 256)) e

-- ---- a system instruction and an entry keep them

claiming_lines : (c : CsrState) (s : ClicState) (t : Option Choice) → (claiming c s t).clic.line ≡ s.line
claiming_lines c s None = refl
claiming_lines c s (Some t) = claim_lines s t.id

next_lines_by : (form : Claim) (c : CsrState) (s : ClicState) (t : Option Choice) → (next_by form c s t).clic.line ≡ s.line
next_lines_by Read c s t = refl
next_lines_by Set c s t = claiming_lines (record c { mie = true }) s t
next_lines_by Clear c s t = claiming_lines (record c { mie = false }) s t

next_lines : (form : Claim) (c : CsrState) (s : ClicState) → (next_interrupt form c s).clic.line ≡ s.line
unfolding next_interrupt
next_lines form c s = next_lines_by form c s (found (top s) c)

try_lines : (a : Option Accessed) (rd : ℕ) (r : List ℕ) (c : CsrState) (s : ClicState) → (after_try a rd r c s).clic.line ≡ s.line
try_lines None rd r c s = refl
try_lines (Some a) rd r c s = refl

csr_lines : (q : CsrRequest) (op : CsrOp) (rd source csr : ℕ) (r : List ℕ) (c : CsrState) (s : ClicState) → (csr_done q op rd source csr r c s).clic.line ≡ s.line
csr_lines Illegal op rd source csr r c s = refl
csr_lines (NextInterrupt form) op rd source csr r c s = next_lines form c s
csr_lines (Swap by_level) op rd source csr r c s = refl
csr_lines (Plain writes) op rd source csr r c s = try_lines (accessed writes op csr (operand op r source) c) rd r c s

system_lines : (i : Ins) (r : List ℕ) (c : CsrState) (s : ClicState) → (system i r c s).clic.line ≡ s.line
unfolding system csr_instruction
system_lines Ecall r c s = refl
system_lines Ebreak r c s = refl
system_lines Mret r c s = refl
system_lines Wfi r c s = refl
system_lines (Csr op rd source csr) r c s = csr_lines (request op rd source csr) op rd source csr r c s
system_lines _ r c s = refl

through_lines : (vector : Option ℕ) (c : CsrState) (s : ClicState) (t : Choice) (pc : ℕ) → (entered_through vector c s t pc).clic.line ≡ s.line
through_lines None c s t pc = refl
through_lines (Some vector) c s t pc = claim_lines s t.id

entry_lines_by : (shv : Bool) (c : CsrState) (s : ClicState) (memory : Memory) (t : Choice) (pc : ℕ) → (entered_by shv c s memory t pc).clic.line ≡ s.line
entry_lines_by false c s memory t pc = refl
entry_lines_by true c s memory t pc = through_lines (loaded memory (vector_address c t.id) 4) c s t pc

entry_lines : (c : CsrState) (s : ClicState) (memory : Memory) (t : Choice) (pc : ℕ) → (entered c s memory t pc).clic.line ≡ s.line
unfolding entered
entry_lines c s memory t pc = entry_lines_by t.shv c s memory t pc

-- ---- accesses outside memory

device_lines : (m : Meanings) (o : Outside) (device : List ℕ) → HasLinesOf m o.clic (with_device m o device)
unfolding with_device
device_lines m o device = inr (o.clic, refl, refl)

controller_load : (m : Meanings) (o : Outside) (value : Option ℕ) (found : ℕ × Outside) → option_map (λ v. (v, o)) value ≡ Some found → HasLinesOf m o.clic found.1
controller_load m o None found e = cc
controller_load m o (Some v) found e = let same : (v, o) ≡ found = cc in inl (ap (λ (x : ℕ × Outside). x.1.clic.line) (sym same))

device_load : (m : Meanings) (o : Outside) (after : List ℕ) (value : Option ℕ) (found : ℕ × Outside) → device_loaded m o after value ≡ Some found → HasLinesOf m o.clic found.1
device_load m o after None found e = cc
device_load m o after (Some v) found e =
    let same : (v, with_device m o after) ≡ found = cc in
    subst (λ (x : ℕ × Outside). HasLinesOf m o.clic x.1) same (device_lines m o after)

load_lines : (m : Meanings) (o : Outside) (width : ℕ) (r : Region) (found : ℕ × Outside) → loaded_in m o width r ≡ Some found → HasLinesOf m o.clic found.1
load_lines m o width (Controller offset) found e = controller_load m o (bytes_read o.clic offset width) found e
load_lines m o width (Devices offset) found e = device_load m o (m.after_load o.device offset width) (m.loaded o.device offset width) found e
load_lines m o width Nowhere found e = cc

controller_store : (m : Meanings) (o : Outside) (offset width value : ℕ) (written : Option ClicState) (outside : Outside) → bytes_written o.clic offset width value ≡ written → option_map (λ c. record o { clic = c }) written ≡ Some outside → HasLinesOf m o.clic outside
controller_store m o offset width value None outside w e = cc
controller_store m o offset width value (Some c) outside w e =
    let same : record o { clic = c } ≡ outside = cc in
    inl (ap (λ (x : Outside). x.clic.line) (sym same) ∙ bytes_lines width o.clic c offset value w)

device_store : (m : Meanings) (o : Outside) (after : Option (List ℕ)) (outside : Outside) → option_map (with_device m o) after ≡ Some outside → HasLinesOf m o.clic outside
device_store m o None outside e = cc
device_store m o (Some device) outside e =
    let same : with_device m o device ≡ outside = cc in
    subst (λ (x : Outside). HasLinesOf m o.clic x) same (device_lines m o device)

store_lines : (m : Meanings) (o : Outside) (width value : ℕ) (r : Region) (outside : Outside) → stored_in m o width value r ≡ Some outside → HasLinesOf m o.clic outside
store_lines m o width value (Controller offset) outside e = controller_store m o offset width value (bytes_written o.clic offset width value) outside refl e
store_lines m o width value (Devices offset) outside e = device_store m o (m.after_store o.device offset width value) outside e
store_lines m o width value Nowhere outside e = cc

abbrev Lined : Meanings → ClicState → State → Type 0
Lined m before t = HasLinesOf m before t.outside

pub lines_stay : (m : Meanings) (s : State) → HasLinesOf m s.outside.clic (step m s).state.outside
lines_stay m s = step_holds (Lined m s.outside.clic) m s (record {
  now = inl refl;
  does = λ ins bits length f d. record {
    goes = λ rd value target e. inl refl;
    loads = λ rd at width signed value e l. inl refl;
    loads_outside = λ rd at width signed found e l. load_lines m s.outside width (region at) found l;
    stores = λ at width value k e p. inl refl;
    stores_outside = λ at width value outside e l. store_lines m s.outside width value (region at) outside l;
    goes_on = λ e a. inl (system_lines ins s.registers s.csrs s.outside.clic);
    jumps = λ target e a. inl (system_lines ins s.registers s.csrs s.outside.clic);
  };
  raises = λ trap e. inl refl;
  enters = λ choice target t d e. inl (entry_lines s.csrs s.outside.clic s.memory choice s.pc);
})
